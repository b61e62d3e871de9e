-- `dtd_names::find_name` meets its contract: the number is i or more. Assumes nothing.
use borrow.Author.Rules.{rules}
use Rattle.dtd_names.specs.Turns.{found, onward, nowhere}
use Rattle.dtd_names.proofs.find_name.Goals as goal

pub returns-then-is_name : goal.returns-then-is_name
returns-then-is_name c = search (rules, found)

pub loop-i-preserved : goal.loop-i-preserved
loop-i-preserved c = search (rules, onward)

pub returns : goal.returns
returns c = search (rules, nowhere)
