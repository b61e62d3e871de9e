-- `dtd_owed::write_name` meets its contract. Assumes nothing.
use Rattle.dtd_owed.specs.Named.{named_room, named}
use mathlib.Core.Path.{◌∙◌}
use borrow.Author.Rules.{rules}
use lib.ListN.{length-set}
use Rattle.dtd_owed.proofs.write_name.Goals as goal

pub settle-requires : goal.settle-requires
settle-requires c = search (rules, named_room)

pub shape_of-out : goal.shape_of-out
shape_of-out c = c.settle.ensures.long ∙ simp length-set

pub returns : goal.returns
returns c = search (rules, named)
