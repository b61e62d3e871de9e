-- `dtd_attributes::note_name` meets its contract: by whether it is new. Assumes nothing.
use Rattle.dtd_attributes.specs.Noting.{noted_old, noted_new}
use borrow.Author.Rules.{rules}
use Rattle.dtd_attributes.proofs.note_name.Goals as goal

pub returns-then-attribute-count : goal.returns-then-attribute-count
returns-then-attribute-count c = search (rules, noted_old)

pub returns : goal.returns
returns c = search (rules, noted_new)
