-- `dtd_before::attlist_row` meets its contract: by whether the name is the element's. Assumes nothing.
use Rattle.dtd_before.specs.Defining.{other_scan, same_mid, same_scan}
use borrow.Author.Rules.{rules}
use Rattle.dtd_before.proofs.attlist_row.Goals as goal

pub definitions_row-requires : goal.definitions_row-requires
definitions_row-requires c = search (rules, same_mid)

pub returns-then-same_at : goal.returns-then-same_at
returns-then-same_at c = search (rules, same_scan)

pub returns : goal.returns
returns c = search (rules, other_scan)
