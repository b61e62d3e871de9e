-- `dtd_before::definitions_row` meets its contract: the definitions go on at i. Assumes nothing.
use Prim.Native.Nat.{◌-◌}
use Rattle.dtd_before.specs.Listing.{kind_within, listing_begun, listing_ended, kind_ok, status_ok, number_small, listing_less, listing_more}
use borrow.Author.Rules.{rules}
use Rattle.dtd_before.proofs.definitions_row.Goals as goal

pub loop-row-init : goal.loop-row-init
loop-row-init c = search (rules, listing_begun)

pub returns-then-byte_at : goal.returns-then-byte_at
returns-then-byte_at c = search (rules, listing_ended)

pub unwrap-k-requires : goal.unwrap-k-requires
unwrap-k-requires c = search (rules, kind_ok)

pub status_behind-requires : goal.status_behind-requires
status_behind-requires c = search (rules, kind_within)

pub unwrap-s-requires : goal.unwrap-s-requires
unwrap-s-requires c = search (rules, status_ok)

pub with_definition-row-requires : goal.with_definition-row-requires
with_definition-row-requires c = search (rules, number_small)

pub loop-row-smaller : goal.loop-row-smaller
loop-row-smaller c = search (rules, listing_less)

pub loop-row-preserved : goal.loop-row-preserved
loop-row-preserved c = search (rules, listing_more)
