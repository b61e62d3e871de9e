-- `dtd_before::row_before` meets its contract: the text is left from i on. Assumes nothing.
use Prim.Native.Nat.{◌-◌}
use Rattle.dtd_before.specs.Scans.{scan_begun, scan_ended, white_scan, white_less, front_inside, note_ok, note_inside, note_scan, note_less, element_scan, declared_less, attlist_inside, attlist_due, attlist_scan}
use borrow.Author.Rules.{rules}
use Rattle.dtd_before.proofs.row_before.Goals as goal

pub loop-i-init : goal.loop-i-init
loop-i-init c = search (rules, scan_begun)

pub loop-i-smaller-then-is_white : goal.loop-i-smaller-then-is_white
loop-i-smaller-then-is_white c = search (rules, white_less)

pub loop-i-preserved-then-is_white : goal.loop-i-preserved-then-is_white
loop-i-preserved-then-is_white c = search (rules, white_scan)

pub overflow_add-i : goal.overflow_add-i
overflow_add-i c = search (rules, front_inside)

pub overflow_add-i-then-byte_at : goal.overflow_add-i-then-byte_at
overflow_add-i-then-byte_at c = search (rules, front_inside)

pub comment_end-requires : goal.comment_end-requires
comment_end-requires c = search (rules, front_inside)

pub unwrap-i-requires : goal.unwrap-i-requires
unwrap-i-requires c = search (rules, note_ok)

pub loop-i-smaller-then-byte_at : goal.loop-i-smaller-then-byte_at
loop-i-smaller-then-byte_at c = search (rules, note_less)

pub loop-i-preserved-then-byte_at : goal.loop-i-preserved-then-byte_at
loop-i-preserved-then-byte_at c = search (rules, note_scan, note_inside)

pub overflow_add-i-in-loop-i : goal.overflow_add-i-in-loop-i
overflow_add-i-in-loop-i c = search (rules, front_inside)

pub overflow_add-i-then-byte_at-2 : goal.overflow_add-i-then-byte_at-2
overflow_add-i-then-byte_at-2 c = search (rules, attlist_inside)

pub attlist_row-row-requires : goal.attlist_row-row-requires
attlist_row-row-requires c =
    let inv = c.loop-i.invariant in
    let h = c.loop-i-test.true in
    let hyphen = c.byte_at.ensures in
    let none = c.if-byte_at.false in
    let letter = c.byte_at-in-loop-i.ensures in
    let white = c.if-is_white.false in (
      inv.0,
      attlist_inside _ _ _ _ _ inv.2 h _ c.is_white.ensures inv.0.reached _ hyphen white none _ letter c.if-byte_at-2.true,
      attlist_due _ _ _ _ _ inv.2 h _ c.is_white.ensures inv.0.reached _ hyphen white none _ letter c.if-byte_at-2.true,
    )

pub loop-i-smaller-then-byte_at-2 : goal.loop-i-smaller-then-byte_at-2
loop-i-smaller-then-byte_at-2 c = search (rules, declared_less)

pub loop-i-preserved-then-byte_at-2 : goal.loop-i-preserved-then-byte_at-2
loop-i-preserved-then-byte_at-2 c = search (rules, attlist_scan)

pub loop-i-smaller : goal.loop-i-smaller
loop-i-smaller c = search (rules, declared_less)

pub loop-i-preserved : goal.loop-i-preserved
loop-i-preserved c = search (rules, element_scan)

pub returns : goal.returns
returns c = search (rules, scan_ended)
