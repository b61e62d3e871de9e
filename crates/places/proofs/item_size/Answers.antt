use Prim.Native.Nat.{◌≤◌, ◌<◌}
use native.Mathlib.Omega.{arith}
use Rattle.places.specs.Items.{start_within, end_behind, end_within, item_start, item_text, item_none}
use Rattle.std.proofs.Math.ListN.{length}
use borrow.Author.Rules.{rules}
use Rattle.places.proofs.item_size.Goals as goal

pub end_of-requires : goal.end_of-requires
end_of-requires c = search (rules, start_within)

pub overflow_sub-result : goal.overflow_sub-result
overflow_sub-result c = search end_behind

pub overflow_add-result : goal.overflow_add-result
overflow_add-result c =
    let a = c.args in
    let b : a.place < length a.doc.now = search start_within in
    let h : c.end_of.result ≤ length a.doc.now = search end_within in
    omega arith

pub returns-then-is_start : goal.returns-then-is_start
returns-then-is_start c = search item_start

pub returns-then-is_text : goal.returns-then-is_text
returns-then-is_text c = search item_text

pub returns : goal.returns
returns c = search item_none
