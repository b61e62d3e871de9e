-- `plans::head_of` meets its contract. Assumes nothing.
use Rattle.std.proofs.Common.{◌<◌, ◌≤◌, ◌+◌, length, arith}
use Rattle.places.specs.Items.{start_within}
use Rattle.plans.specs.Plan.{head_none, head_some, slot_place}
use Rattle.plans.proofs.head_of.Goals as goal

pub returns-then-not-is_start : goal.returns-then-not-is_start
returns-then-not-is_start c = search head_none

pub overflow_add-at-2 : goal.overflow_add-at-2
overflow_add-at-2 c =
    let a = c.args in
    let h : a.place < length a.doc.now = search start_within in
    let k : a.place + 1 + c.slot-before.result ≤ length a.doc.now = search slot_place in
    omega arith

pub offset_bounds-doc-at : goal.offset_bounds-doc-at
offset_bounds-doc-at c =
    let a = c.args in
    let h : a.place < length a.doc.now = search start_within in
    let k : a.place + 1 + c.slot-before.result ≤ length a.doc.now = search slot_place in
    omega arith

pub slice_bounds-held-count : goal.slice_bounds-held-count
slice_bounds-held-count c =
    let a = c.args in
    let h : a.place < length a.doc.now = search start_within in
    let k : a.place + 1 + c.slot-before.result ≤ length a.doc.now = search slot_place in
    omega arith

pub slice_bounds-held-start : goal.slice_bounds-held-start
slice_bounds-held-start c =
    let a = c.args in
    let h : a.place < length a.doc.now = search start_within in
    let k : a.place + 1 + c.slot-before.result ≤ length a.doc.now = search slot_place in
    omega arith

pub returns : goal.returns
returns c = search head_some
