-- `keys::mark_ids` meets its contract. The invariants are `Going` and, of the inner loop, `Among`; the measures are how many tokens are
-- left. Assumes nothing.
use mathlib.Core.Path.{refl}
use borrow.Author.Rules.{rules}
use Rattle.keys.specs.Turns.{going_none, going_end, going_twice, going_more, going_few, going_less, among_none, among_here, among_less, among_bit, among_more}
use Rattle.keys.proofs.mark_ids.Goals as goal

pub ids-init : goal.ids-init
ids-init c = record { going = search going_none; clean = refl }

pub loop-place-init : goal.loop-place-init
loop-place-init c = record { among = among_none _ _ _ c.ids.invariant.going; clean = c.ids.invariant.clean }

pub bounds-doc-i : goal.bounds-doc-i
bounds-doc-i c = search among_here

pub note-requires : goal.note-requires
note-requires c = search among_bit

pub loop-place-smaller : goal.loop-place-smaller
loop-place-smaller c = search among_less

pub loop-place-preserved : goal.loop-place-preserved
loop-place-preserved c =
    record {
      among = among_more c.args.table.now c.args.doc.now c.loop-place.invariant.among c.is_value_at.ensures c.loop-place-test.true c.is_id-id.ensures c.number.ensures c.note.ensures c.note.auto.field c.if-note.false;
      clean = c.loop-place.invariant.clean;
    }

pub counted-refs-requires : goal.counted-refs-requires
counted-refs-requires c = search (rules, going_few)

pub ids-smaller : goal.ids-smaller
ids-smaller c = search going_less

pub ids-preserved : goal.ids-preserved
ids-preserved c = record { going = search going_more; clean = c.loop-place.invariant.clean }

pub returns-after-ids : goal.returns-after-ids
returns-after-ids c = rw c.ids.invariant.clean (search going_end)

pub returns-then-note : goal.returns-then-note
returns-then-note c = search going_twice
