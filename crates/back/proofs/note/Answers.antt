-- `back::note` meets its contract. Assumes nothing.
use Rattle.back.specs.Noted.{count_few, at_near, added_room, added_some, went_room, note_added, note_went}
use native.Mathlib.Omega.{arith}
use borrow.Author.Rules.{rules}
use Rattle.back.proofs.note.Goals as goal

pub note_head-requires : goal.note_head-requires
note_head-requires c = search (rules, at_near, count_few)

pub copy-requires : goal.copy-requires
copy-requires c =
    let a = c.args in
    let e = c.adds.ensures in
    let room = added_room a.operation a.place a.piece.now a.doc.now a.at a.cut c.requires.cuts e c.if-adds.true in (
      omega (arith, c.note_head.auto.second, room, c.requires.doc_in_bounds),
      added_some a.operation a.place a.piece.now a.doc.now a.at a.cut c.requires.cuts e c.if-adds.true,
    )

pub copy-requires-else-adds : goal.copy-requires-else-adds
copy-requires-else-adds c =
    let a = c.args in
    let room = went_room a.operation a.place a.piece.now a.doc.now a.at a.cut c.requires.cuts c.adds.ensures c.if-adds.false in
    (omega (arith, c.note_head.auto.second, room, c.requires.doc_in_bounds), omega (arith, c.requires.cuts.within))

pub returns-then-adds : goal.returns-then-adds
returns-then-adds c = search note_added

pub returns-else-adds : goal.returns-else-adds
returns-else-adds c = search note_went
