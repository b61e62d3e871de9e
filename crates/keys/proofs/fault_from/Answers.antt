-- `keys::fault_from` meets its contract. Assumes nothing.
use mathlib.Core.Path.{refl}
use borrow.Author.Rules.{rules}
use Rattle.field.specs.Field.{field_empty}
use Rattle.keys.specs.Answer.{fault_twice, fault_dangling}
use Rattle.keys.proofs.fault_from.Goals as goal

pub mark_ids-marked-requires : goal.mark_ids-marked-requires
mark_ids-marked-requires c = record { table_value = search rules; begun = c.requires.begun; field_len = (refl, field_empty 1024) }

pub returns-in-Some : goal.returns-in-Some
returns-in-Some c =
    let k = rw c.in-Some.is at c.mark_ids-marked.ensures in
    fault_twice c.args.table.now c.args.doc.now c.args.from c.in-Some.fault k

pub dangling_reference-requires : goal.dangling_reference-requires
dangling_reference-requires c =
    let k = rw c.in_default.is at c.mark_ids-marked.ensures in
    record { table_value = search rules; owed = (k.owed, k.long) }

pub returns : goal.returns
returns c =
    let k = rw c.in_default.is at c.mark_ids-marked.ensures in
    fault_dangling c.args.table.now c.args.doc.now c.args.from k c.dangling_reference.ensures
