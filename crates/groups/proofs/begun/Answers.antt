-- `groups::begun` meets its contract. Assumes nothing.
use mathlib.Core.Path.{◌≡◌, refl, ap, ◌∙◌}
use native.Mathlib.Omega.{arith}
use Rattle.std.proofs.Common.{sym, length-take, length-take-le}
use mir.Syntax.{w32}
use mir.Val.{to_z, of_z}
use borrow.Author.Rules.{rules}
use Rattle.shape_laws.specs.Shaped.{shaped}
use Rattle.groups.specs.Outcomes.{start_length, start_shape, ran_through, ran_into, begun_edit, last_long, last_few, last_room, begun_fault, begun_done}
use Rattle.groups.proofs.begun.Goals as goal

pub copy-requires : goal.copy-requires
copy-requires c =
    let l = (shaped c.args.doc.now c.args.used c.requires.1).long in
    (omega (arith, c.requires.3), omega arith)

pub work-requires : goal.work-requires
work-requires c =
    let a = c.args in
    let e = c.copy.ensures in
    let l = (shaped a.doc.now a.used c.requires.1).long in
    (omega (arith, start_length a.doc.now a.used a.second.now c.requires.1 c.requires.3 e, c.requires.3), omega (arith, c.requires.3), start_shape a.doc.now a.used a.second.now c.requires.1 c.requires.3 e, c.requires.2)

pub returns-in-Err : goal.returns-in-Err
returns-in-Err c =
    let a = c.args in
    begun_edit a.table.now a.doc.now a.used a.list.now a.second.now c.requires.1 c.requires.3 c.in-Err.s.refusal (ran_into a.table.now a.doc.now a.used a.list.now a.second.now c.requires.1 c.requires.3 c.requires.2 c.copy.ensures c.in-Err.ensures) c.refused.ensures

pub slice_bounds-judged_whole-end : goal.slice_bounds-judged_whole-end
slice_bounds-judged_whole-end c =
    let a = c.args in
    last_long a.table.now a.doc.now a.used a.list.now a.second.now c.requires.1 c.requires.3 (ran_through a.table.now a.doc.now a.used a.list.now a.second.now c.requires.1 c.requires.3 c.requires.2 c.copy.ensures c.in-Ok.ensures)

pub slice_bounds-judged_whole-end-2 : goal.slice_bounds-judged_whole-end-2
slice_bounds-judged_whole-end-2 c = let a = c.args in sym (length-take-le _ _ (last_long a.table.now a.doc.now a.used a.list.now a.second.now c.requires.1 c.requires.3 (ran_through a.table.now a.doc.now a.used a.list.now a.second.now c.requires.1 c.requires.3 c.requires.2 c.copy.ensures c.in-Ok.ensures)))

pub slice_bounds-write-end : goal.slice_bounds-write-end
slice_bounds-write-end c = let a = c.args in last_long a.table.now a.doc.now a.used a.list.now a.second.now c.requires.1 c.requires.3 (ran_through a.table.now a.doc.now a.used a.list.now a.second.now c.requires.1 c.requires.3 c.requires.2 c.copy.ensures c.in-Ok.ensures)

pub slice_bounds-write-end-2 : goal.slice_bounds-write-end-2
slice_bounds-write-end-2 c = let a = c.args in sym (length-take-le _ _ (last_long a.table.now a.doc.now a.used a.list.now a.second.now c.requires.1 c.requires.3 (ran_through a.table.now a.doc.now a.used a.list.now a.second.now c.requires.1 c.requires.3 c.requires.2 c.copy.ensures c.in-Ok.ensures)))

pub judged_whole-requires : goal.judged_whole-requires
judged_whole-requires c =
    let a = c.args in
    (c.requires.0, omega (arith, length-take c.in-Ok.end c.work.new.second, last_few a.table.now a.doc.now a.used a.list.now a.second.now c.requires.1 c.requires.3 (ran_through a.table.now a.doc.now a.used a.list.now a.second.now c.requires.1 c.requires.3 c.requires.2 c.copy.ensures c.in-Ok.ensures)))

pub returns-in-Err-judged_whole : goal.returns-in-Err-judged_whole
returns-in-Err-judged_whole c =
    let a = c.args in
    begun_fault a.table.now a.doc.now a.used a.list.now a.second.now c.requires.1 c.requires.3 (ran_through a.table.now a.doc.now a.used a.list.now a.second.now c.requires.1 c.requires.3 c.requires.2 c.copy.ensures c.in-Ok.ensures) c.in-Err-judged_whole.fault.refusal c.in-Err-judged_whole.ensures c.refused-in-Err-judged_whole.ensures

pub write-requires : goal.write-requires
write-requires c =
    let a = c.args in
    let room = last_room a.table.now a.doc.now a.used a.list.now a.second.now c.requires.1 c.requires.3 (ran_through a.table.now a.doc.now a.used a.list.now a.second.now c.requires.1 c.requires.3 c.requires.2 c.copy.ensures c.in-Ok.ensures) in
    (omega arith, omega (arith, length-take c.in-Ok.end c.work.new.second, room), (shaped a.doc.now a.used c.requires.1).long, refl)

pub change_of-requires : goal.change_of-requires
change_of-requires c =
    let a = c.args in
    ((shaped a.doc.now a.used c.requires.1).few, last_few a.table.now a.doc.now a.used a.list.now a.second.now c.requires.1 c.requires.3 (ran_through a.table.now a.doc.now a.used a.list.now a.second.now c.requires.1 c.requires.3 c.requires.2 c.copy.ensures c.in-Ok.ensures))

pub returns : goal.returns
returns c =
    let a = c.args in
    let end = c.in-Ok.end in
    let t : to_z w32 (of_z w32 c.change_of.result) ≡ c.change_of.result = search rules in
    begun_done a.table.now a.doc.now a.used a.list.now a.second.now c.requires.1 c.requires.3 (ran_through a.table.now a.doc.now a.used a.list.now a.second.now c.requires.1 c.requires.3 c.requires.2 c.copy.ensures c.in-Ok.ensures) c.in_default.ensures c.write.ensures
    (ap (λ x. record { number = 0; place = 0; used = end; change = x; which = 0 }) (t ∙ c.change_of.ensures))
