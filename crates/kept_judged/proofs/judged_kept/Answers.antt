-- `kept_judged::judged_kept` meets its contract. Assumes nothing.
use borrow.Author.Rules.{rules}
use Rattle.std.proofs.lemmas.Result.{err_from_is_err_and}
use Rattle.touched.specs.Judged.{found_elements}
use Rattle.kept_judged.specs.Judged.{kept_done, kept_never, kept_fault}
use Rattle.kept_judged.proofs.judged_kept.Goals as goal

pub judged_elements-requires : goal.judged_elements-requires
judged_elements-requires c =
    let e = c.requires.table_value.1 in
    record { table_value = c.requires.table_value.0; coming_in_bounds = (e.few, e.within); comes = e.comes }

pub returns-in_err-children : goal.returns-in_err-children
returns-in_err-children c =
    let a = c.args in
    let p = err_from_is_err_and c.from_residual.result c.from_residual.ensures.1 in
    rw (p.1, p.2) (found_elements a.table.now a.new.now a.at a.coming c.in_err-children.field-0.0 c.in_err-children.ensures)

pub returns-then-keys_follow : goal.returns-then-keys_follow
returns-then-keys_follow c =
    let a = c.args in
    kept_done a.table.now a.new.now a.at a.coming c.in_ok-children.ensures c.keys_follow.ensures c.if-keys_follow.true

pub returns-in_err-key_fault : goal.returns-in_err-key_fault
returns-in_err-key_fault c =
    let a = c.args in
    let p = err_from_is_err_and c.from_residual-in_err-key_fault.result c.from_residual-in_err-key_fault.ensures.1 in
    rw (p.1, p.2) (kept_fault a.table.now a.new.now a.at a.coming c.in_ok-children.ensures c.in_err-key_fault.field-0.0 c.in_err-key_fault.ensures)

pub returns : goal.returns
returns c =
    let a = c.args in
    kept_never a.table.now a.new.now a.at a.coming c.in_ok-children.ensures c.keys_follow.ensures c.if-keys_follow.false c.in_ok-key_fault.ensures
