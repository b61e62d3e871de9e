-- `dtd_declared::strictly` meets its contract. Assumes nothing.
use mathlib.Core.Path.{refl}
use borrow.Author.Rules.{rules}
use Rattle.std.proofs.Common.{◌≡◌, Err, Some}
use Rattle.dtd_names.specs.Named.{known_in}
use Rattle.dtd_declared.specs.Twice.{came, failed}
use Rattle.dtd_declared.proofs.strictly.Goals as goal

pub slice_bounds-read_text-end : goal.slice_bounds-read_text-end
slice_bounds-read_text-end c = refl

pub slice_bounds-read_text-end-2 : goal.slice_bounds-read_text-end-2
slice_bounds-read_text-end-2 c = refl

pub slice_bounds-read_text-end-3 : goal.slice_bounds-read_text-end-3
slice_bounds-read_text-end-3 c = refl

pub slice_bounds-read_text-end-4 : goal.slice_bounds-read_text-end-4
slice_bounds-read_text-end-4 c = refl

pub slice_bounds-read_text-end-5 : goal.slice_bounds-read_text-end-5
slice_bounds-read_text-end-5 c = refl

pub slice_bounds-read_text-end-6 : goal.slice_bounds-read_text-end-6
slice_bounds-read_text-end-6 c = refl

pub read_text-requires : goal.read_text-requires
read_text-requires c =
    record { elements_long = refl; contents_long = refl; ends_long = refl; attributes_long = refl; heads_long = refl; rows_long = refl }

pub returns-in_err-r : goal.returns-in_err-r
returns-in_err-r c =
    let t = c.read_text in
    let a = c.args in
    let e : c.from_residual.result ≡ Err c.in_err-r.field-0.0 = search rules in
    rw e (failed (known_in a.text.now (Some a.elements.now)) a.text.now c.in_err-r.field-0.0 t.new.elements t.new.contents t.new.ends t.new.attributes t.new.heads t.new.rows c.in_err-r.ensures)

pub returns : goal.returns
returns c =
    let t = c.read_text in
    let a = c.args in
    came (known_in a.text.now (Some a.elements.now)) a.text.now c.in_ok-r.r t.new.elements t.new.contents t.new.ends t.new.attributes t.new.heads t.new.rows c.in_ok-r.ensures
