-- `dtd::import` meets its contract. Assumes nothing.
use mathlib.Core.Path.{refl, sym, ap, ◌∙◌}
use Rattle.docfile.specs.Outcome.{answer}
use Rattle.dtd.specs.Outcomes.{not_imported, held, imported}
use Rattle.dtd.proofs.import.Goals as goal

pub slice_bounds-declared_at-end : goal.slice_bounds-declared_at-end
slice_bounds-declared_at-end c = refl

pub slice_bounds-declared_at-end-2 : goal.slice_bounds-declared_at-end-2
slice_bounds-declared_at-end-2 c = refl

pub slice_bounds-declared_at-end-3 : goal.slice_bounds-declared_at-end-3
slice_bounds-declared_at-end-3 c = refl

pub slice_bounds-declared_at-end-4 : goal.slice_bounds-declared_at-end-4
slice_bounds-declared_at-end-4 c = refl

pub slice_bounds-declared_at-end-5 : goal.slice_bounds-declared_at-end-5
slice_bounds-declared_at-end-5 c = refl

pub slice_bounds-declared_at-end-6 : goal.slice_bounds-declared_at-end-6
slice_bounds-declared_at-end-6 c = refl

pub declared_at-d-requires : goal.declared_at-d-requires
declared_at-d-requires c =
    record { elements_long = refl; contents_long = refl; ends_long = refl; attributes_long = refl; heads_long = refl; rows_long = refl }

pub returns-in-Err : goal.returns-in-Err
returns-in-Err c =
    let d = c.declared_at-d in
    let a = c.args in
    not_imported a.text.now d.new.elements d.new.contents d.new.ends d.new.attributes d.new.heads d.new.rows c.in-Err.fault (rw c.in-Err.is at d.ensures) a.file.now c.refusal.result (c.refusal.ensures ∙ ap (λ k. answer k 0) c.number.ensures)

pub slice_bounds-put_schema-end : goal.slice_bounds-put_schema-end
slice_bounds-put_schema-end c = sym c.declared_at-d.auto.elements

pub slice_bounds-put_schema-end-in-Ok : goal.slice_bounds-put_schema-end-in-Ok
slice_bounds-put_schema-end-in-Ok c = sym c.declared_at-d.auto.contents

pub slice_bounds-put_schema-end-in-Ok-2 : goal.slice_bounds-put_schema-end-in-Ok-2
slice_bounds-put_schema-end-in-Ok-2 c = sym c.declared_at-d.auto.ends

pub slice_bounds-put_schema-end-in-Ok-3 : goal.slice_bounds-put_schema-end-in-Ok-3
slice_bounds-put_schema-end-in-Ok-3 c = sym c.declared_at-d.auto.attributes

pub slice_bounds-put_schema-end-in-Ok-4 : goal.slice_bounds-put_schema-end-in-Ok-4
slice_bounds-put_schema-end-in-Ok-4 c = sym c.declared_at-d.auto.heads

pub slice_bounds-put_schema-end-in-Ok-5 : goal.slice_bounds-put_schema-end-in-Ok-5
slice_bounds-put_schema-end-in-Ok-5 c = sym c.declared_at-d.auto.rows

pub put_schema-requires : goal.put_schema-requires
put_schema-requires c =
    let d = c.declared_at-d in
    let a = c.args in
    held a.text.now d.new.elements d.new.contents d.new.ends d.new.attributes d.new.heads d.new.rows c.in-Ok.d (rw c.in-Ok.is at d.ensures) (record { elements_long = d.auto.elements; contents_long = d.auto.contents; ends_long = d.auto.ends; attributes_long = d.auto.attributes; heads_long = d.auto.heads; rows_long = d.auto.rows })

pub returns-in-Ok : goal.returns-in-Ok
returns-in-Ok c =
    let d = c.declared_at-d in
    let a = c.args in
    imported a.text.now d.new.elements d.new.contents d.new.ends d.new.attributes d.new.heads d.new.rows c.in-Ok.d (rw c.in-Ok.is at d.ensures) (record { elements_long = d.auto.elements; contents_long = d.auto.contents; ends_long = d.auto.ends; attributes_long = d.auto.attributes; heads_long = d.auto.heads; rows_long = d.auto.rows }) a.file.now c.put_schema.new.file c.put_schema.result c.put_schema.ensures
