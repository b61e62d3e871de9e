-- `dtd::names` meets its contract. Assumes nothing.
use mathlib.Core.Path.{refl, ap, ◌∙◌}
use Rattle.docfile.specs.Outcome.{answer}
use Rattle.dtd.specs.Outcomes.{not_named, some_names, named}
use borrow.Author.Rules.{rules}
use Rattle.dtd.proofs.names.Goals as goal

pub slice_bounds-declared_at-end : goal.slice_bounds-declared_at-end
slice_bounds-declared_at-end c = refl

pub slice_bounds-declared_at-end-2 : goal.slice_bounds-declared_at-end-2
slice_bounds-declared_at-end-2 c = refl

pub slice_bounds-declared_at-end-3 : goal.slice_bounds-declared_at-end-3
slice_bounds-declared_at-end-3 c = refl

pub slice_bounds-declared_at-end-4 : goal.slice_bounds-declared_at-end-4
slice_bounds-declared_at-end-4 c = refl

pub slice_bounds-declared_at-end-5 : goal.slice_bounds-declared_at-end-5
slice_bounds-declared_at-end-5 c = refl

pub slice_bounds-declared_at-end-6 : goal.slice_bounds-declared_at-end-6
slice_bounds-declared_at-end-6 c = refl

pub declared_at-d-requires : goal.declared_at-d-requires
declared_at-d-requires c =
    record { elements_long = refl; contents_long = refl; ends_long = refl; attributes_long = refl; heads_long = refl; rows_long = refl }

pub returns-in-Err : goal.returns-in-Err
returns-in-Err c =
    let d = c.declared_at-d in
    let a = c.args in
    not_named a.text.now d.new.elements d.new.contents d.new.ends d.new.attributes d.new.heads d.new.rows c.in-Err.fault (rw c.in-Err.is at d.ensures) a.names.now c.refusal.result (c.refusal.ensures ∙ ap (λ k. answer k 0) c.number.ensures)

pub slice_bounds-first-end : goal.slice_bounds-first-end
slice_bounds-first-end c =
    let d = c.declared_at-d in
    let a = c.args in
    let k = some_names a.text.now d.new.elements d.new.contents d.new.ends d.new.attributes d.new.heads d.new.rows c.in-Ok.d (rw c.in-Ok.is at d.ensures) (record { elements_long = d.auto.elements; contents_long = d.auto.contents; ends_long = d.auto.ends; attributes_long = d.auto.attributes; heads_long = d.auto.heads; rows_long = d.auto.rows }) in
    search (rules, k)

pub slice_bounds-second-end : goal.slice_bounds-second-end
slice_bounds-second-end c =
    let d = c.declared_at-d in
    let a = c.args in
    let k = some_names a.text.now d.new.elements d.new.contents d.new.ends d.new.attributes d.new.heads d.new.rows c.in-Ok.d (rw c.in-Ok.is at d.ensures) (record { elements_long = d.auto.elements; contents_long = d.auto.contents; ends_long = d.auto.ends; attributes_long = d.auto.attributes; heads_long = d.auto.heads; rows_long = d.auto.rows }) in
    search (rules, k)

pub returns-in-Ok : goal.returns-in-Ok
returns-in-Ok c =
    let d = c.declared_at-d in
    let a = c.args in
    named a.text.now d.new.elements d.new.contents d.new.ends d.new.attributes d.new.heads d.new.rows c.in-Ok.d (rw c.in-Ok.is at d.ensures) (record { elements_long = d.auto.elements; contents_long = d.auto.contents; ends_long = d.auto.ends; attributes_long = d.auto.attributes; heads_long = d.auto.heads; rows_long = d.auto.rows }) a.names.now c.put_words.new.names c.put_words.result c.put_words.ensures
