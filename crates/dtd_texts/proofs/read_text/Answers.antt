-- `dtd_texts::read_text` meets its contract: the reader stands at a place. Assumes nothing.
use mathlib.Core.Path.{sym, ◌∙◌}
use borrow.Author.Rules.{rules}
use Rattle.std.proofs.Common.{◌≡◌, Err, None}
use Rattle.std.specs.Prelude.{option_copied}
use Rattle.dtd_names.specs.Named.{known_in}
use Rattle.dtd_texts.specs.Turns.{begun, count_fits, standing, ended, refused, nearer, none_more, room, in_elements, in_contents, in_ends, one_more}
use Rattle.dtd_texts.proofs.read_text.Goals as goal

pub loop-at-init : goal.loop-at-init
loop-at-init c = search (rules, begun)

pub slice_bounds-turn_at-end : goal.slice_bounds-turn_at-end
slice_bounds-turn_at-end c = search (rules, count_fits)

pub turn_at-requires : goal.turn_at-requires
turn_at-requires c = search (rules, standing)

pub shape_of-elements-in_err-t : goal.shape_of-elements-in_err-t
shape_of-elements-in_err-t c = c.loop-at.invariant.long.elements_long ∙ sym c.requires.elements_long

pub shape_of-contents-in_err-t : goal.shape_of-contents-in_err-t
shape_of-contents-in_err-t c = c.loop-at.invariant.long.contents_long ∙ sym c.requires.contents_long

pub shape_of-ends-in_err-t : goal.shape_of-ends-in_err-t
shape_of-ends-in_err-t c = c.loop-at.invariant.long.ends_long ∙ sym c.requires.ends_long

pub returns-in_err-t : goal.returns-in_err-t
returns-in_err-t c =
    let a = c.args in
    let t = c.turn_at in
    let e : c.from_residual.result ≡ Err c.in_err-t.field-0.0 = search rules in
    rw e (refused (known_in a.text.now (option_copied a.known)) a.text.now c.loop-at.elements c.loop-at.contents c.loop-at.ends c.loop-at.attributes c.loop-at.heads c.loop-at.rows
    c.loop-at.at c.loop-at.count c.loop-at.defined c.loop-at.many c.loop-at.invariant c.loop-at-test.true t.new.attributes t.new.heads t.new.rows c.in_err-t.field-0.0 c.in_err-t.ensures)

pub bounds-elements-count : goal.bounds-elements-count
bounds-elements-count c =
    let a = c.args in
    let t = c.turn_at in
    in_elements (known_in a.text.now (option_copied a.known)) a.text.now c.loop-at.elements c.loop-at.contents c.loop-at.ends c.loop-at.attributes c.loop-at.heads c.loop-at.rows
    c.loop-at.at c.loop-at.count c.loop-at.defined c.loop-at.many c.loop-at.invariant c.loop-at-test.true t.new.attributes t.new.heads t.new.rows c.in_ok-t.t c.in_ok-t.ensures
    t.auto.attributes t.auto.heads t.auto.rows c.in-Some.e c.in-Some.is

pub bounds-contents-count : goal.bounds-contents-count
bounds-contents-count c =
    let a = c.args in
    let t = c.turn_at in
    in_contents (known_in a.text.now (option_copied a.known)) a.text.now c.loop-at.elements c.loop-at.contents c.loop-at.ends c.loop-at.attributes c.loop-at.heads c.loop-at.rows
    c.loop-at.at c.loop-at.count c.loop-at.defined c.loop-at.many c.loop-at.invariant c.loop-at-test.true t.new.attributes t.new.heads t.new.rows c.in_ok-t.t c.in_ok-t.ensures
    t.auto.attributes t.auto.heads t.auto.rows c.in-Some.e c.in-Some.is

pub bounds-ends-count : goal.bounds-ends-count
bounds-ends-count c =
    let a = c.args in
    let t = c.turn_at in
    in_ends (known_in a.text.now (option_copied a.known)) a.text.now c.loop-at.elements c.loop-at.contents c.loop-at.ends c.loop-at.attributes c.loop-at.heads c.loop-at.rows
    c.loop-at.at c.loop-at.count c.loop-at.defined c.loop-at.many c.loop-at.invariant c.loop-at-test.true t.new.attributes t.new.heads t.new.rows c.in_ok-t.t c.in_ok-t.ensures
    t.auto.attributes t.auto.heads t.auto.rows c.in-Some.e c.in-Some.is

pub overflow_add-count : goal.overflow_add-count
overflow_add-count c = search (rules, room)

pub loop-at-smaller-in-Some : goal.loop-at-smaller-in-Some
loop-at-smaller-in-Some c =
    let a = c.args in
    let t = c.turn_at in
    nearer (known_in a.text.now (option_copied a.known)) a.text.now c.loop-at.elements c.loop-at.contents c.loop-at.ends c.loop-at.attributes c.loop-at.heads c.loop-at.rows
    c.loop-at.at c.loop-at.count c.loop-at.defined c.loop-at.many c.loop-at.invariant c.loop-at-test.true t.new.attributes t.new.heads t.new.rows c.in_ok-t.t c.in_ok-t.ensures

pub loop-at-preserved-in-Some : goal.loop-at-preserved-in-Some
loop-at-preserved-in-Some c =
    let a = c.args in
    let t = c.turn_at in
    one_more (known_in a.text.now (option_copied a.known)) a.text.now c.loop-at.elements c.loop-at.contents c.loop-at.ends c.loop-at.attributes c.loop-at.heads c.loop-at.rows
    c.loop-at.at c.loop-at.count c.loop-at.defined c.loop-at.many c.loop-at.invariant c.loop-at-test.true t.new.attributes t.new.heads t.new.rows c.in_ok-t.t c.in_ok-t.ensures
    t.auto.attributes t.auto.heads t.auto.rows c.in-Some.e c.in-Some.is

pub loop-at-smaller : goal.loop-at-smaller
loop-at-smaller c =
    let a = c.args in
    let t = c.turn_at in
    nearer (known_in a.text.now (option_copied a.known)) a.text.now c.loop-at.elements c.loop-at.contents c.loop-at.ends c.loop-at.attributes c.loop-at.heads c.loop-at.rows
    c.loop-at.at c.loop-at.count c.loop-at.defined c.loop-at.many c.loop-at.invariant c.loop-at-test.true t.new.attributes t.new.heads t.new.rows c.in_ok-t.t c.in_ok-t.ensures

pub loop-at-preserved : goal.loop-at-preserved
loop-at-preserved c =
    let a = c.args in
    let t = c.turn_at in
    let n : c.in_ok-t.t.element ≡ None = search rules in
    none_more (known_in a.text.now (option_copied a.known)) a.text.now c.loop-at.elements c.loop-at.contents c.loop-at.ends c.loop-at.attributes c.loop-at.heads c.loop-at.rows
    c.loop-at.at c.loop-at.count c.loop-at.defined c.loop-at.many c.loop-at.invariant c.loop-at-test.true t.new.attributes t.new.heads t.new.rows c.in_ok-t.t c.in_ok-t.ensures
    t.auto.attributes t.auto.heads t.auto.rows n

pub shape_of-elements : goal.shape_of-elements
shape_of-elements c = c.loop-at.invariant.long.elements_long ∙ sym c.requires.elements_long

pub shape_of-contents : goal.shape_of-contents
shape_of-contents c = c.loop-at.invariant.long.contents_long ∙ sym c.requires.contents_long

pub shape_of-ends : goal.shape_of-ends
shape_of-ends c = c.loop-at.invariant.long.ends_long ∙ sym c.requires.ends_long

pub shape_of-attributes : goal.shape_of-attributes
shape_of-attributes c = c.loop-at.invariant.long.attributes_long ∙ sym c.requires.attributes_long

pub shape_of-heads : goal.shape_of-heads
shape_of-heads c = c.loop-at.invariant.long.heads_long ∙ sym c.requires.heads_long

pub shape_of-rows : goal.shape_of-rows
shape_of-rows c = c.loop-at.invariant.long.rows_long ∙ sym c.requires.rows_long

pub returns : goal.returns
returns c = search (rules, ended)
