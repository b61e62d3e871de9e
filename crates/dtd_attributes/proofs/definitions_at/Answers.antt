-- `dtd_attributes::definitions_at` meets its contract: the definitions go on at i. Assumes nothing.
use Prim.Native.Nat.{◌-◌}
use Rattle.std.proofs.Common.{◌≡◌, Err}
use Rattle.dtd_attributes.specs.Adding.{adding_begun, adding_fits, adding_ended, adding_open, adding_failed, adding_less, adding_low, adding_more}
use borrow.Author.Rules.{rules}
use Rattle.dtd_attributes.proofs.definitions_at.Goals as goal

pub loop-attributes-init : goal.loop-attributes-init
loop-attributes-init c = search (rules, adding_begun)

pub slice_bounds-definition_at-end : goal.slice_bounds-definition_at-end
slice_bounds-definition_at-end c = search (rules, adding_fits)

pub returns-in_err-d : goal.returns-in_err-d
returns-in_err-d c =
    let e : c.from_residual.result ≡ Err c.in_err-d.field-0.0 = search rules in
    rw e (adding_failed _ _ _ _ _ _ _ _ c.loop-attributes.invariant.0 _ c.due_at.ensures c.loop-attributes-test.true _ c.in_err-d.ensures)

pub with_definition-row-requires : goal.with_definition-row-requires
with_definition-row-requires c = adding_low _ _ _ _ _ _ _ _ c.loop-attributes.invariant.0 _ c.due_at.ensures c.loop-attributes-test.true _ c.in_ok-d.ensures

pub note_name-n-requires : goal.note_name-n-requires
note_name-n-requires c = (adding_low _ _ _ _ _ _ _ _ c.loop-attributes.invariant.0 _ c.due_at.ensures c.loop-attributes-test.true _ c.in_ok-d.ensures, c.loop-attributes.invariant.0.long)

pub loop-attributes-smaller : goal.loop-attributes-smaller
loop-attributes-smaller c = adding_less _ _ _ _ _ _ _ _ c.loop-attributes.invariant.0 _ c.due_at.ensures c.loop-attributes-test.true _ c.in_ok-d.ensures

pub loop-attributes-preserved : goal.loop-attributes-preserved
loop-attributes-preserved c = search (rules, adding_more)

pub returns-in_err-behind : goal.returns-in_err-behind
returns-in_err-behind c =
    let e : c.from_residual-in_err-behind.result ≡ Err c.in_err-behind.field-0.0 = search rules in
    rw e (adding_open _ _ _ _ _ _ _ _ c.loop-attributes.invariant.0 _ c.due_at.ensures c.loop-attributes-test.false _ c.in_err-behind.ensures)

pub returns : goal.returns
returns c = adding_ended _ _ _ _ _ _ _ _ c.loop-attributes.invariant.0 _ c.due_at.ensures c.loop-attributes-test.false _ c.in_ok-behind.ensures
