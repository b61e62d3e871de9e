-- `dtd_declared::declared_at` meets its contract: read twice. Assumes nothing.
use borrow.Author.Rules.{rules}
use native.Mathlib.Omega.{arith}
use Prim.Native.Nat.{◌≤◌}
use lib.ListN.{length}
use Rattle.std.proofs.Common.{◌≡◌, Err}
use Rattle.paper.specs.Basics.{most_elements}
use Rattle.dtd_declared.specs.Twice.{stopped, few, none, undeclared, taken}
use Rattle.dtd_declared.proofs.declared_at.Goals as goal

pub returns-in_err-first : goal.returns-in_err-first
returns-in_err-first c =
    let t = c.read_text in
    let a = c.args in
    let e : c.from_residual.result ≡ Err c.in_err-first.field-0.0 = search rules in
    rw e (stopped a.text.now t.new.elements t.new.contents t.new.ends t.new.attributes t.new.heads t.new.rows c.in_err-first.field-0.0 c.in_err-first.ensures)

pub returns-then-first-eq0 : goal.returns-then-first-eq0
returns-then-first-eq0 c =
    let t = c.read_text in
    let a = c.args in
    none a.text.now t.new.elements t.new.contents t.new.ends t.new.attributes t.new.heads t.new.rows c.in_ok-first.first c.in_ok-first.ensures c.if-first-eq0.true

pub slice_bounds-strictly-end : goal.slice_bounds-strictly-end
slice_bounds-strictly-end c =
    let t = c.read_text in
    let a = c.args in
    let k : c.in_ok-first.first.elements ≤ most_elements = few a.text.now t.new.elements t.new.contents t.new.ends t.new.attributes t.new.heads t.new.rows c.in_ok-first.first c.in_ok-first.ensures in
    let l = c.requires in
    let m = t.auto in
    omega arith

pub returns-in_err-strictly : goal.returns-in_err-strictly
returns-in_err-strictly c =
    let t = c.read_text in
    let a = c.args in
    let k : c.in_ok-first.first.elements ≤ most_elements = few a.text.now t.new.elements t.new.contents t.new.ends t.new.attributes t.new.heads t.new.rows c.in_ok-first.first c.in_ok-first.ensures in
    let m : c.in_ok-first.first.elements ≤ length t.new.elements = omega (arith, t.auto.elements, c.requires.elements_long) in
    let e : c.from_residual-in_err-strictly.result ≡ Err c.in_err-strictly.field-0.0 = search rules in
    rw e (undeclared a.text.now t.new.elements t.new.contents t.new.ends t.new.attributes t.new.heads t.new.rows c.in_ok-first.first c.in_ok-first.ensures c.if-first-eq0.false m c.in_err-strictly.field-0.0 c.in_err-strictly.ensures)

pub returns : goal.returns
returns c =
    let t = c.read_text in
    let a = c.args in
    let k : c.in_ok-first.first.elements ≤ most_elements = few a.text.now t.new.elements t.new.contents t.new.ends t.new.attributes t.new.heads t.new.rows c.in_ok-first.first c.in_ok-first.ensures in
    let m : c.in_ok-first.first.elements ≤ length t.new.elements = omega (arith, t.auto.elements, c.requires.elements_long) in
    taken a.text.now t.new.elements t.new.contents t.new.ends t.new.attributes t.new.heads t.new.rows c.in_ok-first.first c.in_ok-first.ensures c.if-first-eq0.false m _ c.in_ok-strictly.ensures
