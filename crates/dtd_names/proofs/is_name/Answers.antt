-- `dtd_names::is_name` meets its contract: by its length, its bytes, and what is behind them. Assumes nothing.
use borrow.Author.Rules.{rules}
use native.Mathlib.Omega.{arith}
use Rattle.std.proofs.Common.{sym, ap, ◌∙◌, ◌≤◌, ◌-◌, length, take, drop, reverse, length-drop, length-take-le, tests}
use Rattle.std.proofs.lemmas.List.{length-reverse, take_rest}
use Rattle.std.proofs.lemmas.Iterator.{YieldsList-from_zip, same_from_all}
use Rattle.std.proofs.lemmas.Iterator.Adapters.{YieldsList-from_rev_slice}
use Rattle.dtd_names.specs.Spelled.{spelled, spelled_beyond, spelled_if, spelled_not}
use Rattle.dtd_names.proofs.is_name.Goals.{then-text-n-via-then-text-n, then-text-n-via-else-text-n+then-text-n-2}
use Rattle.dtd_names.proofs.is_name.Goals as goal

pub returns-then-text-n : goal.returns-then-text-n
returns-then-text-n c =
    spelled_beyond c.args.name.now c.args.text.now c.args.at
    (elim c.then-text-n.branch [
      | then-text-n-via-then-text-n w ↦ omega (arith, w.if-text-n.true)
      | then-text-n-via-else-text-n+then-text-n-2 w ↦ omega (arith, w.if-text-n.false, w.if-text-n-2.true)
    ])

pub returns-then-all : goal.returns-then-all
returns-then-all c =
    let text = c.args.text.now in
    let name = c.args.name.now in
    let s = take (length text - c.args.at) (drop c.args.at text) in
    let front = take (length name) s in
    let e = take_rest text c.args.at in
    let h : length name ≤ length s = omega (arith, c.if-text-n.false, c.if-text-n-2.false, ap length e, length-drop c.args.at text) in
    let d = same_from_all c.all.new.self _ _ (reverse name) (reverse front) c.all.ensures.ran (YieldsList-from_zip (YieldsList-from_rev_slice name cc) (YieldsList-from_rev_slice front cc)) (rw (length-reverse, length-reverse) (sym (length-take-le (length name) s h))) (λ x q k. search (rules, tests)) (λ x q k. search (rules, tests)) in
    spelled_if name s c.all.result d c.more_at.result c.if-all.true (search rules) ∙ ap (spelled name) e

pub returns-else-all : goal.returns-else-all
returns-else-all c =
    let text = c.args.text.now in
    let name = c.args.name.now in
    let s = take (length text - c.args.at) (drop c.args.at text) in
    let front = take (length name) s in
    let e = take_rest text c.args.at in
    let h : length name ≤ length s = omega (arith, c.if-text-n.false, c.if-text-n-2.false, ap length e, length-drop c.args.at text) in
    let d = same_from_all c.all.new.self _ _ (reverse name) (reverse front) c.all.ensures.ran (YieldsList-from_zip (YieldsList-from_rev_slice name cc) (YieldsList-from_rev_slice front cc)) (rw (length-reverse, length-reverse) (sym (length-take-le (length name) s h))) (λ x q k. search (rules, tests)) (λ x q k. search (rules, tests)) in
    spelled_not name s c.all.result d h c.if-all.false ∙ ap (spelled name) e
