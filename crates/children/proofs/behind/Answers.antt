-- `children::behind` meets its contract. Assumes nothing.
use Prim.Native.Nat.{◌+◌}
use native.Mathlib.Omega.{arith}
use borrow.Author.Rules.{rules}
use Rattle.children.specs.Closed.{behind_within, behind_end, behind_last}
use Rattle.children.proofs.behind.Goals as goal

pub overflow_add-result : goal.overflow_add-result
overflow_add-result c =
    let h = behind_within c.args.doc.now c.args.i c.requires.place_in_bounds in
    let e = c.end_of.ensures in
    search (rules, e, h)

pub overflow_cast-result : goal.overflow_cast-result
overflow_cast-result c = omega (arith, c.type_inv.closes (c.args.i + 1))

pub returns-then-i-doc : goal.returns-then-i-doc
returns-then-i-doc c = search behind_end

pub returns : goal.returns
returns c = search behind_last
