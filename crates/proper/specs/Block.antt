-- What makes a block proper. Assumes nothing.
use Rattle.std.specs.Prelude.{◌≡◌, Bool, true, false, not, List, ℕ, ◌-◌, ◌≤◌, ◌<◌, length}
use Rattle.std.proofs.Common.{sym, ◌∙◌, arith}
use borrow.Author.Tests.{eq-eqb, ne_eqb, le-leb, lt-leb, not-true, not-false}
use Rattle.std.proofs.Math.ListN.{take, drop, length-drop}
use Rattle.std.proofs.Math.Seq.{take_all}
use Rattle.paper.specs.Table.{block_length, cell, kind_at, count_at, zeros, proper_sets, proper_model, proper_block}

module _ (E : ℕ) (b : List ℕ) {r : Bool} (e : r ≡ proper_sets b) where
  pub sets_out : not r ≡ true → false ≡ proper_block E b
  unfolding proper_block
  sets_out t = rw (sym e ∙ not-true r t)

  module _ (t : not r ≡ false) where
    pub plain_test : {z : Bool} → length b ≡ block_length → cell b kind_at ≤ 1 → z ≡ zeros (take (length b - count_at) (drop count_at b)) → z ≡ proper_block E b
    unfolding proper_block
    plain_test long k z =
        let s : take (length b - count_at) (drop count_at b) ≡ drop count_at b = take_all (length b - count_at) (drop count_at b) (simp length-drop (omega arith)) in
        rw (sym e ∙ not-false r t, le-leb (cell b kind_at) 1 k) (rw s at z)

    pub kind_out : 1 < cell b kind_at → (cell b kind_at ≡ 2 → ⊥) → false ≡ proper_block E b
    unfolding proper_block
    kind_out k n = rw (sym e ∙ not-false r t, lt-leb (cell b kind_at) 1 k, ne_eqb (cell b kind_at) 2 n)

    pub kind_model : {m : Bool} → 1 < cell b kind_at → cell b kind_at ≡ 2 → m ≡ proper_model E b → m ≡ proper_block E b
    unfolding proper_block
    kind_model k s m = rw (sym e ∙ not-false r t, lt-leb (cell b kind_at) 1 k, eq-eqb (cell b kind_at) 2 s) m
