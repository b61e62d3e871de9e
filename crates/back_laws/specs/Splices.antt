-- A splice taken back by a splice: what went comes again, and what came goes. Assumes nothing.
use Rattle.std.specs.Prelude.{◌≡◌, refl, List, ◌++◌, ℕ, ◌+◌, ◌≤◌, length, take, drop}
use Rattle.std.proofs.Common.{sym, ap, ap₂, ◌∙◌, drop-drop, take_at, drop_at, length-take-le}
use Rattle.paper.specs.Edits.{splice}
use Rattle.shape_laws.specs.Splice.{parts}

module _ {A : Type 0} (at n : ℕ) (p d : List A) (h : at ≤ length d) where
  -- what stands after the place, and after what came
  pub splice_drop : drop at (splice at n p d) ≡ p ++ drop (at + n) d
  splice_drop = drop_at (take at d) (p ++ drop (at + n) d) at (length-take-le at d h)

  splice_after : drop (at + length p) (splice at n p d) ≡ drop (at + n) d
  splice_after = sym (drop-drop (length p) at (splice at n p d)) ∙ ap (drop (length p)) splice_drop ∙ drop_at p (drop (at + n) d) (length p) refl

  pub splice_back : splice at (length p) (take n (drop at d)) (splice at n p d) ≡ d
  splice_back =
      ap₂ (λ x y. x ++ (take n (drop at d) ++ y)) (take_at (take at d) (p ++ drop (at + n) d) at (length-take-le at d h)) splice_after
      ∙ parts at n d
