-- What is kept from edit to edit: how an edit changes the set of IDs and the counts of references. Assumes nothing.
use Rattle.std.specs.Prelude.{◌≡◌, ◌↔◌, ◌⊎◌, Bool, true, List, ℕ, ◌+◌}
use Rattle.std.proofs.Common.{ap, inl, inr, arith}
use Rattle.paper.specs.declared.Tok.{Tok}
use Rattle.paper.specs.Basics.{distinct}
use Rattle.paper.specs.Shape.{is_element}
use Rattle.paper.specs.Edits.{splice}
use Rattle.shape_laws.specs.Five.{Allowed}
use Rattle.kept_laws.specs.Found.{found}
use Rattle.kept_laws.specs.Split.{ahead, goes, comes, stays, old_values, new_values}
use Rattle.kept_laws.specs.Lists.{In, in_append}
use Rattle.kept_laws.specs.Counts.{times, times_stays, in_stays}
use Rattle.kept_laws.specs.Kept.{in_three}

module _ (is : ℕ → ℕ → Bool) (d : List Tok) (e : is_element d ≡ true) {at n : ℕ} {p : List Tok} (w : Allowed d at n p) (v : ℕ) where
  -- how often a value is there: less what goes, and more what comes
  pub times_after : times v (found is 0 0 (splice at n p d)) + times v (goes is at d n) ≡ times v (found is 0 0 d) + times v (comes is at d p)
  times_after =
      let b : List ℕ = ahead is at d in
      let r : List ℕ = stays is at d n in
      omega (
        arith,
        ap (times v) (old_values is at n d),
        ap (times v) (new_values is d e w),
        times_stays v b (goes is at d n) r,
        times_stays v b (comes is at d p) r,
      )

  -- where none is there twice, a value is there after the edit if it was and did not go, or if it came
  pub in_after : distinct (found is 0 0 d) ≡ true
      → In v (found is 0 0 (splice at n p d)) ↔ ((In v (found is 0 0 d) × (In v (goes is at d n) → ⊥)) ⊎ In v (comes is at d p))
  in_after once =
      let b : List ℕ = ahead is at d in
      let c : List ℕ = goes is at d n in
      let m : List ℕ = comes is at d p in
      let r : List ℕ = stays is at d n in
      let (to, of) = in_stays v b c r (rw (old_values is at n d) at once) in
      rw (old_values is at n d, new_values is d e w) (
        λ h. elim ((in_three v b m r).0 h) [
          | inl x ↦ inl (to ((in_append v b r).1 (inl x)))
          | inr x ↦ elim x [ inl y ↦ inr y | inr y ↦ inl (to ((in_append v b r).1 (inr y))) ]
        ],
        λ h. elim h [
          | inl x ↦ elim ((in_append v b r).0 (of x)) [ inl y ↦ (in_three v b m r).1 (inl y) | inr y ↦ (in_three v b m r).1 (inr (inr y)) ]
          | inr x ↦ (in_three v b m r).1 (inr (inl x))
        ],
      )
