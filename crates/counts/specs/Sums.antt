-- A count of 32 bits with what comes and what goes, summed in 64 bits: nothing wraps. Assumes nothing.
use Rattle.std.specs.Prelude.{◌≡◌, refl, Option, Some, None, Bool, true, false, cond, ℕ, zero, suc, ◌+◌, ◌-◌, ◌≤◌, T, ltb, ℤ, pos, negsuc, nat_abs, ◌+ℤ◌, ◌-ℤ◌}
use Rattle.std.proofs.Common.{sym, ap, ap₂, subst, ◌∙◌, arith, le_trans, le-leb, ltb-true, ltb-false, Fits, SFits, to_z, of_z, to_z-of_z}
use Rattle.std.proofs.lemmas.Bool.{lt-leb}
use Rattle.std.specs.Int.Signed.{mag, lt_z, non_neg}
use Rattle.std.specs.Int.{w32, w64}
use Rattle.std.proofs.Math.Facts.{to_z_pos, sfits_widen}
use Rattle.paper.specs.Basics.{most_tokens}
use Rattle.basic_laws.specs.Bools.{clash}
use Rattle.counts.specs.Moved.{within}

-- ---- how large a sum is

cond_mag : (t : Bool) (x y : ℕ) → mag (cond t (negsuc x) (pos y)) ≤ x + y
cond_mag true x y = omega arith
cond_mag false x y = omega arith

mag_add : (z : ℤ) (k : ℕ) → mag (z +ℤ pos k) ≤ mag z + k
mag_add (pos a) k = omega arith
mag_add (negsuc a) k = le_trans (cond_mag (ltb k (suc a)) (suc a - suc k) (k - suc a)) (omega arith)

mag_sub : (z : ℤ) (k : ℕ) → mag (z -ℤ pos k) ≤ mag z + k
mag_sub (pos a) zero = omega arith
mag_sub (negsuc a) zero = le_trans (cond_mag (ltb 0 (suc a)) (suc a - suc 0) (0 - suc a)) (omega arith)
mag_sub (pos a) (suc k) = le_trans (cond_mag (ltb a (suc k)) (suc k - suc a) (a - suc k)) (omega arith)
mag_sub (negsuc a) (suc k) = omega arith

-- ---- what a test tells

low : (z : ℤ) → lt_z z (pos 0) ≡ true → None ≡ within z
low (pos n) h = absurd (omega (arith, ltb-true n 0 h))
low (negsuc n) h = refl

high : (z : ℤ) → lt_z (pos most_tokens) z ≡ true → None ≡ within z
high (pos n) h = sym (ap (λ b. cond b (Some n) None) (lt-leb n most_tokens (ltb-true most_tokens n h)))
high (negsuc n) h = refl

cast_good : (z : ℤ) → lt_z z (pos 0) ≡ false → lt_z (pos most_tokens) z ≡ false → T (non_neg z) × Fits w32 (nat_abs z)
cast_good (pos n) l h = (tt, record { fits = omega (arith, ltb-false most_tokens n h) })
cast_good (negsuc n) l h = clash refl l

between_is : (z : ℤ) → lt_z z (pos 0) ≡ false → lt_z (pos most_tokens) z ≡ false → Some (nat_abs z) ≡ within z
between_is (pos n) l h = sym (ap (λ b. cond b (Some n) None) (le-leb n most_tokens (ltb-false most_tokens n h)))
between_is (negsuc n) l h = clash refl l

-- ---- the sum, as it is computed

module _ {n : ℤ} (f : SFits w32 n) {comes goes : ℕ} (hc : comes ≤ most_tokens) (hg : goes ≤ most_tokens) where
  -- the count, widened
  abbrev wide : ℤ
  wide = to_z w32 (of_z w32 n)

  wide_is : wide ≡ n
  wide_is = to_z-of_z f

  pub wide_fits : SFits w64 wide
  wide_fits = subst (SFits w64) (sym wide_is) (sfits_widen tt f)

  -- with what comes
  abbrev more : ℤ
  more = to_z w64 (of_z w64 wide) +ℤ to_z w64 comes

  more_is : more ≡ n +ℤ pos comes
  more_is = ap₂ ◌+ℤ◌ (to_z-of_z wide_fits ∙ wide_is) (to_z_pos w64 {n = comes} (omega arith))

  more_small : mag (n +ℤ pos comes) ≤ mag n + most_tokens
  more_small = omega (arith, mag_add n comes)

  pub more_fits : SFits w64 more
  more_fits = subst (SFits w64) (sym more_is) (record { sfits = omega (arith, more_small, f.sfits) })

  -- less what goes
  abbrev sum : ℤ
  sum = to_z w64 (of_z w64 more) -ℤ to_z w64 goes

  sum_is : sum ≡ n +ℤ pos comes -ℤ pos goes
  sum_is = ap₂ ◌-ℤ◌ (to_z-of_z more_fits ∙ more_is) (to_z_pos w64 {n = goes} (omega arith))

  pub sum_fits : SFits w64 sum
  sum_fits = subst (SFits w64) (sym sum_is) (record { sfits = omega (arith, mag_sub (n +ℤ pos comes) goes, more_small, f.sfits) })

  final_is : to_z w64 (of_z w64 sum) ≡ n +ℤ pos comes -ℤ pos goes
  final_is = to_z-of_z sum_fits ∙ sum_is

  abbrev out : Option ℕ
  out = within (n +ℤ pos comes -ℤ pos goes)

  pub below_out : lt_z (to_z w64 (of_z w64 sum)) (pos 0) ≡ true → None ≡ out
  below_out h = low (n +ℤ pos comes -ℤ pos goes) (ap (λ z. lt_z z (pos 0)) (sym final_is) ∙ h)

  pub above_out : lt_z (pos most_tokens) (to_z w64 (of_z w64 sum)) ≡ true → None ≡ out
  above_out h = high (n +ℤ pos comes -ℤ pos goes) (ap (lt_z (pos most_tokens)) (sym final_is) ∙ h)

  module _ (l : lt_z (to_z w64 (of_z w64 sum)) (pos 0) ≡ false) (h : lt_z (pos most_tokens) (to_z w64 (of_z w64 sum)) ≡ false) where
    pub between_cast : T (non_neg (to_z w64 (of_z w64 sum))) × Fits w32 (nat_abs (to_z w64 (of_z w64 sum)))
    between_cast = cast_good (to_z w64 (of_z w64 sum)) l h

    pub between_out : Some (nat_abs (to_z w64 (of_z w64 sum))) ≡ out
    between_out = between_is (to_z w64 (of_z w64 sum)) l h ∙ ap within final_is
