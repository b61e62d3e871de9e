-- Tests of numbers. Assumes nothing.
use Rattle.std.specs.Prelude.{◌≡◌, ℕ, suc, ◌+◌, eqb}
use Rattle.std.proofs.Common.{sym, arith, eqb-true, eq-eqb}
use Rattle.basic_laws.specs.Bools.{same_test}

-- equality turned round
pub eqb_sym : (a b : ℕ) → eqb a b ≡ eqb b a
eqb_sym a b = same_test (eqb a b) (eqb b a) (λ e. eq-eqb b a (sym (eqb-true a b e))) (λ e. eq-eqb a b (sym (eqb-true b a e)))

-- a sum with a numeral computes
pub five : (a : ℕ) → 5 + a ≡ suc (suc (suc (suc (suc a))))
five a = omega arith
