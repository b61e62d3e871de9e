-- The union of three sets. Assumes nothing.
use Rattle.std.specs.Prelude.{◌≡◌, ℕ, ◌/◌, ◌%◌, max}
use Rattle.std.proofs.Common.{sym, ap, ◌∙◌, arith}
use Rattle.std.proofs.Math.Arith.{bin_ind}
use Rattle.std.specs.Int.Bits.{bit_or, or_step, or_zero_l}

or_half : (a b : ℕ) → (bit_or a b / 2 ≡ bit_or (a / 2) (b / 2)) × (bit_or a b % 2 ≡ max (a % 2) (b % 2))
or_half a b = let s = or_step a b in omega arith

pub or_assoc : (a b c : ℕ) → bit_or (bit_or a b) c ≡ bit_or a (bit_or b c)
or_assoc = bin_ind (λ a. (b c : ℕ) → bit_or (bit_or a b) c ≡ bit_or a (bit_or b c))
    (λ b c. ap (λ v. bit_or v c) (or_zero_l b) ∙ sym (or_zero_l (bit_or b c)))
    (λ a ih b c.
    let h : bit_or (bit_or a b / 2) (c / 2) ≡ bit_or (a / 2) (bit_or b c / 2)
    = ap (λ v. bit_or v (c / 2)) (or_half a b).0 ∙ ih (b / 2) (c / 2) ∙ ap (bit_or (a / 2)) (sym (or_half b c).0) in
    omega (arith, or_step (bit_or a b) c, or_step a (bit_or b c), (or_half a b).1, (or_half b c).1))
