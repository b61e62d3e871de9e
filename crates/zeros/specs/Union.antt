-- The union of a list of sets, and what it tells of each of them. Assumes nothing.
use Rattle.std.specs.Prelude.{◌≡◌, refl, ◌&&◌, List, [], ◌∷◌, ℕ, ◌^◌, ◌<◌, ltb, eqb}
use Rattle.std.proofs.Common.{sym, ap, ap₂, ◌∙◌, arith, ltb-true, lt-ltb, eqb-true, eq-eqb, pow_pos}
use Rattle.std.proofs.Math.Bool.{and_assoc, and-true, and-eq-true_iff}
use Rattle.std.specs.List.{fold}
use Rattle.std.specs.Int.Bits.{bit_or, or_add_and}
use Rattle.std.proofs.lemmas.Nat.{or_lt, and_le_l, and_le_r}
use Rattle.paper.specs.Basics.{all}
use Rattle.paper.specs.Table.{zeros}
use Rattle.basic_laws.specs.Bools.{same_test}

-- the members of each set in the list
abbrev pub union : List ℕ → ℕ
union l = fold bit_or 0 l

-- a union uses only the lowest n bits where each of its sets does
pub or_lowest : (n v w : ℕ) → ltb (bit_or v w) (2 ^ n) ≡ (ltb v (2 ^ n) && ltb w (2 ^ n))
or_lowest n v w = same_test (ltb (bit_or v w) (2 ^ n)) (ltb v (2 ^ n) && ltb w (2 ^ n))
    (λ e.
    let h : bit_or v w < 2 ^ n = ltb-true (bit_or v w) (2 ^ n) e in
    let s = or_add_and v w in
    let p : v < 2 ^ n = omega (arith, and_le_r v w) in
    let q : w < 2 ^ n = omega (arith, and_le_l v w) in
    rw (lt-ltb v (2 ^ n) p, lt-ltb w (2 ^ n) q))
    (λ e.
    let (p, q) = (and-eq-true_iff (ltb v (2 ^ n)) (ltb w (2 ^ n))).0 e in
    lt-ltb (bit_or v w) (2 ^ n) (or_lt n v w (ltb-true v (2 ^ n) p) (ltb-true w (2 ^ n) q)))

union_with_lowest : (n members : ℕ) (l : List ℕ) → ltb (fold bit_or members l) (2 ^ n) ≡ (ltb members (2 ^ n) && all (λ w. ltb w (2 ^ n)) l)
union_with_lowest n members [] = sym (and-true (ltb members (2 ^ n)))
union_with_lowest n members (w ∷ l) =
    union_with_lowest n (bit_or members w) l ∙ ap (λ b. b && all (λ w. ltb w (2 ^ n)) l) (or_lowest n members w)
    ∙ and_assoc (ltb members (2 ^ n)) (ltb w (2 ^ n)) (all (λ w. ltb w (2 ^ n)) l)

pub union_lowest : (n : ℕ) (l : List ℕ) → ltb (union l) (2 ^ n) ≡ all (λ w. ltb w (2 ^ n)) l
union_lowest n l = union_with_lowest n 0 l ∙ rw (lt-ltb 0 (2 ^ n) (pow_pos n))

-- it is empty where each of them is
pub union_zeros : (l : List ℕ) (w : ℕ) → w ≡ union l → eqb w 0 ≡ zeros l
union_zeros l w e = ap (λ w. eqb w 0) e ∙ zero_lowest (union l) ∙ union_lowest 0 l ∙ each l
  where
    zero_lowest : (w : ℕ) → eqb w 0 ≡ ltb w (2 ^ 0)
    zero_lowest w = same_test (eqb w 0) (ltb w (2 ^ 0))
        (λ e. let z = eqb-true w 0 e in lt-ltb w (2 ^ 0) (omega arith))
        (λ e. let h = ltb-true w (2 ^ 0) e in eq-eqb w 0 (omega arith))

    zero_first : (w : ℕ) → ltb w (2 ^ 0) ≡ eqb 0 w
    zero_first w = same_test (ltb w (2 ^ 0)) (eqb 0 w)
        (λ e. let h = ltb-true w (2 ^ 0) e in eq-eqb 0 w (omega arith))
        (λ e. let z = eqb-true 0 w e in lt-ltb w (2 ^ 0) (omega arith))

    each : (l : List ℕ) → all (λ w. ltb w (2 ^ 0)) l ≡ zeros l
    each [] = refl
    each (w ∷ l) = ap₂ (λ a b. a && b) (zero_first w) (each l)
