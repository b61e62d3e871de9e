-- Files of numbers: one after another, and of numbers that are one byte each. Assumes nothing.
use Rattle.std.specs.Prelude.{◌≡◌, refl, true, List, [], ◌∷◌, ◌++◌, ℕ, ltb}
use Rattle.std.proofs.Common.{sym, ap, ap₂, ◌∙◌, append_assoc, ltb-true}
use Rattle.std.proofs.Math.Bool.{and-eq-true_iff}
use Rattle.paper.specs.Basics.{all}
use Rattle.paper.specs.Files.{bytes_of, file_of}
use Rattle.numbers.specs.Store.{bytes_one}

pub file_both : (l m : List ℕ) → file_of (l ++ m) ≡ file_of l ++ file_of m
file_both [] m = refl
file_both (n ∷ l) m = ap (λ t. bytes_of n ++ t) (file_both l m) ∙ sym (append_assoc (bytes_of n) (file_of l) (file_of m))

-- each is below 128
abbrev pub IsSmall : List ℕ → Type 0
IsSmall l = all (λ n. ltb n 128) l ≡ true

pub file_small : (l : List ℕ) → IsSmall l → file_of l ≡ l
file_small [] h = refl
file_small (n ∷ l) h =
    let (a, b) = (and-eq-true_iff (ltb n 128) (all (λ n. ltb n 128) l)).0 h in
    ap₂ (λ s t. s ++ t) (bytes_one n (ltb-true n 128 a)) (file_small l b)
