-- Laws of the paper's words for lists and numbers. Assumes nothing.
use Rattle.std.specs.Prelude.{◌≡◌, refl, Bool, true, false, cond, ◌&&◌, ◌↔◌, List, [], ◌∷◌, ◌++◌, ℕ, zero, suc, ◌-◌, ◌≤◌, ◌<◌, length, get_or, replicate}
use Rattle.std.proofs.Common.{sym, ap, ap₂, ◌∙◌, arith, length-append}
use Rattle.std.proofs.Math.Bool.{and_assoc, and-eq-true_iff}
use Rattle.std.proofs.Math.Option.{some}
use Rattle.std.proofs.Math.Decide.{ℕ_discrete}
use Rattle.std.proofs.lemmas.List.{length-replicate}
use Rattle.paper.specs.Basics.{every, find, all, from, pad}
use Rattle.basic_laws.specs.Bools.{both}

-- ---- numbers below n

-- a test of every number below n, told number by number
pub every_iff : (S : ℕ → Bool) (n : ℕ) → (every S n ≡ true) ↔ ((k : ℕ) → k < n → S k ≡ true)
every_iff S n = (there n, back n)
  where
    there : (n : ℕ) → every S n ≡ true → (k : ℕ) → k < n → S k ≡ true
    there zero e k h = absurd (omega arith)
    there (suc n) e k h =
        let (a, b) = (and-eq-true_iff (S n) (every S n)).0 e in
        elim (ℕ_discrete k n) [ yes c ↦ rw c a | no c ↦ there n b k (omega arith) ]

    back : (n : ℕ) → ((k : ℕ) → k < n → S k ≡ true) → every S n ≡ true
    back zero f = refl
    back (suc n) f = both (f n (omega arith)) (back n (λ k h. f k (omega arith)))

-- the number found is below n, and the test holds of it
pub find_some : (S : ℕ → Bool) (n k : ℕ) → find S n ≡ some k → (k < n) × (S k ≡ true)
find_some S zero k e = let z : ◌≡◌ {A = ℕ} 0 1 = cc in absurd (omega arith)
find_some S (suc n) k e = go (S n) refl e (find_some S n k)
  where
    go : (b : Bool) → S n ≡ b → cond b (some n) (find S n) ≡ some k → (find S n ≡ some k → (k < n) × (S k ≡ true)) → (k < suc n) × (S k ≡ true)
    go true p e h = let d : n ≡ k = cc in (omega arith, rw d at p)
    go false p e h = let (i, s) = h e in (omega arith, s)

-- tests that agree below n find the same
pub find_same : (S Z : ℕ → Bool) (n : ℕ) → ((k : ℕ) → k < n → S k ≡ Z k) → find S n ≡ find Z n
find_same S Z zero h = refl
find_same S Z (suc n) h = ap₂ (λ c r. cond c (some n) r) (h n (omega arith)) (find_same S Z n (λ k i. h k (omega arith)))

-- ---- lists

-- P holds of each in the list and of 0, so of what stands at any index
pub all_at : (P : ℕ → Bool) → P 0 ≡ true → (l : List ℕ) → all P l ≡ true → (k : ℕ) → P (get_or l k 0) ≡ true
all_at P z [] e k = z
all_at P z (x ∷ l) e zero = ((and-eq-true_iff (P x) (all P l)).0 e).0
all_at P z (x ∷ l) e (suc k) = all_at P z l ((and-eq-true_iff (P x) (all P l)).0 e).1 k

module _ {A : Type 0} (P : A → Bool) where
  -- of each in two lists
  pub all_append : (l m : List A) → all P (l ++ m) ≡ (all P l && all P m)
  all_append [] m = refl
  all_append (x ∷ l) m = ap (λ b. P x && b) (all_append l m) ∙ sym (and_assoc (P x) (all P l) (all P m))

  -- .. so in both
  pub all_parts : (l m : List A) → all P (l ++ m) ≡ true → (all P l ≡ true) × (all P m ≡ true)
  all_parts l m e = (and-eq-true_iff (all P l) (all P m)).0 (sym (all_append l m) ∙ e)

-- as long as is asked
pub length_from : (b n : ℕ) → length (from b n) ≡ n
length_from b zero = refl
length_from b (suc n) = ap suc (length_from (suc b) n)

pub length_pad : (n : ℕ) (l : List ℕ) → length l ≤ n → length (pad n l) ≡ n
length_pad n l h = omega (arith, length-append l (replicate (n - length l) 0), length-replicate (n - length l) zero)
