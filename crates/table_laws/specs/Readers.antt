-- Tools for what was read: a reader that went on, a number in its range, nothing left over.
-- Assumes nothing.
use Rattle.std.specs.Prelude.{◌≡◌, refl, Bool, true, false, cond, ◌&&◌, List, [], ◌∷◌, ℕ, ◌≤◌, leb}
use Rattle.std.proofs.Common.{arith, leb-true}
use Rattle.paper.specs.Files.{Front, broken, got, front}
use Rattle.paper.specs.Schema.{Schema, Parsed, stop, ok, Reader, onward, valued, number, finished}

-- a reader that went on has what it went on with
module _ {A B C : Type 0} where
  pub after : (m : Parsed A) (f : A → Reader B) {b : B} {r : List ℕ} → onward m f ≡ ok b r
      → ((a : A) (s : List ℕ) → m ≡ ok a s → f a s ≡ ok b r → C) → C
  after (stop k) f e go = let z : ◌≡◌ {A = ℕ} 0 1 = cc in absurd (omega arith)
  after (ok a s) f e go = go a s refl e

pub never_stop : {A B : Type 0} {k : ℕ} {a : A} {r : List ℕ} → ◌≡◌ {A = Parsed A} (stop k) (ok a r) → B
never_stop e = let z : ◌≡◌ {A = ℕ} 0 1 = cc in absurd (omega arith)

-- a number that was read is in its range
pub number_in : (lo hi : ℕ) (s : List ℕ) {n : ℕ} {r : List ℕ} → number lo hi s ≡ ok n r → (lo ≤ n) × (n ≤ hi)
unfolding number
number_in lo hi s e = go (front s) e
  where
    go : (x : Front) {n : ℕ} {r : List ℕ} → valued lo hi x ≡ ok n r → (lo ≤ n) × (n ≤ hi)
    go broken e = never_stop e
    go (got k t) {n} {r} e = by (leb lo k) (leb k hi) refl refl e
      where
        by : (a b : Bool) → leb lo k ≡ a → leb k hi ≡ b → cond (a && b) (ok k t) (stop 2) ≡ ok n r → (lo ≤ n) × (n ≤ hi)
        by true true p q e = let d : k ≡ n = cc in (rw d at (leb-true lo k p), rw d at (leb-true k hi q))
        by true false p q e = never_stop e
        by false b p q e = never_stop e

pub finished_same : (a : Schema) (u : List ℕ) {s : Schema} {r : List ℕ} → finished a u ≡ ok s r → s ≡ a
finished_same a [] e = cc
finished_same a (b ∷ u) e = never_stop e
