-- Numbers written before other bytes, and what it is for a reader to take exactly what is written so. Assumes nothing.
use Rattle.std.specs.Prelude.{◌≡◌, refl, ◌↔◌, true, List, [], ◌∷◌, ◌++◌, ℕ, ◌<◌, ltb}
use Rattle.std.proofs.Common.{sym, ap, subst, ◌∙◌, append_assoc, append-nil, arith, lt-ltb}
use Rattle.paper.specs.Files.{bytes_of, file_of}
use Rattle.paper.specs.Schema.{Parsed, stop, ok, Reader, onward}
use Rattle.numbers.specs.Laws.{bytes}
use Rattle.table_laws.specs.Readers.{never_stop}
use Rattle.paper_laws.specs.Basics.{all_parts}

-- ---- bytes

-- what is said of a list of bytes, as the test
pub bytes_of_lem : (l : List ℕ) → ((u v : List ℕ) (b : ℕ) → l ≡ u ++ b ∷ v → b < 256) → bytes l ≡ true
bytes_of_lem [] h = refl
bytes_of_lem (b ∷ l) h = rw (lt-ltb b 256 (h [] l b refl)) (bytes_of_lem l (λ u v c e. h (b ∷ u) v c (ap (λ t. b ∷ t) e)))

-- ---- numbers, then bytes

-- the bytes of the numbers l, then r
abbrev pub ahead : List ℕ → List ℕ → List ℕ
ahead [] r = r
ahead (n ∷ l) r = bytes_of n ++ ahead l r

pub ahead_file : (l r : List ℕ) → file_of l ++ r ≡ ahead l r
ahead_file [] r = refl
ahead_file (n ∷ l) r = append_assoc (bytes_of n) (file_of l) r ∙ ap (λ t. bytes_of n ++ t) (ahead_file l r)

pub file_ahead : (l : List ℕ) → file_of l ≡ ahead l []
file_ahead l = sym (append-nil (file_of l)) ∙ ahead_file l []

pub ahead_join : (l m r : List ℕ) → ahead (l ++ m) r ≡ ahead l (ahead m r)
ahead_join [] m r = refl
ahead_join (n ∷ l) m r = ap (λ t. bytes_of n ++ t) (ahead_join l m r)

bytes_behind : (l r : List ℕ) → bytes (ahead l r) ≡ true → bytes r ≡ true
bytes_behind [] r h = h
bytes_behind (n ∷ l) r h = bytes_behind l r (all_parts (λ b. ltb b 256) (bytes_of n) (ahead l r) h).1

-- ---- readers that take exactly what is written

-- How a reader ends on s: it takes a, which is in form and written in front; or it meets X and stops with 3; or it stops with
-- another number.
pub data Ends {A : Type 0} (P : A → Type 0) (w : A → List ℕ) (X : List ℕ → Type 0) (s : List ℕ) : Parsed A → Type 0 where
  took : (a : A) (r : List ℕ) → s ≡ ahead (w a) r → P a → Ends P w X s (ok a r)
  met : X s → Ends P w X s (stop 3)
  failed : (k : ℕ) → (k ≡ 3 → ⊥) → Ends P w X s (stop k)

-- Of bytes, the reader m takes a exactly if a is in form and written in front, and stops with 3 exactly if it meets X.
pub record Exact {A : Type 0} (m : Reader A) (P : A → Type 0) (w : A → List ℕ) (X : List ℕ → Type 0) : Type 0 where
  pub takes : (a : A) (r : List ℕ) → P a → m (ahead (w a) r) ≡ ok a r
  pub stops : (s : List ℕ) → X s → m s ≡ stop 3
  pub ends : (s : List ℕ) → bytes s ≡ true → Ends P w X s (m s)

-- for a reader that never stops with 3
abbrev pub Nowhere : List ℕ → Type 0
Nowhere s = ⊥

module _ {A : Type 0} {P : A → Type 0} {w : A → List ℕ} {X : List ℕ → Type 0} {s : List ℕ} where
  pub took_form : {o : Parsed A} {a : A} {r : List ℕ} → Ends P w X s o → o ≡ ok a r → P a
  took_form (took b t p good) e = subst P (cc) good
  took_form (met z) e = never_stop e
  took_form (failed k other) e = never_stop e

  pub met_there : {o : Parsed A} → Ends P w X s o → o ≡ stop 3 → X s
  met_there (took b t p good) e = let z : ◌≡◌ {A = ℕ} 0 1 = cc in absurd (omega arith)
  met_there (met z) e = z
  met_there (failed k other) e = absurd (other (cc))

-- a reader, and the one that goes on after it
module _ {A B : Type 0} {m : Reader A} {P : A → Type 0} {w : A → List ℕ} {X : List ℕ → Type 0} (x : Exact m P w X) (f : A → Reader B) where
  pub then_takes : (a : A) (r : List ℕ) → P a → onward (m (ahead (w a) r)) f ≡ f a r
  then_takes a r p = ap (λ t. onward t f) (x.takes a r p)

  pub then_stops : (s : List ℕ) → X s → onward (m s) f ≡ stop 3
  then_stops s p = ap (λ t. onward t f) (x.stops s p)

  -- u: all that is read, of which s is what m reads
  pub then_ends : {Q : B → Type 0} {v : B → List ℕ} {Y : List ℕ → Type 0} {u : List ℕ} (s : List ℕ) → bytes s ≡ true → (X s → Y u)
      → ((a : A) (r : List ℕ) → s ≡ ahead (w a) r → P a → bytes r ≡ true → Ends Q v Y u (f a r)) → Ends Q v Y u (onward (m s) f)
  then_ends {Q} {v} {Y} {u} s h here go = by (m s) (x.ends s h)
    where
      by : (o : Parsed A) → Ends P w X s o → Ends Q v Y u (onward o f)
      by o (took a r p good) = go a r p good (bytes_behind (w a) r (rw p at h))
      by o (met z) = met (here z)
      by o (failed k other) = failed k other

pub same : {A : Type 0} → A ↔ A
same = (λ a. a, λ a. a)

-- the same of a reader, told in other words
module _ {A : Type 0} {m : Reader A} {P Q : A → Type 0} {w v : A → List ℕ} {X Y : List ℕ → Type 0} (x : Exact m P w X)
    (writes : (a : A) → w a ≡ v a) (forms : (a : A) → P a ↔ Q a) (meets : (s : List ℕ) → X s ↔ Y s) where
  pub reworded : Exact m Q v Y
  reworded = record {
    takes = λ a r q. rw (← writes a) (x.takes a r ((forms a).1 q));
    stops = λ s y. x.stops s ((meets s).1 y);
    ends = λ s b. by s (m s) (x.ends s b);
  }
    where
      by : (s : List ℕ) (o : Parsed A) → Ends P w X s o → Ends Q v Y s o
      by s o (took a r p good) = took a r (p ∙ ap (λ l. ahead l r) (writes a)) ((forms a).0 good)
      by s o (met z) = met ((meets s).0 z)
      by s o (failed k other) = failed k other
