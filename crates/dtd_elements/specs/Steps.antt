-- What a step along a text came to, with something said of the value; and how steps follow each other. Assumes nothing.
use Rattle.std.specs.Prelude.{◌≡◌, refl, Result, Ok, Err, List, ℕ, ◌≤◌, length, drop}
use Rattle.std.proofs.Common.{sym, ap, ◌∙◌}
use Rattle.paper.specs.Dtd.Readers.{Read, stop, ok, Reader, onward}
use Rattle.dtd_words.specs.declared.Fault.{Fault}
use Rattle.dtd_words.specs.Places.{At}
use Rattle.dtd_words.specs.Words.{CameTo, Came, faulty}

-- the place behind what was read, and Q of it; or the refusal and the place of what is at fault
abbrev pub Gave : {A V : Type 0} → (V → ℕ) → (V → A → Type 0) → List ℕ → Result V Fault → Read A → Type 0
Gave place Q text r o = CameTo (λ v a s. At text (place v) s × Q v a) text r o

module _ {A V : Type 0} (text : List ℕ) (place : V → ℕ) (Q : V → A → Type 0) where
  -- went on: with that value, and the rest from there on
  pub record Went (v : V) (m : Reader A) (s : List ℕ) : Type 0 where
    pub value : A
    pub inside : place v ≤ length text
    pub read : m s ≡ ok value (drop (place v) text)
    pub holds : Q v value

  pub went : (v : V) (m : Reader A) (s : List ℕ) → Gave place Q text (Ok v) (m s) → Went v m s
  went v m s g = by (m s) refl g
    where
      by : (x : Read A) → m s ≡ x → Gave place Q text (Ok v) x → Went v m s
      by (ok a t) e (j, q) = record { value = a; inside = j.inside; read = e ∙ ap (ok a) (sym j.rest); holds = q }
      by (stop j t) e g = absurd g

  -- a step that did not go on is the end of the whole
  pub failed : {B W : Type 0} (there : W → ℕ) (R : W → B → Type 0) (f : A → Reader B) (e : Fault) (x : Read A)
      → Gave place Q text (Err e) x → Gave there R text (Err e) (onward x f)
  failed there R f e x g = faulty (λ v a s. At text (place v) s × Q v a) (λ w b s. At text (there w) s × R w b) text f e x g

-- The same of a step whose value says nothing.
module _ {A : Type 0} (text : List ℕ) where
  gave : (r : Result ℕ Fault) (x : Read A) → Came text r x → Gave (λ p. p) (λ p a. Unit {0}) text r x
  gave (Ok p) (ok a s) g = (g, tt)
  gave (Ok p) (stop j s) g = g
  gave (Err e) (ok a s) g = g
  gave (Err e) (stop j s) g = g

  pub went_on : (p : ℕ) (m : Reader A) (s : List ℕ) → Came text (Ok p) (m s) → Went text (λ p. p) (λ p a. Unit {0}) p m s
  went_on p m s x = went text (λ p. p) (λ p a. Unit {0}) p m s (gave (Ok p) (m s) x)

  pub broke_off : {B W : Type 0} (there : W → ℕ) (R : W → B → Type 0) (f : A → Reader B) (e : Fault) (x : Read A)
      → Came text (Err e) x → Gave there R text (Err e) (onward x f)
  broke_off there R f e x g = failed text (λ p. p) (λ p a. Unit {0}) there R f e x (gave (Err e) x g)

-- one after another is grouped as one likes
pub grouped : {A B C : Type 0} (x : Read A) (f : A → Reader B) (g : B → Reader C) → onward (onward x f) g ≡ onward x (λ a s. onward (f a s) g)
grouped (stop j s) f g = refl
grouped (ok a s) f g = refl
