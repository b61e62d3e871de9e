-- What a reader comes to at a place of the file: it goes on, and the value and the place after it are told; or it stops, and the
-- number of the refusal is told. Assumes nothing.
use Rattle.std.specs.Prelude.{◌≡◌, refl, Result, Ok, Err, IsErrAnd, List, [], ◌∷◌, ◌++◌, ℕ, ◌≤◌, length, drop}
use Rattle.std.proofs.Common.{sym, ap, append_assoc}
use Rattle.paper.specs.Schema.{Parsed, stop, ok, pure, onward}
use Rattle.paper.specs.Codes.{number_of}
use Rattle.paper.specs.declared.Refusal.{Refusal}

-- it went on, with a value that has P, to a place of the file
pub record Went {A : Type 0} (o : Parsed A) (file : List ℕ) (next : ℕ) (P : A → Type 0) : Type 0 where
  pub value : A
  pub reads : o ≡ ok value (drop next file)
  pub within : next ≤ length file
  pub holds : P value

-- it went on to the place after what was read, of which P tells the value; or it stopped with the number of the refusal
abbrev pub Ended : {A R : Type 0} → Parsed A → List ℕ → (R → ℕ) → (R → A → Type 0) → Result R Refusal → Type 0
Ended o file next P (Ok r) = Went o file (next r) (P r)
Ended o file next P (Err e) = o ≡ stop (number_of e)

-- the refusal that a `?` hands on
pub handed : {A E : Type 0} {r : Result A E} {e : E} → IsErrAnd r (λ x. x ≡ e) → r ≡ Err e
handed {r = Ok x} h = absurd h
handed {r = Err x} h = ap Err h

-- ---- several in a row

-- what was read before, and then what is read
abbrev pub prefixed : {A : Type 0} → List A → Parsed (List A) → Parsed (List A)
prefixed l (stop k) = stop k
prefixed l (ok m r) = ok (l ++ m) r

module _ {A : Type 0} where
  pub prefixed_none : (o : Parsed (List A)) → o ≡ prefixed [] o
  prefixed_none (stop k) = refl
  prefixed_none (ok m r) = refl

  pub prefixed_more : (l : List A) (a : A) (o : Parsed (List A)) → prefixed l (onward o (λ m. pure (a ∷ m))) ≡ prefixed (l ++ a ∷ []) o
  prefixed_more l a (stop k) = refl
  prefixed_more l a (ok m r) = ap (λ x. ok x r) (sym (append_assoc l (a ∷ []) m))
