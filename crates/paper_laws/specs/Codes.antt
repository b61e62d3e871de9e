-- A refusal's number is never 0, so a fault stands before every other answer. Assumes nothing.
use Rattle.std.specs.Prelude.{◌≡◌, refl, ℕ, zero, suc, ◌<◌, Result, Ok, Err, IsErrAnd}
use Rattle.std.proofs.Common.{arith, lit<}
use Rattle.paper.specs.declared.Refusal.{Refusal}
use Rattle.paper.specs.declared.Refusal.TheVariants.{Broken, Schema, Ambiguous, Shape, Room, Place, Name, Attributes, Content, Root, IdTwice, NoId, Table, DtdText, Counts, NotCompared}
use Rattle.paper.specs.declared.Fault.{Fault}
use Rattle.paper.specs.Codes.{number_of, told}
use Rattle.paper.specs.Judgement.{Answer, before}

pub numbered : (r : Refusal) → 0 < number_of r
numbered Broken = lit< tt
numbered Schema = lit< tt
numbered Ambiguous = lit< tt
numbered Shape = lit< tt
numbered Room = lit< tt
numbered Place = lit< tt
numbered Name = lit< tt
numbered Attributes = lit< tt
numbered Content = lit< tt
numbered Root = lit< tt
numbered IdTwice = lit< tt
numbered NoId = lit< tt
numbered Table = lit< tt
numbered DtdText = lit< tt
numbered Counts = lit< tt
numbered NotCompared = lit< tt

pub refused : (r : Refusal) → number_of r ≡ 0 → ⊥
refused r e = omega (arith, numbered r)

pub stands_first : (f : Fault) (a : Answer) → (number_of f.refusal, f.place) ≡ before (number_of f.refusal, f.place) a
stands_first f a = go (number_of f.refusal) f.place (refused f.refusal)
  where
    go : (k i : ℕ) → (k ≡ 0 → ⊥) → (k, i) ≡ before (k, i) a
    go zero i h = absurd (h refl)
    go (suc k) i h = refl

-- the fault that a call hands on
pub handed_on : {A : Type 0} → (r : Result A Fault) (f : Fault) {a : Answer} → IsErrAnd r (λ g. g ≡ f) → (number_of f.refusal, f.place) ≡ a → told r ≡ a
handed_on (Ok x) f h e = absurd h
handed_on (Err g) f h e = rw h e
