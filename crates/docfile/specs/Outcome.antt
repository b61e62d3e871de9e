-- The outcome of a call, tokens that have bytes, and a list laid over a part of a buffer. Assumes nothing.
use Rattle.std.specs.Prelude.{◌≡◌, Result, Ok, Err, Bool, List, [], ◌++◌, ℕ, ◌+◌, ◌≤◌, leb, length, take, drop}
use Rattle.std.proofs.Common.{ap, ◌∙◌, append_assoc, add_assoc, arith, length-append, take-append-drop, take_at, drop_at, drop-drop, length-take-le}
use Rattle.std.proofs.lemmas.List.Edits.{sets, sets-eq}
use Rattle.paper.specs.Basics.{all}
use Rattle.paper.specs.Files.{largest, Counted}
use Rattle.paper.specs.Codes.{number_of}
use Rattle.paper.specs.declared.Refusal.{Refusal}
use Rattle.docfile.specs.declared.Count.{Count}

-- the answer, with every place of the buffer
abbrev pub outcome : Count → List ℕ → Counted
outcome r buffer = record { number = r.number; count = r.count; buffer = buffer }

-- number k and count n
abbrev pub answer : ℕ → ℕ → Count
answer k n = record { number = k; count = n }

-- 0 and the count, or the refusal's number and 0
abbrev pub count_of : Result ℕ Refusal → Count
count_of (Ok n) = answer 0 n
count_of (Err e) = answer (number_of e) 0

-- no token is too large
abbrev pub small : List ℕ → Bool
small = all (λ t. leb t largest)

-- a buffer with l in its places from `at` on
abbrev pub laid : ℕ → List ℕ → List ℕ → List ℕ
laid at l buffer = take at buffer ++ (l ++ drop (length l) (drop at buffer))

module _ (at : ℕ) (buffer : List ℕ) where
  -- nothing laid changes nothing
  pub lay_none : laid at [] buffer ≡ buffer
  lay_none = take-append-drop at buffer

  -- x and then l laid from a place on is x stored there, and l laid after it
  pub lay_more : (x l : List ℕ) → at + length x ≤ length buffer → laid at (x ++ l) buffer ≡ laid (at + length x) l (sets buffer at x)
  lay_more x l h =
      let front : List ℕ = take at buffer ++ x in
      let n : length front ≡ at + length x = length-append (take at buffer) x ∙ ap (λ k. k + length x) (length-take-le at buffer (omega arith)) in
      rw (sets-eq x buffer at h, take_at front (drop (at + length x) buffer) (at + length x) n, drop_at front (drop (at + length x) buffer) (at + length x) n)
      (simp (append_assoc, length-append, drop-drop, add_assoc))
