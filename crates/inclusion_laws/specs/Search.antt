-- The search through pairs of states, breadth first: a pair is met by the names that lead to it, names are tried rising, and
-- each pair is met once. `found` computes what `Inclusion.shortestOf` only defines. Assumes nothing.
use Rattle.std.specs.Prelude.{Bool, false, cond, List, [], ◌∷◌, ◌++◌, ℕ, zero, suc, eqb, get_or, set}
use Rattle.std.proofs.Math.Option.{Option, none, some}
use Rattle.inclusion_laws.specs.Members.{blank}

-- pairs, where a name leads from one, which of them loses what led to it, and their numbers
pub record Machine : Type 1 where
  pub Pair : Type 0
  pub begin : Pair
  pub step : Pair → ℕ → Option Pair
  pub losing : Pair → Bool
  pub number : Pair → ℕ

-- a pair that was met, and the names that led to it
pub record Entry (P : Type 0) : Type 0 where
  pub pair : P
  pub word : List ℕ

-- a mark for the number of each pair that was met; and those from which no name was tried yet, in the order met
pub record Queue (P : Type 0) : Type 0 where
  pub seen : List ℕ
  pub todo : List (Entry P)

module _ (m : Machine) where
  -- ---- where a sequence leads

  abbrev pub onward : Option m.Pair → ℕ → Option m.Pair
  onward none a = none
  onward (some p) a = m.step p a

  abbrev pub reach : Option m.Pair → List ℕ → Option m.Pair
  reach o [] = o
  reach o (a ∷ w) = reach (onward o a) w

  abbrev pub loses : Option m.Pair → Bool
  loses none = false
  loses (some p) = m.losing p

  abbrev pub loses_by : List ℕ → Bool
  loses_by w = loses (reach (some m.begin) w)

  -- ---- the search

  -- the name a leads from x to q
  abbrev pub push : Entry m.Pair → ℕ → m.Pair → Queue m.Pair → Queue m.Pair
  push x a q s = record { seen = set s.seen (m.number q) 1; todo = s.todo ++ record { pair = q; word = x.word ++ a ∷ [] } ∷ [] }

  abbrev pub offer : Entry m.Pair → ℕ → Option m.Pair → Queue m.Pair → Queue m.Pair
  offer x a none s = s
  offer x a (some q) s = cond (eqb (get_or s.seen (m.number q) 0) 0) (push x a q s) s

  -- the names from a on, n of them
  abbrev pub expand : Entry m.Pair → ℕ → ℕ → Queue m.Pair → Queue m.Pair
  expand x a zero s = s
  expand x a (suc n) s = expand x (suc a) n (offer x a (m.step x.pair a) s)

  -- at most n pairs more, names below E
  abbrev pub found : ℕ → ℕ → List ℕ → List (Entry m.Pair) → Option (List ℕ)
  found E zero seen todo = none
  found E (suc n) seen [] = none
  found E (suc n) seen (x ∷ todo) =
      let s : Queue m.Pair = expand x 0 E (record { seen = seen; todo = todo }) in
      cond (m.losing x.pair) (some x.word) (found E n s.seen s.todo)

  -- N pairs in all
  unfoldable pub searched : ℕ → ℕ → Option (List ℕ)
  searched E N = found E N (set (blank N) (m.number m.begin) 1) (record { pair = m.begin; word = [] } ∷ [])
