-- What holds between two turns of the search, and while names are tried from a pair. Assumes nothing.
use Rattle.std.specs.Prelude.{◌≡◌, List, ◌∷◌, ℕ, suc, ◌+◌, ◌*◌, ◌≤◌, length}
use Rattle.std.proofs.Math.Option.{some}
use Rattle.inclusion_laws.specs.Members.{Member}
use Rattle.inclusion_laws.specs.Search.{Machine, Entry, Queue, reach}
use Rattle.inclusion_laws.specs.Invariant.{Sound, place, Closed, Searching}

-- names below a were tried from x
pub record Expanding (m : Machine) (E N : ℕ) (f : Sound m E N) (x : Entry m.Pair) (done : List (Entry m.Pair)) (s : Queue m.Pair) (a : ℕ) : Type 0 where
  pub base : Searching m E N f (x ∷ done) s (suc (place E x)) (place E x * E + suc a)
  pub reached : reach m (some m.begin) x.word ≡ some x.pair
  pub few : length x.word ≤ length done
  pub closed : (y : Entry m.Pair) → Member y done → Closed m E (x ∷ done) s.todo E y
  pub closing : Closed m E (x ∷ done) s.todo a x

module _ (m : Machine) (E N : ℕ) (f : Sound m E N) where
  abbrev At : Type 0
  At = Entry m.Pair

  -- the search stands, and where names lead from what is done was met
  pub record Standing (done : List At) (s : Queue m.Pair) (lo : ℕ) : Type 0 where
    pub base : Searching m E N f done s lo (lo * E + 1)
    pub closed : (y : At) → Member y done → Closed m E done s.todo E y
