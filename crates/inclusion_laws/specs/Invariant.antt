-- What holds while the search goes on. Assumes nothing.
use Rattle.std.specs.Prelude.{◌≡◌, refl, ◌⊎◌, false, List, [], ◌∷◌, ◌++◌, ℕ, suc, ◌+◌, ◌*◌, ◌≤◌, ◌<◌, length, get_or}
use Rattle.std.proofs.Common.{inl, inr, arith}
use Rattle.std.proofs.Math.Option.{Option, some}
use Rattle.inclusion_laws.specs.Order.{rank}
use Rattle.inclusion_laws.specs.Members.{Member, left}
use Rattle.inclusion_laws.specs.Search.{Machine, Entry, Queue, onward, reach}

-- what the search asks of a machine: names are below E, the pairs that can be met have numbers below N, each its own
pub record Sound (m : Machine) (E N : ℕ) : Type 1 where
  pub some_names : 1 ≤ E
  pub Good : m.Pair → Type 0
  pub begins : Good m.begin
  pub goes : (p q : m.Pair) (a : ℕ) → Good p → m.step p a ≡ some q → Good q
  pub low : (p q : m.Pair) (a : ℕ) → m.step p a ≡ some q → a < E
  pub few : (p : m.Pair) → Good p → m.number p < N
  pub own : (p q : m.Pair) → Good p → Good q → m.number p ≡ m.number q → p ≡ q

pub reach_snoc : (m : Machine) (w : List ℕ) (o : Option m.Pair) (a : ℕ) → reach m o (w ++ a ∷ []) ≡ onward m (reach m o w) a
reach_snoc m [] o a = refl
reach_snoc m (b ∷ w) o a = reach_snoc m w (onward m o b) a

-- the number of an entry's word in the order of all
abbrev pub place : {P : Type 0} → ℕ → Entry P → ℕ
place E y = rank E 0 y.word

-- the places rise strictly from lo on, and stay below hi
abbrev pub Rising : {P : Type 0} → ℕ → ℕ → ℕ → List (Entry P) → Type 0
Rising E lo hi [] = lo ≤ hi
Rising E lo hi (y ∷ l) = (lo ≤ place E y) × Rising E (suc (place E y)) hi l

module _ {P : Type 0} (E : ℕ) where
  pub rising_weak : (l : List (Entry P)) (lo hi c : ℕ) → Rising E lo hi l → hi ≤ c → Rising E lo c l
  rising_weak [] lo hi c r h = omega arith
  rising_weak (y ∷ l) lo hi c (i, r) h = (i, rising_weak l (suc (place E y)) hi c r h)

  pub rising_snoc : (l : List (Entry P)) (x : Entry P) (lo hi : ℕ) → Rising E lo hi l → hi ≤ place E x → Rising E lo (suc (place E x)) (l ++ x ∷ [])
  rising_snoc [] x lo hi r h = (omega arith, omega arith)
  rising_snoc (y ∷ l) x lo hi (i, r) h = (i, rising_snoc l x (suc (place E y)) hi r h)

  -- all are from lo on, and below hi
  pub rising_all : (l : List (Entry P)) (lo hi : ℕ) → Rising E lo hi l → lo ≤ hi
  rising_all [] lo hi r = r
  rising_all (y ∷ l) lo hi (i, r) = let k = rising_all l (suc (place E y)) hi r in omega arith

  pub rising_low : (l : List (Entry P)) (lo hi : ℕ) (y : Entry P) → Rising E lo hi l → Member y l → lo ≤ place E y
  rising_low [] lo hi y _ x3 = elim x3 [ ]
  rising_low (x ∷ l) lo hi y (i, r) (inl e) = rw e i
  rising_low (x ∷ l) lo hi y (i, r) (inr j) = let k = rising_low l (suc (place E x)) hi y r j in omega arith

  pub rising_high : (l : List (Entry P)) (lo hi : ℕ) (y : Entry P) → Rising E lo hi l → Member y l → place E y < hi
  rising_high [] lo hi y _ x3 = elim x3 [ ]
  rising_high (x ∷ l) lo hi y (i, r) (inl e) = rw e (rising_all l (suc (place E x)) hi r)
  rising_high (x ∷ l) lo hi y (i, r) (inr j) = rising_high l (suc (place E x)) hi y r j

-- one of those whose names were tried, or of those whose were not
abbrev pub Met : {P : Type 0} → List (Entry P) → List (Entry P) → Entry P → Type 0
Met done todo y = Member y done ⊎ Member y todo

-- the pair q was met, by a word of a place up to c
abbrev pub Has : {P : Type 0} → ℕ → List (Entry P) → List (Entry P) → P → ℕ → Type 0
Has {P} E done todo q c = (y : Entry P) × Met done todo y × (y.pair ≡ q) × (place E y ≤ c)

-- where the names below c lead from y was met, in time
abbrev pub Closed : (m : Machine) → ℕ → List (Entry m.Pair) → List (Entry m.Pair) → ℕ → Entry m.Pair → Type 0
Closed m E done todo c y = (a : ℕ) (q : m.Pair) → a < c → m.step y.pair a ≡ some q → Has E done todo q (place E y * E + suc a)

-- the search stands with `done` behind it; what is to be done has places from lo on, below hi
pub record Searching (m : Machine) (E N : ℕ) (f : Sound m E N) (done : List (Entry m.Pair)) (s : Queue m.Pair) (lo hi : ℕ) : Type 0 where
  -- a mark is that of an entry, and the pairs met are good ones
  pub marked : (k : ℕ) → (get_or s.seen k 0 ≡ 0) ⊎ ((y : Entry m.Pair) × Met done s.todo y × (m.number y.pair ≡ k))
  pub fits : (y : Entry m.Pair) → Met done s.todo y → f.Good y.pair
  -- what is done has places before lo, what is to be done rises from lo on, and its words lead to its pairs
  pub earlier : (y : Entry m.Pair) → Member y done → place E y < lo
  pub rising : Rising E lo hi s.todo
  pub right : (y : Entry m.Pair) → Member y s.todo → reach m (some m.begin) y.word ≡ some y.pair
  -- nothing done loses what led to it
  pub safe : (y : Entry m.Pair) → Member y done → m.losing y.pair ≡ false
  -- the first pair was met by the empty word, and no word is longer than the turns made
  pub begun : Has E done s.todo m.begin 0
  pub short : (y : Entry m.Pair) → Member y s.todo → length y.word ≤ length done
  -- each entry took one of N places
  pub size : length s.seen ≡ N
  pub room : left s.seen + (length done + length s.todo) ≡ N
