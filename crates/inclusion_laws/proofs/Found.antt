-- The search through pairs gives the right answer: what it finds is the shortest lost sequence, of equals the lowest, and if it
-- finds none, nothing is lost. Assumes nothing.
use Rattle.std.specs.Prelude.{◌≡◌, refl, ◌⊎◌, Bool, true, false, cond, ℕ, zero, suc, ◌+◌, ◌*◌, ◌≤◌, ◌<◌, length, set}
use Rattle.std.proofs.Common.{sym, ◌∙◌, ap, inl, inr, arith, mul-le-mul_right, length-set, get_or-set_other}
use Rattle.std.proofs.Math.Option.{Option, none, some}
use mathlib.Core.List.{List, [], ◌∷◌}
use Rattle.std.proofs.Math.Decide.{dec_lt, ℕ_discrete}
use Rattle.std.proofs.lemmas.List.{length-replicate}
use Rattle.basic_laws.specs.Bools.{clash}
use Rattle.inclusion_laws.specs.Order.{Below, rank, longer_above, rank_lowest}
use Rattle.inclusion_laws.specs.Words.{Shortest, Answer}
use Rattle.inclusion_laws.specs.Members.{Member, blank, blank_at, left_all, left_set}
use Rattle.inclusion_laws.specs.Search.{Machine, Entry, Queue, onward, reach, loses, loses_by, expand, found, searched}
use Rattle.inclusion_laws.specs.Invariant.{Sound, place, Has, Closed, rising_low}
use Rattle.inclusion_laws.specs.Turns.{Standing}
use Rattle.inclusion_laws.proofs.Turns.{turned}

module _ (m : Machine) (E N : ℕ) (f : Sound m E N) where
  abbrev At : Type 0
  At = Entry m.Pair

  -- ---- a lost sequence has names below E

  reach_none : (w : List ℕ) → reach m none w ≡ none
  reach_none [] = refl
  reach_none (a ∷ w) = reach_none w

  pub lost_below : (w : List ℕ) (p : m.Pair) → loses m (reach m (some p) w) ≡ true → Below E w
  lost_below [] p t = tt
  lost_below (a ∷ w) p t = go (m.step p a) refl t (λ q. lost_below w q)
    where
      go : (o : Option m.Pair) → m.step p a ≡ o → loses m (reach m o w) ≡ true
          → ((q : m.Pair) → loses m (reach m (some q) w) ≡ true → Below E w) → (a < E) × Below E w
      go none e t h = clash t (ap (loses m) (reach_none w))
      go (some q) e t h = (f.low p q a e, h q t)

  -- ---- every lost sequence comes at lo or later, where lo is before all that is still to be done

  module _ (done todo : List At) (lo : ℕ) (above : (y : At) → Member y todo → lo ≤ place E y)
      (closed : (y : At) → Member y done → Closed m E done todo E y) where
    -- a sequence of the place r leads to o: it comes at lo or later, or that pair was done, by an earlier sequence or this one
    abbrev Near : ℕ → Option m.Pair → Type 0
    Near r none = Unit {0}
    Near r (some q) = (lo ≤ r) ⊎ ((y : At) × Member y done × (y.pair ≡ q) × (place E y ≤ r))

    near_has : (r : ℕ) (q : m.Pair) → Has E done todo q r → Near r (some q)
    near_has r q (z, inl j, k, l) = inr (z, j, k, l)
    near_has r q (z, inr j, k, l) = let i = above z j in inl (omega arith)

    near_next : (r a : ℕ) (q : m.Pair) → Near r (some q) → (o : Option m.Pair) → m.step q a ≡ o → Near (r * E + suc a) o
    near_next r a q n none e = tt
    near_next r a q (inl h) (some p) e = let l = mul-le-mul_right r f.some_names in inl (omega arith)
    near_next r a q (inr (y, i, c, h)) (some p) e =
        let (z, j, k, l) = closed y i a p (f.low q p a e) (rw c e) in
        let s = mul-le-mul_right E h in
        near_has (r * E + suc a) p (z, j, k, omega arith)

    near_step : (r a : ℕ) (o : Option m.Pair) → Near r o → Near (r * E + suc a) (onward m o a)
    near_step r a none n = tt
    near_step r a (some q) n = near_next r a q n (m.step q a) refl

    near_all : (w : List ℕ) (r : ℕ) (o : Option m.Pair) → Near r o → Near (rank E r w) (reach m o w)
    near_all [] r o n = n
    near_all (a ∷ w) r o n = near_all w (r * E + suc a) (onward m o a) (near_step r a o n)

    lost_later : Has E done todo m.begin 0 → ((y : At) → Member y done → m.losing y.pair ≡ false)
        → (v : List ℕ) → loses_by m v ≡ true → lo ≤ rank E 0 v
    lost_later b safe v t = go (reach m (some m.begin) v) t (near_all v 0 (some m.begin) (near_has 0 m.begin b))
      where
        go : (o : Option m.Pair) → loses m o ≡ true → Near (rank E 0 v) o → lo ≤ rank E 0 v
        go none t n = clash t refl
        go (some q) t (inl h) = h
        go (some q) t (inr (y, i, c, h)) = clash t (rw (← c) (safe y i))

  -- ---- the answers

  abbrev Stands : List At → List ℕ → List At → ℕ → Type 0
  Stands done seen todo lo = Standing m E N f done (record { seen = seen; todo = todo }) lo

  pub nothing_lost : (done : List At) (seen : List ℕ) (lo : ℕ) → Stands done seen [] lo → (v : List ℕ) → loses_by m v ≡ true → ⊥
  nothing_lost done seen lo g v t =
      let h = lost_later done [] (suc (rank E 0 v)) (λ y i. absurd i) g.closed g.base.begun g.base.safe v t in
      omega arith

  pub first_lost : (x : At) (done : List At) (seen : List ℕ) (todo : List At) (lo : ℕ) → Stands done seen (x ∷ todo) lo
      → m.losing x.pair ≡ true → Shortest (loses_by m) x.word
  first_lost x done seen todo lo g t =
      let (l, r) = g.base.rising in
      let first : (y : At) → Member y (x ∷ todo) → place E x ≤ place E y =
      λ y. elim [ inl e ↦ rw e (omega arith) | inr i ↦ let k = rising_low E todo (suc (place E x)) (lo * E + 1) y r i in omega arith ] in
      let later : (v : List ℕ) → loses_by m v ≡ true → place E x ≤ rank E 0 v =
      lost_later done (x ∷ todo) (place E x) first g.closed g.base.begun g.base.safe in
      record {
        is_one = ap (loses m) (g.base.right x (inl refl)) ∙ t;
        shortest = λ v u. elim (dec_lt (length v) (length x.word)) [
          | yes i ↦ let k = longer_above x.word v E 0 0 f.some_names (lost_below v m.begin u) i (omega arith) in let h = later v u in absurd (omega arith)
          | no i ↦ omega arith
        ];
        lowest = λ v u e. rank_lowest x.word v E 0 (lost_below v m.begin u) e (later v u);
      }

  found_right : (n : ℕ) (done : List At) (seen : List ℕ) (todo : List At) (lo : ℕ) → Stands done seen todo lo → length done + n ≡ N
      → Answer N (loses_by m) (found m E n seen todo)
  found_right zero done seen [] lo g e = nothing_lost done seen lo g
  found_right zero done seen (x ∷ todo) lo g e = let r = g.base.room in absurd (omega arith)
  found_right (suc n) done seen [] lo g e = nothing_lost done seen lo g
  found_right (suc n) done seen (x ∷ todo) lo g e =
      let s : Queue m.Pair = expand m x 0 E (record { seen = seen; todo = todo }) in
      go (found m E n s.seen s.todo) (m.losing x.pair) refl
      (λ ok. found_right n (x ∷ done) s.seen s.todo (suc (place E x)) (turned m E N f x done seen todo lo g ok) (omega arith))
    where
      go : (o : Option (List ℕ)) (c : Bool) → m.losing x.pair ≡ c → (m.losing x.pair ≡ false → Answer N (loses_by m) o)
          → Answer N (loses_by m) (cond c (some x.word) o)
      go o true t h = (first_lost x done seen todo lo g t, let k = g.base.short x (inl refl) in omega arith)
      go o false t h = h t

  -- ---- from the first pair on

  abbrev pub origin : At
  origin = record { pair = m.begin; word = [] }

  abbrev pub one_mark : List ℕ
  one_mark = set (blank N) (m.number m.begin) 1

  pub begins_at : Stands [] one_mark (origin ∷ []) 0
  begins_at =
      let i : m.number m.begin < length (blank N) = let k = f.few m.begin f.begins in rw length-replicate (omega arith) in
      let l = left_set (blank N) (m.number m.begin) i (blank_at N (m.number m.begin)) in
      record {
        base = record {
          marked = λ k. elim (ℕ_discrete k (m.number m.begin)) [
            | yes c ↦ inr (origin, inr (inl refl), sym c)
            | no c ↦ inl (get_or-set_other (blank N) (m.number m.begin) k 1 0 c ∙ blank_at N k)
          ];
          fits = λ y. elim [ inl i ↦ absurd i | inr (inl e) ↦ rw e f.begins | inr (inr i) ↦ absurd i ];
          earlier = λ y i. absurd i;
          rising = (omega arith, omega arith);
          right = λ y. elim [ inl e ↦ rw e | inr i ↦ absurd i ];
          safe = λ y i. absurd i;
          begun = (origin, inr (inl refl), refl, omega arith);
          short = λ y. elim [ inl e ↦ rw e (omega arith) | inr i ↦ absurd i ];
          size = length-set (blank N) (m.number m.begin) 1 ∙ length-replicate N 0;
          room = omega (arith, left_all N);
        };
        closed = λ y i. absurd i;
      }

  -- the search through pairs gives the right answer
  pub searched_right : Answer N (loses_by m) (searched m E N)
  unfolding searched
  searched_right = found_right N [] one_mark (origin ∷ []) 0 begins_at (omega arith)
