-- A block of a schema's table: its sets of attributes, and its model, the run of which answers as the expression does. Assumes nothing.
use Rattle.std.specs.Prelude.{◌≡◌, refl, ◌↔◌, Bool, true, false, cond, ◌&&◌, List, [], ◌∷◌, ◌++◌, map, ℕ, zero, suc, ◌+◌, ◌-◌, ◌≤◌, ◌<◌, T, eqb, length, get_or, replicate}
use Rattle.std.proofs.Common.{sym, ap, ap₂, ◌∙◌, subst, inl, inr, arith, not-suc-le-zero, le_of_suc-le-suc, suc-add, add-suc, zero-add, add-zero, get_or-append-add}
use Rattle.std.proofs.Math.Option.{Option, none, some, IsSome}
use Rattle.std.proofs.Math.ListN.{get_or-append}
use Rattle.std.proofs.lemmas.List.{length-map}
use Rattle.paper.specs.Basics.{most_names, some_of, from, pad, find, null}
use Rattle.paper.specs.Expressions.{Expr, names, count, name_at, Ambiguous}
use Rattle.paper.specs.Sets.{nullable, bit, follow_word, ambiguous}
use Rattle.paper.specs.Matching.{matches, begins}
use Rattle.paper.specs.Schema.{Attribute, model}
use Rattle.paper.specs.Table.{count_at, no_child_at, names_at, follow_at, cell, set_of, block_of}
use Rattle.paper.specs.Rules.{State, start, at, set_at, may_end, move, run_from, ended, runs, goes_on}
use Rattle.basic_laws.specs.Bools.{same_test}
use Rattle.basic_laws.specs.Tests.{and_iff, true_iff}
use Rattle.paper_laws.specs.Words.{bit_of_or, bit_one, bit_when, bit_zero}
use Rattle.paper_laws.specs.Basics.{length_pad, length_from, find_same}
use Rattle.content_laws.specs.Names.{length_names}
use Rattle.content_laws.specs.Walk.{next, ends, Of, next_of}
use Rattle.content_laws.specs.Words.{first_word_lem, last_word_lem, follow_word_lem}
use Rattle.content_laws.specs.Below.{find_cases}
use Rattle.content_laws.proofs.Decide.{decides}
use Rattle.content_laws.proofs.Matching.{matches_iff}
use Rattle.content_laws.proofs.Begins.{begins_iff}
use Rattle.content_laws.specs.Run.{choices, step, run, answer, accepts}
use Rattle.content_laws.proofs.Run.{accepts_iff, prefix_iff}

-- ---- sets of attributes

pub set_bit : (P : Attribute → Bool) (l : List Attribute) (a : ℕ) → bit (set_of P l) a ≡ some_of (λ y. P y && eqb a y.number) l
set_bit P [] a = bit_zero a
set_bit P (y ∷ l) a = rw (bit_of_or, bit_when, bit_one, set_bit P l a)

-- ---- a model's block

-- a model that the translator takes
pub record Fine (e : Expr) : Type 0 where
  pub small : count e ≤ most_names
  pub unambiguous : ambiguous e ≡ false

pub not_ambiguous : {e : Expr} → Fine e → ¬ Ambiguous e
not_ambiguous {e} f a = subst T f.unambiguous ((decides e).1 a)

pad_at : (n : ℕ) (l : List ℕ) (k : ℕ) → k < length l → get_or (pad n l) k 0 ≡ get_or l k 0
pad_at n l k h = get_or-append l (replicate (n - length l) 0) 0 k h

from_at : (f : ℕ → ℕ) (b n k : ℕ) → k < n → get_or (map f (from b n)) k 0 ≡ f (b + k)
from_at f b zero k h = absurd (not-suc-le-zero h)
from_at f b (suc n) zero h = ap f (sym (add-zero b))
from_at f b (suc n) (suc k) h = from_at f (suc b) n k (le_of_suc-le-suc h) ∙ ap f (suc-add b k ∙ sym (add-suc b k))

pub ten : (k : ℕ) → names_at + k ≡ suc (suc (suc (suc (suc (suc (suc (suc (suc (suc k)))))))))
ten k = omega arith

module _ (l : List Attribute) (e : Expr) (fine : Fine e) where
  abbrev b : List ℕ
  b = block_of (record { content = model e; attributes = l })

  names_long : length (names e) ≤ most_names
  names_long = let h = fine.small in omega (arith, length_names e)

  name_at_lem : (k : ℕ) → k < count e → cell b (names_at + k) ≡ name_at e k
  name_at_lem k h =
      let i : k < length (names e) = omega (arith, length_names e) in
      ap (cell b) (ten k)
      ∙ get_or-append (pad most_names (names e)) (pad most_names (map (follow_word 0 e) (from 0 (count e)))) 0 k (omega (arith, length_pad most_names (names e) names_long, names_long))
      ∙ pad_at most_names (names e) k i

  follow_at_lem : (k : ℕ) → k < count e → cell b (follow_at + k) ≡ follow_word 0 e k
  follow_at_lem k h =
      let c : follow_at + k ≡ names_at + (most_names + k) = omega arith in
      let p : most_names + k ≡ length (pad most_names (names e)) + k = ap (λ n. n + k) (sym (length_pad most_names (names e) names_long)) in
      let n : length (map (follow_word 0 e) (from 0 (count e))) ≡ count e = length-map (from 0 (count e)) (follow_word 0 e) ∙ length_from 0 (count e) in
      ap (cell b) (c ∙ ten (most_names + k))
      ∙ ap (λ i. get_or (pad most_names (names e) ++ pad most_names (map (follow_word 0 e) (from 0 (count e)))) i 0) p
      ∙ get_or-append-add (pad most_names (names e)) (pad most_names (map (follow_word 0 e) (from 0 (count e)))) k 0
      ∙ pad_at most_names (map (follow_word 0 e) (from 0 (count e))) k (omega arith)
      ∙ from_at (follow_word 0 e) 0 (count e) k h
      ∙ ap (follow_word 0 e) (zero-add k)

  next_bit : (s : State) → Of 0 e s → (k : ℕ) → bit (set_at b s) k ≡ next 0 e s k
  next_bit start i k = first_word_lem 0 e k
  next_bit (at j) i k = ap (λ w. bit w k) (follow_at_lem j (omega arith)) ∙ follow_word_lem 0 e j k

  end_bit : (s : State) → may_end b s ≡ ends 0 e s
  end_bit start = flag (nullable e)
    where
      flag : (c : Bool) → eqb (cond c 1 0) 1 ≡ c
      flag true = refl
      flag false = refl
  end_bit (at k) = last_word_lem 0 e k

  move_step : (s : State) → Of 0 e s → (a : ℕ) → move b s a ≡ step e s a
  move_step s i a = find_same (λ k. bit (set_at b s) k && eqb (cell b (names_at + k)) a) (choices e s a) (count e)
      (λ k h. ap₂ (λ c n. c && eqb n a) (next_bit s i k) (name_at_lem k h))

  run_same : (s : State) → Of 0 e s → (w : List ℕ) → run_from b s w ≡ run e s w
  run_same s i [] = refl
  run_same s i (a ∷ w) = elim (find_cases (choices e s a) (count e)) [
    | inl h ↦
        let (k, c, t) = h in
        let inside = next_of 0 e s k ((and_iff (next 0 e s k) (eqb (name_at e k) a)).0 t).0 in
        rw (move_step s i a, c, run_from, run) (run_same (at k) inside w)
    | inr h ↦ rw (move_step s i a, h.0, run_from, run)
  ]

  ended_same : (o : Option State) → ended b o ≡ answer e o
  ended_same none = refl
  ended_same (some s) = end_bit s

  -- the run of the block is the test of the expression
  pub runs_matches : (w : List ℕ) → runs b w ≡ matches e w
  runs_matches w = ap (ended b) (run_same start tt w) ∙ ended_same (run e start w) ∙ same_test (accepts e w) (matches e w) there back
    where
      there : accepts e w ≡ true → matches e w ≡ true
      there t = (true_iff (matches e w)).1 ((matches_iff e w).1 ((accepts_iff e (not_ambiguous fine) w).0 ((true_iff (accepts e w)).0 t)))

      back : matches e w ≡ true → accepts e w ≡ true
      back t = (true_iff (accepts e w)).1 ((accepts_iff e (not_ambiguous fine) w).1 ((matches_iff e w).0 ((true_iff (matches e w)).0 t)))

  -- and it goes on exactly while a list that the expression describes begins so: each occurrence can be continued to a match
  pub goes_begins : (w : List ℕ) → goes_on (run_from b start w) ≡ begins e w
  goes_begins w = ap goes_on (run_same start tt w) ∙ same_test (goes_on (run e start w)) (begins e w) there back
    where
      on_iff : (o : Option State) → (goes_on o ≡ true) ↔ IsSome o
      on_iff none = (λ t. (true_iff false).0 t, λ t. absurd t)
      on_iff (some s) = (λ t. tt, λ t. refl)

      there : goes_on (run e start w) ≡ true → begins e w ≡ true
      there t = (true_iff (begins e w)).1 ((begins_iff e w).1 ((prefix_iff e (not_ambiguous fine) w).0 ((on_iff (run e start w)).0 t)))

      back : begins e w ≡ true → goes_on (run e start w) ≡ true
      back t = (on_iff (run e start w)).1 ((prefix_iff e (not_ambiguous fine) w).1 ((begins_iff e w).0 ((true_iff (begins e w)).0 t)))

-- a block with no occurrence and no flag takes nothing
pub runs_none : (b : List ℕ) → cell b count_at ≡ 0 → cell b no_child_at ≡ 0 → (w : List ℕ) → runs b w ≡ false
runs_none b c f [] = ap (λ n. eqb n 1) f
runs_none b c f (a ∷ w) =
    let z : move b start a ≡ none = ap (find (λ k. bit (set_at b start) k && eqb (cell b (names_at + k)) a)) c in
    rw (z, run_from)

-- and goes on with nothing
pub goes_none : (b : List ℕ) → cell b count_at ≡ 0 → (w : List ℕ) → goes_on (run_from b start w) ≡ null w
goes_none b c [] = refl
goes_none b c (a ∷ w) =
    let z : move b start a ≡ none = ap (find (λ k. bit (set_at b start) k && eqb (cell b (names_at + k)) a)) c in
    rw (z, run_from)
