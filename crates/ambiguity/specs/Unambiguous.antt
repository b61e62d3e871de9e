-- Two occurrences of one name in a set: the test on words, and that it is the paper's test for ambiguity. Assumes nothing.
use Rattle.std.specs.Prelude.{◌≡◌, refl, Bool, true, false, not, ◌&&◌, ◌||◌, List, map, ℕ, zero, suc, ◌+◌, ◌^◌, ◌≤◌, ◌<◌, T, eqb, length, take, get_or}
use Rattle.std.proofs.Common.{sym, ap₂, ◌∙◌, arith, T_not, eqb→eq}
use Rattle.std.proofs.Math.Bool.{and-eq-true_iff}
use Rattle.std.proofs.Math.Decide.{ℕ_discrete}
use Rattle.std.proofs.Math.Dec.{not_T, eqb_refl}
use Rattle.paper.specs.Basics.{most_names, any, all, distinct, from}
use Rattle.paper.specs.Expressions.{Expr, names, count, name_at}
use Rattle.paper.specs.Sets.{Set, bit, first, follow, clash, ambiguous, first_word, follow_word}
use Rattle.paper.specs.Table.{chosen}
use Rattle.paper_laws.specs.Chosen.{distinct_iff}
use Rattle.basic_laws.specs.Bools.{same_test}
use Rattle.basic_laws.specs.Tests.{and_iff, tests}
use Rattle.content_laws.specs.Names.{length_names}
use Rattle.content_laws.specs.Below.{any_iff}
use Rattle.content_laws.specs.Words.{first_word_lem, follow_word_lem}
use Rattle.sets.specs.Chosen.{small}

-- neither the set of firsts nor any follow set holds two occurrences of one name
abbrev pub is_unambiguous : ℕ → List ℕ → List ℕ → Bool
is_unambiguous first names follow = distinct (chosen first names) && all (λ w. distinct (chosen w names)) follow

-- the lists are 64 long, and the first `count` names are below 64
pub record Bounded (count : ℕ) (names follow : List ℕ) : Type 0 where
  pub few : count ≤ most_names
  pub names_long : length names ≡ most_names
  pub follow_long : length follow ≡ most_names
  pub low : small (take count names) ≡ true

-- ---- names that stand twice

-- there are n names, below 64
pub record Low (n : ℕ) (names : List ℕ) : Type 0 where
  pub few : n ≤ most_names
  pub long : n ≤ length names
  pub low : small (take n names) ≡ true

-- r holds each name that stands at two of the first n places
abbrev pub Twice : ℕ → List ℕ → ℕ → Type 0
Twice n names r = (j k : ℕ) → j < k → k < n → get_or names j 0 ≡ get_or names k 0 → bit r (get_or names k 0) ≡ true

-- r is of the first n places, and holds each whose name is in the set
pub record Places (set n : ℕ) (names : List ℕ) (r : ℕ) : Type 0 where
  pub fits : r < 2 ^ n
  pub each : (k : ℕ) → k < n → bit set (get_or names k 0) ≡ true → bit r k ≡ true

-- ---- tests

true_of : (b : Bool) → T b → b ≡ true
true_of true t = refl
true_of false t = elim t [ ]

of_true : {b : Bool} → b ≡ true → T b
of_true e = rw e tt

-- ---- of an expression's own sets

-- the set holds two occurrences of one name
module _ (e : Expr) (S : Set) where
  abbrev Twin : ℕ → ℕ → Type 0
  Twin x y = (x < y) × (y < count e) × T (S x) × T (S y) × (name_at e x ≡ name_at e y)

  clash_to : T (clash e S) → (x : ℕ) × (y : ℕ) × Twin x y
  clash_to t =
      let (y, i, ty) = (any_iff _ (count e)).0 t in
      let (sy, rest) = simp and_iff at ty in
      let (x, j, tx) = (any_iff _ y).0 rest in
      let (sx, c) = simp and_iff at tx in
      (x, y, (j, i, sx, sy, eqb→eq _ _ c))

  clash_of : (x y : ℕ) → Twin x y → T (clash e S)
  clash_of x y (j, i, sx, sy, c) =
      let same : T (eqb (name_at e x) (name_at e y)) = rw c (eqb_refl (name_at e y)) in
      let found = (any_iff (λ x. S x && eqb (name_at e x) (name_at e y)) y).1 (x, j, search tests) in
      (any_iff (λ y. S y && any (λ x. S x && eqb (name_at e x) (name_at e y)) y) (count e)).1 (y, i, search tests)

  pub set_unambiguous : (w : ℕ) → ((k : ℕ) → bit w k ≡ S k) → distinct (chosen w (names e)) ≡ not (clash e S)
  set_unambiguous w same = same_test (distinct (chosen w (names e))) (not (clash e S))
      (λ d. true_of (not (clash e S)) (not_T (clash e S) (λ t.
      let (x, y, h) = clash_to t in
      let (j, i, sx, sy, c) = h in
      (distinct_iff w (names e)).0 d x y j (omega (arith, length_names e)) (same x ∙ true_of (S x) sx) (same y ∙ true_of (S y) sy) c)))
      (λ n. (distinct_iff w (names e)).1 (λ x y j i p q c.
      T_not (clash e S) (of_true n) (clash_of x y (j, omega (arith, length_names e), of_true (sym (same x) ∙ p), of_true (sym (same y) ∙ q), c))))

-- P holds of the words of the n numbers from b on
module _ (P : ℕ → Bool) (f : ℕ → ℕ) where
  all_to : (b n : ℕ) → all P (map f (from b n)) ≡ true → (k : ℕ) → b ≤ k → k < b + n → P (f k) ≡ true
  all_to b zero e k l h = absurd (omega arith)
  all_to b (suc n) e k l h =
      let (p, q) = (and-eq-true_iff (P (f b)) (all P (map f (from (suc b) n)))).0 e in
      elim (ℕ_discrete k b) [ yes c ↦ rw c p | no c ↦ all_to (suc b) n q k (omega arith) (omega arith) ]

  all_of : (b n : ℕ) → ((k : ℕ) → b ≤ k → k < b + n → P (f k) ≡ true) → all P (map f (from b n)) ≡ true
  all_of b zero h = refl
  all_of b (suc n) h = rw (h b (omega arith) (omega arith)) (all_of (suc b) n (λ k l i. h k (omega arith) (omega arith)))

  -- what holds of all fails of none
  all_any : (Q : ℕ → Bool) → ((k : ℕ) → P (f k) ≡ not (Q k)) → (n : ℕ) → all P (map f (from 0 n)) ≡ not (any Q n)
  all_any Q same n = same_test (all P (map f (from 0 n))) (not (any Q n))
      (λ e. true_of (not (any Q n)) (not_T (any Q n) (λ t.
      let (k, i, q) = (any_iff Q n).0 t in
      T_not (Q k) (of_true (sym (same k) ∙ all_to 0 n e k (omega arith) (omega arith))) q)))
      (λ e. all_of 0 n (λ k l i. same k ∙ true_of (not (Q k)) (not_T (Q k) (λ q. T_not (any Q n) (of_true e) ((any_iff Q n).1 (k, omega arith, q))))))

-- The test on an expression's own words and names is the test for ambiguity.
pub unambiguous_iff : (e : Expr) → is_unambiguous (first_word 0 e) (names e) (map (follow_word 0 e) (from 0 (count e))) ≡ not (ambiguous e)
unambiguous_iff e =
    ap₂ ◌&&◌ (set_unambiguous e (first 0 e) (first_word 0 e) (first_word_lem 0 e))
    (all_any (λ w. distinct (chosen w (names e))) (follow_word 0 e) (λ k. clash e (follow 0 e k))
    (λ k. set_unambiguous e (follow 0 e k) (follow_word 0 e k) (follow_word_lem 0 e k)) (count e))
    ∙ neither (clash e (first 0 e)) (any (λ k. clash e (follow 0 e k)) (count e))
  where
    neither : (a b : Bool) → (not a && not b) ≡ not (a || b)
    neither true b = refl
    neither false b = refl
