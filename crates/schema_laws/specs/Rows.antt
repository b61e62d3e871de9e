-- Readers of numbers, and of several things in a row, take exactly what is written. Assumes nothing.
use Rattle.std.specs.Prelude.{◌≡◌, refl, Bool, true, false, cond, ◌&&◌, List, [], ◌∷◌, map, ℕ, zero, suc, ◌+◌, ◌≤◌, ◌<◌, leb, length}
use Rattle.std.proofs.Common.{ap, ◌∙◌, arith, leb-true}
use Rattle.std.proofs.Math.Bool.{and-eq-true_iff}
use Rattle.std.proofs.Math.Dec.{leb-zero}
use Rattle.paper.specs.Basics.{between, all, concat}
use Rattle.paper.specs.Files.{largest, Front, broken, got, front}
use Rattle.paper.specs.Schema.{stop, ok, Reader, pure, onward, valued, number, numbers}
use Rattle.numbers.specs.Laws.{bytes, front_bytes, bytes_front}
use Rattle.schema_laws.specs.Written.{ahead, ahead_join, Ends, took, failed, Exact, Nowhere, then_takes, then_stops, then_ends, same, reworded}

-- ---- numbers

pub in_range : (lo hi n : ℕ) → between lo hi n ≡ true → (lo ≤ n) × (n ≤ hi)
in_range lo hi n p = let (a, b) = (and-eq-true_iff (leb lo n) (leb n hi)).0 p in (leb-true lo n a, leb-true n hi b)

pub number_exact : (lo hi : ℕ) → hi ≤ largest → Exact (number lo hi) (λ n. between lo hi n ≡ true) (λ n. n ∷ []) Nowhere
unfolding number
number_exact lo hi h = record {
  takes = λ n r p. let (a, b) = in_range lo hi n p in rw (front_bytes n r (omega arith), p);
  stops = λ s z. absurd z;
  ends = λ s b. go s b (front s) refl;
}
  where
    go : (s : List ℕ) → bytes s ≡ true → (x : Front) → front s ≡ x → Ends (λ n. between lo hi n ≡ true) (λ n. n ∷ []) Nowhere s (valued lo hi x)
    go s b broken p = failed 1 (λ z. omega arith)
    go s b (got n r) p = by (between lo hi n) refl
      where
        by : (c : Bool) → between lo hi n ≡ c → Ends (λ n. between lo hi n ≡ true) (λ n. n ∷ []) Nowhere s (cond c (ok n r) (stop 2))
        by true q = took n r (bytes_front n r s b p) q
        by false q = failed 2 (λ z. omega arith)

-- a number from 0 on
pub upto_exact : (hi : ℕ) → hi ≤ largest → Exact (number 0 hi) (λ n. leb n hi ≡ true) (λ n. n ∷ []) Nowhere
upto_exact hi h = reworded (number_exact 0 hi h) (λ n. refl) (λ n. rw (leb-zero n) same) (λ s. same)

-- ---- several in a row

-- P holds of each in the list, by the number k that each before it moved on by f
module _ {A : Type 0} (P : ℕ → A → Bool) (f : A → ℕ) where
  abbrev pub all_from : ℕ → List A → Bool
  all_from k [] = true
  all_from k (a ∷ l) = P k a && all_from (k + f a) l

-- Where n in a row stop with 3: fewer than n stand in front, in form, and then what stops the reader of one.
pub record Amid {A : Type 0} (P : ℕ → A → Bool) (f : A → ℕ) (k : ℕ) (w : A → List ℕ) (X : List ℕ → Type 0) (n : ℕ) (s : List ℕ) : Type 0 where
  pub before : List A
  pub rest : List ℕ
  pub few : length before < n
  pub good : all_from P f k before ≡ true
  pub here : X rest
  pub begins : s ≡ ahead (concat (map w before)) rest

module _ {A : Type 0} {m : ℕ → Reader A} {P : ℕ → A → Bool} (f : A → ℕ) {w : A → List ℕ} {X : List ℕ → Type 0}
    (x : (k : ℕ) → Exact (m k) (λ a. P k a ≡ true) w X)
    (ms : ℕ → ℕ → Reader (List A)) (end : (k : ℕ) (s : List ℕ) → ms zero k s ≡ ok [] s)
    (next : (n k : ℕ) (s : List ℕ) → ms (suc n) k s ≡ onward (m k s) (λ a t. onward (ms n (k + f a) t) (λ l. pure (a ∷ l)))) where
  abbrev Run : ℕ → ℕ → Type 0
  Run n k = Exact (ms n k) (λ l. (length l ≡ n) × (all_from P f k l ≡ true)) (λ l. concat (map w l)) (Amid P f k w X n)

  run_none : (k : ℕ) → Run zero k
  run_none k = record { takes = takes; stops = λ s q. let few = q.few in absurd (omega arith); ends = λ s b. rw (end k s) (took [] s refl (refl, refl)) }
    where
      takes : (l : List A) (r : List ℕ) → (length l ≡ zero) × (all_from P f k l ≡ true) → ms zero k (ahead (concat (map w l)) r) ≡ ok l r
      takes [] r p = end k r
      takes (a ∷ l) r p = let d = p.0 in absurd (omega arith)

  run_more : (n : ℕ) → ((k : ℕ) → Run n k) → (k : ℕ) → Run (suc n) k
  run_more n y k = record {
    takes = takes;
    stops = λ s q. rw q.begins (stops q.before q.rest q.few q.good q.here);
    ends = λ s b.
        rw (next n k s)
        (then_ends (x k) _ s b (λ here. record { before = []; rest = s; few = omega arith; good = refl; here = here; begins = refl }) λ a t p one c.
        then_ends (y (k + f a)) _ t c (λ q. one_more s a t p one q) λ l r q good d.
        took (a ∷ l) r (rw ahead_join (cc)) (ap suc good.0, rw one good.1));
  }
    where
      takes : (l : List A) (r : List ℕ) → (length l ≡ suc n) × (all_from P f k l ≡ true) → ms (suc n) k (ahead (concat (map w l)) r) ≡ ok l r
      takes [] r p = let d = p.0 in absurd (omega arith)
      takes (a ∷ l) r p =
          let (one, others) = (and-eq-true_iff (P k a) (all_from P f (k + f a) l)).0 p.1 in
          let d = p.0 in
          rw (ahead_join (w a) (concat (map w l)) r) (next n k _ ∙ then_takes (x k) _ a _ one ∙ then_takes (y (k + f a)) _ l r (omega arith, others))

      stops : (before : List A) (rest : List ℕ) → length before < suc n → all_from P f k before ≡ true → X rest
          → ms (suc n) k (ahead (concat (map w before)) rest) ≡ stop 3
      stops [] rest few good here = next n k rest ∙ then_stops (x k) _ rest here
      stops (a ∷ before) rest few good here =
          let (one, others) = (and-eq-true_iff (P k a) (all_from P f (k + f a) before)).0 good in
          rw (ahead_join (w a) (concat (map w before)) rest)
          (next n k _ ∙ then_takes (x k) _ a _ one
          ∙ then_stops (y (k + f a)) _ _ (record { before = before; rest = rest; few = omega arith; good = others; here = here; begins = refl }))

      one_more : (s : List ℕ) (a : A) (t : List ℕ) → s ≡ ahead (w a) t → P k a ≡ true → Amid P f (k + f a) w X n t → Amid P f k w X (suc n) s
      one_more s a t p one q = record {
        before = a ∷ q.before;
        rest = q.rest;
        few = let few = q.few in omega arith;
        good = rw one q.good;
        here = q.here;
        begins = rw ahead_join (p ∙ ap (ahead (w a)) q.begins);
      }

  pub run_exact : (n k : ℕ) → Run n k
  run_exact zero k = run_none k
  run_exact (suc n) k = run_more n (run_exact n) k

-- numbers are written as they are
single : (l : List ℕ) → concat (map (λ n. n ∷ []) l) ≡ l
single [] = refl
single (n ∷ l) = ap (λ t. n ∷ t) (single l)

-- a test that goes by no number before
plain : {A : Type 0} (P : A → Bool) (k : ℕ) (l : List A) → all_from (λ k. P) (λ a. 0) k l ≡ all P l
plain P k [] = refl
plain P k (a ∷ l) = ap (λ b. P a && b) (plain P (k + 0) l)

pub numbers_exact : (lo hi : ℕ) → hi ≤ largest → (n : ℕ)
    → Exact (numbers n lo hi) (λ l. (length l ≡ n) × (all (between lo hi) l ≡ true)) (λ l. l) Nowhere
numbers_exact lo hi h n =
    reworded (run_exact {P = λ k. between lo hi} (λ a. 0) (λ k. number_exact lo hi h) (λ n k. numbers n lo hi) (λ k s. refl) (λ n k s. refl) n 0)
    single (λ l. rw (plain (between lo hi) 0 l) same) (λ s. (λ q. q.here, λ z. absurd z))
