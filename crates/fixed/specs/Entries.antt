-- All entries of fixed attributes, one after another, and their count. Assumes nothing.
use Rattle.std.specs.Prelude.{◌≡◌, refl, Bool, false, not, ◌&&◌, ◌||◌, List, ℕ, suc, ◌+◌, ◌-◌, ◌*◌, ◌≤◌, ◌<◌, ltb, eqb, length, take}
use Rattle.std.proofs.Math.Path.{sym, ap}
use Rattle.std.proofs.Common.{◌∙◌, add-one, length-drop, take_all}
use Rattle.std.proofs.Math.Bool.{true, and-false, and-true}
use native.Mathlib.Omega.{arith}
use borrow.Author.Tests.{le-leb, lt-leb, not-true, not-false}
use Rattle.std.proofs.Math.Dec.{leb}
use Rattle.std.proofs.Math.ListN.{drop, get_or}
use Rattle.std.proofs.Math.Seq.{drop-drop}
use Rattle.paper.specs.Basics.{most_fixed, all}
use Rattle.paper.specs.Table.{table_length, fixed_at, Entry, entry_length, fixed_part, entries_in, entries, zeros, rising_from, proper_entry, proper_fixed}
use Rattle.entries.specs.Held.{entry_of}
use Rattle.fixed.specs.Places.{entry_at, entries_at, entry_next, count_at, same_entries}
use Rattle.fixed.specs.Entry.{Next}

-- entries rise, and each is proper
abbrev good_from : List ℕ → (e low : ℕ) → List Entry → Bool
good_from t e low l = rising_from e low l && all (proper_entry t) l

unfoldable pub entries_good : List ℕ → List Entry → Bool
entries_good t l = good_from t 0 0 l

-- ---- one after another

-- what the entries from i on must show, behind element e and with attributes from `low` on, is what all must
pub record Testing (t : List ℕ) (n e low i : ℕ) : Type 0 where
  pub few : i ≤ n
  pub left : entries_good t (entries_at t n) ≡ good_from t e low (entries_in (n - i) (drop (entry_at i) t))

pub testing_none : (t : List ℕ) (n : ℕ) → Testing t n 0 0 0
unfolding entries_good entries_at
testing_none t n = let z : n - 0 ≡ n = omega arith in record { few = omega arith; left = rw z }

module _ {t : List ℕ} {n e low i : ℕ} (c : Testing t n e low i) where
  pub testing_all : n ≤ i → true ≡ entries_good t (entries_at t n)
  testing_all h = let z : n - i ≡ 0 = omega arith in sym (c.left ∙ rw z)

  module _ (h : i < n) where
    abbrev x : ℕ
    x = get_or t (entry_at i) 0

    abbrev a : ℕ
    a = get_or t (entry_at i + 1) 0

    abbrev v : ℕ
    v = get_or t (entry_at i + 2) 0

    abbrev rest : List Entry
    rest = entries_in (n - (i + 1)) (drop (entry_at (i + 1)) t)

    whole : entries_good t (entries_at t n)
        ≡ ((ltb e x || (eqb e x && leb low a)) && proper_entry t (entry_of x a v)) && (rising_from x (suc a) rest && all (proper_entry t) rest)
    whole =
        c.left ∙ ap (good_from t e low) (entry_next t n i h refl refl refl)
        ∙ crossed (ltb e x || (eqb e x && leb low a)) (rising_from x (suc a) rest) (proper_entry t (entry_of x a v)) (all (proper_entry t) rest)
      where
        crossed : (p q r s : Bool) → (p && q) && (r && s) ≡ (p && r) && (q && s)
        crossed true q true s = refl
        crossed true true false s = refl
        crossed true false false s = refl
        crossed false q r s = refl

    module _ {q : Bool} (eq : Next t e low x a v q) where
      pub not_next : not q ≡ true → false ≡ entries_good t (entries_at t n)
      not_next k = sym (whole ∙ ap (λ b. b && (rising_from x (suc a) rest && all (proper_entry t) rest)) (sym eq.answer ∙ not-true q k))

      pub testing_more : not q ≡ false → Testing t n x (a + 1) (i + 1)
      testing_more k = record {
        few = omega arith;
        left = rw (add-one a) (whole ∙ ap (λ b. b && (rising_from x (suc a) rest && all (proper_entry t) rest)) (sym eq.answer ∙ not-false q k));
      }

-- ---- the whole

module _ (t : List ℕ) where
  abbrev f : List ℕ
  f = fixed_part t

  same_rest : (n : ℕ) → n ≡ get_or t fixed_at 0 → drop (1 + get_or f 0 0 * entry_length) f ≡ drop (entry_at n) t
  unfolding fixed_part
  same_rest n e =
      let z : fixed_at + (1 + n * entry_length) ≡ entry_at n = omega arith in
      ap (λ k. drop (1 + k * entry_length) f) (count_at t ∙ sym e) ∙ drop-drop (1 + n * entry_length) fixed_at t ∙ ap (λ k. drop k t) z

  pub too_many : most_fixed < get_or t fixed_at 0 → false ≡ proper_fixed t (fixed_part t)
  unfolding proper_fixed
  too_many h = sym (rw (count_at t, lt-leb (get_or t fixed_at 0) most_fixed h))

  module _ (long : length t ≡ table_length) (few : get_or t fixed_at 0 ≤ most_fixed) {r : Bool}
      (rest : r ≡ zeros (take (length t - entry_at (get_or t fixed_at 0)) (drop (entry_at (get_or t fixed_at 0)) t))) where
    rest_is : r ≡ zeros (drop (1 + get_or f 0 0 * entry_length) f)
    rest_is =
        rest ∙ ap zeros (take_all (length t - entry_at (get_or t fixed_at 0)) (drop (entry_at (get_or t fixed_at 0)) t) (simp length-drop (omega arith))
        ∙ sym (same_rest (get_or t fixed_at 0) refl))

    pub rest_not : not r ≡ true → false ≡ proper_fixed t (fixed_part t)
    unfolding proper_fixed
    rest_not n = sym (ap (λ b. leb (get_or f 0 0) most_fixed && rising_from 0 0 (entries f) && all (proper_entry t) (entries f) && b) (sym rest_is ∙ not-true r n)
        ∙ and-false (leb (get_or f 0 0) most_fixed && rising_from 0 0 (entries f) && all (proper_entry t) (entries f)))

    pub fixed_test : {b : Bool} → not r ≡ false → b ≡ entries_good t (entries_at t (get_or t fixed_at 0)) → b ≡ proper_fixed t (fixed_part t)
    unfolding proper_fixed entries_good
    fixed_test {b} n e =
        e ∙ ap (λ l. rising_from 0 0 l && all (proper_entry t) l) (sym (same_entries t (get_or t fixed_at 0) refl))
        ∙ joined (leb (get_or f 0 0) most_fixed) (rising_from 0 0 (entries f)) (all (proper_entry t) (entries f)) (zeros (drop (1 + get_or f 0 0 * entry_length) f))
        (ap (λ k. leb k most_fixed) (count_at t) ∙ le-leb (get_or t fixed_at 0) most_fixed few) (sym rest_is ∙ not-false r n)
      where
        joined : (a p q z : Bool) → a ≡ true → z ≡ true → p && q ≡ a && p && q && z
        joined a p q z x y = rw (x, y) (sym (and-true (p && q)))
