-- The value to which an attribute is fixed, looked for among the entries. Assumes nothing.
use Rattle.std.specs.Prelude.{◌≡◌, refl, Option as Answered, Some, None, true, false, ◌&&◌, List, ℕ, ◌+◌, ◌-◌, ◌*◌, ◌≤◌, ◌<◌, leb, eqb, length, drop}
use Rattle.std.proofs.Common.{sym, ap, ◌∙◌, leb-true}
use Rattle.std.proofs.Math.Bool.{and-eq-true_iff}
use Rattle.std.proofs.Math.Option.{Option, none, some}
use native.Mathlib.Omega.{arith}
use Rattle.std.proofs.Math.ListN.{get_or}
use Rattle.paper.specs.Basics.{most_fixed, all}
use Rattle.paper.specs.Table.{table_length, fixed_at, fixed_part, entries_in, entries, rising_from, proper_entry, proper_fixed, zeros, entry_length, proper}
use Rattle.paper.specs.Rules.{fixed_by}
use Rattle.table_laws.specs.Parts.{table_parts}
use Rattle.fixed.specs.Places.{entry_at, entries_at, entry_next, count_at, same_entries}

-- the value that the code answers, as the definitions have it
abbrev pub value_of : Answered ℕ → Option ℕ
value_of None = none
value_of (Some v) = some v

-- a proper table has its length and few entries
few_fixed : (t f : List ℕ) → proper_fixed t f ≡ true → get_or f 0 0 ≤ most_fixed
unfolding proper_fixed
few_fixed t f p =
    let (q, r) = (and-eq-true_iff (leb (get_or f 0 0) most_fixed && rising_from 0 0 (entries f) && all (proper_entry t) (entries f)) (zeros (drop (1 + get_or f 0 0 * entry_length) f))).0 p in
    let (s, u) = (and-eq-true_iff (leb (get_or f 0 0) most_fixed && rising_from 0 0 (entries f)) (all (proper_entry t) (entries f))).0 q in
    leb-true (get_or f 0 0) most_fixed ((and-eq-true_iff (leb (get_or f 0 0) most_fixed) (rising_from 0 0 (entries f))).0 s).0

pub count_in : (t : List ℕ) → proper t ≡ true → fixed_at < length t
count_in t p = omega (arith, table_parts t p)

-- the entries from i on are what is left to look through
pub record Looking (t : List ℕ) (n e a i : ℕ) : Type 0 where
  pub long : length t ≡ table_length
  pub small : n ≤ most_fixed
  pub few : i ≤ n
  pub left : fixed_by (entries (fixed_part t)) e a ≡ fixed_by (entries_in (n - i) (drop (entry_at i) t)) e a

module _ (t : List ℕ) (e a : ℕ) where
  pub looking_none : proper t ≡ true → Looking t (get_or t fixed_at 0) e a 0
  unfolding entries_at
  looking_none p =
      let q = table_parts t p in
      let z : get_or t fixed_at 0 - 0 ≡ get_or t fixed_at 0 = omega arith in
      record {
        long = q.long;
        small = omega (arith, few_fixed t (fixed_part t) q.fixed, count_at t);
        few = omega arith;
        left = rw z (ap (λ l. fixed_by l e a) (same_entries t (get_or t fixed_at 0) refl));
      }

  module _ {n i : ℕ} (c : Looking t n e a i) where
    pub looking_all : n ≤ i → none ≡ fixed_by (entries (fixed_part t)) e a
    looking_all h = let z : n - i ≡ 0 = omega arith in sym (c.left ∙ rw z)

    module _ (h : i < n) where
      pub looking_found : eqb e (get_or t (entry_at i) 0) && eqb a (get_or t (entry_at i + 1) 0) ≡ true
          → some (get_or t (entry_at i + 2) 0) ≡ fixed_by (entries (fixed_part t)) e a
      looking_found q = sym (c.left ∙ ap (λ l. fixed_by l e a) (entry_next t n i h refl refl refl) ∙ rw q)

      pub looking_more : eqb e (get_or t (entry_at i) 0) && eqb a (get_or t (entry_at i + 1) 0) ≡ false → Looking t n e a (i + 1)
      looking_more q = record {
        long = c.long;
        small = c.small;
        few = omega arith;
        left = c.left ∙ ap (λ l. fixed_by l e a) (entry_next t n i h refl refl refl) ∙ rw q;
      }
