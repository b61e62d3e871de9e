-- One entry of a fixed attribute, and what makes it proper. Assumes nothing.
use Rattle.std.specs.Prelude.{◌≡◌, Bool, not, ◌&&◌, ◌||◌, List, ℕ, ◌+◌, ◌^◌, ◌≤◌, ◌<◌, ltb, eqb, length, get_or}
use Rattle.std.proofs.Math.Path.{refl, sym, ap}
use Rattle.std.proofs.Common.{◌∙◌, arith, lt-ltb, le-ltb}
use Rattle.std.proofs.Math.Bool.{true, false, and-eq-true_iff}
use Rattle.std.proofs.lemmas.Bool.{not-false}
use Rattle.std.proofs.Math.Dec.{leb}
use Rattle.paper.specs.Basics.{most_number, most_elements, most_attributes}
use Rattle.paper.specs.Sets.{bit}
use Rattle.paper.specs.Table.{table_length, block_length, block, cell, allowed_at, required_at, id_at, idref_at, idrefs_at, proper_entry}
use Rattle.basic_laws.specs.Bools.{clash}
use Rattle.paper_laws.specs.Words.{bit_past}
use Rattle.table.specs.Block.{block_length_lem}
use Rattle.entries.specs.Held.{entry_of}

abbrev pub may_fix : (allowed required id idref idrefs a : ℕ) → Bool
may_fix allowed required id idref idrefs a =
    bit allowed a && not (bit required a) && not (bit id a) && not (bit idref a) && not (bit idrefs a)

-- the answer, which is yes only for an attribute that there is
pub record MayFix (allowed required id idref idrefs a : ℕ) (r : Bool) : Type 0 where
  pub answer : r ≡ may_fix allowed required id idref idrefs a
  pub small : r ≡ true → a < most_attributes

pub record Tested (t : List ℕ) (e a v : ℕ) (r : Bool) : Type 0 where
  pub answer : r ≡ proper_entry t (entry_of e a v)
  pub small : r ≡ true → a < most_attributes

module _ (allowed required id idref idrefs a : ℕ) where
  pub past_all : allowed < 2 ^ 64 → most_attributes ≤ a → MayFix allowed required id idref idrefs a false
  past_all h l = record { answer = sym (rw (bit_past 64 allowed a h l)); small = λ c. clash c refl }

  pub may_test : {p q r s u : Bool} → a < most_attributes → p ≡ bit allowed a → q ≡ bit required a → r ≡ bit id a → s ≡ bit idref a → u ≡ bit idrefs a
      → MayFix allowed required id idref idrefs a (p && not q && not r && not s && not u)
  may_test l b c d e f = record { answer = rw (b, c, d, e, f); small = λ h. l }

-- the sets of a block stand in it
pub block_in : (t : List ℕ) (e : ℕ) {b : List ℕ} (i : ℕ) → length t ≡ table_length → get_or t 0 0 ≤ most_elements → e < get_or t 0 0 → b ≡ block t e → i < block_length → i < length b
block_in t e i long few h s k = omega (arith, block_length_lem t e s long (omega arith))

module _ (t : List ℕ) (e a v : ℕ) where
  pub no_element : get_or t 0 0 ≤ e → Tested t e a v false
  unfolding proper_entry
  no_element h = record { answer = sym (rw (le-ltb e (get_or t 0 0) h)); small = λ c. clash c refl }

  pub entry_test : {b : List ℕ} {r : Bool} → e < get_or t 0 0 → b ≡ block t e
      → MayFix (cell b allowed_at) (cell b required_at) (cell b id_at) (cell b idref_at) (cell b idrefs_at) a r → Tested t e a v (r && leb v most_number)
  unfolding proper_entry
  entry_test {b} {r} h s m = record {
    answer = ap (λ x. x && leb v most_number) (m.answer ∙ ap (λ x. may_fix (cell x allowed_at) (cell x required_at) (cell x id_at) (cell x idref_at) (cell x idrefs_at) a) s) ∙ rw (lt-ltb e (get_or t 0 0) h);
    small = λ c. m.small (first r (leb v most_number) c);
  }
    where
      first : (p q : Bool) → p && q ≡ true → p ≡ true
      first true q c = refl
      first false q c = clash c refl

-- ---- behind another

-- the next one, behind element e with attributes from `low` on
pub record Next (t : List ℕ) (e low x a v : ℕ) (r : Bool) : Type 0 where
  pub answer : r ≡ ((ltb e x || (eqb e x && leb low a)) && proper_entry t (entry_of x a v))
  pub small : r ≡ true → a < most_attributes

pub next_test : (t : List ℕ) (e low x a v : ℕ) {r : Bool} → Tested t x a v r → Next t e low x a v ((ltb e x || (eqb e x && leb low a)) && r)
next_test t e low x a v {r} m = record {
  answer = ap (λ b. (ltb e x || (eqb e x && leb low a)) && b) m.answer;
  small = λ c. m.small ((and-eq-true_iff (ltb e x || (eqb e x && leb low a)) r).0 c).1;
}

pub next_fits : {t : List ℕ} {e low x a v : ℕ} {r : Bool} → Next t e low x a v r → not r ≡ false → a + 1 < 2 ^ 64
next_fits {r = r} m k = let s = m.small (not-false r k) in omega arith
