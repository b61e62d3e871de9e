-- The ways out of the check that writes counts, and of the question. Assumes nothing.
use Rattle.std.specs.Prelude.{◌≡◌, refl, Bool, true, false, not, ℕ, ◌≤◌, ◌<◌, ltb, eqb, ℤ, pos, nat_abs, length, get_or, take}
use Rattle.std.proofs.Math.Path.{sym, ap₂}
use Rattle.std.proofs.Common.{ap, ◌∙◌, arith, Fits, length-take-le}
use Rattle.std.proofs.Math.Bool.{cond}
use mathlib.Core.List.{List, map}
use borrow.Author.Tests.{ne_eqb, lt-ltb, le-ltb, not-true, not-false}
use Rattle.std.specs.Int.{w32}
use Rattle.paper.specs.Basics.{most_tokens, most_elements, all}
use Rattle.paper.specs.Tokens.{toks}
use Rattle.paper.specs.Shape.{shape_of}
use Rattle.paper.specs.Table.{proper}
use Rattle.paper.specs.Rules.{of_table}
use Rattle.paper.specs.Judgement.{Answer, judge, whole, checking, check}
use Rattle.paper.specs.Counts.{fresh, count_good, checked_counts, elements_of}
use Rattle.paper.specs.Calls.{Checks, Tells}
use Rattle.shape_laws.specs.Shaped.{shaped}
use Rattle.table_laws.specs.Parts.{table_parts}
use Rattle.counts.specs.Moved.{few, numbers_good, map_at}

-- ---- a check that says valid

pub record Valid (table doc : List ℕ) (used : ℕ) : Type 0 where
  pub first : 0 < length table
  pub few : get_or table 0 0 ≤ most_elements
  pub short : used ≤ most_tokens
  pub long : used ≤ length doc

valid_parts : (table doc : List ℕ) (used : ℕ) → (check table doc used).0 ≡ 0 → (proper table ≡ true) × (shape_of doc used ≡ true)
unfolding check checking
valid_parts table doc used = go (proper table) (shape_of doc used)
  where
    go : (b c : Bool) → (cond b (cond c (judge (of_table table) whole (toks (take used doc))) (4, 0)) (13, 0)).0 ≡ 0 → (b ≡ true) × (c ≡ true)
    go true true e = (refl, refl)
    go true false e = absurd (omega arith)
    go false c e = absurd (omega arith)

module _ (table doc : List ℕ) (used : ℕ) {a : Answer} (e : a ≡ check table doc used) where
  number_is : a.0 ≡ (check table doc used).0
  number_is = ap (λ (x : Answer). x.0) e

  pub valid_of : a.0 ≡ 0 → Valid table doc used
  valid_of z =
      let (p, h) = valid_parts table doc used (sym number_is ∙ z) in
      let t = table_parts table p in
      let s = shaped doc used h in
      record { first = omega (arith, t.long); few = t.few_elements; short = s.few; long = s.long }

  pub valid_first : a.0 ≡ 0 → 0 < length table
  valid_first z = (valid_of z).first

  pub valid_fits : a.0 ≡ 0 → Fits w32 (get_or table 0 0)
  valid_fits z = record { fits = omega (arith, (valid_of z).few) }

  pub valid_part : a.0 ≡ 0 → used ≡ length (take used doc)
  valid_part z = sym (length-take-le used doc (valid_of z).long)

  pub valid_few : a.0 ≡ 0 → (get_or table 0 0 ≤ most_elements) × (length (take used doc) ≤ most_tokens)
  valid_few z = ((valid_of z).few, omega (arith, valid_part z, (valid_of z).short))

  pub check_left : {counts : List ℤ} → (a.0 ≡ 0 → ⊥) → Checks table doc used counts (a, counts)
  unfolding checked_counts
  check_left {counts} h =
      ap₂ {C = Answer × List ℤ} (λ a l. (a, l)) e
      (sym (ap (λ b. cond b (fresh (of_table table).elements (toks (take used doc))) counts) (ne_eqb (check table doc used).0 0 (λ z. h (number_is ∙ z)))))

  pub check_written : (before : List ℤ) {counts : List ℤ} → a.0 ≡ 0 → counts ≡ fresh (get_or table 0 0) (toks (take used doc))
      → Checks table doc used before (a, counts)
  unfolding checked_counts
  check_written before z c =
      ap₂ {C = Answer × List ℤ} (λ a l. (a, l)) e
      (c ∙ sym (ap (λ k. cond (eqb k 0) (fresh (of_table table).elements (toks (take used doc))) before) (sym number_is ∙ z)))

-- ---- the question

module _ (table : List ℕ) (counts : List ℤ) (name : ℕ) {y : Bool} (ey : y ≡ proper table) where
  pub question_table : not y ≡ true → Tells table counts name (13, 0)
  unfolding elements_of
  question_table h = rw (← ey, not-true y h)

  module _ (h : not y ≡ false) where
    pub question_first : 0 < length table
    question_first = omega (arith, (table_parts table (sym ey ∙ not-false y h)).long)

    pub question_counts : all count_good counts ≡ false → Tells table counts name (15, 0)
    unfolding elements_of
    question_counts k = rw (← ey, not-false y h, k)

    module _ (now : List ℕ) (n : (all few now ≡ true) × (map pos now ≡ counts)) where
      told : elements_of table counts name ≡ (0, cond (ltb name (get_or table 0 0)) (nat_abs (get_or counts name (pos 0))) 0)
      unfolding elements_of
      told = rw (← ey, not-false y h, numbers_good now n)

      pub question_above : get_or table 0 0 ≤ name → Tells table counts name (0, 0)
      question_above l = sym (told ∙ ap {B = ℕ × ℕ} (λ b. (0, cond b (nat_abs (get_or counts name (pos 0))) 0)) (le-ltb name (get_or table 0 0) l))

      pub question_within : name < get_or table 0 0 → name < 48
      question_within l = omega (arith, (table_parts table (sym ey ∙ not-false y h)).few_elements)

      pub question_answer : name < get_or table 0 0 → Tells table counts name (0, get_or now name 0)
      question_answer l =
          sym (told ∙ ap {B = ℕ × ℕ} (λ b. (0, cond b (nat_abs (get_or counts name (pos 0))) 0)) (lt-ltb name (get_or table 0 0) l)
          ∙ ap {B = ℕ × ℕ} (λ m. (0, nat_abs (get_or m name (pos 0)))) (sym n.1) ∙ ap {B = ℕ × ℕ} (λ n. (0, nat_abs n)) (sym (map_at now name)))
