-- The second pass: each reference is looked for in the field. Assumes nothing.
use Rattle.std.specs.Prelude.{◌≡◌, refl, Bool, true, false, cond, not, List, [], ◌∷◌, ℕ, ◌-◌, ◌/◌, ◌≤◌, ◌<◌, ltb, length, get_or}
use Rattle.std.proofs.Common.{sym, ap, ◌∙◌, arith, ltb-true, ltb-false}
use Rattle.std.proofs.Math.Bool.{and-eq-true_iff}
use Rattle.std.proofs.lemmas.Bool.{not-true, not-false}
use Rattle.paper.specs.Basics.{cons_if}
use Rattle.paper.specs.Tokens.{tok_of}
use Rattle.paper.specs.Rules.{of_table}
use Rattle.paper.specs.Judgement.{Answer, is_ref}
use Rattle.tokens.specs.Sorts.{value_tok}
use Rattle.field.specs.Field.{marked}
use Rattle.key_walk.specs.declared.Walk.{Walk}
use Rattle.key_walk.specs.Walk.{behind, left_step, left_none, value_of, Found}
use Rattle.keys.specs.declared.Refs.{Refs}
use Rattle.keys.specs.Marking.{field_words, has_bit, refs_left}
use Rattle.keys.specs.Turns.{Owed}

-- "a reference value that is no ID in the document (12, that token)", where the IDs are those marked
abbrev pub unmarked : List ℕ → List (ℕ × ℕ) → Answer
unmarked field [] = (0, 0)
unmarked field (p ∷ l) = cond (marked field p.1) (unmarked field l) (12, p.0)

module _ (table : List ℕ) (w : Walk) (x : ℕ) {y : Bool} (ey : y ≡ value_tok (tok_of x)) where
  pub reference_none : not y ≡ true → false ≡ value_of (is_ref (of_table table)) w (tok_of x)
  reference_none n = rw (sym ey ∙ not-true y n)

  pub reference_test : {r : Bool} → not y ≡ false → r ≡ is_ref (of_table table) w.element w.attribute → r ≡ value_of (is_ref (of_table table)) w (tok_of x)
  reference_test n e = rw (sym ey ∙ not-false y n) e

-- no reference before the walk is unmarked, and so many are left
pub record Looking (table doc : List ℕ) (from : Walk) (field : List ℕ) (w : Walk) (count : ℕ) : Type 0 where
  pub within : w.place ≤ length doc
  pub told : count ≡ length (refs_left table doc w)
  pub same : unmarked field (refs_left table doc w) ≡ unmarked field (refs_left table doc from)

module _ (table doc : List ℕ) (field : List ℕ) where
  pub look_none : {refs : Refs} {at : Walk} → Owed table doc refs → at ≡ refs.at → Looking table doc at field at refs.count
  look_none o e = record { within = rw e o.within; told = o.told ∙ ap (λ w. length (refs_left table doc w)) (sym e); same = refl }

module _ (table doc : List ℕ) (from : Walk) (field : List ℕ) {w : Walk} {count : ℕ} (c : Looking table doc from field w count) where
  pub look_end : count ≡ 0 → (0, 0) ≡ unmarked field (refs_left table doc from)
  look_end z = ap (unmarked field) (sym (nothing (refs_left table doc w) (sym c.told ∙ z))) ∙ c.same
    where
      nothing : (l : List (ℕ × ℕ)) → length l ≡ 0 → l ≡ []
      nothing [] e = refl
      nothing (p ∷ l) e = absurd (omega (arith, e))

  -- at the next key
  module _ (o : count ≡ 0 → ⊥) {key : Walk} (k : Found table doc w key) where
    abbrev x : ℕ
    x = get_or doc key.place 0

    abbrev rest : List (ℕ × ℕ)
    rest = refs_left table doc (behind key (tok_of x))

    pub look_in : key.place < length doc
    look_in = go (ltb key.place (length doc)) refl
      where
        go : (b : Bool) → ltb key.place (length doc) ≡ b → key.place < length doc
        go true e = ltb-true key.place (length doc) e
        go false e = absurd (o (c.told ∙ ap length (sym k.came.refs ∙ left_none (is_ref (of_table table)) doc key (ltb-false key.place (length doc) e))))

    module _ {is : Bool} (ei : is ≡ value_of (is_ref (of_table table)) key (tok_of x)) where
      here : refs_left table doc w ≡ cons_if is (key.place, x / 8) rest
      here = sym k.came.refs ∙ left_step (is_ref (of_table table)) doc key look_in ∙ ap (λ b. cons_if b (key.place, x / 8) rest) (sym ei)

      -- it is none
      pub look_pass : {to : Walk} → not is ≡ true → to ≡ behind key (tok_of x) → Looking table doc from field to count
      look_pass n e =
          let h : refs_left table doc w ≡ rest = here ∙ ap (λ b. cons_if b (key.place, x / 8) rest) (not-true is n) in
          rw e (record { within = let i = look_in in omega arith; told = c.told ∙ ap length h; same = ap (unmarked field) (sym h) ∙ c.same })

      module _ (n : not is ≡ false) where
        one : refs_left table doc w ≡ (key.place, x / 8) ∷ rest
        one = here ∙ ap (λ b. cons_if b (key.place, x / 8) rest) (not-false is n)

        pub look_bit : {v : ℕ} → length field ≡ field_words → v ≡ x / 8 → v / 64 < length field
        look_bit f ev = has_bit field x f ((and-eq-true_iff (value_tok (tok_of x)) _).0 (sym ei ∙ not-false is n)).0 ev

        module _ {v : ℕ} {m : Bool} (ev : v ≡ x / 8) (em : m ≡ marked field v) where
          pub look_found : not m ≡ true → (12, key.place) ≡ unmarked field (refs_left table doc from)
          look_found t = sym (ap (unmarked field) one ∙ rw (← ev, ← em, not-true m t)) ∙ c.same

          pub look_more : {to : Walk} → not m ≡ false → to ≡ behind key (tok_of x) → Looking table doc from field to (count - 1)
          look_more t e = rw e (record {
            within = let i = look_in in omega arith;
            told = let q = ap length one in omega (arith, q, c.told);
            same = sym (ap (unmarked field) one ∙ rw (← ev, ← em, not-false m t)) ∙ c.same;
          })

    pub look_less : {to : Walk} → to ≡ behind key (tok_of x) → length doc - to.place < length doc - w.place
    look_less e = let i = look_in in rw e (omega (arith, k.came.onward))
