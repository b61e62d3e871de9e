-- The first pass: each ID is marked, and one that was marked before is told. Assumes nothing.
use Rattle.std.specs.Prelude.{◌≡◌, refl, Bool, true, false, cond, not, ◌&&◌, ◌||◌, List, [], ◌∷◌, map, ℕ, ◌+◌, ◌-◌, ◌/◌, ◌≤◌, ◌<◌, eqb, length, get_or}
use Rattle.std.proofs.Common.{sym, ap, ◌∙◌, arith, eqb-true, eq-eqb, ne_eqb, length-set}
use Rattle.std.proofs.Math.Bool.{or-false}
use Rattle.std.proofs.lemmas.Bool.{eqb-false, not-true, not-false}
use Rattle.paper.specs.Basics.{elem, cons_if}
use Rattle.paper.specs.Tokens.{tok_of, toks}
use Rattle.paper.specs.Rules.{of_table}
use Rattle.paper.specs.Judgement.{is_id, is_ref, value_in, repeated}
use Rattle.basic_laws.specs.Bools.{clash}
use Rattle.tokens.specs.Sorts.{value_tok}
use Rattle.tokens.specs.Theorems.{value_small}
use Rattle.field.specs.Field.{marked, mark, Field, field_mark, Noted}
use Rattle.key_walk.specs.declared.Walk.{Walk}
use Rattle.key_walk.specs.Walk.{left, onward, left_value, left_none}
use Rattle.keys.specs.declared.Refs.{Refs}

-- 65,536 bits
abbrev pub field_words : ℕ
field_words = 1024

-- the IDs, and the references, that are left before a walk
abbrev pub ids_left : (table doc : List ℕ) → Walk → List (ℕ × ℕ)
ids_left table doc w = left (is_id (of_table table)) (toks doc) w

abbrev pub refs_left : (table doc : List ℕ) → Walk → List (ℕ × ℕ)
refs_left table doc w = left (is_ref (of_table table)) (toks doc) w

-- a walk that has come to a value, or behind the last token
pub record Begun (doc : List ℕ) (w : Walk) : Type 0 where
  pub within : w.place ≤ length doc
  pub value : w.place < length doc → value_tok (tok_of (get_or doc w.place 0)) ≡ true

-- the walk at another place, with the element and the attribute that it has
abbrev pub at_place : Walk → ℕ → Walk
at_place w i = record { place = i; element = w.element; attribute = w.attribute }

-- a value has a bit
pub has_bit : (field : List ℕ) (x : ℕ) {v : ℕ} → length field ≡ field_words → value_tok (tok_of x) ≡ true → v ≡ x / 8 → v / 64 < length field
has_bit field x l t e = omega (arith, value_small x t)

-- ---- IDs

-- of the IDs before the walk none was met twice, and the field holds their values
pub record Marking (table doc : List ℕ) (from : Walk) (field : List ℕ) (w : Walk) : Type 0 where
  pub met : List ℕ
  pub long : length field ≡ field_words
  pub holds : Field field met
  pub same : repeated met (ids_left table doc w) ≡ repeated [] (ids_left table doc from)
  pub all : (v : ℕ) → (elem v met || elem v (map value_in (ids_left table doc w))) ≡ elem v (map value_in (ids_left table doc from))

module _ (table doc : List ℕ) (from : Walk) {field : List ℕ} where
  pub marking_none : length field ≡ field_words → Field field [] → Marking table doc from field from
  marking_none l c = record { met = []; long = l; holds = c; same = refl; all = λ v. refl }

  module _ {w : Walk} (m : Marking table doc from field w) where
    -- no ID was passed
    pub marking_move : {to : Walk} → ids_left table doc to ≡ ids_left table doc w → Marking table doc from field to
    marking_move e = record {
      met = m.met;
      long = m.long;
      holds = m.holds;
      same = ap (repeated m.met) e ∙ m.same;
      all = λ v. ap (λ l. elem v m.met || elem v (map value_in l)) e ∙ m.all v;
    }

    -- all were passed
    module _ (h : length doc ≤ w.place) where
      none : ids_left table doc w ≡ []
      none = left_none (is_id (of_table table)) doc w h

      pub marking_end : (0, 0) ≡ repeated [] (ids_left table doc from)
      marking_end = ap (repeated m.met) (sym none) ∙ m.same

      pub marking_all : (v : ℕ) → marked field v ≡ elem v (map value_in (ids_left table doc from))
      marking_all v = m.holds.same v ∙ sym (or-false (elem v m.met)) ∙ ap (λ l. elem v m.met || elem v (map value_in l)) (sym none) ∙ m.all v

    -- a value stands at the walk's place
    module _ (h : w.place < length doc) (t : value_tok (tok_of (get_or doc w.place 0)) ≡ true)
        {id r : Bool} {v : ℕ} {after : List ℕ} (ei : id ≡ is_id (of_table table) w.element w.attribute) (ev : v ≡ get_or doc w.place 0 / 8)
        (n : Noted field id v after r) where
      here : ids_left table doc w ≡ cons_if id (w.place, v) (ids_left table doc (onward w))
      here = left_value (is_id (of_table table)) doc w h t ∙ rw (ei, ev)

      -- it is an ID that was met earlier
      pub marking_twice : r ≡ true → (11, w.place) ≡ repeated [] (ids_left table doc from)
      marking_twice e = go id here n.told
        where
          go : (b : Bool) → ids_left table doc w ≡ cons_if b (w.place, v) (ids_left table doc (onward w)) → r ≡ (b && marked field v)
              → (11, w.place) ≡ repeated [] (ids_left table doc from)
          go true p q = rw (sym (m.holds.same v) ∙ sym q ∙ e) at (ap (repeated m.met) (sym p)) ∙ m.same
          go false p q = clash e q

      -- it is an ID that was not, or none
      pub marking_value : r ≡ false → Marking table doc from after (onward w)
      marking_value e = go id here n.told n.now_is
        where
          go : (b : Bool) → ids_left table doc w ≡ cons_if b (w.place, v) (ids_left table doc (onward w)) → r ≡ (b && marked field v)
              → after ≡ cond b (mark field v) field → Marking table doc from after (onward w)
          go true p q a = record {
            met = v ∷ m.met;
            long = ap length a ∙ length-set field (v / 64) _ ∙ m.long;
            holds = rw a (field_mark field m.met v (has_bit field (get_or doc w.place 0) m.long t ev) m.holds);
            same = rw (sym (m.holds.same v) ∙ sym q ∙ e) at (ap (repeated m.met) (sym p)) ∙ m.same;
            all = λ u. swap (eqb u v) (elem u m.met) (elem u (map value_in (ids_left table doc (onward w))))
                ∙ ap (λ l. elem u m.met || elem u (map value_in l)) (sym p) ∙ m.all u;
          }
            where
              swap : (a b c : Bool) → ((a || b) || c) ≡ (b || (a || c))
              swap true true c = refl
              swap true false c = refl
              swap false b c = refl
          go false p q a = rw a (marking_move (sym p))

-- ---- references

-- those met, once the values of the walk's attribute, up to place i, were passed
abbrev pub noted : List ℕ → Refs → Walk → ℕ → Refs
noted table refs at i =
    cond (is_ref (of_table table) at.element at.attribute)
    (cond (eqb refs.count 0) (record { at = at; count = i - at.place }) (record { at = refs.at; count = refs.count + (i - at.place) }))
    refs

module _ (table : List ℕ) (refs : Refs) (at : Walk) (i : ℕ) {y : Bool} (ey : y ≡ is_ref (of_table table) at.element at.attribute) where
  pub noted_none : not y ≡ true → refs ≡ noted table refs at i
  noted_none n = rw (sym ey ∙ not-true y n)

  pub noted_first : not y ≡ false → refs.count ≡ 0 → record { at = at; count = i - at.place } ≡ noted table refs at i
  noted_first n z = rw (sym ey ∙ not-false y n, eq-eqb refs.count 0 z)

  pub noted_more : {first : Walk} → not y ≡ false → (refs.count ≡ 0 → ⊥) → first ≡ refs.at
      → record { at = first; count = refs.count + (i - at.place) } ≡ noted table refs at i
  noted_more n z e = rw (sym ey ∙ not-false y n, ne_eqb refs.count 0 z, e)

-- those met before a walk, of all: none stands before the first of them
pub record Counted (table doc : List ℕ) (from : Walk) (refs : Refs) (w : Walk) : Type 0 where
  pub early : refs.at.place ≤ length doc
  pub few : refs.count ≤ w.place
  pub same : refs_left table doc refs.at ≡ refs_left table doc from
  pub told : refs.count + length (refs_left table doc w) ≡ length (refs_left table doc from)
  pub none : refs.count ≡ 0 → refs_left table doc w ≡ refs_left table doc from

-- the values of the walk's attribute, up to place i: as many references are gone, or none
pub record Passed (table doc : List ℕ) (at : Walk) (i : ℕ) : Type 0 where
  pub kept : is_ref (of_table table) at.element at.attribute ≡ false → refs_left table doc (at_place at i) ≡ refs_left table doc at
  pub gone : is_ref (of_table table) at.element at.attribute ≡ true
      → i - at.place + length (refs_left table doc (at_place at i)) ≡ length (refs_left table doc at)

module _ (table doc : List ℕ) where
  pub counted_none : (from : Walk) → from.place ≤ length doc → Counted table doc from (record { at = from; count = 0 }) from
  counted_none from h = record { early = h; few = omega arith; same = refl; told = omega arith; none = λ e. refl }

  pub passed_none : (at : Walk) → Passed table doc at at.place
  passed_none at = record { kept = λ e. refl; gone = λ e. omega arith }

  pub passed_more : (at : Walk) {i : ℕ} → Passed table doc at i → at.place ≤ i → i < length doc → value_tok (tok_of (get_or doc i 0)) ≡ true
      → Passed table doc at (i + 1)
  passed_more at {i} p o h t = record {
    kept = λ f. sym (step ∙ ap (λ b. cons_if b (i, get_or doc i 0 / 8) (refs_left table doc (at_place at (i + 1)))) f) ∙ p.kept f;
    gone = λ g. let e = ap length (step ∙ ap (λ b. cons_if b (i, get_or doc i 0 / 8) (refs_left table doc (at_place at (i + 1)))) g) in omega (arith, e, p.gone g);
  }
    where
      step : refs_left table doc (at_place at i)
          ≡ cons_if (is_ref (of_table table) at.element at.attribute) (i, get_or doc i 0 / 8) (refs_left table doc (at_place at (i + 1)))
      step = left_value (is_ref (of_table table)) doc (at_place at i) h t

  pub counted_more : (from : Walk) {refs now : Refs} {w to : Walk} {i : ℕ} → Counted table doc from refs w → w.place ≤ length doc → w.place ≤ i → i ≤ to.place
      → now ≡ noted table refs w i → Passed table doc w i → refs_left table doc to ≡ refs_left table doc (at_place w i)
      → Counted table doc from now to
  counted_more from {refs} {now} {w} {to} {i} c h o u e p r = rw e (go (is_ref (of_table table) w.element w.attribute) refl (eqb refs.count 0) refl)
    where
      here : Refs
      here = record { at = w; count = i - w.place }

      more : Refs
      more = record { at = refs.at; count = refs.count + (i - w.place) }

      length_to : length (refs_left table doc to) ≡ length (refs_left table doc (at_place w i))
      length_to = ap length r

      go : (b : Bool) → is_ref (of_table table) w.element w.attribute ≡ b → (z : Bool) → eqb refs.count 0 ≡ z
          → Counted table doc from (cond b (cond z here more) refs) to
      go false f z ez = record {
        early = c.early;
        few = omega (arith, c.few);
        same = c.same;
        told = ap (λ l. refs.count + length l) (r ∙ p.kept f) ∙ c.told;
        none = λ g. r ∙ p.kept f ∙ c.none g;
      }
      go true f true ez =
          let zero_count : refs.count ≡ 0 = eqb-true refs.count 0 ez in
          record {
            early = h;
            few = omega arith;
            same = c.none zero_count;
            told = ap (λ k. i - w.place + k) length_to ∙ p.gone f ∙ ap length (c.none zero_count);
            none = λ g. let q : i ≡ w.place = omega arith in r ∙ ap (λ k. refs_left table doc (at_place w k)) q ∙ c.none zero_count;
          }
      go true f false ez = record {
        early = c.early;
        few = omega (arith, c.few);
        same = c.same;
        told = omega (arith, c.told, p.gone f, length_to);
        none = λ g. absurd (eqb-false refs.count 0 ez (omega arith));
      }
