-- The turns of the loops that mark IDs. Assumes nothing.
use Rattle.std.specs.Prelude.{◌≡◌, Option, None, Some, Err, Bool, true, false, List, [], map, ℕ, ◌+◌, ◌-◌, ◌/◌, ◌^◌, ◌≤◌, ◌<◌, ltb, length, get_or}
use Rattle.std.proofs.Common.{sym, ap, ◌∙◌, arith, ltb-true, lt-ltb}
use Rattle.std.proofs.Math.Bool.{and-eq-true_iff}
use Rattle.std.proofs.Math.Decide.{ℕ_discrete}
use Rattle.paper.specs.Basics.{most_tokens, elem}
use Rattle.paper.specs.Codes.{told}
use Rattle.paper.specs.Tokens.{tok_of}
use Rattle.paper.specs.Rules.{of_table}
use Rattle.paper.specs.Judgement.{is_id, is_ref, value_in, repeated}
use Rattle.basic_laws.specs.Bools.{clash}
use Rattle.tokens.specs.Sorts.{value_tok}
use Rattle.field.specs.Field.{marked, Field, Noted}
use Rattle.key_walk.specs.declared.Walk.{Walk}
use Rattle.key_walk.specs.Walk.{left_none, value_at, Found}
use Rattle.paper.specs.declared.Fault.{Fault}
use Rattle.keys.specs.declared.Refs.{Refs}
use Rattle.keys.specs.Marking.{field_words, ids_left, refs_left, Begun, at_place, has_bit, Marking, marking_none, marking_move, marking_end, marking_all, marking_twice, marking_value, noted, Counted, counted_none, counted_more, Passed, passed_none, passed_more}

-- references as they were met: so many from the walk on
pub record Owed (table doc : List ℕ) (refs : Refs) : Type 0 where
  pub within : refs.at.place ≤ length doc
  pub told : refs.count ≡ length (refs_left table doc refs.at)

-- where no ID was met earlier, the field holds all IDs, and the references are told
pub record Clean (table doc : List ℕ) (from : Walk) (field : List ℕ) (refs : Refs) : Type 0 where
  pub none : (0, 0) ≡ repeated [] (ids_left table doc from)
  pub long : length field ≡ field_words
  pub holds : (v : ℕ) → marked field v ≡ elem v (map value_in (ids_left table doc from))
  pub owed : Owed table doc refs
  pub same : refs_left table doc refs.at ≡ refs_left table doc from

-- what the pass finds: an ID that was met earlier, or that none was
abbrev pub Marks : (table doc : List ℕ) → Walk → List ℕ → Option Fault → Refs → Type 0
Marks table doc from field None refs = Clean table doc from field refs
Marks table doc from field (Some f) refs = told {A = Refs} (Err f) ≡ repeated [] (ids_left table doc from)

-- the outer loop: at a key, or behind the last token
pub record Going (table doc : List ℕ) (from : Walk) (field : List ℕ) (refs : Refs) (at : Walk) : Type 0 where
  pub begun : Begun doc at
  pub marking : Marking table doc from field at
  pub counted : Counted table doc from refs at

-- the inner loop: at place i, behind values of the attribute. What the field held when it began, it holds with those.
pub record Among (table doc : List ℕ) (old field : List ℕ) (at : Walk) (i : ℕ) : Type 0 where
  pub after : at.place ≤ i
  pub within : i ≤ length doc
  pub long : length field ≡ field_words
  pub marking : (from : Walk) → Marking table doc from old at → Marking table doc from field (at_place at i)
  pub passed : Passed table doc at i

module _ (table doc : List ℕ) (from : Walk) where
  pub going_none : {field : List ℕ} → Begun doc from → length field ≡ field_words → Field field [] → Going table doc from field (record { at = from; count = 0 }) from
  going_none b l c = record { begun = b; marking = marking_none table doc from l c; counted = counted_none table doc from b.within }

  module _ {field : List ℕ} {refs : Refs} {at : Walk} (g : Going table doc from field refs at) where
    pub going_end : length doc ≤ at.place → Clean table doc from field refs
    going_end h = record {
      none = marking_end table doc from g.marking h;
      long = g.marking.long;
      holds = marking_all table doc from g.marking h;
      owed = record { within = g.counted.early; told = all_told ∙ ap length (sym g.counted.same) };
      same = g.counted.same;
    }
      where
        all_told : refs.count ≡ length (refs_left table doc from)
        all_told =
            let n = ap length (left_none (is_ref (of_table table)) doc at h) in
            omega (arith, n, g.counted.told)

    pub among_none : Among table doc field field at at.place
    among_none = record {
      after = omega arith;
      within = g.begun.within;
      long = g.marking.long;
      marking = λ from m. m;
      passed = passed_none table doc at;
    }

module _ (table doc : List ℕ) {old field : List ℕ} {at : Walk} {i : ℕ}
    (a : Among table doc old field at i) {y : Bool} (ey : y ≡ value_at doc i) where
  -- a value stands at the place
  module _ (t : y ≡ true) where
    both : (ltb i (length doc) ≡ true) × (value_tok (tok_of (get_or doc i 0)) ≡ true)
    both = (and-eq-true_iff (ltb i (length doc)) (value_tok (tok_of (get_or doc i 0)))).0 (sym ey ∙ t)

    pub among_here : i < length doc
    among_here = ltb-true i (length doc) both.0

    pub among_less : length doc - (i + 1) < length doc - i
    among_less = omega (arith, among_here)

    pub among_bit : {v : ℕ} → v ≡ get_or doc i 0 / 8 → v / 64 < length field
    among_bit ev = has_bit field (get_or doc i 0) a.long both.1 ev

    module _ {id r : Bool} {v : ℕ} {new : List ℕ} (ei : id ≡ is_id (of_table table) at.element at.attribute)
        (ev : v ≡ get_or doc i 0 / 8) (n : Noted field id v new r) (k : length new ≡ length field) where
      pub among_more : r ≡ false → Among table doc old new at (i + 1)
      among_more e = record {
        after = omega (arith, a.after);
        within = omega (arith, among_here);
        long = k ∙ a.long;
        marking = λ from m. marking_value table doc from (a.marking from m) among_here both.1 ei ev n e;
        passed = passed_more table doc at a.passed a.after among_here both.1;
      }

      pub going_twice : (from : Walk) {refs : Refs} → Going table doc from old refs at → r ≡ true → (11, i) ≡ repeated [] (ids_left table doc from)
      going_twice from g e = marking_twice table doc from (a.marking from g.marking) among_here both.1 ei ev n e

  -- none does: the values of the attribute are passed
  module _ (f : y ≡ false) (from : Walk) {to : Walk} (k : Found table doc (at_place at i) to) {refs : Refs}
      (g : Going table doc from old refs at) where
    pub going_more : {now : Refs} → now ≡ noted table refs at i → Going table doc from field now to
    going_more en = record {
      begun = record { within = k.came.within; value = k.value };
      marking = marking_move table doc from (a.marking from g.marking) k.came.ids;
      counted = counted_more table doc from g.counted g.begun.within a.after k.came.onward en a.passed k.came.refs;
    }

    pub going_less : at.place < length doc → length doc - to.place < length doc - at.place
    going_less h = omega (arith, passed_one, k.came.onward)
      where
        passed_one : at.place < i
        passed_one = elim (ℕ_discrete i at.place) [
          | yes e ↦ clash (ey ∙ rw (e, lt-ltb at.place (length doc) h, g.begun.value h)) f
          | no e ↦ omega (arith, e, a.after)
        ]

-- there are no more references than tokens
pub going_few : (table doc : List ℕ) {old field : List ℕ} {from at : Walk} {refs : Refs} {i : ℕ}
    → Going table doc from old refs at → Among table doc old field at i → length doc ≤ most_tokens → refs.count + (i - at.place) < 2 ^ 64
going_few table doc g a m = omega (arith, a.within, a.after, g.counted.few)
