-- A walk over the tokens of a document: what is left before it, and the next key. Assumes nothing.
use Rattle.std.specs.Prelude.{◌≡◌, refl, Bool, true, false, not, ◌&&◌, ◌||◌, List, [], ◌∷◌, ℕ, suc, ◌+◌, ◌-◌, ◌/◌, ◌%◌, ◌≤◌, ◌<◌, ltb, length, drop, get_or}
use Rattle.std.proofs.Common.{sym, ap, ◌∙◌, add-one, arith, lt-ltb, le-ltb}
use Rattle.std.proofs.Math.Bool.{and-eq-true_iff}
use Rattle.std.proofs.lemmas.Bool.{not-true, not-false}
use Rattle.paper.specs.Basics.{cons_if}
use Rattle.paper.specs.declared.Tok.{Tok}
use Rattle.paper.specs.declared.Tok.TheVariants.{Start, End, Text, Attr, Value, Bad}
use Rattle.paper.specs.Tokens.{tok_of, toks, starts}
use Rattle.paper.specs.Rules.{of_table}
use Rattle.paper.specs.Judgement.{is_id, is_ref, values_of}
use Rattle.basic_laws.specs.Bools.{clash}
use Rattle.shape_laws.specs.Ends.{rest_at, rest_past}
use Rattle.tokens.specs.Sorts.{attr_tok, value_tok}
use Rattle.tokens.specs.Theorems.{token_cases, start_iff, attr_iff, value_iff}
use Rattle.key_walk.specs.declared.Walk.{Walk}

-- ---- a token is passed

abbrev pub element_after : ℕ → Tok → ℕ
element_after e (Start n) = n
element_after e End = e
element_after e (Text n) = e
element_after e (Attr n) = e
element_after e (Value n) = e
element_after e Bad = e

abbrev pub attribute_after : ℕ → Tok → ℕ
attribute_after a (Start n) = a
attribute_after a End = a
attribute_after a (Text n) = a
attribute_after a (Attr n) = n
attribute_after a (Value n) = a
attribute_after a Bad = a

abbrev pub behind : Walk → Tok → Walk
behind w t = record { place = w.place + 1; element = element_after w.element t; attribute = attribute_after w.attribute t }

module _ (b x : ℕ) {y : Bool} where
  pub element_start : {n : ℕ} → y ≡ starts (tok_of x) → y ≡ true → n ≡ x / 8 → n ≡ element_after b (tok_of x)
  element_start e t n = rw ((start_iff x).0 (sym e ∙ t)) n

  pub element_other : y ≡ starts (tok_of x) → y ≡ false → b ≡ element_after b (tok_of x)
  element_other e f = go (tok_of x) (sym e ∙ f)
    where
      go : (t : Tok) → starts t ≡ false → b ≡ element_after b t
      go (Start n) f = clash refl f
      go End f = refl
      go (Text n) f = refl
      go (Attr n) f = refl
      go (Value n) f = refl
      go Bad f = refl

  pub attribute_here : {n : ℕ} → y ≡ attr_tok (tok_of x) → y ≡ true → n ≡ x / 8 → n ≡ attribute_after b (tok_of x)
  attribute_here e t n = rw ((attr_iff x).0 (sym e ∙ t)) n

  pub attribute_other : y ≡ attr_tok (tok_of x) → y ≡ false → b ≡ attribute_after b (tok_of x)
  attribute_other e f = go (tok_of x) (sym e ∙ f)
    where
      go : (t : Tok) → attr_tok t ≡ false → b ≡ attribute_after b t
      go (Start n) f = refl
      go End f = refl
      go (Text n) f = refl
      go (Attr n) f = clash refl f
      go (Value n) f = refl
      go Bad f = refl

pub pass_one : (w : Walk) (t : Tok) {e a : ℕ} → e ≡ element_after w.element t → a ≡ attribute_after w.attribute t
    → record { place = w.place + 1; element = e; attribute = a } ≡ behind w t
pass_one w t e a = rw (e, a)

pub pass_less : (doc : List ℕ) (w : Walk) (t : Tok) {to : Walk} → w.place < length doc → to ≡ behind w t → length doc - to.place < length doc - w.place
pass_less doc w t h e = rw e (omega arith)

-- ---- what is left before a walk

-- the values, of the attributes of a kind, from its place on
abbrev pub left : (ℕ → ℕ → Bool) → List Tok → Walk → List (ℕ × ℕ)
left is d w = values_of is w.place w.element w.attribute (drop w.place d)

-- the token is such a value
abbrev pub value_of : (ℕ → ℕ → Bool) → Walk → Tok → Bool
value_of is w t = value_tok t && is w.element w.attribute

-- It is the first that is left, if it is one; the others are left behind it.
pub left_step : (is : ℕ → ℕ → Bool) (doc : List ℕ) (w : Walk) → w.place < length doc
    → left is (toks doc) w
    ≡ cons_if (value_of is w (tok_of (get_or doc w.place 0))) (w.place, get_or doc w.place 0 / 8)
    (left is (toks doc) (behind w (tok_of (get_or doc w.place 0))))
left_step is doc w h =
    ap (values_of is w.place w.element w.attribute) (rest_at doc w.place h) ∙ rw add-one (cases (get_or doc w.place 0))
  where
    rest : List Tok
    rest = drop (suc w.place) (toks doc)

    cases : (x : ℕ) → values_of is w.place w.element w.attribute (tok_of x ∷ rest)
        ≡ cons_if (value_of is w (tok_of x)) (w.place, x / 8)
        (values_of is (suc w.place) (element_after w.element (tok_of x)) (attribute_after w.attribute (tok_of x)) rest)
    cases x = token_cases
        (λ t. values_of is w.place w.element w.attribute (t ∷ rest)
        ≡ cons_if (value_of is w t) (w.place, x / 8) (values_of is (suc w.place) (element_after w.element t) (attribute_after w.attribute t) rest))
        (x % 8) (x / 8) refl refl refl refl refl refl

-- A value token leaves the element and the attribute.
abbrev pub onward : Walk → Walk
onward w = record { place = w.place + 1; element = w.element; attribute = w.attribute }

pub left_value : (is : ℕ → ℕ → Bool) (doc : List ℕ) (w : Walk) → w.place < length doc
    → value_tok (tok_of (get_or doc w.place 0)) ≡ true
    → left is (toks doc) w
    ≡ cons_if (is w.element w.attribute) (w.place, get_or doc w.place 0 / 8) (left is (toks doc) (onward w))
left_value is doc w h e = rw ((value_iff (get_or doc w.place 0)).0 e) at (left_step is doc w h)

-- behind the last token nothing is left
pub left_none : (is : ℕ → ℕ → Bool) (doc : List ℕ) (w : Walk) → length doc ≤ w.place → left is (toks doc) w ≡ []
left_none is doc w h = ap (values_of is w.place w.element w.attribute) (rest_past doc w.place h)

-- ---- a value at a place

abbrev pub value_at : List ℕ → ℕ → Bool
value_at doc i = ltb i (length doc) && value_tok (tok_of (get_or doc i 0))

module _ (doc : List ℕ) (i : ℕ) where
  pub value_past : length doc ≤ i → false ≡ value_at doc i
  value_past h = rw (le-ltb i (length doc) h)

  pub value_here_lem : {y : Bool} → i < length doc → y ≡ value_tok (tok_of (get_or doc i 0)) → y ≡ value_at doc i
  value_here_lem h e = rw (lt-ltb i (length doc) h) e

-- ---- the next key

-- the token is a value of an ID or a reference
abbrev pub key_at : List ℕ → Walk → Tok → Bool
key_at table w t = value_tok t && (is_id (of_table table) w.element w.attribute || is_ref (of_table table) w.element w.attribute)

module _ (table : List ℕ) (w : Walk) (x : ℕ) {y : Bool} (ey : y ≡ value_tok (tok_of x)) where
  pub key_none : not y ≡ true → false ≡ key_at table w (tok_of x)
  key_none n = rw (sym ey ∙ not-true y n)

  pub key_test : {i r : Bool} → not y ≡ false → i ≡ is_id (of_table table) w.element w.attribute → r ≡ is_ref (of_table table) w.element w.attribute
      → (i || r) ≡ key_at table w (tok_of x)
  key_test n ei er = rw (sym ey ∙ not-false y n, ei, er)

-- between two places of a walk no ID and no reference stands
pub record Came (table doc : List ℕ) (from to : Walk) : Type 0 where
  pub within : to.place ≤ length doc
  pub onward : from.place ≤ to.place
  pub ids : left (is_id (of_table table)) (toks doc) to ≡ left (is_id (of_table table)) (toks doc) from
  pub refs : left (is_ref (of_table table)) (toks doc) to ≡ left (is_ref (of_table table)) (toks doc) from

-- and at the second one a value does, unless it is behind the last token
pub record Found (table doc : List ℕ) (from to : Walk) : Type 0 where
  pub came : Came table doc from to
  pub value : to.place < length doc → value_tok (tok_of (get_or doc to.place 0)) ≡ true

module _ (table doc : List ℕ) (from : Walk) where
  pub came_none : from.place ≤ length doc → Came table doc from from
  came_none h = record { within = h; onward = omega arith; ids = refl; refs = refl }

  module _ {at : Walk} (c : Came table doc from at) where
    pub found_none : length doc ≤ at.place → Found table doc from at
    found_none h = record { came = c; value = λ l. absurd (omega arith) }

    module _ {y : Bool} (ey : y ≡ key_at table at (tok_of (get_or doc at.place 0))) where
      pub found_key : y ≡ true → Found table doc from at
      found_key t = record { came = c; value = λ l. ((and-eq-true_iff (value_tok (tok_of (get_or doc at.place 0))) _).0 (sym ey ∙ t)).0 }

      pub came_on : {to : Walk} → at.place < length doc → y ≡ false → to ≡ behind at (tok_of (get_or doc at.place 0)) → Came table doc from to
      came_on {to} h f et = rw et (record {
        within = omega arith;
        onward = omega (arith, c.onward);
        ids = sym (step (is_id (of_table table)) neither.0) ∙ c.ids;
        refs = sym (step (is_ref (of_table table)) neither.1) ∙ c.refs;
      })
        where
          t : Tok
          t = tok_of (get_or doc at.place 0)

          step : (is : ℕ → ℕ → Bool) → value_of is at t ≡ false → left is (toks doc) at ≡ left is (toks doc) (behind at t)
          step is e = left_step is doc at h ∙ ap (λ b. cons_if b (at.place, get_or doc at.place 0 / 8) (left is (toks doc) (behind at t))) e

          split : (v i r : Bool) → v && (i || r) ≡ false → ((v && i) ≡ false) × ((v && r) ≡ false)
          split true true r e = clash refl e
          split true false r e = (refl, e)
          split false i r e = (refl, refl)

          neither : (value_of (is_id (of_table table)) at t ≡ false) × (value_of (is_ref (of_table table)) at t ≡ false)
          neither = split (value_tok t) (is_id (of_table table) at.element at.attribute) (is_ref (of_table table) at.element at.attribute) (sym ey ∙ f)
