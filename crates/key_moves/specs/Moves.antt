-- The field of IDs and the counts of references, as values go and come. Assumes nothing.
use Rattle.std.specs.Prelude.{◌≡◌, refl, Bool, true, false, cond, not, ◌&&◌, ◌||◌, List, [], ◌∷◌, ◌++◌, ℕ, ◌+◌, ◌-◌, ◌/◌, ◌≤◌, ◌<◌, eqb, length, get_or, set}
use Rattle.std.proofs.Common.{sym, ap, ap₂, subst, ◌∙◌, arith, eqb-true, eq-eqb, ne_eqb, get_or-set_same, get_or-set_other}
use Rattle.std.proofs.Math.Bool.{and-true, or-false}
use Rattle.std.proofs.Math.Decide.{ℕ_discrete}
use Rattle.std.proofs.lemmas.Bool.{not-true, not-false}
use Rattle.paper.specs.Basics.{elem, cons_if}
use Rattle.paper.specs.Tokens.{tok_of}
use Rattle.paper.specs.Rules.{of_table}
use Rattle.paper.specs.Judgement.{is_id, is_ref}
use Rattle.tokens.specs.Sorts.{value_tok}
use Rattle.tokens.specs.Theorems.{value_small}
use Rattle.field.specs.Field.{marked, mark, unmark, marked_mark, marked_unmark, Noted}
use Rattle.key_walk.specs.declared.Walk.{Walk}
use Rattle.key_walk.specs.Walk.{value_of}
use Rattle.kept_laws.specs.Lists.{new_in, new_same}
use Rattle.kept_laws.specs.Counts.{times, times_append}

-- a word for each 64 values, and a count for each value
abbrev pub field_words : ℕ
field_words = 1024

abbrev pub most_values : ℕ
most_values = 65536

-- ---- one count

-- one more, or one less, where `is` holds
abbrev pub raised : List ℕ → Bool → ℕ → List ℕ
raised counts is v = cond is (set counts v (get_or counts v 0 + 1)) counts

abbrev pub lowered : List ℕ → Bool → ℕ → List ℕ
lowered counts is v = cond is (set counts v (get_or counts v 0 - 1)) counts

module _ (counts : List ℕ) (is : Bool) (v : ℕ) where
  pub raise_none : not is ≡ true → counts ≡ raised counts is v
  raise_none n = rw (not-true is n)

  pub raise_one : not is ≡ false → set counts v (get_or counts v 0 + 1) ≡ raised counts is v
  raise_one n = rw (not-false is n)

  pub lower_none : not is ≡ true → counts ≡ lowered counts is v
  lower_none n = rw (not-true is n)

  pub lower_one : not is ≡ false → set counts v (get_or counts v 0 - 1) ≡ lowered counts is v
  lower_one n = rw (not-false is n)

  -- what is asked of a count that is moved
  pub raise_fits : (is ≡ true → get_or counts v 0 + 1 < most_values) → not is ≡ false → get_or counts v 0 + 1 < most_values
  raise_fits f n = f (not-false is n)

  pub lower_some : (is ≡ true → 0 < get_or counts v 0) → not is ≡ false → 0 < get_or counts v 0
  lower_some f n = f (not-false is n)

-- ---- what goes, and what comes

-- the values ids went as IDs, and refs as references: the field and the counts before, and after
pub record Gone (field counts ids refs field' counts' : List ℕ) : Type 0 where
  pub marks : (v : ℕ) → marked field' v ≡ (not (elem v ids) && marked field v)
  pub tells : (v : ℕ) → get_or counts' v 0 + times v refs ≡ get_or counts v 0

-- they came. r: no ID that came was there, or came twice
pub record Come (field counts ids refs field' counts' : List ℕ) (r : Bool) : Type 0 where
  pub marks : (v : ℕ) → marked field' v ≡ (elem v ids || marked field v)
  pub tells : (v : ℕ) → get_or counts' v 0 ≡ get_or counts v 0 + times v refs
  pub told : r ≡ new_in (marked field) ids

-- nothing went or came
pub gone_none : (field counts : List ℕ) → Gone field counts [] [] field counts
gone_none field counts = record { marks = λ v. refl; tells = λ v. omega arith }

pub come_none : (field counts : List ℕ) → Come field counts [] [] field counts true
come_none field counts = record { marks = λ v. refl; tells = λ v. omega arith; told = refl }

pub elem_append : (v : ℕ) (l m : List ℕ) → elem v (l ++ m) ≡ (elem v l || elem v m)
elem_append v [] m = refl
elem_append v (x ∷ l) m = go (eqb v x) (elem_append v l m)
  where
    go : (b : Bool) → elem v (l ++ m) ≡ (elem v l || elem v m) → (b || elem v (l ++ m)) ≡ ((b || elem v l) || elem v m)
    go true h = refl
    go false h = h

new_append : (S : ℕ → Bool) (l m : List ℕ) → new_in S (l ++ m) ≡ (new_in S l && new_in (λ u. elem u l || S u) m)
new_append S [] m = refl
new_append S (x ∷ l) m =
    ap (λ b. not (S x) && b) (new_append (λ u. eqb u x || S u) l m
    ∙ ap (λ b. new_in (λ u. eqb u x || S u) l && b) (new_same (λ u. elem u l || (eqb u x || S u)) (λ u. (eqb u x || elem u l) || S u) (λ u. turn (elem u l) (eqb u x) (S u)) m))
    ∙ part (not (S x)) (new_in (λ u. eqb u x || S u) l) (new_in (λ u. (eqb u x || elem u l) || S u) m)
  where
    turn : (a b c : Bool) → (a || (b || c)) ≡ ((b || a) || c)
    turn true true c = refl
    turn true false c = refl
    turn false true c = refl
    turn false false c = refl

    part : (a b c : Bool) → (a && (b && c)) ≡ ((a && b) && c)
    part true b c = refl
    part false b c = refl

-- one part, and then another
module _ {f c i j f₁ c₁ : List ℕ} (i' j' : List ℕ) {f₂ c₂ : List ℕ} where
  pub gone_both : Gone f c i j f₁ c₁ → Gone f₁ c₁ i' j' f₂ c₂ → Gone f c (i ++ i') (j ++ j') f₂ c₂
  gone_both a b = record {
    marks = λ v. b.marks v ∙ ap (λ z. not (elem v i') && z) (a.marks v)
        ∙ out (elem v i') (elem v i) (marked f v) ∙ ap (λ z. not z && marked f v) (sym (elem_append v i i'));
    tells = λ v. omega (arith, a.tells v, b.tells v, times_append v j j');
  }
    where
      out : (x y m : Bool) → (not x && (not y && m)) ≡ (not (y || x) && m)
      out true true m = refl
      out true false m = refl
      out false true m = refl
      out false false m = refl

  pub come_both : {r r' : Bool} → Come f c i j f₁ c₁ r → Come f₁ c₁ i' j' f₂ c₂ r' → Come f c (i ++ i') (j ++ j') f₂ c₂ (r && r')
  come_both {r} {r'} a b = record {
    marks = λ v. b.marks v ∙ ap (λ z. elem v i' || z) (a.marks v) ∙ into (elem v i') (elem v i) (marked f v) ∙ ap (λ z. z || marked f v) (sym (elem_append v i i'));
    tells = λ v. omega (arith, a.tells v, b.tells v, times_append v j j');
    told = ap₂ ◌&&◌ a.told (b.told ∙ new_same (marked f₁) (λ u. elem u i || marked f u) a.marks i') ∙ sym (new_append (marked f) i i');
  }
    where
      into : (x y m : Bool) → (x || (y || m)) ≡ ((y || x) || m)
      into true true m = refl
      into true false m = refl
      into false true m = refl
      into false false m = refl

-- ---- a token

-- the value of the token, if it is one of a kind
abbrev pub value_here : (ℕ → ℕ → Bool) → Walk → ℕ → List ℕ
value_here is at t = cons_if (value_of is at (tok_of t)) (t / 8) []

-- a value has a bit and a count
pub record Long (field counts : List ℕ) : Type 0 where
  pub words : length field ≡ field_words
  pub values : length counts ≡ most_values

module _ {field counts : List ℕ} (l : Long field counts) (t : ℕ) {y : Bool} (ey : y ≡ value_tok (tok_of t)) (n : not y ≡ false) {v : ℕ} (ev : v ≡ t / 8) where
  small : v < most_values
  small = omega (arith, value_small t (sym ey ∙ not-false y n))

  pub bit_of : v / 64 < length field
  bit_of = omega (arith, small, l.words)

  pub count_of : v < length counts
  count_of = omega (arith, small, l.values)

-- there are as many references as go, and room for those that come
pub record Enough (counts refs : List ℕ) : Type 0 where
  pub each : (v : ℕ) → times v refs ≤ get_or counts v 0

pub record Room (counts refs : List ℕ) : Type 0 where
  pub each : (v : ℕ) → get_or counts v 0 + times v refs < most_values

-- .. once those that go are gone
pub record Fits (counts gone come : List ℕ) : Type 0 where
  pub each : (v : ℕ) → get_or counts v 0 + times v come < most_values + times v gone

-- some go, and then others come. r: no ID that came was there still, or came twice
pub record Exchanged (field counts ids refs ids' refs' field' counts' : List ℕ) (r : Bool) : Type 0 where
  pub field_between : List ℕ
  pub counts_between : List ℕ
  pub gone : Gone field counts ids refs field_between counts_between
  pub come : Come field_between counts_between ids' refs' field' counts' r

module _ {field counts ids refs field₁ counts₁ : List ℕ} (g : Gone field counts ids refs field₁ counts₁) {refs' : List ℕ} where
  pub exchange_room : Fits counts refs refs' → Room counts₁ refs'
  exchange_room f = record { each = λ v. omega (arith, f.each v, g.tells v) }

  pub exchange_both : {ids' field₂ counts₂ : List ℕ} {r : Bool} → Come field₁ counts₁ ids' refs' field₂ counts₂ r
      → Exchanged field counts ids refs ids' refs' field₂ counts₂ r
  exchange_both {ids'} {field₂} {counts₂} {r} k = record { field_between = field₁; counts_between = counts₁; gone = g; come = k }

-- one value that goes, or comes, where b holds
module _ (field counts : List ℕ) (v : ℕ) where
  unmarked : v / 64 < length field → (b : Bool) (u : ℕ) → marked (cond b (unmark field v) field) u ≡ (not (elem u (cons_if b v [])) && marked field u)
  unmarked h true u = marked_unmark field v h u ∙ ap (λ z. not z && marked field u) (sym (or-false (eqb u v)))
  unmarked h false u = refl

  marked_so : v / 64 < length field → (b : Bool) (u : ℕ) → marked (cond b (mark field v) field) u ≡ (elem u (cons_if b v []) || marked field u)
  marked_so h true u = marked_mark field v h u ∙ ap (λ z. z || marked field u) (sym (or-false (eqb u v)))
  marked_so h false u = refl

  new_one : (b : Bool) → not (b && marked field v) ≡ new_in (marked field) (cons_if b v [])
  new_one true = sym (and-true (not (marked field v)))
  new_one false = refl

  set_at : (x u : ℕ) → v < length counts → get_or (set counts v x) u 0 ≡ cond (eqb u v) x (get_or counts u 0)
  set_at x u h = elim (ℕ_discrete u v) [
    | yes e ↦ rw (eq-eqb u v e) (ap (λ i. get_or (set counts v x) i 0) e ∙ get_or-set_same counts v x 0 h)
    | no e ↦ rw (ne_eqb u v e) (get_or-set_other counts v u x 0 e)
  ]

  fewer : v < length counts → (b : Bool) → Enough counts (cons_if b v []) → (u : ℕ) → get_or (lowered counts b v) u 0 + times u (cons_if b v []) ≡ get_or counts u 0
  fewer h true n u = rw (set_at (get_or counts v 0 - 1) u h) (go (eqb u v) refl)
    where
      one : 0 < get_or counts v 0
      one = let k = n.each v in rw (eq-eqb v v refl) at k

      go : (z : Bool) → eqb u v ≡ z → cond z (get_or counts v 0 - 1) (get_or counts u 0) + cond z 1 0 ≡ get_or counts u 0
      go true e = rw (eqb-true u v e) (omega (arith, one))
      go false e = omega arith
  fewer h false n u = omega arith

  more : v < length counts → (b : Bool) (u : ℕ) → get_or (raised counts b v) u 0 ≡ get_or counts u 0 + times u (cons_if b v [])
  more h true u = rw (set_at (get_or counts v 0 + 1) u h) (go (eqb u v) refl)
    where
      go : (z : Bool) → eqb u v ≡ z → cond z (get_or counts v 0 + 1) (get_or counts u 0) ≡ get_or counts u 0 + cond z 1 0
      go true e = rw (eqb-true u v e)
      go false e = omega arith
  more h false u = omega arith

-- a token that goes, or comes
module _ (table : List ℕ) (at : Walk) (t : ℕ) {y : Bool} (ey : y ≡ value_tok (tok_of t)) where
  abbrev ids : List ℕ
  ids = value_here (is_id (of_table table)) at t

  abbrev refs : List ℕ
  refs = value_here (is_ref (of_table table)) at t

  module _ (n : not y ≡ true) where
    nothing : (is : ℕ → ℕ → Bool) → value_here is at t ≡ []
    nothing is = rw (sym ey ∙ not-true y n)

    pub take_none : {field counts : List ℕ} → Gone field counts ids refs field counts
    take_none {field} {counts} = rw (nothing (is_id (of_table table)), nothing (is_ref (of_table table))) (gone_none field counts)

    pub put_none : {field counts : List ℕ} → Come field counts ids refs field counts true
    put_none {field} {counts} = rw (nothing (is_id (of_table table)), nothing (is_ref (of_table table))) (come_none field counts)

  module _ (n : not y ≡ false) {i r : Bool} (ei : i ≡ is_id (of_table table) at.element at.attribute) (er : r ≡ is_ref (of_table table) at.element at.attribute)
      {v : ℕ} (ev : v ≡ t / 8) where
    value : {b : Bool} (is : ℕ → ℕ → Bool) → b ≡ is at.element at.attribute → value_here is at t ≡ cons_if b v []
    value {b} is e = ap₂ (λ x z. cons_if x z []) (ap₂ ◌&&◌ (sym ey ∙ not-false y n) (sym e)) (sym ev)

    module _ {field counts : List ℕ} (l : Long field counts) where
      pub lower_asks : Enough counts refs → r ≡ true → 0 < get_or counts v 0
      lower_asks k e = let h = (subst (Enough counts) (value (is_ref (of_table table)) er) k).each v in rw (e, eq-eqb v v refl) at h

      pub raise_asks : Room counts refs → r ≡ true → get_or counts v 0 + 1 < most_values
      raise_asks k e = let h = (subst (Room counts) (value (is_ref (of_table table)) er) k).each v in rw (e, eq-eqb v v refl) at h

      pub take_one : {field' counts' : List ℕ} → Enough counts refs → field' ≡ cond i (unmark field v) field → counts' ≡ lowered counts r v
          → Gone field counts ids refs field' counts'
      take_one k ef ec = rw (value (is_id (of_table table)) ei, value (is_ref (of_table table)) er, ef, ec) (record {
        marks = unmarked field counts v (bit_of l t ey n ev) i;
        tells = fewer field counts v (count_of l t ey n ev) r (subst (Enough counts) (value (is_ref (of_table table)) er) k);
      })

      pub put_one : {field' counts' : List ℕ} {met : Bool} → Noted field i v field' met → counts' ≡ raised counts r v → Come field counts ids refs field' counts' (not met)
      put_one m ec = rw (value (is_id (of_table table)) ei, value (is_ref (of_table table)) er, m.now_is, ec) (record {
        marks = marked_so field counts v (bit_of l t ey n ev) i;
        tells = more field counts v (count_of l t ey n ev) r;
        told = ap not m.told ∙ new_one field counts v i;
      })
