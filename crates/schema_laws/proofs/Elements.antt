-- The readers of attributes and of elements take exactly what is written. Assumes nothing.
use Rattle.std.specs.Prelude.{◌≡◌, refl, Bool, true, false, cond, not, ◌&&◌, ◌||◌, List, [], ◌∷◌, map, ℕ, zero, suc, ◌+◌, ◌-◌, ◌≤◌, leb, ltb, eqb, length}
use Rattle.std.proofs.Common.{sym, ap, ◌∙◌, true≢false, arith, leb-true}
use Rattle.std.proofs.Math.Bool.{and-eq-true_iff}
use Rattle.std.proofs.lemmas.Bool.{not-true}
use Rattle.paper.specs.Basics.{most_number, most_elements, most_attributes, most_fixed, between, cons_if, concat}
use Rattle.paper.specs.Files.{largest}
use Rattle.paper.specs.Schema.{Attribute, model, Element, ok, pure, refuse, number, kind_after, most_status, most_value, value_after, attributes_from, element, elements_of}
use Rattle.paper.specs.SchemaWritten.{attribute_written, content_written, element_written, formed_attributes, formed_content, formed_element}
use Rattle.schema_laws.specs.Written.{ahead, ahead_join, Ends, took, failed, Exact, Nowhere, then_takes, then_stops, then_ends}
use Rattle.schema_laws.specs.Rows.{number_exact, upto_exact, all_from, Amid, run_exact}
use Rattle.schema_laws.specs.Contents.{kind_of, body_of, kind_low, unambiguous, fit_content, Tangled}
use Rattle.schema_laws.proofs.Contents.{kind_body, content_exact}
use Rattle.schema_laws.specs.Elements.{fit, fixes}

-- ---- attributes

-- a kind, and no second ID
abbrev fit_kind : Bool → ℕ → Bool
fit_kind had k = leb k 3 && not (had && eqb k 1)

kind_exact : (had : Bool) → Exact (kind_after had) (λ k. fit_kind had k ≡ true) (λ k. k ∷ []) Nowhere
kind_exact had = record {
  takes = λ k r p.
      let (low, other) = (and-eq-true_iff (leb k 3) (not (had && eqb k 1))).0 p in
      then_takes (upto_exact 3 (omega arith)) _ k r low ∙ rw (not-true (had && eqb k 1) other);
  stops = λ s z. absurd z;
  ends = λ s b. then_ends (upto_exact 3 (omega arith)) _ s b (λ z. z) λ k r p low c. by s k r p low (had && eqb k 1) refl;
}
  where
    by : (s : List ℕ) (k : ℕ) (r : List ℕ) → s ≡ ahead (k ∷ []) r → leb k 3 ≡ true → (c : Bool) → had && eqb k 1 ≡ c
        → Ends (λ k. fit_kind had k ≡ true) (λ k. k ∷ []) Nowhere s (cond c (refuse 2) (pure k) r)
    by s k r p low true q = failed 2 (λ z. omega arith)
    by s k r p low false q = took k r p (rw (low, q))

-- the value behind a status
value_exact : (status : ℕ) → Exact (value_after status) (λ v. leb v (most_value status) ≡ true) (λ v. cons_if (eqb status 2) v []) Nowhere
value_exact status = by (eqb status 2)
  where
    none_there : (v : ℕ) → leb v 0 ≡ true → v ≡ 0
    none_there v p = let h = leb-true v 0 p in omega arith

    by : (b : Bool) → Exact (cond b (number 0 most_number) (pure 0)) (λ v. leb v (cond b most_number 0) ≡ true) (λ v. cons_if b v []) Nowhere
    by true = upto_exact most_number (omega arith)
    by false = record {
      takes = λ v r p. ap (λ n. ok n r) (sym (none_there v p));
      stops = λ s z. absurd z;
      ends = λ s b. took 0 s refl refl;
    }

-- several, from `low` on
abbrev Attributes : ℕ → ℕ → Bool → ℕ → Type 0
Attributes n low had met =
    Exact (attributes_from n low had met) (λ l. (length l ≡ n) × (formed_attributes low had met l ≡ true)) (λ l. concat (map attribute_written l)) Nowhere

attributes_none : (low : ℕ) (had : Bool) (met : ℕ) → Attributes zero low had met
attributes_none low had met = record { takes = takes; stops = λ s z. absurd z; ends = λ s b. took [] s refl (refl, refl) }
  where
    takes : (l : List Attribute) (r : List ℕ) → (length l ≡ zero) × (formed_attributes low had met l ≡ true)
        → attributes_from zero low had met (ahead (concat (map attribute_written l)) r) ≡ ok l r
    takes [] r p = refl
    takes (y ∷ l) r p = let d = p.0 in absurd (omega arith)

-- the parts of an attribute's test
attribute_parts : (a b c d v e : Bool) → a && b && c && d && v && e ≡ true → (a ≡ true) × (b && c ≡ true) × (d ≡ true) × (v ≡ true) × (e ≡ true)
attribute_parts true true true d v e h =
    let (p, q) = (and-eq-true_iff (d && v) e).0 h in
    let (r, s) = (and-eq-true_iff d v).0 p in
    (refl, refl, r, s, q)
attribute_parts true true false d v e h = absurd (true≢false (sym h))
attribute_parts true false c d v e h = absurd (true≢false (sym h))
attribute_parts false b c d v e h = absurd (true≢false (sym h))

module _ (n low : ℕ) (had : Bool) (met : ℕ) (others : (low : ℕ) (had : Bool) (met : ℕ) → Attributes n low had met) where
  number_of : Exact (number low (most_attributes - 1)) (λ k. between low (most_attributes - 1) k ≡ true) (λ k. k ∷ []) Nowhere
  number_of = number_exact low (most_attributes - 1) (omega arith)

  status_of : (k : ℕ) → Exact (number 0 (most_status k met)) (λ s. leb s (most_status k met) ≡ true) (λ s. s ∷ []) Nowhere
  status_of k = upto_exact (most_status k met) (small (eqb k 0 && ltb met most_fixed))
    where
      small : (b : Bool) → cond b 2 1 ≤ largest
      small true = omega arith
      small false = omega arith

  -- the rest, behind an attribute of kind k and status s
  rest_of : (a k s : ℕ) → Attributes n (suc a) (had || eqb k 1) (met + cond (eqb s 2) 1 0)
  rest_of a k s = others (suc a) (had || eqb k 1) (met + cond (eqb s 2) 1 0)

  attributes_more : Attributes (suc n) low had met
  attributes_more = record {
    takes = takes;
    stops = λ s z. absurd z;
    ends = λ s b.
        then_ends number_of _ s b (λ z. z) λ a t p good c.
        then_ends (kind_exact had) _ t c (λ z. z) λ k u q kind d.
        then_ends (status_of k) _ u d (λ z. z) λ i v x status y.
        then_ends (value_exact i) _ v y (λ z. z) λ m o f value g.
        then_ends (rest_of a k i) _ o g (λ z. z) λ l r z fine j.
        let (three, other) = (and-eq-true_iff (leb k 3) (not (had && eqb k 1))).0 kind in
        took (record { number = a; kind = k; status = i; value = m } ∷ l) r (rw (ahead_join (cons_if (eqb i 2) m []) (concat (map attribute_written l)) r) (cc))
        (ap suc fine.0, rw (good, three, other, status, value) fine.1);
  }
    where
      takes : (l : List Attribute) (r : List ℕ) → (length l ≡ suc n) × (formed_attributes low had met l ≡ true)
          → attributes_from (suc n) low had met (ahead (concat (map attribute_written l)) r) ≡ ok l r
      takes [] r p = let d = p.0 in absurd (omega arith)
      takes (y ∷ l) r p =
          let d = p.0 in
          let (a, k, t, v, rest) = attribute_parts _ _ _ _ _ _ p.1 in
          rw (ahead_join (cons_if (eqb y.status 2) y.value []) (concat (map attribute_written l)) r)
          (then_takes number_of _ y.number _ a
          ∙ then_takes (kind_exact had) _ y.kind _ k
          ∙ then_takes (status_of y.kind) _ y.status _ t
          ∙ then_takes (value_exact y.status) _ y.value _ v
          ∙ then_takes (rest_of y.number y.kind y.status) _ l r (omega arith, rest))

attributes_exact : (n low : ℕ) (had : Bool) (met : ℕ) → Attributes n low had met
attributes_exact zero low had met = attributes_none low had met
attributes_exact (suc n) low had met = attributes_more n low had met (λ l h m. attributes_exact n l h m)

module _ (E : ℕ) (h : E ≤ most_elements) where
  fit_parts : (met : ℕ) (x : Element) → fit E met x ≡ true
      → (fit_content E x.content ≡ true) × (leb (length x.attributes) most_attributes ≡ true) × (formed_attributes 0 false met x.attributes ≡ true)
  fit_parts met x p =
      let (f, clean) = (and-eq-true_iff (formed_element E met x) (unambiguous x.content)).0 p in
      let (g, attributes) = (and-eq-true_iff (formed_content E x.content && leb (length x.attributes) most_attributes) (formed_attributes 0 false met x.attributes)).0 f in
      let (content, few) = (and-eq-true_iff (formed_content E x.content) (leb (length x.attributes) most_attributes)).0 g in
      (rw (content, clean), few, attributes)

  element_exact : (met : ℕ) → Exact (element E met) (λ x. fit E met x ≡ true) element_written (Tangled E (λ e. content_written (model e)))
  element_exact met = record {
    takes = λ x r p.
        let (content, few, attributes) = fit_parts met x p in
        rw (ahead_join, kind_body)
        (then_takes kind_of_lem _ (kind_of x.content) _ (kind_low x.content)
        ∙ then_takes (content_exact E h (kind_of x.content) (kind_low x.content)) _ x.content _ (refl, content)
        ∙ then_takes count_of _ (length x.attributes) _ few
        ∙ then_takes (attributes_exact (length x.attributes) 0 false met) _ x.attributes r (refl, attributes));
    stops = λ s q.
        rw q.begins
        (then_takes kind_of_lem _ 2 _ refl
        ∙ then_stops (content_exact E h 2 refl) _ _ (refl, record { e = q.e; rest = q.rest; formed = q.formed; tangled = q.tangled; begins = refl }));
    ends = λ s b.
        then_ends kind_of_lem _ s b (λ z. absurd z) λ k t p low c.
        then_ends (content_exact E h k low) _ t c (λ q. around s k t p q) λ y u q good d.
        then_ends count_of _ u d (λ z. absurd z) λ n v i few j.
        then_ends (attributes_exact n 0 false met) _ v j (λ z. absurd z) λ z r o fine m.
        let (formed, clean) = (and-eq-true_iff (formed_content E y) (unambiguous y)).0 good.1 in
        took (record { content = y; attributes = z }) r
        (rw (ahead_join, kind_body y, good.0, fine.0) (cc)) (rw (formed, fine.0, few, fine.1) clean);
  }
    where
      kind_of_lem : Exact (number 0 2) (λ k. leb k 2 ≡ true) (λ k. k ∷ []) Nowhere
      kind_of_lem = upto_exact 2 (omega arith)

      count_of : Exact (number 0 most_attributes) (λ k. leb k most_attributes ≡ true) (λ k. k ∷ []) Nowhere
      count_of = upto_exact most_attributes (omega arith)

      around : (s : List ℕ) (k : ℕ) (t : List ℕ) → s ≡ ahead (k ∷ []) t → (k ≡ 2) × Tangled E (λ e. body_of (model e)) t
          → Tangled E (λ e. content_written (model e)) s
      around s k t p q = record { e = q.1.e; rest = q.1.rest; formed = q.1.formed; tangled = q.1.tangled; begins = cc }

  pub elements_exact : (n met : ℕ)
      → Exact (elements_of n E met) (λ l. (length l ≡ n) × (all_from (fit E) fixes met l ≡ true)) (λ l. concat (map element_written l))
      (Amid (fit E) fixes met element_written (Tangled E (λ e. content_written (model e))) n)
  elements_exact = run_exact fixes element_exact (λ n. elements_of n E) (λ met s. refl) (λ n met s. refl)
