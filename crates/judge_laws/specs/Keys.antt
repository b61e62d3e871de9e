-- IDs and references: the judgement finds no fault in them exactly if no ID value stands at two places and each reference value is
-- an ID value. Assumes nothing.
use Rattle.std.specs.Prelude.{◌≡◌, refl, ◌↔◌, Bool, true, false, cond, ◌&&◌, ◌||◌, ℕ, zero, suc, ◌<◌, T, ltb, eqb, length, get_or}
use Rattle.std.proofs.Common.{ap, sym, ◌∙◌, inl, inr, arith, eqb→eq, lt→ltb}
use mathlib.Core.List.Memᴰ
use mathlib.Core.List.{List, [], ◌∷◌, map, Memᴰ}
use Rattle.std.proofs.Math.Dec.{eqb_refl}
use Rattle.paper.specs.declared.Tok.{Tok}
use Rattle.paper.specs.Basics.{some_of, elem}
use Rattle.paper.specs.Schema.{Attribute, Element, Schema}
use Rattle.paper.specs.Table.{of_kind}
use Rattle.paper.specs.Shape.{Body, phases, is_body}
use Rattle.paper.specs.Rules.{element_at, has, of_schema, undeclared}
use Rattle.paper.specs.Judgement.{is_id, is_ref, ids_of, refs_of, value_in, repeated, dangling}
use Rattle.paper.specs.Validity.{StandsAt, IsId, IsReference}
use Rattle.basic_laws.specs.Tests.{and_iff, or_iff, or_l, or_r}
use Rattle.judge_laws.specs.Connectives.{pass_iff}
use Rattle.judge_laws.specs.Values.{Rising, rising_from_lem}
use Rattle.judge_laws.specs.Stands.{stands_iff}

-- ---- values and their places, as a list

abbrev Holds : List (ℕ × ℕ) → (i x : ℕ) → Type 0
Holds l i x = Memᴰ (i, x) l

-- no value stands at two places
abbrev Once : List (ℕ × ℕ) → Type 0
Once l = (i j x : ℕ) → Holds l i x → Holds l j x → i ≡ j

abbrev Unseen : List ℕ → List (ℕ × ℕ) → Type 0
Unseen seen l = (i x : ℕ) → Holds l i x → ¬ T (elem x seen)

-- p comes before l, and its value was not seen
module _ (seen : List ℕ) (p : ℕ × ℕ) (l : List (ℕ × ℕ)) where
  to_cons : elem p.1 seen ≡ false → Unseen (p.1 ∷ seen) l × Once l → Unseen seen (p ∷ l) × Once (p ∷ l)
  to_cons h (new, once) = (
    λ i x m t. elim (Memᴰ.cases_cons m) [
      | inl c ↦ let f : x ≡ p.1 = ap value_in c in rw (f, h) at t
      | inr n ↦ new i x n (or_r (eqb x p.1) (elem x seen) t)
    ],
    λ i j x m n. elim (Memᴰ.cases_cons m) [
      | inl c ↦ elim (Memᴰ.cases_cons n) [ inl d ↦ ap (λ q. q.0) c ∙ sym (ap (λ q. q.0) d) | inr n ↦ absurd (new j x n (met c)) ]
      | inr m ↦ elim (Memᴰ.cases_cons n) [ inl d ↦ absurd (new i x m (met d)) | inr n ↦ once i j x m n ]
    ],
  )
    where
      met : {i x : ℕ} → (i, x) ≡ p → T (elem x (p.1 ∷ seen))
      met {i} {x} c = or_l (eqb x p.1) (elem x seen) (rw (ap value_in c) (eqb_refl p.1))

  of_cons : ((j x : ℕ) → Holds l j x → p.0 < j) → Unseen seen (p ∷ l) × Once (p ∷ l) → Unseen (p.1 ∷ seen) l × Once l
  of_cons before (new, once) = (
    λ i x m t. elim ((or_iff (eqb x p.1) (elem x seen)).0 t) [
      | inl s ↦
          let k = once i p.0 x (Memᴰ.tail m) (Memᴰ.head (ap (λ y. (p.0, y)) (eqb→eq x p.1 s))) in
          absurd (omega (arith, before i x m))
      | inr s ↦ new i x (Memᴰ.tail m) s
    ],
    λ i j x m n. once i j x (Memᴰ.tail m) (Memᴰ.tail n),
  )

repeated_from : (seen : List ℕ) (l : List (ℕ × ℕ)) → Rising l → ((repeated seen l).0 ≡ 0) ↔ (Unseen seen l × Once l)
repeated_from seen [] r = (λ e. (λ i x m. absurd (Memᴰ.not-nil m), λ i j x m n. absurd (Memᴰ.not-nil m)), λ f. refl)
repeated_from seen (p ∷ l) r = go (elem p.1 seen) refl (repeated_from (p.1 ∷ seen) l r.1)
  where
    go : (b : Bool) → elem p.1 seen ≡ b → ((repeated (p.1 ∷ seen) l).0 ≡ 0) ↔ (Unseen (p.1 ∷ seen) l × Once l)
        → ((cond b (11, p.0) (repeated (p.1 ∷ seen) l)).0 ≡ 0) ↔ (Unseen seen (p ∷ l) × Once (p ∷ l))
    go true h rest = (λ e. absurd (omega arith), λ f. absurd (f.0 p.0 p.1 (Memᴰ.head refl) (rw h tt)))
    go false h rest = (λ e. to_cons seen p l h (rest.0 e), λ f. rest.1 (of_cons seen p l r.0 f))

repeated_iff : (l : List (ℕ × ℕ)) → Rising l → ((repeated [] l).0 ≡ 0) ↔ Once l
repeated_iff l r = let (to, of) = repeated_from [] l r in (λ e. (to e).1, λ f. of (λ i x m t. t, f))

pub elem_iff : (x : ℕ) (l : List (ℕ × ℕ)) → T (elem x (map value_in l)) ↔ ((j : ℕ) × Holds l j x)
elem_iff x [] = (λ t. absurd t, λ h. absurd (Memᴰ.not-nil h.1))
elem_iff x (p ∷ l) =
    let (to, of) = elem_iff x l in
    let (apart, joined) = or_iff (eqb x p.1) (elem x (map value_in l)) in (
      λ t. elim (apart t) [
        | inl s ↦ (p.0, Memᴰ.head (ap (λ y. (p.0, y)) (eqb→eq x p.1 s)))
        | inr s ↦ let (j, m) = to s in (j, Memᴰ.tail m)
      ],
      λ h. elim (Memᴰ.cases_cons h.1) [
        | inl c ↦ joined (inl (rw (ap value_in c) (eqb_refl p.1)))
        | inr m ↦ joined (inr (of (h.0, m)))
      ],
    )

pub dangling_iff : (ids : List ℕ) (l : List (ℕ × ℕ)) → ((dangling ids l).0 ≡ 0) ↔ ((i x : ℕ) → Holds l i x → T (elem x ids))
dangling_iff ids [] = (λ e i x m. absurd (Memᴰ.not-nil m), λ f. refl)
dangling_iff ids (p ∷ l) =
    let (to, of) = dangling_iff ids l in
    let (apart, joined) = pass_iff (elem p.1 ids) (dangling ids l) (12, p.0) (omega arith) in (
      λ e i x m. let (t, f) = apart e in elim (Memᴰ.cases_cons m) [ inl c ↦ rw (ap value_in c) t | inr n ↦ to f i x n ],
      λ f. joined (f p.0 p.1 (Memᴰ.head refl), of (λ i x m. f i x (Memᴰ.tail m))),
    )

-- ---- what the element declares

module _ (P : Attribute → Bool) (a : ℕ) where
  has_some : (l : List Attribute) → T (some_of (λ y. P y && eqb a y.number) l) → T (some_of (λ y. eqb a y.number) l)
  has_some [] t = elim t [ ]
  has_some (y ∷ l) t =
      elim ((or_iff (P y && eqb a y.number) (some_of (λ z. P z && eqb a z.number) l)).0 t) [
        | inl s ↦ or_l (eqb a y.number) (some_of (λ z. eqb a z.number) l) ((and_iff (P y) (eqb a y.number)).0 s).1
        | inr s ↦ or_r (eqb a y.number) (some_of (λ z. eqb a z.number) l) (has_some l s)
      ]

  has_below : (l : List Element) (n : ℕ) → T (has P (get_or l n undeclared) a) → n < length l
  has_below [] n t = elim t [ ]
  has_below (x ∷ l) zero t = omega arith
  has_below (x ∷ l) (suc n) t = let k = has_below l n t in omega arith

module _ (s : Schema) (n a : ℕ) where
  abbrev of_kind_lem : ℕ → Bool
  of_kind_lem k = has (of_kind k) (element_at s n) a

  -- what is of a kind is declared
  known : (k : ℕ) → T (of_kind_lem k) → T (ltb n (length s.elements) && has (λ y. true) (element_at s n) a)
  known k t =
      (and_iff (ltb n (length s.elements)) (has (λ y. true) (element_at s n) a)).1
      (lt→ltb n (length s.elements) (has_below (of_kind k) a s.elements n t), has_some (of_kind k) a (element_at s n).attributes t)

  id_iff : T (is_id (of_schema s) n a) ↔ IsId s n a
  id_iff =
      let (apart, joined) = and_iff (ltb n (length s.elements) && has (λ y. true) (element_at s n) a) (of_kind_lem 1) in
      (λ t. (apart t).1, λ t. joined (known 1 t, t))

  reference_iff : T (is_ref (of_schema s) n a) ↔ IsReference s n a
  reference_iff =
      let (apart, joined) = and_iff (ltb n (length s.elements) && has (λ y. true) (element_at s n) a) (of_kind_lem 2 || of_kind_lem 3) in
      let (to, of) = or_iff (of_kind_lem 2) (of_kind_lem 3) in
      (λ t. to (apart t).1, λ c. joined (elim c [ inl t ↦ known 2 t | inr t ↦ known 3 t ], of c))

-- ---- in a document with shape

stands_as : {P Q : (n a : ℕ) → Type 0} {d : List Tok} {i x : ℕ} → ((n a : ℕ) → P n a → Q n a) → StandsAt P d i x → StandsAt Q d i x
stands_as f z = record {
  element = z.element;
  attribute = z.attribute;
  before = z.before;
  after = z.after;
  tokens = z.tokens;
  at_place = z.at_place;
  ends = z.ends;
  such = f z.element z.attribute z.such;
}

module _ (s : Schema) (d : List Tok) (b : is_body (phases Body d) ≡ true) where
  pub holds_id : (i x : ℕ) → Holds (ids_of (of_schema s) d) i x ↔ StandsAt (IsId s) d i x
  holds_id i x =
      let (to, of) = stands_iff (is_id (of_schema s)) d b i x in
      (λ m. stands_as (λ n a. (id_iff s n a).0) (to m), λ z. of (stands_as (λ n a. (id_iff s n a).1) z))

  pub holds_reference : (i x : ℕ) → Holds (refs_of (of_schema s) d) i x ↔ StandsAt (IsReference s) d i x
  holds_reference i x =
      let (to, of) = stands_iff (is_ref (of_schema s)) d b i x in
      (λ m. stands_as (λ n a. (reference_iff s n a).0) (to m), λ z. of (stands_as (λ n a. (reference_iff s n a).1) z))

  pub ids_iff : ((repeated [] (ids_of (of_schema s) d)).0 ≡ 0) ↔ ((i j x : ℕ) → StandsAt (IsId s) d i x → StandsAt (IsId s) d j x → i ≡ j)
  ids_iff =
      let (to, of) = repeated_iff (ids_of (of_schema s) d) (rising_from_lem (is_id (of_schema s)) d 0 0 0) in (
        λ e i j x y z. to e i j x ((holds_id i x).1 y) ((holds_id j x).1 z),
        λ f. of (λ i j x m n. f i j x ((holds_id i x).0 m) ((holds_id j x).0 n)),
      )
