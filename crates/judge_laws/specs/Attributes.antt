-- The test of an element's attributes is passed exactly by valid attributes. Assumes nothing.
use Rattle.std.specs.Prelude.{◌≡◌, refl, ◌↔◌, ◌⊎◌, Bool, true, false, cond, not, ◌&&◌, ◌||◌, List, [], ◌∷◌, ◌++◌, ℕ, zero, suc, ◌+◌, ◌<◌, T, leb, ltb, eqb, length, get_or}
use Rattle.std.proofs.Common.{ap, inl, inr, arith, leb→le, eqb→eq}
use Rattle.std.proofs.Math.Logic.Iff
use Rattle.std.proofs.Math.Option.{Option, none, some}
use Rattle.std.proofs.Math.Dec.{eqb_refl}
use Rattle.paper.specs.declared.Tok.{Tok}
use Rattle.paper.specs.declared.Tok.TheVariants.{Start, End, Text, Attr, Value, Bad}
use Rattle.paper.specs.Basics.{most_elements, most_attributes, between, every, some_of}
use Rattle.paper.specs.Tokens.{values}
use Rattle.paper.specs.Schema.{Attribute, is_fixed, fixed_in, Element, Schema}
use Rattle.paper.specs.SchemaWritten.{formed_attributes, formed_content, formed_element, formed_elements, formed}
use Rattle.paper.specs.Table.{of_kind, is_required}
use Rattle.paper.specs.Rules.{element_at, has, fixed_to, of_schema, undeclared}
use Rattle.paper.specs.Judgement.{present, each_attr, only_value, fixed_good, attributes_good}
use Rattle.paper.specs.Validity.{AttributesValid}
use Rattle.basic_laws.specs.Tests.{and_iff, or_iff, or_l, or_r, true_iff}
use Rattle.judge_laws.specs.Connectives.{and3_iff, imp_iff, every_iff, other, Each, each_nil, each_cons}

-- ---- each attribute

module _ (P : ℕ → List Tok → Bool) where
  each_first : (t : Tok) (h : List Tok) → T (each_attr P (t ∷ h)) ↔ (((a : ℕ) → t ≡ Attr a → T (P a h)) × T (each_attr P h))
  each_first (Attr n) h = Iff.trans (and_iff (P n h) (each_attr P h)) (λ p. (λ a c. let e : n ≡ a = cc in rw (← e) p.0, p.1), λ p. (p.0 n refl, p.1))
  each_first (Start n) h = (λ p. (λ a c. other c refl, p), λ p. p.1)
  each_first End h = (λ p. (λ a c. other c refl, p), λ p. p.1)
  each_first (Text n) h = (λ p. (λ a c. other c refl, p), λ p. p.1)
  each_first (Value n) h = (λ p. (λ a c. other c refl, p), λ p. p.1)
  each_first Bad h = (λ p. (λ a c. other c refl, p), λ p. p.1)

  pub each_iff : (h : List Tok) → T (each_attr P h) ↔ Each Attr (λ a r. T (P a r)) h
  each_iff [] = (λ t. each_nil Attr (λ a r. T (P a r)), λ f. tt)
  each_iff (t ∷ h) = Iff.trans (each_first t h) (Iff.trans (Iff.and Iff.rfl (each_iff h)) (each_cons Attr (λ a r. T (P a r)) t h))

-- ---- an attribute that is present

module _ (a : ℕ) where
  abbrev Split : List Tok → Type 0
  Split h = (u : List Tok) × (r : List Tok) × (h ≡ u ++ Attr a ∷ r)

  later : (t : Tok) {h : List Tok} → Split h → Split (t ∷ h)
  later t (u, r, e) = (t ∷ u, r, rw e)

  to_split : (h : List Tok) → T (present a h) → Split h
  to_split [] t = absurd t
  to_split (Attr n ∷ h) t = elim (simp or_iff at t) [ inl s ↦ ([], h, rw (eqb→eq n a s)) | inr s ↦ later (Attr n) (to_split h s) ]
  to_split (Start n ∷ h) t = later (Start n) (to_split h t)
  to_split (End ∷ h) t = later End (to_split h t)
  to_split (Text n ∷ h) t = later (Text n) (to_split h t)
  to_split (Value n ∷ h) t = later (Value n) (to_split h t)
  to_split (Bad ∷ h) t = later Bad (to_split h t)

  of_split : (u r : List Tok) → T (present a (u ++ Attr a ∷ r))
  of_split [] r = or_l (eqb a a) (present a r) (eqb_refl a)
  of_split (Attr n ∷ u) r = or_r (eqb n a) (present a (u ++ Attr a ∷ r)) (of_split u r)
  of_split (Start n ∷ u) r = of_split u r
  of_split (End ∷ u) r = of_split u r
  of_split (Text n ∷ u) r = of_split u r
  of_split (Value n ∷ u) r = of_split u r
  of_split (Bad ∷ u) r = of_split u r

  present_iff : (h : List Tok) → T (present a h) ↔ Split h
  present_iff h = (to_split h, λ s. rw s.2 (of_split s.0 s.1))

-- ---- the attributes of an element

-- a declared attribute's number is one of those that are tested
below : (low : ℕ) (had : Bool) (met : ℕ) (l : List Attribute) → T (formed_attributes low had met l) → (P : Attribute → Bool) (a : ℕ)
    → T (some_of (λ y. P y && eqb a y.number) l) → a < most_attributes
below low had met [] f P a t = elim t [ ]
below low had met (y ∷ l) f P a t =
    let (f, rest) = simp and_iff at f in
    elim (simp or_iff at t) [
      | inl s ↦
          let m = leb→le y.number 63 f.0.0.0.0.1 in
          let e = eqb→eq a y.number ((and_iff (P y) (eqb a y.number)).0 s).1 in
          omega arith
      | inr s ↦ below (suc y.number) (had || eqb y.kind 1) (met + cond (is_fixed y) 1 0) l rest P a s
    ]

-- the attributes of each element of a schema keep the limits, behind the fixed ones that were met
element_at_lem : (E : ℕ) (l : List Element) (met n : ℕ) → T (formed_elements E met l) → (m : ℕ) × T (formed_attributes 0 false m (get_or l n undeclared).attributes)
element_at_lem E [] met n t = (met, tt)
element_at_lem E (x ∷ l) met zero t =
    let g = ((and_iff (formed_element E met x) (formed_elements E (met + fixed_in x.attributes) l)).0 t).0 in
    (met, ((and3_iff (formed_content E x.content) (leb (length x.attributes) most_attributes) (formed_attributes 0 false met x.attributes)).0 g).2)
element_at_lem E (x ∷ l) met (suc n) t =
    element_at_lem E l (met + fixed_in x.attributes) n ((and_iff (formed_element E met x) (formed_elements E (met + fixed_in x.attributes) l)).0 t).1

formed_at : (s : Schema) → formed s ≡ true → (n : ℕ) → (m : ℕ) × T (formed_attributes 0 false m (element_at s n).attributes)
formed_at s f n =
    let E = length s.elements in
    element_at_lem E s.elements 0 n ((and3_iff (between 1 most_elements E) (ltb s.root E) (formed_elements E 0 s.elements)).0 ((true_iff (formed s)).0 f)).2

single_iff : (b : Bool) (n : ℕ) → T (b || eqb n 1) ↔ (T b ⊎ (n ≡ 1))
single_iff true n = (inl, λ e. tt)
single_iff false n = (λ t. inr (eqb→eq n 1 t), elim [ inl s ↦ absurd s | inr e ↦ rw e tt ])

-- the value v alone
only_iff : (v : ℕ) (r : List Tok) → T (only_value v r) ↔ ((t : List Tok) × (r ≡ Value v ∷ t) × (values t ≡ 0))
only_iff v r = (to r, of r)
  where
    to : (r : List Tok) → T (only_value v r) → (t : List Tok) × (r ≡ Value v ∷ t) × (values t ≡ 0)
    to (Bad ∷ r) t = elim t [ ]
    to (Attr _ ∷ r) t = elim t [ ]
    to (Text _ ∷ r) t = elim t [ ]
    to (End ∷ r) t = elim t [ ]
    to (Start _ ∷ r) t = elim t [ ]
    to [] t = elim t [ ]
    to (Value n ∷ r) t = let (p, q) = (and_iff (eqb n v) (eqb (values r) 0)).0 t in (r, ap (λ m. Value m ∷ r) (eqb→eq n v p), eqb→eq (values r) 0 q)

    of : (r : List Tok) → (t : List Tok) × (r ≡ Value v ∷ t) × (values t ≡ 0) → T (only_value v r)
    of r (t, e, z) = rw (e, z) ((and_iff (eqb v v) true).1 (eqb_refl v, tt))

fixed_iff : (o : Option ℕ) (r : List Tok) → T (fixed_good o r) ↔ ((v : ℕ) → o ≡ some v → (t : List Tok) × (r ≡ Value v ∷ t) × (values t ≡ 0))
fixed_iff none r = (λ t v e. let z : ◌≡◌ {A = ℕ} 0 1 = cc in absurd (omega arith), λ f. tt)
fixed_iff (some n) r = (λ t v e. let d : n ≡ v = cc in rw d at ((only_iff n r).0 t), λ f. (only_iff n r).1 (f n refl))

module _ (x : Element) (h : List Tok) where
  required_iff : (met : ℕ) → T (formed_attributes 0 false met x.attributes)
      → T (every (λ a. not (has is_required x a) || present a h) most_attributes) ↔ ((a : ℕ) → T (has is_required x a) → Split a h)
  required_iff met f =
      let (to, of) = every_iff (λ a. not (has is_required x a) || present a h) most_attributes in (
        λ t a s. (present_iff a h).0 ((imp_iff (has is_required x a) (present a h)).0 (to t a (below 0 false met x.attributes f is_required a s)) s),
        λ f. of (λ a i. (imp_iff (has is_required x a) (present a h)).1 (λ s. (present_iff a h).1 (f a s))),
      )

pub attributes_iff : (s : Schema) → formed s ≡ true → (n : ℕ) (h : List Tok)
    → T (attributes_good (of_schema s) n h) ↔ AttributesValid (element_at s n) h
unfolding attributes_good
attributes_iff s f n h =
    let x = element_at s n in
    let may : ℕ → List Tok → Bool = λ a r. has (λ y. true) x a in
    let must : ℕ → Bool = λ a. not (has is_required x a) || present a h in
    let one : ℕ → List Tok → Bool = λ a r. has (of_kind 3) x a || eqb (values r) 1 in
    let own : ℕ → List Tok → Bool = λ a r. fixed_good (fixed_to x a) r in
    let (met, good) = formed_at s f n in
    let (need, needed) = required_iff x h met good in
    let (last, lasting) = and_iff (each_attr may h && every must most_attributes && each_attr one h) (each_attr own h) in
    let (apart, joined) = and3_iff (each_attr may h) (every must most_attributes) (each_attr one h) in (
      λ t. let (p, q, r) = apart (last t).0 in record {
        allowed = (each_iff may h).0 p;
        required = need q;
        single = λ u v a e. (single_iff (has (of_kind 3) x a) (values v)).0 ((each_iff one h).0 r u v a e);
        fixed = λ u r a v e. (fixed_iff (fixed_to x a) r).0 ((each_iff own h).0 (last t).1 u r a e) v;
      },
      λ v. lasting (
        joined (
          (each_iff may h).1 v.allowed,
          needed v.required,
          (each_iff one h).1 (λ u r a e. (single_iff (has (of_kind 3) x a) (values r)).1 (v.single u r a e)),
        ),
        (each_iff own h).1 (λ u r a e. (fixed_iff (fixed_to x a) r).1 (λ w. v.fixed u r a w e)),
      ),
    )
