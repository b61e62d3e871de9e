-- A document is valid by the schema of a text exactly if it is valid by the text: "the translated table then judges by the text's own
-- expressions". Assumes nothing.
use Rattle.std.specs.Prelude.{◌≡◌, refl, ◌↔◌, ◌⊎◌, Bool, true, List, ◌∷◌, ◌++◌, ℕ, zero, T, eqb, take}
use Rattle.std.proofs.Common.{sym, ap, subst, ◌∙◌, inl, inr, arith}
use Rattle.std.proofs.Math.Logic.Iff
use Rattle.std.proofs.Math.Option.{none, some}
use Rattle.paper.specs.declared.Tok.{Tok}
use Rattle.paper.specs.declared.Tok.TheVariants.{Start, Attr}
use Rattle.paper.specs.Schema.{Attribute, Schema}
use Rattle.paper.specs.Table.{of_kind, is_required}
use Rattle.paper.specs.Tokens.{toks, heads, kids, values}
use Rattle.paper.specs.Shape.{shape_of}
use Rattle.paper.specs.Rules.{undeclared, element_at, has, fixed_to}
use Rattle.paper.specs.Validity.{AttributesValid, StandsAt, IsId, IsReference, Valid, ValidDocument}
use Rattle.paper.specs.Dtd.Letters.{Name}
use Rattle.paper.specs.Dtd.Declarations.{Kind, cdata, id, idref, idrefs, Status, required, implied, Definition, Declaration}
use Rattle.paper.specs.Dtd.Numbering.{kind_number, status_number, schema_for}
use Rattle.basic_laws.specs.Bools.{clash}
use Rattle.dtd_laws.specs.Taken.{Taken}
use Rattle.dtd_schema_laws.specs.ByText.{DeclaredAt, declared_or, ContentMeant, element_of_lem, element_by_text}
use Rattle.dtd_schema_laws.specs.Attributes.{attribute, text_fixes_none, Defines, has_by_text}

-- ---- what the text says of a document

module _ (ds : List Declaration) where
  -- "attributes (8): each one allowed, all required present, one value each unless IDREFS". h: the attributes and values after a start of
  -- the element n
  pub record AttributesMeant (n : Name) (h : List Tok) : Type 0 where
    pub allowed : (u r : List Tok) (a : ℕ) → h ≡ u ++ Attr a ∷ r → Defines ds n (λ d. Unit {0}) a
    pub required : (a : ℕ) → Defines ds n (λ d. d.status ≡ required) a → (u : List Tok) × (r : List Tok) × (h ≡ u ++ Attr a ∷ r)
    pub single : (u r : List Tok) (a : ℕ) → h ≡ u ++ Attr a ∷ r → Defines ds n (λ d. d.kind ≡ idrefs) a ⊎ (values r ≡ 1)

  -- the text defines the attribute a of the element i, with such a kind
  abbrev pub Kinded : (Kind → Type 0) → (i a : ℕ) → Type 0
  Kinded K i a = (e : DeclaredAt ds i) × Defines ds e.name (λ d. K d.kind) a

  abbrev pub IdMeant : (i a : ℕ) → Type 0
  IdMeant = Kinded (λ k. k ≡ id)

  abbrev pub ReferenceMeant : (i a : ℕ) → Type 0
  ReferenceMeant i a = Kinded (λ k. k ≡ idref) i a ⊎ Kinded (λ k. k ≡ idrefs) i a

  pub record ValidByText (d : List Tok) : Type 0 where
    -- "the first element is the root"
    pub root : (r : List Tok) × (d ≡ Start 0 ∷ r)
    -- each start is that of a declared element, with the attributes and the content that the text declares for it
    pub elements : (u r : List Tok) (i : ℕ) → d ≡ u ++ Start i ∷ r
        → (e : DeclaredAt ds i) × AttributesMeant e.name (heads r) × ContentMeant ds e.content (kids zero r)
    -- no ID value stands at two places, and every reference is an ID value too
    pub ids : (i j x : ℕ) → StandsAt IdMeant d i x → StandsAt IdMeant d j x → i ≡ j
    pub references : (i x : ℕ) → StandsAt ReferenceMeant d i x → (j : ℕ) × StandsAt IdMeant d j x

-- ---- numbers of kinds and statuses

status_of : (t : Status) → (eqb (status_number t) 0 ≡ true) ↔ (t ≡ required)
status_of t = (to t, λ e. ap (λ t. eqb (status_number t) 0) e)
  where
    to : (t : Status) → eqb (status_number t) 0 ≡ true → t ≡ required
    to required p = refl
    to implied p = clash p refl

id_of : (k : Kind) → (eqb (kind_number k) 1 ≡ true) ↔ (k ≡ id)
id_of k = (to k, λ e. ap (λ k. eqb (kind_number k) 1) e)
  where
    to : (k : Kind) → eqb (kind_number k) 1 ≡ true → k ≡ id
    to cdata p = clash p refl
    to id p = refl
    to idref p = clash p refl
    to idrefs p = clash p refl

idref_of : (k : Kind) → (eqb (kind_number k) 2 ≡ true) ↔ (k ≡ idref)
idref_of k = (to k, λ e. ap (λ k. eqb (kind_number k) 2) e)
  where
    to : (k : Kind) → eqb (kind_number k) 2 ≡ true → k ≡ idref
    to cdata p = clash p refl
    to id p = clash p refl
    to idref p = refl
    to idrefs p = clash p refl

idrefs_of : (k : Kind) → (eqb (kind_number k) 3 ≡ true) ↔ (k ≡ idrefs)
idrefs_of k = (to k, λ e. ap (λ k. eqb (kind_number k) 3) e)
  where
    to : (k : Kind) → eqb (kind_number k) 3 ≡ true → k ≡ idrefs
    to cdata p = clash p refl
    to id p = clash p refl
    to idref p = clash p refl
    to idrefs p = refl

-- ---- told in other words

defines_as : {ds : List Declaration} {n : Name} {Q R : Definition → Type 0} {a : ℕ} → ((d : Definition) → Q d → R d) → Defines ds n Q a → Defines ds n R a
defines_as h d = record {
  definition = d.definition;
  before = d.before;
  behind = d.behind;
  split = d.split;
  number = d.number;
  such = h d.definition d.such;
}

stands_as : {P Q : (n a : ℕ) → Type 0} {d : List Tok} {i x : ℕ} → ((n a : ℕ) → P n a → Q n a) → StandsAt P d i x → StandsAt Q d i x
stands_as h p = record {
  element = p.element;
  attribute = p.attribute;
  before = p.before;
  after = p.after;
  tokens = p.tokens;
  at_place = p.at_place;
  ends = p.ends;
  such = h p.element p.attribute p.such;
}

module _ (s : List ℕ) (ds : List Declaration) (taken : Taken s ds) where
  abbrev S : Schema
  S = schema_for ds

  -- ---- the attributes of an element

  module _ (i : ℕ) (e : DeclaredAt ds i) where
    has_meant : {Q : Definition → Type 0} (P : Attribute → Bool) (a : ℕ) → ((d : Definition) → (P (attribute a d) ≡ true) ↔ Q d)
        → T (has P (element_at S i) a) ↔ Defines ds e.name Q a
    has_meant {Q} P a h =
        subst (λ x. T (has P x a) ↔ Defines ds e.name Q a) (sym (element_of_lem ds i e))
        (Iff.trans (has_by_text s ds taken e.name e.content P a) (defines_as (λ d. (h d).0), defines_as (λ d. (h d).1)))

    allowed_meant : (a : ℕ) → T (has (λ y. true) (element_at S i) a) ↔ Defines ds e.name (λ d. Unit {0}) a
    allowed_meant a = has_meant (λ y. true) a (λ d. (λ p. tt, λ p. refl))

    required_meant : (a : ℕ) → T (has is_required (element_at S i) a) ↔ Defines ds e.name (λ d. d.status ≡ required) a
    required_meant a = has_meant is_required a (λ d. status_of d.status)

    idrefs_meant : (a : ℕ) → T (has (of_kind 3) (element_at S i) a) ↔ Defines ds e.name (λ d. d.kind ≡ idrefs) a
    idrefs_meant a = has_meant (of_kind 3) a (λ d. idrefs_of d.kind)

    pub attributes_by_text : (h : List Tok) → AttributesValid (element_at S i) h ↔ AttributesMeant ds e.name h
    attributes_by_text h = (
      λ v. record {
        allowed = λ u r a p. (allowed_meant a).0 (v.allowed u r a p);
        required = λ a d. v.required a ((required_meant a).1 d);
        single = λ u r a p. elim (v.single u r a p) [ inl t ↦ inl ((idrefs_meant a).0 t) | inr q ↦ inr q ];
      },
      λ v. record {
        allowed = λ u r a p. (allowed_meant a).1 (v.allowed u r a p);
        required = λ a t. v.required a ((required_meant a).0 t);
        single = λ u r a p. elim (v.single u r a p) [ inl d ↦ inl ((idrefs_meant a).1 d) | inr q ↦ inr q ];
        fixed = λ u r a w p q. none_fixed (sym (ap (λ x. fixed_to x a) (element_of_lem ds i e) ∙ text_fixes_none ds e.name e.content a) ∙ q);
      },
    )
      where
        none_fixed : {A : Type 0} {w : ℕ} → none ≡ some w → A
        none_fixed q = let z : ◌≡◌ {A = ℕ} 0 1 = cc in absurd (omega arith)

  -- ---- IDs and references

  kinded : {K : Kind → Type 0} (k : ℕ) → ((c : Kind) → (eqb (kind_number c) k ≡ true) ↔ K c) → (i a : ℕ) → T (has (of_kind k) (element_at S i) a) ↔ Kinded ds K i a
  kinded {K} k h i a = (λ t. elim (declared_or ds ds i) [ inl e ↦ to (inl e) t | inr q ↦ to (inr q.1) t ], λ (e, d). (has_meant i e (of_kind k) a (λ d. h d.kind)).1 d)
    where
      to : DeclaredAt ds i ⊎ (element_at S i ≡ undeclared) → T (has (of_kind k) (element_at S i) a) → Kinded ds K i a
      to (inl e) t = (e, (has_meant i e (of_kind k) a (λ d. h d.kind)).0 t)
      to (inr q) t = absurd (subst (λ x. T (has (of_kind k) x a)) q t)

  id_meant : (i a : ℕ) → IsId S i a ↔ IdMeant ds i a
  id_meant = kinded 1 id_of

  reference_meant : (i a : ℕ) → IsReference S i a ↔ ReferenceMeant ds i a
  reference_meant i a = (
    λ t. elim t [ inl p ↦ inl ((kinded 2 idref_of i a).0 p) | inr p ↦ inr ((kinded 3 idrefs_of i a).0 p) ],
    λ t. elim t [ inl p ↦ inl ((kinded 2 idref_of i a).1 p) | inr p ↦ inr ((kinded 3 idrefs_of i a).1 p) ],
  )

  -- ---- the law

  -- A document is valid by the schema of the text exactly if it is valid by the text.
  pub valid_by_text : (d : List Tok) → Valid S d ↔ ValidByText ds d
  valid_by_text d = (
    λ v. record {
      root = v.root;
      elements = λ u r i p.
          let (e, a, c) = (element_by_text ds i (heads r) (kids zero r)).0 (v.elements u r i p) in
          (e, (attributes_by_text i e (heads r)).0 a, c);
      ids = λ i j x p q. v.ids i j x (stands_as (λ n a. (id_meant n a).1) p) (stands_as (λ n a. (id_meant n a).1) q);
      references = λ i x p. let (j, q) = v.references i x (stands_as (λ n a. (reference_meant n a).1) p) in (j, stands_as (λ n a. (id_meant n a).0) q);
    },
    λ v. record {
      root = v.root;
      elements = λ u r i p. let (e, a, c) = v.elements u r i p in (element_by_text ds i (heads r) (kids zero r)).1 (e, (attributes_by_text i e (heads r)).1 a, c);
      ids = λ i j x p q. v.ids i j x (stands_as (λ n a. (id_meant n a).0) p) (stands_as (λ n a. (id_meant n a).0) q);
      references = λ i x p. let (j, q) = v.references i x (stands_as (λ n a. (reference_meant n a).0) p) in (j, stands_as (λ n a. (id_meant n a).1) q);
    },
  )

  -- the document that a buffer holds
  pub document_by_text : (buffer : List ℕ) (used : ℕ) → ValidDocument S buffer used ↔ ((shape_of buffer used ≡ true) × ValidByText ds (toks (take used buffer)))
  document_by_text buffer used = (
    λ v. (v.shape, (valid_by_text (toks (take used buffer))).0 v.valid),
    λ (h, v). record { shape = h; valid = (valid_by_text (toks (take used buffer))).1 v },
  )
