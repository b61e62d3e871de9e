-- The judgement from the expressions finds no fault exactly in the valid documents. Assumes nothing.
use Rattle.std.specs.Prelude.{◌≡◌, refl, ◌↔◌, true, ◌&&◌, ℕ, zero, suc, T, leb, ltb, eqb, length, take}
use Rattle.std.proofs.Math.Logic.Iff
use Rattle.std.proofs.lemmas.Bool.{false≢true}
use mathlib.Core.List.{List, [], ◌∷◌, map, head-eq_of_cons-eq}
use Rattle.std.proofs.Common.{arith, ltb→lt, lt→ltb}
use Rattle.paper.specs.declared.Tok.{Tok}
use Rattle.paper.specs.declared.Tok.TheVariants.{Start, End, Text, Attr, Value, Bad}
use Rattle.paper.specs.Basics.{most_tokens}
use Rattle.paper.specs.Tokens.{toks, heads, kids, is_start}
use Rattle.paper.specs.Shape.{is_element, shallow, shape_of}
use Rattle.paper.specs.Schema.{Schema}
use Rattle.paper.specs.SchemaWritten.{formed}
use Rattle.paper.specs.Rules.{Rules, of_schema}
use Rattle.paper.specs.Judgement.{none_found, attributes_good, content_good, element_fault, fault_at, first, place_of, root_fault, value_in, ids_of, refs_of, repeated, dangling, judge, whole, checking}
use Rattle.paper.specs.Validity.{ElementValid, Valid, ValidDocument}
use Rattle.shape_laws.specs.Keep.{element_parts}
use Rattle.basic_laws.specs.Tests.{true_iff}
use Rattle.judge_laws.specs.Connectives.{and3_iff, eqb_iff, else_iff, before_iff, pass_iff, fault_iff, other, Each, each_nil, each_cons}
use Rattle.judge_laws.specs.Attributes.{attributes_iff}
use Rattle.judge_laws.specs.Contents.{content_iff}
use Rattle.judge_laws.specs.Keys.{ids_iff}
use Rattle.judge_laws.proofs.Keys.{references_iff}

-- ---- the elements

module _ (fault : ℕ → List Tok → List Tok → ℕ) (given : ℕ → ℕ → List Tok → ℕ) where
  abbrev Sound : ℕ → List Tok → Type 0
  Sound n r = fault n (heads r) (kids zero r) ≡ 0

  -- no fault of the element that starts with t, if one does
  start_iff : (t : Tok) (d : List Tok) → (fault_at fault (t ∷ d) ≡ 0) ↔ ((n : ℕ) → t ≡ Start n → Sound n d)
  start_iff (Start n) d = (λ e m c. let f : n ≡ m = cc in rw (← f) e, λ f. f n refl)
  start_iff End d = (λ e m c. other c refl, λ f. refl)
  start_iff (Text n) d = (λ e m c. other c refl, λ f. refl)
  start_iff (Attr n) d = (λ e m c. other c refl, λ f. refl)
  start_iff (Value n) d = (λ e m c. other c refl, λ f. refl)
  start_iff Bad d = (λ e m c. other c refl, λ f. refl)

  first_iff : (i : ℕ) (d : List Tok) → ((first fault given whole i d).0 ≡ 0) ↔ Each Start Sound d
  first_iff i [] = (λ e. each_nil Start Sound, λ f. refl)
  first_iff i (t ∷ d) =
      Iff.trans (else_iff (fault_at fault (t ∷ d)) (given (fault_at fault (t ∷ d)) i (t ∷ d)) (first fault given whole (suc i) d))
      (Iff.trans (Iff.and (start_iff t d) (first_iff (suc i) d)) (each_cons Start Sound t d))

element_iff : (s : Schema) → formed s ≡ true → (n : ℕ) (r : List Tok)
    → (element_fault (of_schema s) n (heads r) (kids zero r) ≡ 0) ↔ ElementValid s n (heads r) (kids zero r)
unfolding element_fault
element_iff s f n r =
    let E = length s.elements in
    let h = heads r in
    let (apart, joined) = fault_iff (ltb n E) (attributes_good (of_schema s) n h) (content_good (of_schema s) n (kids zero r)) in (
      λ e. let (p, q, c) = apart e in record {
        declared = ltb→lt n E p;
        attributes = (attributes_iff s f n h).0 q;
        content = (content_iff s n r).0 c;
      },
      λ v. joined (lt→ltb n E v.declared, (attributes_iff s f n h).1 v.attributes, (content_iff s n r).1 v.content),
    )

-- ---- the root

module _ (R : Rules) where
  abbrev Rooted : List Tok → Type 0
  Rooted d = (r : List Tok) × (d ≡ Start R.root ∷ r)

  start_root : (n : ℕ) (d : List Tok) → T (eqb n R.root) ↔ Rooted (Start n ∷ d)
  start_root n d =
      let (to, of) = eqb_iff n R.root in
      (λ t. (d, rw (to t)), λ c. let e : Start n ≡ Start R.root = head-eq_of_cons-eq c.1 in of cc)

  root_iff : (d : List Tok) → is_start d ≡ true → ((root_fault R d).0 ≡ 0) ↔ Rooted d
  root_iff [] e = absurd (false≢true e)
  root_iff (Start n ∷ d) e =
      let (apart, joined) = pass_iff (eqb n R.root) none_found (10, 0) (omega arith) in
      (λ h. (start_root n d).0 (apart h).0, λ c. joined ((start_root n d).1 c, refl))
  root_iff (End ∷ d) e = absurd (false≢true e)
  root_iff (Text n ∷ d) e = absurd (false≢true e)
  root_iff (Attr n ∷ d) e = absurd (false≢true e)
  root_iff (Value n ∷ d) e = absurd (false≢true e)
  root_iff (Bad ∷ d) e = absurd (false≢true e)

-- ---- the theorems

-- The judgement from the expressions finds no fault exactly in the valid documents.
pub judged_valid : (s : Schema) → formed s ≡ true → (d : List Tok) → is_element d ≡ true
    → ((judge (of_schema s) whole d).0 ≡ 0) ↔ Valid s d
unfolding judge
judged_valid s f d b =
    let R = of_schema s in
    let (begins, _, body) = element_parts d b in
    let ids = map value_in (ids_of R d) in
    let (apart, joined) = before_iff (root_fault R d) (first (element_fault R) (place_of R) whole 0 d) (repeated [] (ids_of R d)) (dangling ids (refs_of R d)) in (
      λ e. let (p, q, r, t) = apart e in record {
        root = (root_iff R d begins).0 p;
        elements = λ u v n c. (element_iff s f n v).0 ((first_iff (element_fault R) (place_of R) 0 d).0 q u v n c);
        ids = (ids_iff s d body).0 r;
        references = (references_iff s d body).0 t;
      },
      λ v. joined (
        (root_iff R d begins).1 v.root,
        (first_iff (element_fault R) (place_of R) 0 d).1 (λ u r n c. (element_iff s f n r).1 (v.elements u r n c)),
        (ids_iff s d body).1 v.ids,
        (references_iff s d body).1 v.references,
      ),
    )

-- a document with shape is one element
element_of_lem : (buffer : List ℕ) (used : ℕ) → shape_of buffer used ≡ true → is_element (toks (take used buffer)) ≡ true
unfolding shape_of
element_of_lem buffer used e =
    let d = toks (take used buffer) in
    let sizes = leb 2 used && leb used most_tokens && leb used (length buffer) in
    (true_iff (is_element d)).1 ((and3_iff sizes (is_element d) (shallow d)).0 ((true_iff (shape_of buffer used)).0 e)).1

-- With the test of shape before it, it finds none exactly in the buffers that hold a valid document.
pub checked_valid : (s : Schema) → formed s ≡ true → (buffer : List ℕ) (used : ℕ)
    → ((checking (of_schema s) buffer used).0 ≡ 0) ↔ ValidDocument s buffer used
unfolding checking
checked_valid s f buffer used =
    let d = toks (take used buffer) in
    let (apart, joined) = pass_iff (shape_of buffer used) (judge (of_schema s) whole d) (4, 0) (omega arith) in
    let shape = true_iff (shape_of buffer used) in (
      λ e. let (p, q) = apart e in let h = shape.1 p in record { shape = h; valid = (judged_valid s f d (element_of_lem buffer used h)).0 q },
      λ v. joined (shape.0 v.shape, (judged_valid s f d (element_of_lem buffer used v.shape)).1 v.valid),
    )
