-- Content is judged by the text's own expressions: an element's content is valid exactly if it is what the text declares, told of the
-- children's names. Assumes nothing.
use Rattle.std.specs.Prelude.{◌≡◌, refl, ◌↔◌, ◌⊎◌, true, false, List, [], ◌∷◌, ◌++◌, map, ℕ, zero, suc, ◌≤◌, ◌<◌, length, get_or}
use Rattle.std.proofs.Common.{sym, ap, subst, ◌∙◌, inl, inr, arith, length-append}
use Rattle.std.proofs.Math.Logic.Iff
use Rattle.std.proofs.Math.Bool.{and-eq-true_iff}
use Rattle.paper.specs.declared.Tok.{Tok}
use Rattle.paper.specs.declared.Tok.TheVariants.{Start}
use Rattle.paper.specs.Basics.{all}
use Rattle.paper.specs.Expressions.{Matches}
use Rattle.paper.specs.Schema.{Element}
use Rattle.paper.specs.Schema as schema
use Rattle.paper.specs.Rules.{undeclared, element_at}
use Rattle.paper.specs.Validity.{AttributesValid, ContentValid, ElementValid}
use Rattle.paper.specs.Dtd.Letters.{Name, same, among}
use Rattle.paper.specs.Dtd.Declarations.{Part, each, Content, empty, text, model, Declaration, element, attlist, element_names}
use Rattle.paper.specs.Dtd.Numbering.{expr_of, model_fits, number_in, content_of, elements_from, schema_for}
use Rattle.paper.specs.Dtd.Limits.{different, declaration_good}
use Rattle.paper.specs.Dtd.Meaning.{Describes}
use Rattle.basic_laws.specs.Bools.{neither}
use Rattle.dtd_laws.specs.Taken.{is_declared, Taken}
use Rattle.dtd_laws.specs.Kept.{elements_append, good_kept, same_refl}
use Rattle.dtd_schema_laws.specs.Meant.{part_means}
use Rattle.dtd_schema_laws.specs.Whole.{all_here, different_front, kept_whole}
use Rattle.dtd_schema_laws.specs.Ambiguity.{made}
use Rattle.dtd_schema_laws.specs.Judged.{all_among, judged}

-- ---- what the text says

-- the number of a declared element
abbrev pub number : List Declaration → Name → ℕ
number ds n = number_in (element_names ds) n

-- The declaration with the number i: so many elements are declared before it.
pub record DeclaredAt (ds : List Declaration) (i : ℕ) : Type 0 where
  pub before : List Declaration
  pub name : Name
  pub content : Content
  pub behind : List Declaration
  pub split : ds ≡ before ++ element name content ∷ behind
  pub place : length (element_names before) ≡ i

-- "the translated table then judges by the text's own expressions". k: an element's children and texts. EMPTY and text alone are as in
-- any schema; a model describes the children's names.
abbrev pub ContentMeant : List Declaration → Content → List Tok → Type 0
ContentMeant ds empty k = ContentValid schema.empty k
ContentMeant ds text k = ContentValid schema.text k
ContentMeant ds (model p) k = (w : List Name) × (k ≡ map Start (map (number ds) w)) × Describes p w

-- ---- the element of a number

element_there : (ds u v : List Declaration) (n : Name) (c : Content) (x : Element)
    → get_or (elements_from ds (u ++ element n c ∷ v)) (length (element_names u)) x ≡ made ds n c
element_there ds [] v n c x = refl
element_there ds (element m d ∷ u) v n c x = element_there ds u v n c x
element_there ds (attlist m l ∷ u) v n c x = element_there ds u v n c x

pub element_of_lem : (ds : List Declaration) (i : ℕ) (d : DeclaredAt ds i) → element_at (schema_for ds) i ≡ made ds d.name d.content
element_of_lem ds i d =
    subst (λ l. get_or (elements_from ds l) i undeclared ≡ made ds d.name d.content) (sym d.split)
    (subst (λ j. get_or (elements_from ds (d.before ++ element d.name d.content ∷ d.behind)) j undeclared ≡ made ds d.name d.content) d.place
    (element_there ds d.before d.behind d.name d.content undeclared))

-- with a declaration before it
next_declared : (d : Declaration) (l : List Declaration) (i j : ℕ) (e : DeclaredAt l i) → length (element_names (d ∷ e.before)) ≡ j → DeclaredAt (d ∷ l) j
next_declared d l i j e p = record {
  before = d ∷ e.before;
  name = e.name;
  content = e.content;
  behind = e.behind;
  split = ap (λ t. d ∷ t) e.split;
  place = p;
}

-- a number is that of a declaration, or of no element
abbrev Beyond : (ds l : List Declaration) → ℕ → Type 0
Beyond ds l i = (length (elements_from ds l) ≤ i) × (get_or (elements_from ds l) i undeclared ≡ undeclared)

pub declared_or : (ds l : List Declaration) (i : ℕ) → DeclaredAt l i ⊎ Beyond ds l i
declared_or ds [] i = inr (omega arith, refl)
declared_or ds (element n c ∷ l) zero = inl (record { before = []; name = n; content = c; behind = l; split = refl; place = refl })
declared_or ds (element n c ∷ l) (suc i) = elim (declared_or ds l i) [
  | inl d ↦ inl (next_declared (element n c) l i (suc i) d (ap suc d.place))
  | inr e ↦ inr (let h = e.0 in omega arith, e.1)
]
declared_or ds (attlist n x ∷ l) i = elim (declared_or ds l i) [ inl d ↦ inl (next_declared (attlist n x) l i i d d.place) | inr e ↦ inr e ]

declaration_of : (ds : List Declaration) (i : ℕ) → i < length (elements_from ds ds) → DeclaredAt ds i
declaration_of ds i h = elim (declared_or ds ds i) [ inl d ↦ d | inr e ↦ (let k = e.0 in absurd (omega arith)) ]

-- Elements are numbered by declaration: a declared name's number is that of its declaration.
pub number_there : (l r : List Name) (n : Name) → among n l ≡ false → number_in (l ++ n ∷ r) n ≡ length l
number_there [] r n p = rw (same_refl n)
number_there (m ∷ l) r n p = let (a, b) = neither (same n m) (among n l) p in rw a (ap suc (number_there l r n b))

pub number_of : (s : List ℕ) (ds : List Declaration) → Taken s ds → (i : ℕ) (d : DeclaredAt ds i) → number ds d.name ≡ i
number_of s ds t i d =
    let names : element_names ds ≡ element_names d.before ++ d.name ∷ element_names d.behind
    = ap element_names d.split ∙ elements_append d.before (element d.name d.content ∷ d.behind) in
    let apart = subst (λ l. different l ≡ true) names ((kept_whole (is_declared ds) ds).0 t.keeps).elements_different in
    ap (λ l. number_in l d.name) names
    ∙ number_there (element_names d.before) (element_names d.behind) d.name (different_front (element_names d.before) (element_names d.behind) d.name apart)
    ∙ d.place

-- ---- its content

content_meant : (ds : List Declaration) (c : Content) (k : List Tok) → ContentValid (content_of (number ds) c) k ↔ ContentMeant ds c k
content_meant ds empty k = (λ e. e, λ e. e)
content_meant ds text k = (λ e. e, λ e. e)
content_meant ds (model p) k = (
  λ (v, e, m). let (w, i, d) = (part_means (number ds) p v).0 m in (w, e ∙ ap (map Start) (sym i), d),
  λ (w, e, d). (map (number ds) w, e, (part_means (number ds) p (map (number ds) w)).1 (w, refl, d)),
)

-- Content is valid by the schema of the text exactly if it is what the text declares for the element.
pub content_by_text : (ds : List Declaration) (i : ℕ) (d : DeclaredAt ds i) (k : List Tok)
    → ContentValid (element_at (schema_for ds) i).content k ↔ ContentMeant ds d.content k
content_by_text ds i d k =
    subst (λ x. ContentValid x.content k ↔ ContentMeant ds d.content k) (sym (element_of_lem ds i d)) (content_meant ds d.content k)

-- An element is valid exactly if the text declares one of its number, its attributes are valid and its content is what the text declares.
pub element_by_text : (ds : List Declaration) (i : ℕ) (h k : List Tok)
    → ElementValid (schema_for ds) i h k ↔ ((d : DeclaredAt ds i) × AttributesValid (element_at (schema_for ds) i) h × ContentMeant ds d.content k)
element_by_text ds i h k = (
  λ v. let d = declaration_of ds i v.declared in (d, v.attributes, (content_by_text ds i d k).0 v.content),
  λ (d, a, c). record { declared = below d; attributes = a; content = (content_by_text ds i d k).1 c },
)
  where
    count : (l : List Declaration) → length (elements_from ds l) ≡ length (element_names l)
    count [] = refl
    count (element n c ∷ l) = ap suc (count l)
    count (attlist n x ∷ l) = count l

    below : DeclaredAt ds i → i < length (elements_from ds ds)
    below d =
        let a = count ds in
        let b = ap (λ l. length (element_names l)) d.split ∙ ap length (elements_append d.before (element d.name d.content ∷ d.behind)) in
        let c = length-append (element_names d.before) (d.name ∷ element_names d.behind) in
        let e = d.place in
        omega arith

-- ---- children of declared names

starts_same : (v w : List ℕ) → map Start v ≡ map Start w → v ≡ w
starts_same [] [] e = refl
starts_same [] (n ∷ w) e = let z : ◌≡◌ {A = ℕ} 0 1 = cc in absurd (omega arith)
starts_same (m ∷ v) [] e = let z : ◌≡◌ {A = ℕ} 0 1 = cc in absurd (omega arith)
starts_same (m ∷ v) (n ∷ w) e =
    let h : m ≡ n = cc in
    let t : map Start v ≡ map Start w = cc in
    let r = starts_same v w t in
    cc

-- Children of declared names, by their numbers, are valid content of an element with a model exactly if the model describes the names.
pub children_by_text : (s : List ℕ) (ds : List Declaration) → Taken s ds → (i : ℕ) (d : DeclaredAt ds i) (p : Part) → d.content ≡ model p
    → (w : List Name) → all_among (element_names ds) w ≡ true
    → ContentValid (element_at (schema_for ds) i).content (map Start (map (number ds) w)) ↔ Describes p w
children_by_text s ds t i d p c w h =
    let good = all_here (declaration_good (is_declared ds)) d.before d.behind (element d.name d.content)
    (subst (λ l. all (declaration_good (is_declared ds)) l ≡ true) d.split (good_kept (is_declared ds) [] ds t.keeps)) in
    let known = ((and-eq-true_iff (each p (is_declared ds)) (model_fits p)).0 (rw c at good)).0 in
    Iff.trans (subst (λ x. ContentValid x.content (map Start (map (number ds) w)) ↔ ContentValid (content_of (number ds) (model p)) (map Start (map (number ds) w)))
    (sym (element_of_lem ds i d)) (rw c (λ e. e, λ e. e)))
    (Iff.trans
    (λ (v, e, m). subst (Matches (expr_of p (number ds))) (sym (starts_same (map (number ds) w) v e)) m, λ m. (map (number ds) w, refl, m))
    (judged (element_names ds) p w known h))
