-- The attributes of an element of the schema, told from the definitions of the text. Assumes nothing.
use Rattle.std.specs.Prelude.{◌≡◌, refl, ◌↔◌, Bool, true, false, cond, ◌&&◌, ◌||◌, List, [], ◌∷◌, ◌++◌, ℕ, suc, ◌+◌, T, eqb, length}
use Rattle.std.proofs.Common.{sym, ap, subst, ◌∙◌, inl, inr, arith, eq-eqb, eqb-true}
use Rattle.std.proofs.Math.Bool.{and-eq-true_iff}
use Rattle.std.proofs.Math.Option.{Option, none, some}
use Rattle.std.proofs.lemmas.List.{map-append}
use Rattle.paper.specs.Basics.{some_of, first_with}
use Rattle.paper.specs.Schema.{Attribute, is_fixed}
use Rattle.paper.specs.Rules.{has, fixed_to}
use Rattle.paper.specs.Dtd.Letters.{Name, same, among}
use Rattle.paper.specs.Dtd.Declarations.{Content, Status, required, implied, Definition, Declaration, defined_for, attribute_names}
use Rattle.paper.specs.Dtd.Numbering.{number_in, kind_number, status_number, definition_of, attribute_for, attributes_from}
use Rattle.paper.specs.Dtd.Limits.{different}
use Rattle.basic_laws.specs.Bools.{clash, both, either, neither}
use Rattle.basic_laws.specs.Tests.{true_iff}
use Rattle.dtd_laws.specs.Taken.{is_declared, Taken}
use Rattle.dtd_laws.specs.Kept.{same_true, same_refl}
use Rattle.dtd_laws.specs.Names.{among_here, called, for_named, names_different}
use Rattle.dtd_schema_laws.specs.Whole.{different_front, kept_whole}
use Rattle.dtd_schema_laws.specs.Ambiguity.{made}
use Rattle.dtd_schema_laws.specs.ByText.{number_there}

-- ---- the definition of a name

record Split (n : Name) (own : List Definition) (d : Definition) : Type 0 where
  pub before : List Definition
  pub behind : List Definition
  pub split : own ≡ before ++ d ∷ behind
  pub named : n ≡ d.name

definition_split : (n : Name) (own : List Definition) (d : Definition) → definition_of n own ≡ some d → Split n own d
definition_split n [] d p = let z : ◌≡◌ {A = ℕ} 0 1 = cc in absurd (omega arith)
definition_split n (c ∷ own) d p = by (same n c.name) refl p (definition_split n own d)
  where
    by : (b : Bool) → same n c.name ≡ b → cond b (some c) (definition_of n own) ≡ some d → (definition_of n own ≡ some d → Split n own d) → Split n (c ∷ own) d
    by true q p h = let e : c ≡ d = cc in record { before = []; behind = own; split = ap (λ z. z ∷ own) e; named = same_true n c.name q ∙ ap (λ z. z.name) e }
    by false q p h = let r = h p in record { before = c ∷ r.before; behind = r.behind; split = ap (λ z. c ∷ z) r.split; named = r.named }

definition_there : (u v : List Definition) (d : Definition) → among d.name (called u) ≡ false → definition_of d.name (u ++ d ∷ v) ≡ some d
definition_there [] v d p = rw (same_refl d.name)
definition_there (c ∷ u) v d p = let (a, b) = neither (same d.name c.name) (among d.name (called u)) p in rw a (definition_there u v d b)

-- ---- attributes in a row

-- the attribute that a definition makes
abbrev pub attribute : ℕ → Definition → Attribute
attribute i d = record { number = i; kind = kind_number d.kind; status = status_number d.status; value = 0 }

or_right : (x y : Bool) → y ≡ true → (x || y) ≡ true
or_right true y p = refl
or_right false y p = p

or_left : (x y : Bool) → x ≡ true → (x || y) ≡ true
or_left true y p = refl
or_left false y p = clash p refl

module _ (P : Attribute → Bool) (a : ℕ) (own : List Definition) where
  abbrev hit : Attribute → Bool
  hit y = P y && eqb a y.number

  -- the name of the attribute a, counted from i on, and its definition
  record Found (l : List Name) (i : ℕ) : Type 0 where
    pub name : Name
    pub before : List Name
    pub behind : List Name
    pub split : l ≡ before ++ name ∷ behind
    pub place : i + length before ≡ a
    pub definition : Definition
    pub defined : definition_of name own ≡ some definition
    pub such : P (attribute a definition) ≡ true

  further : (n : Name) (l : List Name) (i : ℕ) → Found l (suc i) → Found (n ∷ l) i
  further n l i f = record {
    name = f.name;
    before = n ∷ f.before;
    behind = f.behind;
    split = ap (λ z. n ∷ z) f.split;
    place = let p = f.place in omega arith;
    definition = f.definition;
    defined = f.defined;
    such = f.such;
  }

  found : (l : List Name) (i : ℕ) → some_of hit (attributes_from i l own) ≡ true → Found l i
  found [] i p = clash p refl
  found (n ∷ l) i p = by (definition_of n own) refl p (found l (suc i))
    where
      here : (d : Definition) → definition_of n own ≡ some d → hit (attribute i d) ≡ true → Found (n ∷ l) i
      here d q h =
          let (j, k) = (and-eq-true_iff (P (attribute i d)) (eqb a i)).0 h in
          let e = eqb-true a i k in
          record { name = n; before = []; behind = l; split = refl; place = omega arith; definition = d; defined = q; such = subst (λ z. P (attribute z d) ≡ true) (sym e) j }

      by : (o : Option Definition) → definition_of n own ≡ o → some_of hit (attribute_for i o ++ attributes_from (suc i) l own) ≡ true
          → (some_of hit (attributes_from (suc i) l own) ≡ true → Found l (suc i)) → Found (n ∷ l) i
      by none q p go = further n l i (go p)
      by (some d) q p go = elim (either (hit (attribute i d)) (some_of hit (attributes_from (suc i) l own)) p) [ inl h ↦ here d q h | inr h ↦ further n l i (go h) ]

  there : (l : List Name) (i : ℕ) (n : Name) (d : Definition) → among n l ≡ true → definition_of n own ≡ some d → i + number_in l n ≡ a
      → P (attribute a d) ≡ true → some_of hit (attributes_from i l own) ≡ true
  there [] i n d p q e s = clash p refl
  there (m ∷ l) i n d p q e s = by (same n m) refl p e (there l (suc i) n d)
    where
      behind : (o : Option Definition) → some_of hit (attributes_from (suc i) l own) ≡ true → some_of hit (attribute_for i o ++ attributes_from (suc i) l own) ≡ true
      behind none h = h
      behind (some c) h = or_right (hit (attribute i c)) (some_of hit (attributes_from (suc i) l own)) h

      front : (o : Option Definition) → o ≡ some d → i ≡ a → some_of hit (attribute_for i o ++ attributes_from (suc i) l own) ≡ true
      front o r f =
          subst (λ z. some_of hit (attribute_for i z ++ attributes_from (suc i) l own) ≡ true) (sym r)
          (or_left (hit (attribute i d)) (some_of hit (attributes_from (suc i) l own))
          (both (subst (λ z. P (attribute z d) ≡ true) (sym f) s) (eq-eqb a i (sym f))))

      by : (b : Bool) → same n m ≡ b → (b || among n l) ≡ true → i + cond b 0 (suc (number_in l n)) ≡ a
          → (among n l ≡ true → definition_of n own ≡ some d → suc i + number_in l n ≡ a → P (attribute a d) ≡ true → some_of hit (attributes_from (suc i) l own) ≡ true)
          → some_of hit (attribute_for i (definition_of m own) ++ attributes_from (suc i) l own) ≡ true
      by true r p e go = front (definition_of m own) (subst (λ z. definition_of z own ≡ some d) (same_true n m r) q) (omega arith)
      by false r p e go = behind (definition_of m own) (go p q (omega arith) s)

-- ---- none is fixed

not_fixed : (i : ℕ) (d : Definition) → is_fixed (attribute i d) ≡ false
not_fixed i d = go d.status
  where
    go : (s : Status) → eqb (status_number s) 2 ≡ false
    go required = refl
    go implied = refl

none_fixed : (own : List Definition) (a i : ℕ) (l : List Name)
    → first_with (λ y. is_fixed y && eqb a y.number) (λ y. y.value) (attributes_from i l own) ≡ none
none_fixed own a i [] = refl
none_fixed own a i (n ∷ l) = by (definition_of n own) (none_fixed own a (suc i) l)
  where
    by : (o : Option Definition) → first_with (λ y. is_fixed y && eqb a y.number) (λ y. y.value) (attributes_from (suc i) l own) ≡ none
        → first_with (λ y. is_fixed y && eqb a y.number) (λ y. y.value) (attribute_for i o ++ attributes_from (suc i) l own) ≡ none
    by none h = h
    by (some d) h = rw (not_fixed i d) h

-- An element of the schema of a text has no fixed attribute.
pub text_fixes_none : (ds : List Declaration) (n : Name) (c : Content) (a : ℕ) → fixed_to (made ds n c) a ≡ none
text_fixes_none ds n c a = none_fixed (defined_for n ds) a 0 (attribute_names ds)

-- ---- told from the text

-- The text defines an attribute with the number a for the element n, such that Q holds of the definition.
pub record Defines (ds : List Declaration) (n : Name) (Q : Definition → Type 0) (a : ℕ) : Type 0 where
  pub definition : Definition
  pub before : List Definition
  pub behind : List Definition
  pub split : defined_for n ds ≡ before ++ definition ∷ behind
  -- "attributes by first appearance"
  pub number : number_in (attribute_names ds) definition.name ≡ a
  pub such : Q definition

module _ (s : List ℕ) (ds : List Declaration) (taken : Taken s ds) (n : Name) (c : Content) where
  own_different : different (called (defined_for n ds)) ≡ true
  own_different = ((kept_whole (is_declared ds) ds).0 taken.keeps).attributes_different n

  -- An element of the schema has an attribute of a number exactly if the text defines one for it.
  pub has_by_text : (P : Attribute → Bool) (a : ℕ) → T (has P (made ds n c) a) ↔ Defines ds n (λ d. P (attribute a d) ≡ true) a
  has_by_text P a = (
    λ t. to (found P a (defined_for n ds) (attribute_names ds) 0 ((true_iff (has P (made ds n c) a)).1 t)),
    λ d. (true_iff (has P (made ds n c) a)).0 (back d),
  )
    where
      to : Found P a (defined_for n ds) (attribute_names ds) 0 → Defines ds n (λ d. P (attribute a d) ≡ true) a
      to f =
          let r = definition_split f.name (defined_for n ds) f.definition f.defined in
          let apart = subst (λ l. different l ≡ true) f.split (names_different ds) in
          let number = ap (λ l. number_in l f.name) f.split ∙ number_there f.before f.behind f.name (different_front f.before f.behind f.name apart) in
          record {
            definition = f.definition;
            before = r.before;
            behind = r.behind;
            split = r.split;
            number = ap (number_in (attribute_names ds)) (sym r.named) ∙ number ∙ (let p = f.place in omega arith);
            such = f.such;
          }

      back : Defines ds n (λ d. P (attribute a d) ≡ true) a → has P (made ds n c) a ≡ true
      back d =
          let x : Definition = d.definition in
          let names : called (defined_for n ds) ≡ called d.before ++ x.name ∷ called d.behind
          = ap called d.split ∙ map-append (λ (d : Definition). d.name) d.before (x ∷ d.behind) in
          let fresh = different_front (called d.before) (called d.behind) x.name (subst (λ l. different l ≡ true) names own_different) in
          let known = for_named n x.name ds (subst (λ l. among x.name l ≡ true) (sym names) (among_here x.name (called d.before) (called d.behind))) in
          there P a (defined_for n ds) (attribute_names ds) 0 x.name x known
          (ap (definition_of x.name) d.split ∙ definition_there d.before d.behind x fresh) (let p = d.number in omega arith) d.such
