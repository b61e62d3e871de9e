-- What declarations that keep to the limits one after another keep to as a whole: elements, attributes, IDs, models. Assumes nothing.
use Rattle.std.specs.Prelude.{◌≡◌, refl, Bool, true, false, cond, not, ◌&&◌, ◌||◌, List, [], ◌∷◌, ◌++◌, map, ◌≤◌, ltb, eqb, length}
use Rattle.std.proofs.Common.{sym, ap, subst, ◌∙◌, append_assoc, append-nil, arith, ltb-true, eqb-true, eq-eqb, length-append}
use Rattle.std.proofs.Math.Bool.{and-eq-true_iff}
use Rattle.std.proofs.lemmas.List.{map-append}
use Rattle.std.proofs.lemmas.Bool.{not-true}
use Rattle.paper.specs.Basics.{most_elements, most_attributes, all, some_of}
use Rattle.paper.specs.Dtd.Letters.{Name, same, among}
use Rattle.paper.specs.Dtd.Declarations.{Kind, cdata, id, idref, idrefs, Content, Definition, Declaration, element, attlist}
use Rattle.paper.specs.Dtd.Declarations.{element_names, defined_for, defined, firsts_after, attribute_names, is_id}
use Rattle.paper.specs.Dtd.Reading.{new_element, room_for_element, new_attribute, room_for_attribute, id_allowed}
use Rattle.paper.specs.Dtd.Numbering.{kind_number}
use Rattle.paper.specs.Dtd.Limits.{content_kept, model_kept, definition_kept, definitions_kept, declaration_kept, kept, one_id, declaration_good}
use Rattle.basic_laws.specs.Bools.{clash}

-- ---- lists of declarations, one behind another

pub elements_append : (u v : List Declaration) → element_names (u ++ v) ≡ element_names u ++ element_names v
elements_append [] v = refl
elements_append (element n c ∷ u) v = ap (λ l. n ∷ l) (elements_append u v)
elements_append (attlist e ds ∷ u) v = elements_append u v

pub defined_append : (u v : List Declaration) → defined (u ++ v) ≡ defined u ++ defined v
defined_append [] v = refl
defined_append (element n c ∷ u) v = defined_append u v
defined_append (attlist e ds ∷ u) v = ap (λ l. ds ++ l) (defined_append u v) ∙ sym (append_assoc ds (defined u) (defined v))

-- ---- elements

module _ (known : Name → Bool) where
  step_elements : (old : List Declaration) (d : Declaration) → length (element_names old) ≤ most_elements → declaration_kept known old d ≡ true
      → length (element_names (old ++ d ∷ [])) ≤ most_elements
  step_elements old (element n c) h k =
      let (a, b) = (and-eq-true_iff (new_element old n && room_for_element old) (content_kept (model_kept known) c)).0 k in
      let r = ltb-true (length (element_names old)) most_elements ((and-eq-true_iff (new_element old n) (room_for_element old)).0 a).1 in
      rw (elements_append old (element n c ∷ []), length-append (element_names old) (n ∷ [])) (omega arith)
  step_elements old (attlist e ds) h k = rw (elements_append old (attlist e ds ∷ []), append-nil (element_names old)) h

  pub few_elements : (old ds : List Declaration) → length (element_names old) ≤ most_elements → kept known old ds ≡ true → length (element_names (old ++ ds)) ≤ most_elements
  few_elements old [] h k = rw (append-nil old) h
  few_elements old (d ∷ ds) h k =
      let (a, b) = (and-eq-true_iff (declaration_kept known old d) (kept known (old ++ d ∷ []) ds)).0 k in
      rw (append_assoc old (d ∷ []) ds) at (few_elements (old ++ d ∷ []) ds (step_elements old d h a) b)

-- ---- attributes

or_move : (x y z : Bool) → ((x || y) || z) ≡ (y || (x || z))
or_move true true z = refl
or_move true false z = refl
or_move false true z = refl
or_move false false z = refl

pub firsts_snoc : (b l : List Name) (a : Name) → firsts_after b (l ++ a ∷ []) ≡ firsts_after b l ++ cond (among a b || among a (firsts_after b l)) [] (a ∷ [])
firsts_snoc b [] a = by (among a b)
  where
    by : (x : Bool) → cond x [] (a ∷ []) ≡ cond (x || false) [] (a ∷ [])
    by true = refl
    by false = refl
firsts_snoc b (n ∷ l) a = by (among n b) (firsts_snoc b l a) (firsts_snoc (n ∷ b) l a)
  where
    by : (x : Bool) → firsts_after b (l ++ a ∷ []) ≡ firsts_after b l ++ cond (among a b || among a (firsts_after b l)) [] (a ∷ [])
        → firsts_after (n ∷ b) (l ++ a ∷ []) ≡ firsts_after (n ∷ b) l ++ cond (among a (n ∷ b) || among a (firsts_after (n ∷ b) l)) [] (a ∷ [])
        → cond x (firsts_after b (l ++ a ∷ [])) (n ∷ firsts_after (n ∷ b) (l ++ a ∷ []))
        ≡ cond x (firsts_after b l) (n ∷ firsts_after (n ∷ b) l)
        ++ cond (among a b || among a (cond x (firsts_after b l) (n ∷ firsts_after (n ∷ b) l))) [] (a ∷ [])
    by true p q = p
    by false p q = ap (λ t. n ∷ t) (q ∙ rw (or_move (same a n) (among a b) (among a (firsts_after (n ∷ b) l))))

-- one attribute more
one_more : (l : List Name) (a : Name) → length (firsts_after [] l) ≤ most_attributes
    → (among a (firsts_after [] l) || ltb (length (firsts_after [] l)) most_attributes) ≡ true → length (firsts_after [] (l ++ a ∷ [])) ≤ most_attributes
one_more l a h k = rw (firsts_snoc [] l a) (by (among a (firsts_after [] l)) k)
  where
    by : (x : Bool) → (x || ltb (length (firsts_after [] l)) most_attributes) ≡ true → length (firsts_after [] l ++ cond x [] (a ∷ [])) ≤ most_attributes
    by true k = rw (append-nil (firsts_after [] l)) h
    by false k = let r = ltb-true (length (firsts_after [] l)) most_attributes k in rw (length-append (firsts_after [] l) (a ∷ [])) (omega arith)

-- ---- what holds of nothing declared, and goes on from definition to definition, holds of all

module _ (Q : List Declaration → Type 0) (on-element : (old : List Declaration) (n : Name) (c : Content) → Q old → Q (old ++ element n c ∷ []))
    (on-attlist : (old : List Declaration) (e : Name) → Q old → Q (old ++ attlist e [] ∷ []))
    (on-definition : (old : List Declaration) (e : Name) (own : List Definition) (d : Definition) → definition_kept (old ++ attlist e own ∷ []) e d ≡ true
    → Q (old ++ attlist e own ∷ []) → Q (old ++ attlist e (own ++ d ∷ []) ∷ [])) where
  on_definitions : (old : List Declaration) (e : Name) (own ds : List Definition) → definitions_kept old e own ds ≡ true
      → Q (old ++ attlist e own ∷ []) → Q (old ++ attlist e (own ++ ds) ∷ [])
  on_definitions old e own [] k q = rw (append-nil own) q
  on_definitions old e own (d ∷ ds) k q =
      let (a, b) = (and-eq-true_iff (definition_kept (old ++ attlist e own ∷ []) e d) (definitions_kept old e (own ++ d ∷ []) ds)).0 k in
      rw (append_assoc own (d ∷ []) ds) at (on_definitions old e (own ++ d ∷ []) ds b (on-definition old e own d a q))

  pub throughout : (known : Name → Bool) (old ds : List Declaration) → kept known old ds ≡ true → Q old → Q (old ++ ds)
  throughout known old [] k q = rw (append-nil old) q
  throughout known old (element n c ∷ ds) k q =
      let (a, b) = (and-eq-true_iff (declaration_kept known old (element n c)) (kept known (old ++ element n c ∷ []) ds)).0 k in
      rw (append_assoc old (element n c ∷ []) ds) at (throughout known (old ++ element n c ∷ []) ds b (on-element old n c q))
  throughout known old (attlist e l ∷ ds) k q =
      let (a, b) = (and-eq-true_iff (declaration_kept known old (attlist e l)) (kept known (old ++ attlist e l ∷ []) ds)).0 k in
      let c = ((and-eq-true_iff (known e) (definitions_kept old e [] l)).0 a).1 in
      rw (append_assoc old (attlist e l ∷ []) ds) at (throughout known (old ++ attlist e l ∷ []) ds b (on_definitions old e [] l c (on-attlist old e q)))

-- ---- attributes, in all

abbrev pub words : List Declaration → List Name
words ds = map (λ (d : Definition). d.name) (defined ds)

pub words_append : (u v : List Declaration) → words (u ++ v) ≡ words u ++ words v
words_append u v = ap (map (λ (d : Definition). d.name)) (defined_append u v) ∙ map-append (λ (d : Definition). d.name) (defined u) (defined v)

abbrev Few : List Declaration → Type 0
Few ds = length (attribute_names ds) ≤ most_attributes

few_same : (u v : List Declaration) → words u ≡ words v → Few u → Few v
few_same u v p h = subst (λ l. length (firsts_after [] l) ≤ most_attributes) p h

-- one definition more at the end
pub words_more : (old : List Declaration) (e : Name) (own : List Definition) (d : Definition)
    → words (old ++ attlist e (own ++ d ∷ []) ∷ []) ≡ words (old ++ attlist e own ∷ []) ++ d.name ∷ []
words_more old e own d =
    words_append old (attlist e (own ++ d ∷ []) ∷ [])
    ∙ ap (λ l. words old ++ l) (ap (map (λ (d : Definition). d.name)) (append-nil (own ++ d ∷ [])) ∙ map-append (λ (d : Definition). d.name) own (d ∷ []))
    ∙ sym (append_assoc (words old) (map (λ (d : Definition). d.name) own) (d.name ∷ []))
    ∙ ap (λ l. l ++ d.name ∷ []) (ap (λ l. words old ++ map (λ (d : Definition). d.name) l) (sym (append-nil own)) ∙ sym (words_append old (attlist e own ∷ [])))

pub few_attributes : (known : Name → Bool) (ds : List Declaration) → kept known [] ds ≡ true → length (attribute_names ds) ≤ most_attributes
few_attributes known ds k =
    throughout Few
    (λ old n c q. few_same old (old ++ element n c ∷ []) (sym (words_append old (element n c ∷ []) ∙ append-nil (words old))) q)
    (λ old e q. few_same old (old ++ attlist e [] ∷ []) (sym (words_append old (attlist e [] ∷ []) ∙ append-nil (words old))) q)
    (λ old e own d a q.
    let before : List Declaration = old ++ attlist e own ∷ [] in
    let (b, c) = (and-eq-true_iff (new_attribute before e d.name && room_for_attribute before d.name) (id_allowed before e d.kind)).0 a in
    let r = ((and-eq-true_iff (new_attribute before e d.name) (room_for_attribute before d.name)).0 b).1 in
    subst (λ l. length (firsts_after [] l) ≤ most_attributes) (sym (words_more old e own d)) (one_more (words before) d.name q r))
    known [] ds k (omega arith)

-- ---- IDs

-- kind 1 is the ID's
pub kind_id : (d : Definition) → eqb (kind_number d.kind) 1 ≡ is_id d
kind_id d = by d.kind
  where
    by : (k : Kind) → eqb (kind_number k) 1 ≡ elim k [ cdata ↦ false | id ↦ true | idref ↦ false | idrefs ↦ false ]
    by cdata = refl
    by id = refl
    by idref = refl
    by idrefs = refl

pub some_append : (l : List Definition) (d : Definition) → some_of is_id (l ++ d ∷ []) ≡ (some_of is_id l || is_id d)
some_append [] d = by (is_id d)
  where
    by : (x : Bool) → (x || false) ≡ x
    by true = refl
    by false = refl
some_append (x ∷ l) d = by (is_id x) (some_append l d)
  where
    by : (b : Bool) → some_of is_id (l ++ d ∷ []) ≡ (some_of is_id l || is_id d) → (b || some_of is_id (l ++ d ∷ [])) ≡ ((b || some_of is_id l) || is_id d)
    by true p = refl
    by false p = p

one_snoc : (l : List Definition) (d : Definition) → one_id l ≡ true → (is_id d ≡ true → some_of is_id l ≡ false) → one_id (l ++ d ∷ []) ≡ true
one_snoc [] d p h = by (is_id d)
  where
    by : (x : Bool) → cond x (not false) true ≡ true
    by true = refl
    by false = refl
one_snoc (x ∷ l) d p h = by (is_id x) p h (one_snoc l d)
  where
    by : (b : Bool) → cond b (not (some_of is_id l)) (one_id l) ≡ true → (is_id d ≡ true → (b || some_of is_id l) ≡ false)
        → (one_id l ≡ true → (is_id d ≡ true → some_of is_id l ≡ false) → one_id (l ++ d ∷ []) ≡ true)
        → cond b (not (some_of is_id (l ++ d ∷ []))) (one_id (l ++ d ∷ [])) ≡ true
    by true p h r = rw (some_append l d, not-true (some_of is_id l) p) (other (is_id d) h)
      where
        other : (y : Bool) → (y ≡ true → true ≡ false) → not y ≡ true
        other true h = clash refl (h refl)
        other false h = refl
    by false p h r = r p h

pub for_append : (x : Name) (u v : List Declaration) → defined_for x (u ++ v) ≡ defined_for x u ++ defined_for x v
for_append x [] v = refl
for_append x (element n c ∷ u) v = for_append x u v
for_append x (attlist e l ∷ u) v = by (same x e) (for_append x u v)
  where
    by : (b : Bool) → defined_for x (u ++ v) ≡ defined_for x u ++ defined_for x v
        → cond b (l ++ defined_for x (u ++ v)) (defined_for x (u ++ v)) ≡ cond b (l ++ defined_for x u) (defined_for x u) ++ defined_for x v
    by true p = ap (λ t. l ++ t) p ∙ sym (append_assoc l (defined_for x u) (defined_for x v))
    by false p = p

pub same_true : (l m : Name) → same l m ≡ true → l ≡ m
same_true [] [] p = refl
same_true [] (b ∷ m) p = clash p refl
same_true (a ∷ l) [] p = clash p refl
same_true (a ∷ l) (b ∷ m) p = let (i, j) = (and-eq-true_iff (eqb a b) (same l m)).0 p in rw (eqb-true a b i, same_true l m j)

pub same_refl : (l : Name) → same l l ≡ true
same_refl [] = refl
same_refl (a ∷ l) = rw (eq-eqb a a refl) (same_refl l)

allowed : (old : List Declaration) (e : Name) (d : Definition) → id_allowed old e d.kind ≡ true → is_id d ≡ true → some_of is_id (defined_for e old) ≡ false
allowed old e d p q = by d.kind p q
  where
    by : (k : Kind) → id_allowed old e k ≡ true → elim k [ cdata ↦ false | id ↦ true | idref ↦ false | idrefs ↦ false ] ≡ true
        → some_of is_id (defined_for e old) ≡ false
    by cdata p q = clash q refl
    by id p q = not-true (some_of is_id (defined_for e old)) p
    by idref p q = clash q refl
    by idrefs p q = clash q refl

module _ (x : Name) where
  abbrev One : List Declaration → Type 0
  One ds = one_id (defined_for x ds) ≡ true

  one_same : (u v : List Declaration) → defined_for x u ≡ defined_for x v → One u → One v
  one_same u v p h = rw (← p) h

  one_more_id : (old : List Declaration) (e : Name) (own : List Definition) (d : Definition) → definition_kept (old ++ attlist e own ∷ []) e d ≡ true
      → One (old ++ attlist e own ∷ []) → One (old ++ attlist e (own ++ d ∷ []) ∷ [])
  one_more_id old e own d a q =
      rw (for_append x old (attlist e (own ++ d ∷ []) ∷ []))
      (by (same x e) refl (rw (for_append x old (attlist e own ∷ [])) at q) (λ p i. rw (for_append e old (attlist e own ∷ [])) at (allowed before e d c i)))
    where
      before : List Declaration
      before = old ++ attlist e own ∷ []

      c : id_allowed (old ++ attlist e own ∷ []) e d.kind ≡ true
      c = ((and-eq-true_iff (new_attribute (old ++ attlist e own ∷ []) e d.name && room_for_attribute (old ++ attlist e own ∷ []) d.name)
          (id_allowed (old ++ attlist e own ∷ []) e d.kind)).0 a).1

      by : (b : Bool) → same x e ≡ b → one_id (defined_for x old ++ cond b (own ++ []) []) ≡ true
          → (same x e ≡ true → is_id d ≡ true → some_of is_id (defined_for e old ++ cond (same e e) (own ++ []) []) ≡ false)
          → one_id (defined_for x old ++ cond b ((own ++ d ∷ []) ++ []) []) ≡ true
      by true p q h =
          let i : x ≡ e = same_true x e p in
          let mine : is_id d ≡ true → some_of is_id (defined_for x old ++ own) ≡ false = λ j. rw i (rw (same_refl e, append-nil own) at (h p j)) in
          rw (append-nil (own ++ d ∷ []), ← append_assoc (defined_for x old) own (d ∷ [])) (one_snoc (defined_for x old ++ own) d (rw (append-nil own) at q) mine)
      by false p q h = q

  empty_for : (old : List Declaration) (b : Bool) → defined_for x old ++ cond b [] [] ≡ defined_for x old
  empty_for old true = append-nil (defined_for x old)
  empty_for old false = append-nil (defined_for x old)

  pub one_id_lem : (known : Name → Bool) (ds : List Declaration) → kept known [] ds ≡ true → one_id (defined_for x ds) ≡ true
  one_id_lem known ds k =
      throughout One
      (λ old n c q. one_same old (old ++ element n c ∷ []) (sym (for_append x old (element n c ∷ []) ∙ append-nil (defined_for x old))) q)
      (λ old e q. one_same old (old ++ attlist e [] ∷ []) (sym (for_append x old (attlist e [] ∷ []) ∙ empty_for old (same x e))) q)
      one_more_id known [] ds k refl

-- ---- models, and names that are known

pub good_kept : (known : Name → Bool) (old ds : List Declaration) → kept known old ds ≡ true → all (declaration_good known) ds ≡ true
good_kept known old [] k = refl
good_kept known old (element n c ∷ ds) k =
    let (a, b) = (and-eq-true_iff (declaration_kept known old (element n c)) (kept known (old ++ element n c ∷ []) ds)).0 k in
    rw ((and-eq-true_iff (new_element old n && room_for_element old) (content_kept (model_kept known) c)).0 a).1 (good_kept known (old ++ element n c ∷ []) ds b)
good_kept known old (attlist e l ∷ ds) k =
    let (a, b) = (and-eq-true_iff (declaration_kept known old (attlist e l)) (kept known (old ++ attlist e l ∷ []) ds)).0 k in
    rw ((and-eq-true_iff (known e) (definitions_kept old e [] l)).0 a).0 (good_kept known (old ++ attlist e l ∷ []) ds b)
