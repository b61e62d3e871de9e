-- Declarations keep to the limits one after another exactly if the whole text does. Assumes nothing.
use Rattle.std.specs.Prelude.{◌≡◌, refl, ◌↔◌, Bool, true, false, cond, not, ◌&&◌, ◌||◌, List, [], ◌∷◌, ◌++◌, ◌≤◌, ltb, length}
use Rattle.std.proofs.Common.{sym, ap, subst, ◌∙◌, append_assoc, append-nil, arith, lt-ltb, length-append}
use Rattle.std.proofs.Math.Bool.{and-eq-true_iff}
use Rattle.std.proofs.lemmas.List.{map-append}
use Rattle.std.proofs.lemmas.Bool.{not-true}
use Rattle.paper.specs.Basics.{most_elements, most_attributes, all, some_of}
use Rattle.paper.specs.Dtd.Letters.{Name, same, among}
use Rattle.paper.specs.Dtd.Declarations.{Kind, cdata, id, idref, idrefs, Definition, Declaration, element, attlist}
use Rattle.paper.specs.Dtd.Declarations.{element_names, defined_for, defined, firsts_after, is_id}
use Rattle.paper.specs.Dtd.Reading.{new_element, room_for_element, new_attribute, room_for_attribute, id_allowed}
use Rattle.paper.specs.Dtd.Limits.{content_kept, model_kept, definition_kept, definitions_kept, declaration_kept, kept, different, one_id, declaration_good, Within}
use Rattle.basic_laws.specs.Bools.{clash}
use Rattle.dtd_laws.specs.Kept.{elements_append, words, words_append, for_append, firsts_snoc, throughout, same_true, same_refl}
use Rattle.dtd_laws.specs.Kept.{few_elements, few_attributes, one_id_lem, good_kept}
use Rattle.dtd_laws.specs.Names.{among_append, among_here, same_sym, own_for, called}

-- ---- different names, one more and one of them

or_false : (x y : Bool) → x ≡ false → y ≡ false → (x || y) ≡ false
or_false true y p q = p
or_false false y p q = q

different_snoc : (l : List Name) (n : Name) → different l ≡ true → among n l ≡ false → different (l ++ n ∷ []) ≡ true
different_snoc [] n p o = refl
different_snoc (k ∷ l) n p o =
    let (a, b) = (and-eq-true_iff (not (among k l)) (different l)).0 p in
    let (i, j) = or_parts (same n k) (among n l) o in
    rw (among_append k l (n ∷ []), not-true (among k l) a, same_sym n k i) (different_snoc l n b j)
  where
    or_parts : (x y : Bool) → (x || y) ≡ false → (x ≡ false) × (y ≡ false)
    or_parts true y q = clash refl q
    or_parts false y q = (refl, q)

pub different_front : (l r : List Name) (n : Name) → different (l ++ n ∷ r) ≡ true → among n l ≡ false
different_front [] r n p = refl
different_front (k ∷ l) r n p =
    let (a, b) = (and-eq-true_iff (not (among k (l ++ n ∷ r))) (different (l ++ n ∷ r))).0 p in
    or_false (same n k) (among n l) (other (same n k) refl (not-true (among k (l ++ n ∷ r)) a)) (different_front l r n b)
  where
    other : (b : Bool) → same n k ≡ b → among k (l ++ n ∷ r) ≡ false → b ≡ false
    other true q o = let d = same_true n k q in clash (among_here n l r) (rw (← d) at o)
    other false q o = refl

-- ---- one ID, and few attributes, up to one of them

some_here : (l r : List Definition) (d : Definition) → is_id d ≡ true → some_of is_id (l ++ d ∷ r) ≡ true
some_here [] r d p = rw p
some_here (x ∷ l) r d p = by (is_id x) (some_here l r d p)
  where
    by : (b : Bool) → some_of is_id (l ++ d ∷ r) ≡ true → (b || some_of is_id (l ++ d ∷ r)) ≡ true
    by true q = refl
    by false q = q

one_front : (l r : List Definition) (d : Definition) → one_id (l ++ d ∷ r) ≡ true → is_id d ≡ true → some_of is_id l ≡ false
one_front [] r d p q = refl
one_front (x ∷ l) r d p q = by (is_id x) p (one_front l r d)
  where
    by : (b : Bool) → cond b (not (some_of is_id (l ++ d ∷ r))) (one_id (l ++ d ∷ r)) ≡ true → (one_id (l ++ d ∷ r) ≡ true → is_id d ≡ true → some_of is_id l ≡ false)
        → (b || some_of is_id l) ≡ false
    by true p h = clash (some_here l r d q) (not-true (some_of is_id (l ++ d ∷ r)) p)
    by false p h = h p q

firsts_grow : (b l r : List Name) → length (firsts_after b l) ≤ length (firsts_after b (l ++ r))
firsts_grow b [] r = omega arith
firsts_grow b (n ∷ l) r = by (among n b) (firsts_grow b l r) (firsts_grow (n ∷ b) l r)
  where
    by : (x : Bool) → length (firsts_after b l) ≤ length (firsts_after b (l ++ r)) → length (firsts_after (n ∷ b) l) ≤ length (firsts_after (n ∷ b) (l ++ r))
        → length (cond x (firsts_after b l) (n ∷ firsts_after (n ∷ b) l)) ≤ length (cond x (firsts_after b (l ++ r)) (n ∷ firsts_after (n ∷ b) (l ++ r)))
    by true p q = p
    by false p q = omega arith

few_front : (l r : List Name) (a : Name) → length (firsts_after [] (l ++ a ∷ r)) ≤ most_attributes
    → (among a (firsts_after [] l) || ltb (length (firsts_after [] l)) most_attributes) ≡ true
few_front l r a h = by (among a (firsts_after [] l)) (firsts_snoc [] l a)
  where
    grown : length (firsts_after [] (l ++ a ∷ [])) ≤ length (firsts_after [] (l ++ a ∷ r))
    grown = subst (λ t. length (firsts_after [] (l ++ a ∷ [])) ≤ length (firsts_after [] t)) (append_assoc l (a ∷ []) r) (firsts_grow [] (l ++ a ∷ []) r)

    by : (x : Bool) → firsts_after [] (l ++ a ∷ []) ≡ firsts_after [] l ++ cond x [] (a ∷ []) → (x || ltb (length (firsts_after [] l)) most_attributes) ≡ true
    by true e = refl
    by false e =
        let g = grown in
        let k = ap length e ∙ length-append (firsts_after [] l) (a ∷ []) in
        lt-ltb (length (firsts_after [] l)) most_attributes (omega arith)

-- ---- from one after another to the whole

elements_different : (known : Name → Bool) (old ds : List Declaration) → different (element_names old) ≡ true → kept known old ds ≡ true
    → different (element_names (old ++ ds)) ≡ true
elements_different known old [] p k = rw (append-nil old) p
elements_different known old (element n c ∷ ds) p k =
    let (a, b) = (and-eq-true_iff (declaration_kept known old (element n c)) (kept known (old ++ element n c ∷ []) ds)).0 k in
    let (i, j) = (and-eq-true_iff (new_element old n && room_for_element old) (content_kept (model_kept known) c)).0 a in
    let new = not-true (among n (element_names old)) ((and-eq-true_iff (new_element old n) (room_for_element old)).0 i).0 in
    let more = rw (← elements_append old (element n c ∷ [])) at (different_snoc (element_names old) n p new) in
    rw (append_assoc old (element n c ∷ []) ds) at (elements_different known (old ++ element n c ∷ []) ds more b)
elements_different known old (attlist e l ∷ ds) p k =
    let (a, b) = (and-eq-true_iff (declaration_kept known old (attlist e l)) (kept known (old ++ attlist e l ∷ []) ds)).0 k in
    let more = subst (λ t. different t ≡ true) (sym (elements_append old (attlist e l ∷ []) ∙ append-nil (element_names old))) p in
    rw (append_assoc old (attlist e l ∷ []) ds) at (elements_different known (old ++ attlist e l ∷ []) ds more b)

module _ (x : Name) where
  abbrev Apart : List Declaration → Type 0
  Apart ds = different (called (defined_for x ds)) ≡ true

  apart_same : (u v : List Declaration) → defined_for x u ≡ defined_for x v → Apart u → Apart v
  apart_same u v p h = subst (λ t. different (called t) ≡ true) p h

  empty_for : (old : List Declaration) (b : Bool) → defined_for x old ++ cond b [] [] ≡ defined_for x old
  empty_for old true = append-nil (defined_for x old)
  empty_for old false = append-nil (defined_for x old)

  apart_more : (old : List Declaration) (e : Name) (own : List Definition) (d : Definition) → definition_kept (old ++ attlist e own ∷ []) e d ≡ true
      → Apart (old ++ attlist e own ∷ []) → Apart (old ++ attlist e (own ++ d ∷ []) ∷ [])
  apart_more old e own d a q =
      subst (λ t. different (called t) ≡ true) (sym (for_append x old (attlist e (own ++ d ∷ []) ∷ [])))
      (by (same x e) refl (subst (λ t. different (called t) ≡ true) (for_append x old (attlist e own ∷ [])) q) new)
    where
      new : among d.name (called (defined_for e old ++ own)) ≡ false
      new =
          let (i, j) = (and-eq-true_iff (new_attribute (old ++ attlist e own ∷ []) e d.name && room_for_attribute (old ++ attlist e own ∷ []) d.name)
          (id_allowed (old ++ attlist e own ∷ []) e d.kind)).0 a in
          let k = ((and-eq-true_iff (new_attribute (old ++ attlist e own ∷ []) e d.name) (room_for_attribute (old ++ attlist e own ∷ []) d.name)).0 i).0 in
          subst (λ t. among d.name (called t) ≡ false) (own_for old e own) (not-true (among d.name (called (defined_for e (old ++ attlist e own ∷ [])))) k)

      by : (b : Bool) → same x e ≡ b → different (called (defined_for x old ++ cond b (own ++ []) [])) ≡ true
          → among d.name (called (defined_for e old ++ own)) ≡ false
          → different (called (defined_for x old ++ cond b ((own ++ d ∷ []) ++ []) [])) ≡ true
      by true p q o =
          let i : x ≡ e = same_true x e p in
          let mine : among d.name (called (defined_for x old ++ own)) ≡ false = rw i o in
          rw (append-nil (own ++ d ∷ []), ← append_assoc (defined_for x old) own (d ∷ []), map-append (λ (d : Definition). d.name) (defined_for x old ++ own) (d ∷ []))
          (different_snoc (called (defined_for x old ++ own)) d.name (rw (append-nil own) at q) mine)
      by false p q o = q

  apart : (known : Name → Bool) (ds : List Declaration) → kept known [] ds ≡ true → Apart ds
  apart known ds k =
      throughout Apart
      (λ old n c q. apart_same old (old ++ element n c ∷ []) (sym (for_append x old (element n c ∷ []) ∙ append-nil (defined_for x old))) q)
      (λ old e q. apart_same old (old ++ attlist e [] ∷ []) (sym (for_append x old (attlist e [] ∷ []) ∙ empty_for old (same x e))) q)
      apart_more known [] ds k refl

-- ---- from the whole to one after another

pub all_here : {A : Type 0} (P : A → Bool) (u v : List A) (x : A) → all P (u ++ x ∷ v) ≡ true → P x ≡ true
all_here P [] v x p = ((and-eq-true_iff (P x) (all P v)).0 p).0
all_here P (y ∷ u) v x p = all_here P u v x ((and-eq-true_iff (P y) (all P (u ++ x ∷ v))).0 p).1

module _ (known : Name → Bool) (all-ds : List Declaration) (w : Within known all-ds) where
  module _ (old rest : List Declaration) (e : Name) where
    -- what stands before one definition, and behind it
    for_parts : (own l : List Definition) (d : Definition) → all-ds ≡ old ++ attlist e (own ++ d ∷ l) ∷ rest
        → defined_for e all-ds ≡ (defined_for e old ++ own) ++ d ∷ (l ++ defined_for e rest)
    for_parts own l d p =
        ap (defined_for e) p
        ∙ for_append e old (attlist e (own ++ d ∷ l) ∷ rest)
        ∙ rw (same_refl e) (ap (λ t. defined_for e old ++ t) (append_assoc own (d ∷ l) (defined_for e rest)) ∙ sym (append_assoc (defined_for e old) own (d ∷ l ++ defined_for e rest)))

    words_parts : (own l : List Definition) (d : Definition) → all-ds ≡ old ++ attlist e (own ++ d ∷ l) ∷ rest
        → words all-ds ≡ words (old ++ attlist e own ∷ []) ++ d.name ∷ called (l ++ defined rest)
    words_parts own l d p =
        ap words p
        ∙ words_append old (attlist e (own ++ d ∷ l) ∷ rest)
        ∙ ap (λ t. words old ++ called t) (append_assoc own (d ∷ l) (defined rest))
        ∙ ap (λ t. words old ++ t) (map-append (λ (d : Definition). d.name) own (d ∷ l ++ defined rest))
        ∙ sym (append_assoc (words old) (called own) (d.name ∷ called (l ++ defined rest)))
        ∙ ap (λ t. t ++ d.name ∷ called (l ++ defined rest)) (ap (λ t. words old ++ called t) (sym (append-nil own)) ∙ sym (words_append old (attlist e own ∷ [])))

    module _ (own l : List Definition) (d : Definition) (p : all-ds ≡ old ++ attlist e (own ++ d ∷ l) ∷ rest) where
      abbrev before : List Declaration
      before = old ++ attlist e own ∷ []

      new_back : new_attribute before e d.name ≡ true
      new_back =
          let q = subst (λ t. different (called t) ≡ true) (for_parts own l d p) (w.attributes_different e) in
          let r = subst (λ t. different t ≡ true) (map-append (λ (d : Definition). d.name) (defined_for e old ++ own) (d ∷ l ++ defined_for e rest)) q in
          rw (own_for old e own, different_front (called (defined_for e old ++ own)) (called (l ++ defined_for e rest)) d.name r)

      room_back : room_for_attribute before d.name ≡ true
      room_back =
          few_front (words before) (called (l ++ defined rest)) d.name
          (subst (λ t. length (firsts_after [] t) ≤ most_attributes) (words_parts own l d p) w.few_attributes)

      id_back : (k : Kind) → (k ≡ id → is_id d ≡ true) → id_allowed before e k ≡ true
      id_back cdata h = refl
      id_back id h =
          let q = subst (λ t. one_id t ≡ true) (for_parts own l d p) (w.one_id_lem e) in
          rw (own_for old e own, one_front (defined_for e old ++ own) (l ++ defined_for e rest) d q (h refl))
      id_back idref h = refl
      id_back idrefs h = refl

      definition_back : definition_kept before e d ≡ true
      definition_back = rw (new_back, room_back) (id_back d.kind (λ q. rw q refl))

    definitions_back : (own l : List Definition) → all-ds ≡ old ++ attlist e (own ++ l) ∷ rest → definitions_kept old e own l ≡ true
    definitions_back own [] p = refl
    definitions_back own (d ∷ l) p =
        rw (definition_back own l d p) (definitions_back (own ++ d ∷ []) l (p ∙ ap (λ t. old ++ attlist e t ∷ rest) (sym (append_assoc own (d ∷ []) l))))

  kept_back : (old ds : List Declaration) → all-ds ≡ old ++ ds → kept known old ds ≡ true
  kept_back old [] p = refl
  kept_back old (element n c ∷ ds) p =
      let q : element_names all-ds ≡ element_names old ++ n ∷ element_names ds = ap element_names p ∙ elements_append old (element n c ∷ ds) in
      let l = ap length q ∙ length-append (element_names old) (n ∷ element_names ds) in
      let few = w.few_elements in
      rw (
        different_front (element_names old) (element_names ds) n (subst (λ t. different t ≡ true) q w.elements_different),
        lt-ltb (length (element_names old)) most_elements (omega arith),
        all_here (declaration_good known) old ds (element n c) (subst (λ t. all (declaration_good known) t ≡ true) p w.each_good),
      )
      (kept_back (old ++ element n c ∷ []) ds (p ∙ sym (append_assoc old (element n c ∷ []) ds)))
  kept_back old (attlist e l ∷ ds) p =
      rw (
        all_here (declaration_good known) old ds (attlist e l) (subst (λ t. all (declaration_good known) t ≡ true) p w.each_good),
        definitions_back old ds e [] l p,
      )
      (kept_back (old ++ attlist e l ∷ []) ds (p ∙ sym (append_assoc old (attlist e l ∷ []) ds)))

-- Declarations keep to the limits one after another exactly if the whole text does.
pub kept_whole : (known : Name → Bool) (ds : List Declaration) → (kept known [] ds ≡ true) ↔ Within known ds
kept_whole known ds = (
  λ k. record {
    elements_different = elements_different known [] ds refl k;
    few_elements = few_elements known [] ds (omega arith) k;
    attributes_different = λ e. apart e known ds k;
    one_id_lem = λ e. one_id_lem e known ds k;
    few_attributes = few_attributes known ds k;
    each_good = good_kept known [] ds k;
  },
  λ w. kept_back known ds w [] ds refl,
)
