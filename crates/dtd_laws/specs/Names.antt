-- Names in lists: one more, one of them, the first of each, a name's place, those of an element's attributes. Assumes nothing.
use Rattle.std.specs.Prelude.{◌≡◌, refl, Bool, true, false, cond, ◌||◌, List, [], ◌∷◌, ◌++◌, map, suc, ◌<◌, ltb, length}
use Rattle.std.proofs.Common.{sym, subst, ◌∙◌, append-nil, arith, lt-ltb}
use Rattle.std.proofs.Math.Bool.{or-true}
use Rattle.std.proofs.lemmas.List.{map-append}
use Rattle.paper.specs.Dtd.Letters.{Name, same, among}
use Rattle.paper.specs.Dtd.Declarations.{Definition, Declaration, element, attlist, defined_for, defined, firsts_after, attribute_names}
use Rattle.paper.specs.Dtd.Numbering.{number_in}
use Rattle.paper.specs.Dtd.Limits.{different}
use Rattle.basic_laws.specs.Bools.{clash}
use Rattle.dtd_laws.specs.Kept.{for_append, words, same_true, same_refl}

-- ---- one of them

pub among_append : (n : Name) (l m : List Name) → among n (l ++ m) ≡ (among n l || among n m)
among_append n [] m = refl
among_append n (k ∷ l) m = by (same n k) (among_append n l m)
  where
    by : (b : Bool) → among n (l ++ m) ≡ (among n l || among n m) → (b || among n (l ++ m)) ≡ ((b || among n l) || among n m)
    by true p = refl
    by false p = p

pub among_here : (n : Name) (l r : List Name) → among n (l ++ n ∷ r) ≡ true
among_here n [] r = rw (same_refl n) refl
among_here n (k ∷ l) r = by (same n k) (among_here n l r)
  where
    by : (b : Bool) → among n (l ++ n ∷ r) ≡ true → (b || among n (l ++ n ∷ r)) ≡ true
    by true p = refl
    by false p = p

pub same_sym : (n m : Name) → same n m ≡ false → same m n ≡ false
same_sym n m p = by (same m n) refl
  where
    by : (b : Bool) → same m n ≡ b → b ≡ false
    by true q = let d = same_true m n q in clash (rw d (same_refl n)) p
    by false q = refl

-- ---- an element's own definitions

pub own_for : (old : List Declaration) (e : Name) (own : List Definition) → defined_for e (old ++ attlist e own ∷ []) ≡ defined_for e old ++ own
own_for old e own = for_append e old (attlist e own ∷ []) ∙ rw (same_refl e, append-nil own)

-- ---- the first of each are different

firsts_fresh : (b l : List Name) (x : Name) → among x b ≡ true → among x (firsts_after b l) ≡ false
firsts_fresh b [] x p = refl
firsts_fresh b (n ∷ l) x p = by (among n b) refl (firsts_fresh b l x p) (λ q. firsts_fresh (n ∷ b) l x q)
  where
    other : (y : Bool) → same x n ≡ y → among n b ≡ false → y ≡ false
    other true q o = let d = same_true x n q in clash (rw d at p) o
    other false q o = refl

    or-true : (y z : Bool) → z ≡ true → (y || z) ≡ true
    or-true true z q = refl
    or-true false z q = q

    by : (y : Bool) → among n b ≡ y → among x (firsts_after b l) ≡ false → (among x (n ∷ b) ≡ true → among x (firsts_after (n ∷ b) l) ≡ false)
        → among x (cond y (firsts_after b l) (n ∷ firsts_after (n ∷ b) l)) ≡ false
    by true o i j = i
    by false o i j = rw (other (same x n) refl o) (j (or-true (same x n) (among x b) p))

pub firsts_different : (b l : List Name) → different (firsts_after b l) ≡ true
firsts_different b [] = refl
firsts_different b (n ∷ l) = by (among n b) (firsts_different b l) (firsts_different (n ∷ b) l)
  where
    by : (y : Bool) → different (firsts_after b l) ≡ true → different (firsts_after (n ∷ b) l) ≡ true
        → different (cond y (firsts_after b l) (n ∷ firsts_after (n ∷ b) l)) ≡ true
    by true i j = i
    by false i j = rw (firsts_fresh (n ∷ b) l n (rw (same_refl n) refl)) j

-- ---- a name's place

-- a name in the list has its place there
pub number_below : (l : List Name) (n : Name) → among n l ≡ true → ltb (number_in l n) (length l) ≡ true
number_below l n p = lt-ltb (number_in l n) (length l) (go l p)
  where
    go : (l : List Name) → among n l ≡ true → number_in l n < length l
    go [] p = clash p refl
    go (m ∷ l) p = by (same n m) (go l) p
      where
        by : (b : Bool) → (among n l ≡ true → number_in l n < length l) → (b || among n l) ≡ true → cond b 0 (suc (number_in l n)) < suc (length l)
        by true h p = omega arith
        by false h p = let k = h p in omega arith

-- ---- each attribute of an element is one of the text's

abbrev pub called : List Definition → List Name
called own = map (λ (d : Definition). d.name) own

or_left : (x y : Bool) → x ≡ true → (x || y) ≡ true
or_left true y p = refl
or_left false y p = clash p refl

or_right : (x y : Bool) → y ≡ true → (x || y) ≡ true
or_right x y p = rw p (or-true x)

firsts_has : (b l : List Name) (a : Name) → among a l ≡ true → (among a b || among a (firsts_after b l)) ≡ true
firsts_has b [] a p = clash p refl
firsts_has b (n ∷ l) a p = by (among n b) (same a n) refl refl p (firsts_has b l a) (firsts_has (n ∷ b) l a)
  where
    skip : (x y z : Bool) → z ≡ false → ((z || x) || y) ≡ true → (x || (z || y)) ≡ true
    skip x y true q p = clash refl q
    skip x y false q p = p

    by : (x y : Bool) → among n b ≡ x → same a n ≡ y → (y || among a l) ≡ true → (among a l ≡ true → (among a b || among a (firsts_after b l)) ≡ true)
        → (among a l ≡ true → (among a (n ∷ b) || among a (firsts_after (n ∷ b) l)) ≡ true)
        → (among a b || among a (cond x (firsts_after b l) (n ∷ firsts_after (n ∷ b) l))) ≡ true
    by true true i j p f g = or_left (among a b) (among a (firsts_after b l)) (subst (λ z. among z b ≡ true) (sym (same_true a n j)) i)
    by true false i j p f g = f p
    by false true i j p f g = or_right (among a b) (same a n || among a (firsts_after (n ∷ b) l)) (or_left (same a n) (among a (firsts_after (n ∷ b) l)) j)
    by false false i j p f g = skip (among a b) (among a (firsts_after (n ∷ b) l)) (same a n) j (g p)

for_words : (e a : Name) (old : List Declaration) → among a (called (defined_for e old)) ≡ true → among a (words old) ≡ true
for_words e a [] p = p
for_words e a (element n c ∷ ds) p = for_words e a ds p
for_words e a (attlist n l ∷ ds) p =
    subst (λ z. among a z ≡ true) (sym (map-append (λ (d : Definition). d.name) l (defined ds)))
    (among_append a (called l) (words ds) ∙ by (same e n) p (for_words e a ds))
  where
    split : (x : Bool) → among a (called l) ≡ x → (x || among a (called (defined_for e ds))) ≡ true → (among a (called (defined_for e ds)) ≡ true → among a (words ds) ≡ true)
        → (x || among a (words ds)) ≡ true
    split true q p h = refl
    split false q p h = h p

    by : (b : Bool) → among a (called (cond b (l ++ defined_for e ds) (defined_for e ds))) ≡ true → (among a (called (defined_for e ds)) ≡ true → among a (words ds) ≡ true)
        → (among a (called l) || among a (words ds)) ≡ true
    by true p h =
        split (among a (called l)) refl
        (sym (among_append a (called l) (called (defined_for e ds))) ∙ subst (λ z. among a z ≡ true) (map-append (λ (d : Definition). d.name) l (defined_for e ds)) p)
        h
    by false p h = or_right (among a (called l)) (among a (words ds)) (h p)

pub word_named : (a : Name) (old : List Declaration) → among a (words old) ≡ true → among a (attribute_names old) ≡ true
word_named a old p = firsts_has [] (words old) a p

pub for_named : (e a : Name) (old : List Declaration) → among a (called (defined_for e old)) ≡ true → among a (attribute_names old) ≡ true
for_named e a old p = word_named a old (for_words e a old p)

pub names_different : (old : List Declaration) → different (attribute_names old) ≡ true
names_different old = firsts_different [] (words old)
