-- Names by their numbers: listed ones and others, and a list with one name more. Assumes nothing.
use Rattle.std.specs.Prelude.{◌≡◌, refl, Bool, true, false, cond, ◌||◌, List, [], ◌∷◌, ◌++◌, suc, ◌<◌, length}
use Rattle.std.proofs.Common.{sym, ap, ◌∙◌, append-nil, arith, ltb-true, length-append}
use Rattle.paper.specs.Dtd.Letters.{Name, same, among}
use Rattle.paper.specs.Dtd.Declarations.{Definition, Declaration, attlist, firsts_after, attribute_names}
use Rattle.paper.specs.Dtd.Numbering.{number_in}
use Rattle.basic_laws.specs.Bools.{clash}
use Rattle.dtd_laws.specs.Kept.{same_refl, words, words_more, firsts_snoc}
use Rattle.dtd_laws.specs.Names.{number_below}

-- ---- numbers of names that are listed, and of others

pub number_of : (l : List Name) (a : Name) → among a l ≡ true → number_in l a < length l
number_of l a p = ltb-true (number_in l a) (length l) (number_below l a p)

pub number_none : (l : List Name) (a : Name) → among a l ≡ false → number_in l a ≡ length l
number_none [] a p = refl
number_none (n ∷ l) a p = by (same a n) p (number_none l a)
  where
    by : (b : Bool) → (b || among a l) ≡ false → (among a l ≡ false → number_in l a ≡ length l) → cond b 0 (suc (number_in l a)) ≡ suc (length l)
    by true p h = clash refl p
    by false p h = ap suc (h p)

-- ---- names with one more

-- the names with a behind them, if it is none of them
abbrev pub with_name : List Name → Name → List Name
with_name names a = names ++ cond (among a names) [] (a ∷ [])

number_last : (l : List Name) (a : Name) → among a l ≡ false → number_in (l ++ a ∷ []) a ≡ length l
number_last [] a p = rw (same_refl a)
number_last (n ∷ l) a p = by (same a n) p (number_last l a)
  where
    by : (b : Bool) → (b || among a l) ≡ false → (among a l ≡ false → number_in (l ++ a ∷ []) a ≡ length l) → cond b 0 (suc (number_in (l ++ a ∷ []) a)) ≡ suc (length l)
    by true p h = clash refl p
    by false p h = ap suc (h p)

-- its number stays
pub number_same : (l : List Name) (a : Name) → number_in (with_name l a) a ≡ number_in l a
number_same l a = by (among a l) refl
  where
    by : (b : Bool) → among a l ≡ b → number_in (l ++ cond b [] (a ∷ [])) a ≡ number_in l a
    by true p = ap (λ z. number_in z a) (append-nil l)
    by false p = number_last l a p ∙ sym (number_none l a p)

pub number_within : (l : List Name) (a : Name) → number_in (with_name l a) a < length (with_name l a)
number_within l a = by (among a l) refl
  where
    by : (b : Bool) → among a l ≡ b → number_in (l ++ cond b [] (a ∷ [])) a < length (l ++ cond b [] (a ∷ []))
    by true p = rw (append-nil l) (number_of l a p)
    by false p = let q = number_last l a p in omega (arith, length-append l (a ∷ []))

-- the text's attributes with one definition more
pub names_more : (old : List Declaration) (e : Name) (own : List Definition) (d : Definition)
    → attribute_names (old ++ attlist e (own ++ d ∷ []) ∷ []) ≡ with_name (attribute_names (old ++ attlist e own ∷ [])) d.name
names_more old e own d = ap (firsts_after []) (words_more old e own d) ∙ firsts_snoc [] (words (old ++ attlist e own ∷ [])) d.name
