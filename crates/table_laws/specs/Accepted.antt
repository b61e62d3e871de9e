-- All that a schema that was read keeps to. Assumes nothing.
use Rattle.std.specs.Prelude.{◌≡◌, refl, Bool, true, false, cond, ◌&&◌, ◌||◌, List, [], ◌∷◌, ◌++◌, ℕ, zero, suc, ◌+◌, ◌≤◌, ◌<◌, leb, ltb, eqb, length}
use Rattle.std.proofs.Common.{sym, ◌∙◌, subst, arith, leb-true, le-leb, ltb-true, eqb-true}
use Rattle.std.proofs.Math.Option.{Option, none, some}
use Rattle.paper.specs.Basics.{most_number, most_elements, most_names, most_fixed, between, all, cons_if}
use Rattle.paper.specs.Schema.{most_symbols, expr_of, Attribute, is_fixed, fixed_in, Content, model, Element, Schema, ok, pure, refuse, number, numbers, modelled, content_as, kind_after, most_status, value_after, element}
use Rattle.paper.specs.Table.{entries_of, entries_from}
use Rattle.basic_laws.specs.Bools.{clash, both}
use Rattle.content_laws.specs.Symbols.{expr_of_iff, range_names}
use Rattle.paper.specs.Expressions.{Expr, names, count}
use Rattle.paper.specs.Sets.{ambiguous}
use Rattle.table_laws.specs.Blocks.{Fine}
use Rattle.table_laws.specs.Readers.{after, never_stop, number_in}

-- ---- names below E

module _ (E : ℕ) where
  abbrev pub Below : Expr → Type 0
  Below e = all (λ a. ltb a E) (names e) ≡ true

  abbrev Symbols : List ℕ → Type 0
  Symbols l = all (between 0 (4 + E)) l ≡ true

  numbers_in : (n : ℕ) (s : List ℕ) {l r : List ℕ} → numbers n 0 (4 + E) s ≡ ok l r → Symbols l
  numbers_in zero s {l} {r} e = let d : l ≡ [] = cc in rw d
  numbers_in (suc n) s {l} {r} e =
      after (number 0 (4 + E) s) _ e λ x t p f.
      after (numbers n 0 (4 + E) t) _ f λ xs u g h.
      let d : l ≡ x ∷ xs = made h in
      let (low, high) = number_in 0 (4 + E) s p in
      rw d (both (both (le-leb 0 x low) (le-leb x (4 + E) high)) (numbers_in n t g))
    where
      made : {a w : List ℕ} → ok a w ≡ ok l r → l ≡ a
      made e = cc

  -- a model that was read: fine, its names below E
  pub record Good (e : Expr) : Type 0 where
    pub fine : Fine e
    pub below : Below e

  modelled_good : (l : List ℕ) → Symbols l → (o : Option Expr) → expr_of l ≡ o → (s : List ℕ) {c : Content} {r : List ℕ} → modelled o s ≡ ok c r → (e : Expr) → c ≡ model e → Good e
  modelled_good l h none w s e x q = never_stop e
  modelled_good l h (some d) w s {c} {r} e x q = go (leb (count d) most_names) (ambiguous d) refl refl e
    where
      go : (a b : Bool) → leb (count d) most_names ≡ a → ambiguous d ≡ b → cond a (cond b (refuse 3) (pure (model d))) (refuse 2) s ≡ ok c r → Good x
      go true false p u e =
          let same : d ≡ x = cc in
          subst Good same (record { fine = record { small = leb-true (count d) most_names p; unambiguous = u }; below = sym (range_names E d) ∙ rw ((expr_of_iff l d).0 w) h })
      go true true p u e = never_stop e
      go false b p u e = never_stop e

  pub content_good_lem : (k : ℕ) (s : List ℕ) {c : Content} {r : List ℕ} → content_as E k s ≡ ok c r → (e : Expr) → c ≡ model e → Good e
  content_good_lem zero s e x q = let z : ◌≡◌ {A = ℕ} 0 1 = cc in absurd (omega arith)
  content_good_lem (suc zero) s e x q = let z : ◌≡◌ {A = ℕ} 0 1 = cc in absurd (omega arith)
  content_good_lem (suc (suc k)) s e x q =
      after (number 1 most_symbols s) _ e λ n t p f.
      after (numbers n 0 (4 + E) t) _ f λ l u g h.
      modelled_good l (numbers_in n t g) (expr_of l) refl u h x q

-- ---- attributes

-- the numbers rise from low on, and there is one ID at most, none if `had`
abbrev pub Rising : ℕ → Bool → List Attribute → Type 0
Rising low had [] = Unit {0}
Rising low had (y ∷ l) = (low ≤ y.number) × (had && eqb y.kind 1 ≡ false) × Rising (suc y.number) (had || eqb y.kind 1) l

pub kind_good : (had : Bool) (s : List ℕ) {k : ℕ} {r : List ℕ} → kind_after had s ≡ ok k r → had && eqb k 1 ≡ false
kind_good had s {k} {r} e =
    after (number 0 3 s) _ e λ n t p f. go n t (had && eqb n 1) refl f
  where
    go : (n : ℕ) (t : List ℕ) (b : Bool) → had && eqb n 1 ≡ b → cond b (refuse 2) (pure n) t ≡ ok k r → had && eqb k 1 ≡ false
    go n t true q f = never_stop f
    go n t false q f = let d : n ≡ k = cc in rw d at q

-- a fixed attribute is CDATA, with a value that a token can have
abbrev pub FixedFine : Attribute → Type 0
FixedFine y = is_fixed y ≡ true → (y.kind ≡ 0) × (y.value ≤ most_number)

abbrev pub Fixes : List Attribute → Type 0
Fixes [] = Unit {0}
Fixes (y ∷ l) = FixedFine y × Fixes l

-- a fixed one was met where there was room for it
pub status_good : (k met st : ℕ) → st ≤ most_status k met → eqb st 2 ≡ true → (k ≡ 0) × (met < most_fixed)
status_good k met st h e = go (eqb k 0) (ltb met most_fixed) refl refl h
  where
    go : (a b : Bool) → eqb k 0 ≡ a → ltb met most_fixed ≡ b → st ≤ cond (a && b) 2 1 → (k ≡ 0) × (met < most_fixed)
    go true true p q h = (eqb-true k 0 p, ltb-true met most_fixed q)
    go true false p q h = let z = eqb-true st 2 e in absurd (omega arith)
    go false b p q h = let z = eqb-true st 2 e in absurd (omega arith)

pub value_good : (st : ℕ) (s : List ℕ) {v : ℕ} {r : List ℕ} → value_after st s ≡ ok v r → eqb st 2 ≡ true → v ≤ most_number
value_good st s {v} {r} e t = go (eqb st 2) t e
  where
    go : (b : Bool) → b ≡ true → cond b (number 0 most_number) (pure 0) s ≡ ok v r → v ≤ most_number
    go true t e = (number_in 0 most_number s e).1
    go false t e = clash t refl

-- What the attributes keep to, where `met` fixed ones were met before them.
pub record GoodAttributes (low : ℕ) (had : Bool) (met : ℕ) (l : List Attribute) : Type 0 where
  pub rising : Rising low had l
  pub fixes : Fixes l
  pub few_fixed : met ≤ most_fixed → met + fixed_in l ≤ most_fixed

-- the fixed attributes, at any place among the others
pub fixed_fine : (u v : List Attribute) (y : Attribute) → Fixes (u ++ y ∷ v) → FixedFine y
fixed_fine [] v y f = f.0
fixed_fine (x ∷ u) v y f = fixed_fine u v y f.1

-- ---- elements

pub record GoodElement (E : ℕ) (x : Element) : Type 0 where
  pub model_good : (e : Expr) → x.content ≡ model e → Good E e
  pub rising : Rising 0 false x.attributes
  pub fixes : Fixes x.attributes

pub data GoodAll (E : ℕ) : List Element → Type 0 where
  none_left : GoodAll E []
  one_more : {x : Element} {l : List Element} → GoodElement E x → GoodAll E l → GoodAll E (x ∷ l)

pub length_entries : (e : ℕ) (l : List Attribute) → length (entries_of e l) ≡ fixed_in l
length_entries e [] = refl
length_entries e (y ∷ l) = go (is_fixed y) (length_entries e l)
  where
    go : (b : Bool) → length (entries_of e l) ≡ fixed_in l
        → length (cons_if b (record { element = e; attribute = y.number; value = y.value }) (entries_of e l)) ≡ cond b 1 0 + fixed_in l
    go true h = omega arith
    go false h = omega arith

-- the elements, where `met` fixed attributes were met before them
pub record GoodElements (n E met : ℕ) (l : List Element) : Type 0 where
  pub each_good : GoodAll E l
  pub long : length l ≡ n
  pub few_entries : (e : ℕ) → met ≤ most_fixed → met + length (entries_from e l) ≤ most_fixed

pub record GoodSchema (s : Schema) : Type 0 where
  pub some_elements : 1 ≤ length s.elements
  pub few_elements : length s.elements ≤ most_elements
  pub root_below : s.root < length s.elements
  pub elements_all : GoodAll (length s.elements) s.elements
  pub few_fixed : length (entries_from 0 s.elements) ≤ most_fixed
