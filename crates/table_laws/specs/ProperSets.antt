-- The sets of attributes in the block of an element that was read are proper. Assumes nothing.
use Rattle.std.specs.Prelude.{◌≡◌, refl, Bool, true, false, not, ◌&&◌, ◌||◌, List, [], ◌∷◌, ℕ, suc, ◌<◌, eqb}
use Rattle.std.proofs.Common.{sym, ap, ap₂, ◌∙◌, arith, eqb-true, ne_eqb}
use Rattle.paper.specs.Basics.{most_attributes, every, some_of}
use Rattle.paper.specs.Schema.{Attribute, Element}
use Rattle.paper.specs.Table.{set_of, of_kind, is_required, block_of, within, apart, single, proper_sets}
use Rattle.paper.specs.Sets.{bit}
use Rattle.basic_laws.specs.Bools.{clash, both}
use Rattle.paper_laws.specs.Basics.{every_iff}
use Rattle.table_laws.specs.Blocks.{set_bit}
use Rattle.table_laws.specs.Accepted.{Rising}

module _ (l : List Attribute) where
  abbrev pub At : (Attribute → Bool) → ℕ → Bool
  At P k = some_of (λ y. P y && eqb k y.number) l

sub_at : (P : Attribute → Bool) (l : List Attribute) (k : ℕ) → not (At l P k) || At l (λ y. true) k ≡ true
sub_at P [] k = refl
sub_at P (y ∷ l) k = go (P y) (eqb k y.number) (At l P k) (At l (λ y. true) k) (sub_at P l k)
  where
    go : (p c r s : Bool) → not r || s ≡ true → not ((p && c) || r) || (c || s) ≡ true
    go true true r s h = refl
    go true false r s h = h
    go false true true s h = refl
    go false true false s h = refl
    go false false r s h = h

set_within : (P : Attribute → Bool) (l : List Attribute) → within (set_of P l) (set_of (λ y. true) l) ≡ true
set_within P l = (every_iff (λ k. not (bit (set_of P l) k) || bit (set_of (λ y. true) l) k) most_attributes).1
    (λ k i. ap₂ (λ a b. not a || b) (set_bit P l k) (set_bit (λ y. true) l k) ∙ sub_at P l k)

pub absent : (P : Attribute → Bool) (l : List Attribute) (low : ℕ) (had : Bool) → Rising low had l → (k : ℕ) → k < low → At l P k ≡ false
absent P [] low had r k h = refl
absent P (y ∷ l) low had (a, b, r) k h =
    go (P y) (eqb k y.number) (ne_eqb k y.number (λ z. omega arith)) ∙ absent P l (suc y.number) (had || eqb y.kind 1) r k (omega arith)
  where
    go : (p c : Bool) → c ≡ false → ((p && c) || At l P k) ≡ At l P k
    go true c e = rw e
    go false c e = refl

apart_at : (i j : ℕ) → (i ≡ j → ⊥) → (l : List Attribute) (low : ℕ) (had : Bool) → Rising low had l → (k : ℕ) → not (At l (of_kind i) k && At l (of_kind j) k) ≡ true
apart_at i j d [] low had r k = refl
apart_at i j d (y ∷ l) low had (a, b, r) k =
    go (eqb y.kind i) (eqb y.kind j) (eqb k y.number) refl refl refl
    (apart_at i j d l (suc y.number) (had || eqb y.kind 1) r k)
  where
    rest : eqb k y.number ≡ true → (P : Attribute → Bool) → At l P k ≡ false
    rest e P = let q = eqb-true k y.number e in absent P l (suc y.number) (had || eqb y.kind 1) r k (omega arith)

    go : (p q c : Bool) → eqb y.kind i ≡ p → eqb y.kind j ≡ q → eqb k y.number ≡ c
        → not (At l (of_kind i) k && At l (of_kind j) k) ≡ true → not (((p && c) || At l (of_kind i) k) && ((q && c) || At l (of_kind j) k)) ≡ true
    go true true c e f g h = absurd (d (sym (eqb-true y.kind i e) ∙ eqb-true y.kind j f))
    go true false true e f g h = rw (rest g (of_kind j))
    go true false false e f g h = h
    go false true true e f g h = rw (rest g (of_kind i))
    go false true false e f g h = h
    go false false c e f g h = h

set_apart : (i j : ℕ) → (i ≡ j → ⊥) → (l : List Attribute) → Rising 0 false l → apart (set_of (of_kind i) l) (set_of (of_kind j) l) ≡ true
set_apart i j d l r = (every_iff (λ k. not (bit (set_of (of_kind i) l) k && bit (set_of (of_kind j) l) k)) most_attributes).1
    (λ k h. ap₂ (λ a b. not (a && b)) (set_bit (of_kind i) l k) (set_bit (of_kind j) l k) ∙ apart_at i j d l 0 false r k)

no_id : (l : List Attribute) (low : ℕ) → Rising low true l → (k : ℕ) → At l (of_kind 1) k ≡ false
no_id [] low r k = refl
no_id (y ∷ l) low (a, b, r) k = ap (λ c. (c && eqb k y.number) || At l (of_kind 1) k) b ∙ no_id l (suc y.number) r k

one_id_lem : (l : List Attribute) (low : ℕ) → Rising low false l → (j k : ℕ) → j < k → At l (of_kind 1) k ≡ true → At l (of_kind 1) j ≡ false
one_id_lem [] low r j k h e = refl
one_id_lem (y ∷ l) low (a, b, r) j k h e = go (eqb y.kind 1) refl (one_id_lem l (suc y.number)) e r
  where
    go : (p : Bool) → eqb y.kind 1 ≡ p
        → (Rising (suc y.number) false l → (j k : ℕ) → j < k → At l (of_kind 1) k ≡ true → At l (of_kind 1) j ≡ false)
        → (p && eqb k y.number) || At l (of_kind 1) k ≡ true → Rising (suc y.number) p l → (p && eqb j y.number) || At l (of_kind 1) j ≡ false
    go false q ih e r = ih r j k h e
    go true q ih e r =
        let n : eqb k y.number ≡ true = by (eqb k y.number) (no_id l (suc y.number) r k) e in
        let s = eqb-true k y.number n in
        rw (ne_eqb j y.number (λ z. omega arith)) (no_id l (suc y.number) r j)
      where
        by : (c : Bool) → At l (of_kind 1) k ≡ false → c || At l (of_kind 1) k ≡ true → c ≡ true
        by true f e = refl
        by false f e = clash e f

set_single : (l : List Attribute) → Rising 0 false l → single (set_of (of_kind 1) l) ≡ true
set_single l r = (every_iff (λ k. not (bit w k) || every (λ j. not (bit w j)) k) most_attributes).1 (λ k i. go k (At l (of_kind 1) k) refl)
  where
    w : ℕ
    w = set_of (of_kind 1) l

    go : (k : ℕ) (b : Bool) → At l (of_kind 1) k ≡ b → not (bit w k) || every (λ j. not (bit w j)) k ≡ true
    go k false e = rw (set_bit (of_kind 1) l k, e)
    go k true e = rw (set_bit (of_kind 1) l k, e) ((every_iff (λ j. not (bit w j)) k).1 (λ j h. ap not (set_bit (of_kind 1) l j ∙ one_id_lem l 0 r j k h e)))

pub sets_proper : (x : Element) → Rising 0 false x.attributes → proper_sets (block_of x) ≡ true
unfolding proper_sets
sets_proper x r =
    let l = x.attributes in
    both (both (both (both (both (both (both
    (set_within is_required l)
    (set_within (of_kind 1) l))
    (set_within (of_kind 2) l))
    (set_within (of_kind 3) l))
    (set_apart 1 2 (λ z. omega arith) l r))
    (set_apart 1 3 (λ z. omega arith) l r))
    (set_apart 2 3 (λ z. omega arith) l r))
    (set_single l r)
