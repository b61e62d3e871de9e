-- The entries of fixed attributes rise, in elements whose attributes rise. Assumes nothing.
use Rattle.std.specs.Prelude.{◌≡◌, refl, ◌⊎◌, Bool, true, false, ◌&&◌, ◌||◌, List, [], ◌∷◌, ◌++◌, ℕ, suc, ◌≤◌, ◌<◌, leb, ltb, eqb}
use Rattle.std.proofs.Common.{inl, inr, arith, leb-true, le-leb, ltb-true, lt-ltb, eqb-true, eq-eqb}
use Rattle.std.proofs.Math.Bool.{or-true, and-eq-true_iff}
use Rattle.paper.specs.Basics.{cons_if}
use Rattle.paper.specs.Schema.{Attribute, is_fixed, Element}
use Rattle.paper.specs.Table.{Entry, entries_of, entries_from, rising_from}
use Rattle.basic_laws.specs.Bools.{both, either}
use Rattle.table_laws.specs.Accepted.{Rising, GoodAll, none_left, one_more}

-- ---- entries rise

-- an entry comes behind, as the test has it
abbrev behind : ℕ → ℕ → Entry → Bool
behind e low x = ltb e x.element || (eqb e x.element && leb low x.attribute)

behind_is : (e low : ℕ) (x : Entry) → behind e low x ≡ true → (e < x.element) ⊎ ((e ≡ x.element) × (low ≤ x.attribute))
behind_is e low x t = elim (either (ltb e x.element) (eqb e x.element && leb low x.attribute) t) [
  | inl h ↦ inl (ltb-true e x.element h)
  | inr h ↦ let (p, q) = (and-eq-true_iff (eqb e x.element) (leb low x.attribute)).0 h in inr (eqb-true e x.element p, leb-true low x.attribute q)
]

later_behind : (e low : ℕ) (x : Entry) → e < x.element → behind e low x ≡ true
later_behind e low x h = rw (lt-ltb e x.element h)

same_behind : (e low : ℕ) (x : Entry) → e ≡ x.element → low ≤ x.attribute → behind e low x ≡ true
same_behind e low x h l = rw (eq-eqb e x.element h, le-leb low x.attribute l) (or-true (ltb e x.element))

-- what rises from somewhere rises from anywhere before it
rises_from : (e low i least : ℕ) → ((x : Entry) → behind i least x ≡ true → behind e low x ≡ true) → (l : List Entry)
    → rising_from i least l ≡ true → rising_from e low l ≡ true
rises_from e low i least f [] h = refl
rises_from e low i least f (x ∷ l) h =
    let (p, q) = (and-eq-true_iff (behind i least x) (rising_from x.element (suc x.attribute) l)).0 h in
    both (f x p) q

module _ (e : ℕ) where
  from_earlier : (low : ℕ) (l : List Entry) → rising_from (suc e) 0 l ≡ true → rising_from e low l ≡ true
  from_earlier low = rises_from e low (suc e) 0
      (λ x t. later_behind e low x (elim (behind_is (suc e) 0 x t) [ inl h ↦ omega arith | inr h ↦ let q = h.0 in omega arith ]))

  from_lower : (low least : ℕ) → low ≤ least → (l : List Entry) → rising_from e least l ≡ true → rising_from e low l ≡ true
  from_lower low least h = rises_from e low e least
      (λ x t. elim (behind_is e least x t) [ inl i ↦ later_behind e low x i | inr i ↦ let m = i.1 in same_behind e low x i.0 (omega arith) ])

  rising_of : (l : List Attribute) (low : ℕ) (had : Bool) → Rising low had l → (r : List Entry) → rising_from (suc e) 0 r ≡ true
      → rising_from e low (entries_of e l ++ r) ≡ true
  rising_of [] low had t r h = from_earlier low r h
  rising_of (y ∷ l) low had (a, b, t) r h = go (is_fixed y) (rising_of l (suc y.number) (had || eqb y.kind 1) t r h)
    where
      go : (c : Bool) → rising_from e (suc y.number) (entries_of e l ++ r) ≡ true
          → rising_from e low (cons_if c (record { element = e; attribute = y.number; value = y.value }) (entries_of e l) ++ r) ≡ true
      go true q = both (same_behind e low (record { element = e; attribute = y.number; value = y.value }) refl a) q
      go false q = from_lower low (suc y.number) (omega arith) (entries_of e l ++ r) q

-- those of elements whose attributes rise
pub rising_entries : (E e : ℕ) (l : List Element) → GoodAll E l → rising_from e 0 (entries_from e l) ≡ true
rising_entries E e [] none_left = refl
rising_entries E e (x ∷ l) (one_more g gs) = rising_of e x.attributes 0 false g.rising (entries_from (suc e) l) (rising_entries E (suc e) l gs)
