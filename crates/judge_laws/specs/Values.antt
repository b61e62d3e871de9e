-- The values that the judgement lists, of the attributes of a kind: those of the start and the attribute that were read last, by
-- rising place. Assumes nothing.
use Rattle.std.specs.Prelude.{◌≡◌, refl, ◌⊎◌, Bool, true, false, ℕ, suc, ◌+◌, ◌<◌, T, length}
use Rattle.std.proofs.Common.{ap, inl, inr, arith}
use mathlib.Core.List.Memᴰ
use mathlib.Core.List.{List, [], ◌∷◌, ◌++◌, Memᴰ}
use Rattle.paper.specs.declared.Tok.{Tok}
use Rattle.paper.specs.declared.Tok.TheVariants.{Start, End, Text, Attr, Value, Bad}
use Rattle.paper.specs.Basics.{cons_if}
use Rattle.paper.specs.Judgement.{values_of}

-- ---- the start and the attribute that were read last

abbrev pub start_of : ℕ → Tok → ℕ
start_of e (Start n) = n
start_of e End = e
start_of e (Text n) = e
start_of e (Attr n) = e
start_of e (Value n) = e
start_of e Bad = e

abbrev pub attr_of : ℕ → Tok → ℕ
attr_of a (Attr n) = n
attr_of a (Start n) = a
attr_of a End = a
attr_of a (Text n) = a
attr_of a (Value n) = a
attr_of a Bad = a

abbrev pub last_start : ℕ → List Tok → ℕ
last_start e [] = e
last_start e (t ∷ u) = last_start (start_of e t) u

abbrev pub last_attr : ℕ → List Tok → ℕ
last_attr a [] = a
last_attr a (t ∷ u) = last_attr (attr_of a t) u

-- ---- the list

module _ {A : Type 0} where
  of_cons_if : (b : Bool) {p q : A} {l : List A} → Memᴰ p (cons_if b q l) → (T b × (p ≡ q)) ⊎ Memᴰ p l
  of_cons_if true m = elim (Memᴰ.cases_cons m) [ inl e ↦ inl (tt, e) | inr n ↦ inr n ]
  of_cons_if false m = inr m

  head_cons_if : (b : Bool) (p : A) (l : List A) → T b → Memᴰ p (cons_if b p l)
  head_cons_if false p l t = elim t [ ]
  head_cons_if true p l t = Memᴰ.head refl

  tail_cons_if : (b : Bool) (q : A) {p : A} {l : List A} → Memᴰ p l → Memᴰ p (cons_if b q l)
  tail_cons_if true q m = Memᴰ.tail m
  tail_cons_if false q m = m

module _ (is : ℕ → ℕ → Bool) where
  -- x stands at place j of d, whose first token is at place i, after a start of e and the attribute a
  abbrev pub Listed : (j x i e a : ℕ) → List Tok → Type 0
  Listed j x i e a d = (u : List Tok) × (r : List Tok) × (d ≡ u ++ Value x ∷ r) × (j ≡ i + length u) × T (is (last_start e u) (last_attr a u))

  module _ (j x : ℕ) where
    later : (t : Tok) (i e a : ℕ) {d : List Tok} → Listed j x (suc i) (start_of e t) (attr_of a t) d → Listed j x i e a (t ∷ d)
    later t i e a (u, r, c, k, y) = (t ∷ u, r, rw c, omega arith, y)

    pub of_list : (d : List Tok) (i e a : ℕ) → Memᴰ (j, x) (values_of is i e a d) → Listed j x i e a d
    of_list [] i e a m = absurd (Memᴰ.not-nil m)
    of_list (Start n ∷ d) i e a m = later (Start n) i e a (of_list d (suc i) n a m)
    of_list (End ∷ d) i e a m = later End i e a (of_list d (suc i) e a m)
    of_list (Text n ∷ d) i e a m = later (Text n) i e a (of_list d (suc i) e a m)
    of_list (Attr n ∷ d) i e a m = later (Attr n) i e a (of_list d (suc i) e n m)
    of_list (Bad ∷ d) i e a m = later Bad i e a (of_list d (suc i) e a m)
    of_list (Value v ∷ d) i e a m =
        elim (of_cons_if (is e a) m) [
          | inl (t, c) ↦ let k : j ≡ i = ap (λ p. p.0) c in let f : x ≡ v = ap (λ p. p.1) c in ([], d, rw f, omega arith, t)
          | inr n ↦ later (Value v) i e a (of_list d (suc i) e a n)
        ]

    pub to_list : (u r : List Tok) (i e a : ℕ) → j ≡ i + length u → T (is (last_start e u) (last_attr a u))
        → Memᴰ (j, x) (values_of is i e a (u ++ Value x ∷ r))
    to_list [] r i e a k t = let f : j ≡ i = omega arith in rw f (head_cons_if (is e a) (i, x) (values_of is (suc i) e a r) t)
    to_list (Start n ∷ u) r i e a k t = to_list u r (suc i) n a (omega arith) t
    to_list (End ∷ u) r i e a k t = to_list u r (suc i) e a (omega arith) t
    to_list (Text n ∷ u) r i e a k t = to_list u r (suc i) e a (omega arith) t
    to_list (Attr n ∷ u) r i e a k t = to_list u r (suc i) e n (omega arith) t
    to_list (Bad ∷ u) r i e a k t = to_list u r (suc i) e a (omega arith) t
    to_list (Value v ∷ u) r i e a k t = tail_cons_if (is e a) (i, v) (to_list u r (suc i) e a (omega arith) t)

-- ---- by rising place

abbrev pub Rising : List (ℕ × ℕ) → Type 0
Rising [] = Unit {0}
Rising (p ∷ l) = ((j x : ℕ) → Memᴰ (j, x) l → p.0 < j) × Rising l

module _ (is : ℕ → ℕ → Bool) where
  pub rising_from_lem : (d : List Tok) (i e a : ℕ) → Rising (values_of is i e a d)
  rising_from_lem [] i e a = tt
  rising_from_lem (Start n ∷ d) i e a = rising_from_lem d (suc i) n a
  rising_from_lem (End ∷ d) i e a = rising_from_lem d (suc i) e a
  rising_from_lem (Text n ∷ d) i e a = rising_from_lem d (suc i) e a
  rising_from_lem (Attr n ∷ d) i e a = rising_from_lem d (suc i) e n
  rising_from_lem (Bad ∷ d) i e a = rising_from_lem d (suc i) e a
  rising_from_lem (Value v ∷ d) i e a = go (is e a) (rising_from_lem d (suc i) e a)
    where
      l : List (ℕ × ℕ)
      l = values_of is (suc i) e a d

      go : (b : Bool) → Rising l → Rising (cons_if b (i, v) l)
      go true r = (λ j x m. let (u, s, c, k, t) = of_list is j x d (suc i) e a m in omega arith, r)
      go false r = r
