-- What stands behind an edit's place has the same values after the edit. Assumes nothing.
use Rattle.std.specs.Prelude.{◌≡◌, refl, Bool, true, false, cond, List, [], ◌∷◌, ◌++◌, ℕ, suc, ◌+◌, pred, eqb, length, take, drop}
use Rattle.std.proofs.Common.{sym, ap, ◌∙◌, arith, zero-add, add-zero, drop-drop}
use Rattle.std.proofs.Math.Seq.{drop-length}
use Rattle.paper.specs.declared.Tok.{Tok}
use Rattle.paper.specs.declared.Tok.TheVariants.{Start, End, Text, Attr, Value, Bad}
use Rattle.paper.specs.Tokens.{is_start, item_size, values, slot, held}
use Rattle.paper.specs.Shape.{Phase, Head, Named, Valued, Body, Fail, is_body, is_element, phases}
use Rattle.paper.specs.Edits.{attr_at, attr_cut}
use Rattle.basic_laws.specs.Bools.{clash}
use Rattle.shape_laws.specs.Keep.{Cut, element_parts}
use Rattle.shape_laws.specs.Phases.{content, fails, phases_append, ready_content, was_ready}
use Rattle.shape_laws.specs.Slots.{later}
use Rattle.shape_laws.specs.Attrs.{Put, gone, given, attr_later}
use Rattle.shape_laws.specs.Splice.{cut_item, parts}
use Rattle.shape_laws.specs.Five.{Allowed, insert, remove, replace, replace_root, attribute}
use Rattle.kept_laws.specs.Found.{found, last_start, last_attr}

failing : {A : Type 0} (r : List Tok) → is_body (phases Fail r) ≡ true → A
failing r e = clash e (ap is_body (fails r))

-- ---- a value belongs to the start and the attribute before it

-- what the rest x has to be told, at a phase: among the children nothing; among the attributes the element, where no value is next
abbrev Told : Phase → ℕ → ℕ → List Tok → Type 0
Told Head e f x = e ≡ f
Told (Named n) e f x = (e ≡ f) × (values x ≡ 0)
Told (Valued n) e f x = (e ≡ f) × (values x ≡ 0)
Told Body e f x = Unit {0}
Told Fail e f x = Unit {0}

later_attr : (is : ℕ → ℕ → Bool) (e f n : ℕ) (x : List Tok) → e ≡ f → found is e n x ≡ found is f n x
later_attr is e f n x s = ap (λ k. found is k n x) s

pub free : (is : ℕ → ℕ → Bool) (q : Phase) (x : List Tok) (e f a b : ℕ) → Told q e f x → is_body (phases q x) ≡ true → found is e a x ≡ found is f b x
free is q [] e f a b t k = refl
free is Body (Start n ∷ x) e f a b t k = free is Head x n n a b refl k
free is Body (End ∷ x) e f a b t k = free is Body x e f a b tt k
free is Body (Text n ∷ x) e f a b t k = free is Body x e f a b tt k
free is Body (Attr n ∷ x) e f a b t k = failing x k
free is Body (Value v ∷ x) e f a b t k = failing x k
free is Body (Bad ∷ x) e f a b t k = failing x k
free is Head (Start n ∷ x) e f a b t k = free is Head x n n a b refl k
free is Head (End ∷ x) e f a b t k = free is Body x e f a b tt k
free is Head (Text n ∷ x) e f a b t k = free is Body x e f a b tt k
free is Head (Attr n ∷ x) e f a b t k = later_attr is e f n x t
free is Head (Value v ∷ x) e f a b t k = failing x k
free is Head (Bad ∷ x) e f a b t k = failing x k
free is (Valued m) (Start n ∷ x) e f a b t k = free is Head x n n a b refl k
free is (Valued m) (End ∷ x) e f a b t k = free is Body x e f a b tt k
free is (Valued m) (Text n ∷ x) e f a b t k = free is Body x e f a b tt k
free is (Valued m) (Attr n ∷ x) e f a b t k = later_attr is e f n x t.0
free is (Valued m) (Value v ∷ x) e f a b t k = absurd (omega (arith, t.1))
free is (Valued m) (Bad ∷ x) e f a b t k = failing x k
free is (Named m) (Start n ∷ x) e f a b t k = failing x k
free is (Named m) (End ∷ x) e f a b t k = failing x k
free is (Named m) (Text n ∷ x) e f a b t k = failing x k
free is (Named m) (Attr n ∷ x) e f a b t k = failing x k
free is (Named m) (Value v ∷ x) e f a b t k = absurd (omega (arith, t.1))
free is (Named m) (Bad ∷ x) e f a b t k = failing x k
free is Fail (u ∷ x) e f a b t k = failing x k

-- where the element is the same and no value is next
told : (q : Phase) (e f : ℕ) (x : List Tok) → e ≡ f → values x ≡ 0 → Told q e f x
told Head e f x s v = s
told (Named n) e f x s v = (s, v)
told (Valued n) e f x s v = (s, v)
told Body e f x s v = tt
told Fail e f x s v = tt

-- no value stands where a later attribute or content does
later_values : (k : ℕ) (x : List Tok) → later k x ≡ true → values x ≡ 0
later_values k [] h = clash h refl
later_values k (Value v ∷ x) h = clash h refl
later_values k (Attr n ∷ x) h = refl
later_values k (Start n ∷ x) h = refl
later_values k (End ∷ x) h = refl
later_values k (Text n ∷ x) h = refl
later_values k (Bad ∷ x) h = refl

-- where content is next
as_body : (q : Phase) (t : Tok) (x : List Tok) → content t ≡ true → is_body (phases q (t ∷ x)) ≡ true → is_body (phases Body (t ∷ x)) ≡ true
as_body q t x c k = rw (ready_content q t (was_ready q t x c k) c) at k

-- ---- set and drop cut and bring no start

values_start : (e : ℕ) (r : List Tok) → last_start e (take (values r) r) ≡ e
values_start e [] = refl
values_start e (Value v ∷ r) = values_start e r
values_start e (Attr n ∷ r) = refl
values_start e (Start n ∷ r) = refl
values_start e (End ∷ r) = refl
values_start e (Text n ∷ r) = refl
values_start e (Bad ∷ r) = refl

held_start : (e a : ℕ) (u : List Tok) → last_start e (take (held a u) u) ≡ e
held_start e a [] = refl
held_start e a (Attr n ∷ r) = go (eqb n a)
  where
    go : (b : Bool) → last_start e (take (cond b (suc (values r)) 0) (Attr n ∷ r)) ≡ e
    go true = values_start e r
    go false = refl
held_start e a (Value v ∷ r) = refl
held_start e a (Start n ∷ r) = refl
held_start e a (End ∷ r) = refl
held_start e a (Text n ∷ r) = refl
held_start e a (Bad ∷ r) = refl

more_start : (e : ℕ) (vs : List Tok) → values vs ≡ length vs → last_start e vs ≡ e
more_start e [] h = refl
more_start e (Value v ∷ vs) h = more_start e vs (ap pred h)
more_start e (Attr n ∷ vs) h = absurd (omega arith)
more_start e (Start n ∷ vs) h = absurd (omega arith)
more_start e (End ∷ vs) h = absurd (omega arith)
more_start e (Text n ∷ vs) h = absurd (omega arith)
more_start e (Bad ∷ vs) h = absurd (omega arith)

put_start : (e a : ℕ) {p : List Tok} → Put a p → last_start e p ≡ e
put_start e a gone = refl
put_start e a (given v vs h) = more_start e vs h

-- ---- the five edits

module _ (is : ℕ → ℕ → Bool) (d : List Tok) (one : is_element d ≡ true) where
  well : (at n : ℕ) → is_body (phases (phases (phases Body (take at d)) (take n (drop at d))) (drop (at + n) d)) ≡ true
  well at n =
      ap is_body (sym (phases_append (phases Body (take at d)) (take n (drop at d)) (drop (at + n) d)) ∙ sym (phases_append Body (take at d) (take n (drop at d) ++ drop (at + n) d))
      ∙ ap (phases Body) (parts at n d)) ∙ (element_parts d one).2

  -- content stands behind
  item_behind : (at n : ℕ) (t : Tok) (x : List Tok) → drop (at + n) d ≡ t ∷ x → content t ≡ true → (e f a b : ℕ) → found is e a (drop (at + n) d) ≡ found is f b (drop (at + n) d)
  item_behind at n t x s c e f a b =
      let q : Phase = phases (phases Body (take at d)) (take n (drop at d)) in
      rw s (free is Body (t ∷ x) e f a b tt (as_body q t x c (rw s at (well at n))))

  cut_behind : (at n : ℕ) → Cut n (drop (suc at) d) → (e f a b : ℕ) → found is e a (drop (suc at + n) d) ≡ found is f b (drop (suc at + n) d)
  cut_behind at n c = item_behind (suc at) n c.next c.later (sym (drop-drop n (suc at) d) ∙ c.splits) c.follows

  attr_behind : (i k : ℕ) → is_start (drop i d) ≡ true → (e a b : ℕ) → found is e a (drop (attr_at k i d + attr_cut k i d) d) ≡ found is e b (drop (attr_at k i d + attr_cut k i d) d)
  attr_behind i k s e a b =
      let at : ℕ = attr_at k i d in
      let n : ℕ = attr_cut k i d in
      let r : List Tok = drop (suc i) d in
      let x : List Tok = drop (at + n) d in
      let there : x ≡ drop n (drop (slot k r) r) = sym (drop-drop n at d) ∙ ap (drop n) (sym (drop-drop (slot k r) (suc i) d)) in
      let none : values x ≡ 0 = ap values there ∙ later_values k (drop n (drop (slot k r) r)) (attr_later k i d (element_parts d one).2 s) in
      let q : Phase = phases (phases Body (take at d)) (take n (drop at d)) in
      free is q x e e a b (told q e e x refl none) (well at n)

  -- e and a: the element and the attribute before the place
  pub behind : {at n : ℕ} {p : List Tok} → Allowed d at n p → (e a : ℕ)
      → found is (last_start e (take n (drop at d))) (last_attr a (take n (drop at d))) (drop (at + n) d)
      ≡ found is (last_start e p) (last_attr a p) (drop (at + n) d)
  behind (insert at t x {piece = p} s c w) e a =
      item_behind (suc at) 0 t x (ap (λ k. drop k d) (add-zero (suc at)) ∙ s) c (last_start e []) (last_start e p) (last_attr a []) (last_attr a p)
  behind (remove at h) e a =
      let u : List Tok = drop (suc at) d in
      cut_behind at (item_size u) (cut_item d at one h) (last_start e (take (item_size u) u)) e (last_attr a (take (item_size u) u)) a
  behind (replace at {piece = p} h w) e a =
      let u : List Tok = drop (suc at) d in
      cut_behind at (item_size u) (cut_item d at one h) (last_start e (take (item_size u) u)) (last_start e p) (last_attr a (take (item_size u) u)) (last_attr a p)
  behind (replace_root f) e a = rw (zero-add, drop-length)
  behind (attribute k i {piece = p} s put) e a =
      let at : ℕ = attr_at k i d in
      let c : List Tok = take (attr_cut k i d) (drop at d) in
      let r : List Tok = drop (suc i) d in
      let cs : last_start e c ≡ e = ap (λ z. last_start e (take (attr_cut k i d) z)) (sym (drop-drop (slot k r) (suc i) d)) ∙ held_start e k (drop (slot k r) r) in
      rw (cs, put_start e k put) (attr_behind i k s e (last_attr a c) (last_attr a p))
