-- The test `matches` says what an expression means, of every expression, ambiguous or not. What can still come after the marks
-- of a reading is its rest, and to read a name is to move the marks and to take that name off the rest. Assumes nothing.
use Rattle.std.specs.Prelude.{◌≡◌, refl, ◌⊎◌, ◌↔◌, Bool, true, false, ◌||◌, ℕ, T, eqb}
use Rattle.std.proofs.Common.{inl, inr, ⊎_elim, eqb→eq}
use Rattle.std.proofs.Math.Logic.{⊎_map}
use mathlib.Core.List.{List, [], ◌∷◌, map, nil≢cons, cons≢nil, head-eq_of_cons-eq, tail-eq_of_cons-eq}
use Rattle.std.proofs.Math.Dec.{eqb_refl}
use Rattle.paper.specs.Expressions.{Expr, name, seq, alt, opt, star, plus, name_at, Matches, this, then, left, right, take, stop, more, some}
use Rattle.content_laws.specs.Meaning.{Split, of_name, of_seq, of_alt, of_opt, of_plus}
use Rattle.content_laws.specs.Marked.{matches_marked}
use Rattle.paper.specs.Sets.{nullable}
use Rattle.content_laws.proofs.Useful.{nullable_iff}
use Rattle.paper.specs.Matching.{Reading, spot, both, either, maybe, many, some as often, fresh, erase, over, shift, goes, matches}
use Rattle.basic_laws.specs.Tests.{or_iff, and_iff, tests}
use Rattle.content_laws.specs.Matching.{Rest}

-- ---- two parts of a word

-- of the empty word both are empty
split_nil : {P Q : List ℕ → Type 0} → Split P Q [] → P [] × Q []
split_nil ([], v, c, x, y) = (x, rw c y)
split_nil (a ∷ u, v, c, x, y) = absurd (nil≢cons c)

-- of any other, the first part is empty or begins as the word does
split_cons : {P Q : List ℕ → Type 0} {a : ℕ} {w : List ℕ} → Split P Q (a ∷ w) → (P [] × Q (a ∷ w)) ⊎ Split (λ u. P (a ∷ u)) Q w
split_cons ([], v, c, x, y) = inl (x, rw c y)
split_cons (b ∷ u, v, c, x, y) = inr (u, v, tail-eq_of_cons-eq c, rw (head-eq_of_cons-eq c) x, y)

-- ---- nothing more

unmap_nil : (g : ℕ → ℕ) (p : List ℕ) → map g p ≡ [] → p ≡ []
unmap_nil g [] c = refl
unmap_nil g (a ∷ p) c = absurd (cons≢nil c)

empty_iff : (e : Expr) → T (nullable e) ↔ Matches e []
empty_iff e = (
  λ t. (matches_marked e []).1 ([], (nullable_iff 0 e).0 t, refl),
  λ m. let (p, n, c) = (matches_marked e []).0 m in (nullable_iff 0 e).1 (rw (unmap_nil (name_at e) p c) at n),
)

over_rest : (r : Reading) → T (over r) → Rest r []
over_rest (spot m a) t = (t, refl)
over_rest (both r q) t = elim (simp or_iff at t) [
  | inl s ↦ inr (over_rest q s)
  | inr s ↦ let (x, y) = simp and_iff at s in inl ([], [], refl, over_rest r x, (empty_iff (erase q)).0 y)
]
over_rest (either r q) t = ⊎_map (over_rest r) (over_rest q) (simp or_iff at t)
over_rest (maybe r) t = over_rest r t
over_rest (many r) t = ([], [], refl, over_rest r t, stop)
over_rest (often r) t = ([], [], refl, over_rest r t, stop)

rest_over : (r : Reading) → Rest r [] → T (over r)
rest_over (spot m a) x = x.0
rest_over (both r q) (inl x) = let (y, n) = split_nil x in search (tests, rest_over r y, (empty_iff (erase q)).1 n)
rest_over (both r q) (inr x) = search (tests, rest_over q x)
rest_over (either r q) (inl x) = search (tests, rest_over r x)
rest_over (either r q) (inr x) = search (tests, rest_over q x)
rest_over (maybe r) x = rest_over r x
rest_over (many r) x = rest_over r (split_nil x).0
rest_over (often r) x = rest_over r (split_nil x).0

-- ---- the rounds of a star

-- the first round that is not empty, and those after it
abbrev Rounds : Expr → List ℕ → Type 0
Rounds e [] = Unit {0}
Rounds e (a ∷ w) = Split (λ u. Matches e (a ∷ u)) (Matches (star e)) w

rounds : {e : Expr} {w : List ℕ} → Matches (star e) w → Rounds e w
rounds stop = tt
rounds (more {u = []} m n) = rounds n
rounds (more {u = a ∷ u} {v = v} m n) = (u, v, refl, m, n)

-- but for the empty word, star and plus have the same words
plus_star : {e : Expr} {w : List ℕ} → Matches (plus e) w → Matches (star e) w
plus_star m = let (u, v, c, x, y) = of_plus m in rw c (more x y)

star_plus : {e : Expr} {a : ℕ} {w : List ℕ} → Matches (star e) (a ∷ w) → Matches (plus e) (a ∷ w)
star_plus m = let (u, v, c, x, y) = rounds m in rw c (some x y)

-- ---- one name more

erase_shift : (r : Reading) (h : Bool) (a : ℕ) → erase (shift h a r) ≡ erase r
erase_shift (spot m b) h a = refl
erase_shift (both r q) h a = rw (erase_shift r, erase_shift q)
erase_shift (either r q) h a = rw (erase_shift r, erase_shift q)
erase_shift (maybe r) h a = rw (erase_shift r)
erase_shift (many r) h a = rw (erase_shift r)
erase_shift (often r) h a = rw (erase_shift r)

-- a and then w: as the rest, or, if h allows it, as a word from its beginning
abbrev Next : Reading → Bool → ℕ → List ℕ → Type 0
Next r h a w = Rest r (a ∷ w) ⊎ (T h × Matches (erase r) (a ∷ w))

-- `many`, from what holds of a round
module _ (r : Reading) (h : Bool) (a : ℕ) (w : List ℕ) where
  abbrev on : Bool
  on = h || over r

  loop_next : ((u : List ℕ) → Rest (shift on a r) u → Next r on a u) → Rest (many (shift on a r)) w → Next (many r) h a w
  loop_next each (u, v, c, x, k) =
      let n = rw erase_shift at k in
      elim (each u x) [
        | inl y ↦ inl (a ∷ u, v, rw c, y, n)
        | inr (t, m) ↦
            let all : Matches (star (erase r)) (a ∷ w) = rw c (more m n) in
            ⊎_elim (λ s. inr (s, all)) (λ s. inl ([], a ∷ w, refl, over_rest r s, all)) (simp or_iff at t)
      ]

  next_loop : ((u : List ℕ) → Next r on a u → Rest (shift on a r) u) → Next (many r) h a w → Rest (many (shift on a r)) w
  next_loop each (inl x) = elim (split_cons x) [
    | inl (y, n) ↦ let (u, v, c, m, k) = rounds n in (u, v, c, each u (inr (search (tests, rest_over r y), m)), rw erase_shift k)
    | inr (u, v, c, y, n) ↦ (u, v, c, each u (inl y), rw erase_shift n)
  ]
  next_loop each (inr (t, n)) = let (u, v, c, m, k) = rounds n in (u, v, c, each u (inr (search tests, m)), rw erase_shift k)

shift_next : (r : Reading) (h : Bool) (a : ℕ) (w : List ℕ) → Rest (shift h a r) w → Next r h a w
shift_next (spot m b) h a w (t, c) = let (s, d) = simp and_iff at t in inr (s, rw (c, eqb→eq a b d) this)
shift_next (both r q) h a w (inl (u, v, c, x, k)) =
    let n = rw (erase_shift q _ a) at k in
    elim (shift_next r h a u x) [ inl y ↦ inl (inl (a ∷ u, v, rw c, y, n)) | inr (t, m) ↦ inr (t, rw c (then m n)) ]
shift_next (both r q) h a w (inr x) = elim (shift_next q _ a w x) [
  | inl y ↦ inl (inr y)
  | inr (t, n) ↦ elim (simp or_iff at t) [
    | inl s ↦ inl (inl ([], a ∷ w, refl, over_rest r s, n))
    | inr s ↦ let (y, z) = simp and_iff at s in inr (y, then ((empty_iff (erase r)).0 z) n)
  ]
]
shift_next (either r q) h a w (inl x) = ⊎_map inl (λ (t, m). (t, left m)) (shift_next r h a w x)
shift_next (either r q) h a w (inr x) = ⊎_map inr (λ (t, m). (t, right m)) (shift_next q h a w x)
shift_next (maybe r) h a w x = ⊎_map (λ y. y) (λ (t, m). (t, take m)) (shift_next r h a w x)
shift_next (many r) h a w x = loop_next r h a w (shift_next r (h || over r) a) x
shift_next (often r) h a w x = ⊎_map (λ y. y) (λ (t, m). (t, star_plus m)) (loop_next r h a w (shift_next r (h || over r) a) x)

next_shift : (r : Reading) (h : Bool) (a : ℕ) (w : List ℕ) → Next r h a w → Rest (shift h a r) w
next_shift (spot k b) h a w (inl x) = absurd (cons≢nil x.1)
next_shift (spot k b) h a w (inr (t, m)) =
    let c = of_name m in
    let s : T (eqb a b) = rw (head-eq_of_cons-eq c) (eqb_refl b) in
    (search tests, tail-eq_of_cons-eq c)
next_shift (both r q) h a w (inl (inl x)) = elim (split_cons x) [
  | inl (y, n) ↦ inr (next_shift q _ a w (inr (search (tests, rest_over r y), n)))
  | inr (u, v, c, y, n) ↦ inl (u, v, c, next_shift r h a u (inl y), rw (erase_shift q _ a) n)
]
next_shift (both r q) h a w (inl (inr x)) = inr (next_shift q _ a w (inl x))
next_shift (both r q) h a w (inr (t, m)) = elim (split_cons (of_seq m)) [
  | inl (y, n) ↦ inr (next_shift q _ a w (inr (search (tests, (empty_iff (erase r)).1 y), n)))
  | inr (u, v, c, y, n) ↦ inl (u, v, c, next_shift r h a u (inr (t, y)), rw (erase_shift q _ a) n)
]
next_shift (either r q) h a w (inl x) = ⊎_map (λ y. next_shift r h a w (inl y)) (λ y. next_shift q h a w (inl y)) x
next_shift (either r q) h a w (inr (t, m)) =
    ⊎_map (λ n. next_shift r h a w (inr (t, n))) (λ n. next_shift q h a w (inr (t, n))) (of_alt m)
next_shift (maybe r) h a w (inl x) = next_shift r h a w (inl x)
next_shift (maybe r) h a w (inr (t, m)) = ⊎_elim (λ c. absurd (cons≢nil c)) (λ n. next_shift r h a w (inr (t, n))) (of_opt m)
next_shift (many r) h a w x = next_loop r h a w (next_shift r (h || over r) a) x
next_shift (often r) h a w x = next_loop r h a w (next_shift r (h || over r) a) (⊎_map (λ y. y) (λ (t, m). (t, plus_star m)) x)

pub goes_iff : (r : Reading) (w : List ℕ) → T (goes r w) ↔ Rest r w
goes_iff r [] = (over_rest r, rest_over r)
goes_iff r (a ∷ w) =
    let (to, of) = goes_iff (shift false a r) w in
    (λ t. ⊎_elim (λ x. x) (λ x. absurd x.0) (shift_next r false a w (to t)), λ x. of (next_shift r false a w (inl x)))

-- ---- from the start

erase_fresh : (e : Expr) → erase (fresh e) ≡ e
erase_fresh (name a) = refl
erase_fresh (seq e f) = rw (erase_fresh e, erase_fresh f)
erase_fresh (alt e f) = rw (erase_fresh e, erase_fresh f)
erase_fresh (opt e) = rw (erase_fresh e)
erase_fresh (star e) = rw (erase_fresh e)
erase_fresh (plus e) = rw (erase_fresh e)

-- no marks, no rest
no_rest : (e : Expr) (w : List ℕ) → ¬ Rest (fresh e) w
no_rest (name a) w x = x.0
no_rest (seq e f) w x = ⊎_elim (λ s. no_rest e s.0 s.3) (no_rest f w) x
no_rest (alt e f) w x = ⊎_elim (no_rest e w) (no_rest f w) x
no_rest (opt e) w x = no_rest e w x
no_rest (star e) w s = no_rest e s.0 s.3
no_rest (plus e) w s = no_rest e s.0 s.3

pub matches_iff : (e : Expr) (w : List ℕ) → T (matches e w) ↔ Matches e w
unfolding matches
matches_iff e [] = empty_iff e
matches_iff e (a ∷ w) =
    let (to, of) = goes_iff (shift true a (fresh e)) w in (
      λ t. ⊎_elim (λ x. absurd (no_rest e _ x)) (λ x. rw erase_fresh at x.1) (shift_next (fresh e) true a w (to t)),
      λ m. of (next_shift (fresh e) true a w (inr (tt, rw erase_fresh m))),
    )
