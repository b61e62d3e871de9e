-- The depth of an edited document: that of the place, and the piece's own.
use Rattle.std.specs.Prelude.{◌≡◌, refl, Bool, true, false, cond, List, [], ◌∷◌, ◌++◌, ◌↔◌, ℕ, zero, suc, ◌+◌, ◌-◌, ◌≤◌, max, length, take, drop}
use Rattle.std.proofs.Common.{sym, ap, ◌∙◌, arith, take-append-drop}
use Rattle.std.proofs.Math.Option.{Option, none, some}
use Rattle.paper.specs.declared.Tok.{Tok}
use Rattle.paper.specs.declared.Tok.TheVariants.{Start, End, Text, Attr, Value, Bad}
use Rattle.shape_laws.specs.Ends.{deep_ge}
use Rattle.shape_laws.specs.Local.{at_depth}
use Rattle.shape_laws.specs.Splice.{parts}
use Rattle.paper.specs.Edits.{splice}
use Rattle.paper.specs.Tokens.{balanced, closes_of, deep, level, run, starts}
use Rattle.basic_laws.specs.Bools.{clash}

-- ---- the depth of a place

-- how many tokens of d pass a test
abbrev pub count : (Tok → Bool) → List Tok → ℕ
count P [] = 0
count P (t ∷ d) = cond (P t) (suc (count P d)) (count P d)

pub count_few : (P : Tok → Bool) (d : List Tok) → count P d ≤ length d
count_few P [] = omega arith
count_few P (t ∷ d) = go (P t) (count_few P d)
  where
    go : (b : Bool) → count P d ≤ length d → cond b (suc (count P d)) (count P d) ≤ suc (length d)
    go true h = omega arith
    go false h = omega arith

-- how many elements d leaves open: its starts less its ends
abbrev pub open_in : List Tok → ℕ
open_in d = count starts d - count (closes_of zero) d

run_open : (k m : ℕ) (a : List Tok) → run k a ≡ some m → k + count starts a ≡ m + count (closes_of zero) a
run_open k m [] e = let z : k ≡ m = cc in rw z
run_open k m (Start n ∷ a) e = omega (arith, run_open (suc k) m a e)
run_open zero m (End ∷ a) e = let z : ◌≡◌ {A = ℕ} 0 1 = cc in absurd (omega arith)
run_open (suc k) m (End ∷ a) e = omega (arith, run_open k m a e)
run_open k m (Text n ∷ a) e = run_open k m a e
run_open k m (Attr n ∷ a) e = run_open k m a e
run_open k m (Value n ∷ a) e = run_open k m a e
run_open k m (Bad ∷ a) e = run_open k m a e

run_none : (k : ℕ) (a x : List Tok) → run k a ≡ none → run k (a ++ x) ≡ none
run_none k [] x e = let z : ◌≡◌ {A = ℕ} 0 1 = cc in absurd (omega arith)
run_none k (Start n ∷ a) x e = run_none (suc k) a x e
run_none zero (End ∷ a) x e = refl
run_none (suc k) (End ∷ a) x e = run_none k a x e
run_none k (Text n ∷ a) x e = run_none k a x e
run_none k (Attr n ∷ a) x e = run_none k a x e
run_none k (Value n ∷ a) x e = run_none k a x e
run_none k (Bad ∷ a) x e = run_none k a x e

-- of what is balanced every place has a level: the starts before it less the ends
pub run_place : (d : List Tok) (at : ℕ) → balanced d ≡ true → run zero (take at d) ≡ some (open_in (take at d))
run_place d at b = go (run zero (take at d)) refl
  where
    go : (o : Option ℕ) → run zero (take at d) ≡ o → run zero (take at d) ≡ some (open_in (take at d))
    go none z = clash b (ap level (ap (run zero) (sym (take-append-drop at d)) ∙ run_none zero (take at d) (drop at d) z))
    go (some m) z = let e : m ≡ open_in (take at d) = omega (arith, run_open zero m (take at d) z) in z ∙ ap some e

-- ---- the depth of what is put together

deep_run : (k m : ℕ) (a x : List Tok) → run k a ≡ some m → deep k (a ++ x) ≡ max (deep k a) (deep m x)
deep_run k m [] x e = let z : k ≡ m = cc in rw z (omega (arith, deep_ge m x))
deep_run k m (Start n ∷ a) x e = omega (arith, deep_run (suc k) m a x e)
deep_run zero m (End ∷ a) x e = let z : ◌≡◌ {A = ℕ} 0 1 = cc in absurd (omega arith)
deep_run (suc k) m (End ∷ a) x e = omega (arith, deep_run k m a x e)
deep_run k m (Text n ∷ a) x e = omega (arith, deep_run k m a x e)
deep_run k m (Attr n ∷ a) x e = omega (arith, deep_run k m a x e)
deep_run k m (Value n ∷ a) x e = omega (arith, deep_run k m a x e)
deep_run k m (Bad ∷ a) x e = omega (arith, deep_run k m a x e)

deep_up : (k m : ℕ) (a : List Tok) → run k a ≡ some m → deep (suc k) a ≡ suc (deep k a)
deep_up k m [] e = refl
deep_up k m (Start n ∷ a) e = omega (arith, deep_up (suc k) m a e)
deep_up zero m (End ∷ a) e = let z : ◌≡◌ {A = ℕ} 0 1 = cc in absurd (omega arith)
deep_up (suc k) m (End ∷ a) e = omega (arith, deep_up k m a e)
deep_up k m (Text n ∷ a) e = omega (arith, deep_up k m a e)
deep_up k m (Attr n ∷ a) e = omega (arith, deep_up k m a e)
deep_up k m (Value n ∷ a) e = omega (arith, deep_up k m a e)
deep_up k m (Bad ∷ a) e = omega (arith, deep_up k m a e)

deep_at : (k : ℕ) (a : List Tok) → balanced a ≡ true → deep k a ≡ k + deep zero a
deep_at zero a b = omega arith
deep_at (suc k) a b = omega (arith, deep_up k k a (at_depth k a b), deep_at k a b)

-- no place is deeper than the deepest
pub open_deep : (d : List Tok) (at : ℕ) → balanced d ≡ true → open_in (take at d) ≤ deep zero d
open_deep d at b =
    let m : ℕ = open_in (take at d) in
    omega (
      arith,
      deep_run zero m (take at d) (drop at d) (run_place d at b),
      ap (deep zero) (take-append-drop at d),
      deep_ge m (drop at d),
    )

-- with no more than lim levels before, there are no more after exactly if the piece fits below the place
pub edit_deep : (d piece : List Tok) (at n m lim : ℕ) → run zero (take at d) ≡ some m → balanced (take n (drop at d)) ≡ true → balanced piece ≡ true
    → deep zero d ≤ lim → (deep zero (splice at n piece d) ≤ lim) ↔ (m + deep zero piece ≤ lim)
edit_deep d piece at n m lim e bc bp h =
    let post : List Tok = drop (at + n) d in
    let cut : List Tok = take n (drop at d) in
    let a : deep zero (splice at n piece d) ≡ max (deep zero (take at d)) (deep m (piece ++ post)) = deep_run zero m (take at d) (piece ++ post) e in
    let b : deep m (piece ++ post) ≡ max (deep m piece) (deep m post) = deep_run m m piece post (at_depth m piece bp) in
    let c : deep zero (take at d ++ (cut ++ post)) ≡ max (deep zero (take at d)) (deep m (cut ++ post)) = deep_run zero m (take at d) (cut ++ post) e in
    let f : deep m (cut ++ post) ≡ max (deep m cut) (deep m post) = deep_run m m cut post (at_depth m cut bc) in
    let g : deep zero (take at d ++ (cut ++ post)) ≡ deep zero d = ap (deep zero) (parts at n d) in
    let i : deep m piece ≡ m + deep zero piece = deep_at m piece bp in
    ((λ p. omega arith), (λ p. omega arith))
