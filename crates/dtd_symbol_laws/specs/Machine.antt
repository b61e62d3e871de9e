-- The symbols of a model, written from right to left along its text. Assumes nothing.
--
-- A suffix and a separator stand behind the part before which their symbols go, so each is kept with the part's depth until the part's
-- first byte is met: a name's, or its `(`.
use Rattle.std.specs.Prelude.{◌≡◌, ◌≢◌, Bool, cond, List, [], ◌∷◌, ℕ, zero, suc, ◌+◌, ◌-◌, ◌≤◌, ◌<◌, eqb, length, drop, get_or}
use Rattle.std.proofs.Math.Path.{refl}
use Rattle.std.proofs.Common.{ap}
use Rattle.std.proofs.Math.Bool.{true, false}
use native.Mathlib.Omega.{arith}
use borrow.Author.Tests.{eq-eqb, ne_eqb}
use Rattle.paper.specs.Dtd.Letters.{Name, is_more, run, opening, closing}

-- ---- what is done from a place on

pub record State : Type 0 where
  -- how many `)` have no `(` yet
  pub depth : ℕ
  -- the symbols still to be written, the last met first, each with the depth of the part before which it goes
  pub owed : List (ℕ × ℕ)
  -- the symbols that are written
  pub done : List ℕ

abbrev pub at : ℕ → List (ℕ × ℕ) → List ℕ → State
at d w o = record { depth = d; owed = w; done = o }

-- all that is owed to the part of depth e is written; the depth is then d
abbrev pub settled : List (ℕ × ℕ) → (d e : ℕ) → List ℕ → State
settled [] d e o = at d [] o
settled ((k, g) ∷ w) d e o = cond (eqb k e) (settled w d e (g ∷ o)) (at d ((k, g) ∷ w) o)

-- the symbol of a suffix or a separator; 5 for any other byte
abbrev pub symbol_for : ℕ → ℕ
symbol_for b = cond (eqb b 63) 2 (cond (eqb b 42) 3 (cond (eqb b 43) 4 (cond (eqb b 44) 0 (cond (eqb b 124) 1 5))))

-- The byte a, where the byte before it belongs to a name or not, and n is the name that begins there. `f` numbers the names.
unfoldable pub step : (Name → ℕ) → Bool → ℕ → Name → State → State
step f before a n x =
    cond (is_more a)
    (cond before x (settled x.owed x.depth (suc x.depth) ((5 + f n) ∷ x.done)))
    (cond (eqb a opening)
    (settled x.owed (x.depth - 1) x.depth x.done)
    (cond (eqb a closing)
    (at (suc x.depth) x.owed x.done)
    (cond (eqb (symbol_for a) 5)
    x
    (at x.depth ((suc x.depth, symbol_for a) ∷ x.owed) x.done))))

-- ---- each way of a step

module _ (f : Name → ℕ) (n : Name) (x : State) where
  -- inside a name, and at its first byte
  pub step_inside : (a : ℕ) → is_more a ≡ true → step f true a n x ≡ x
  unfolding step
  step_inside a i = rw i

  pub step_name : (a : ℕ) → is_more a ≡ true → step f false a n x ≡ settled x.owed x.depth (suc x.depth) ((5 + f n) ∷ x.done)
  unfolding step
  step_name a i = rw i

  module _ (before : Bool) where
    pub step_open : step f before opening n x ≡ settled x.owed (x.depth - 1) x.depth x.done
    unfolding step
    step_open = refl

    pub step_close : step f before closing n x ≡ at (suc x.depth) x.owed x.done
    unfolding step
    step_close = refl

    module _ (a : ℕ) (i : is_more a ≡ false) (j : a ≢ opening) (k : a ≢ closing) where
      pub step_other : symbol_for a ≡ 5 → step f before a n x ≡ x
      unfolding step
      step_other e = rw (i, ne_eqb a opening j, ne_eqb a closing k, eq-eqb (symbol_for a) 5 e)

      pub step_owes : symbol_for a ≢ 5 → step f before a n x ≡ at x.depth ((suc x.depth, symbol_for a) ∷ x.owed) x.done
      unfolding step
      step_owes e = rw (i, ne_eqb a opening j, ne_eqb a closing k, ne_eqb (symbol_for a) 5 e)

-- ---- along a text

-- whether the byte before the n-th belongs to a name; b: that of the byte before the first
abbrev pub after : ℕ → List ℕ → Bool → Bool
after zero s b = b
after (suc n) [] b = b
after (suc n) (a ∷ s) b = after n s (is_more a)

-- the first n bytes, from the last to the first
abbrev pub sweep : (Name → ℕ) → ℕ → List ℕ → Bool → State → State
sweep f zero s b x = x
sweep f (suc n) [] b x = x
sweep f (suc n) (a ∷ s) b x = step f b a (run is_more (a ∷ s)) (sweep f n s (is_more a) x)

pub after_last : (n : ℕ) (s : List ℕ) (b : Bool) → n < length s → after (suc n) s b ≡ is_more (get_or s n 0)
after_last zero (a ∷ s) b h = refl
after_last (suc n) (a ∷ s) b h = after_last n s (is_more a) (omega arith)
after_last zero [] b h = absurd (omega arith)
after_last (suc n) [] b h = absurd (omega arith)

module _ (f : Name → ℕ) where
  -- the last of them is the first to be met
  pub sweep_last : (n : ℕ) (s : List ℕ) (b : Bool) (x : State) → n < length s
      → sweep f (suc n) s b x ≡ sweep f n s b (step f (after n s b) (get_or s n 0) (run is_more (drop n s)) x)
  sweep_last zero (a ∷ s) b x h = refl
  sweep_last (suc n) (a ∷ s) b x h = ap (step f b a (run is_more (a ∷ s))) (sweep_last n s (is_more a) x (omega arith))
  sweep_last zero [] b x h = absurd (omega arith)
  sweep_last (suc n) [] b x h = absurd (omega arith)

-- ---- brackets

-- no bracket is opened of which the end has not been met
abbrev pub Closed : (Name → ℕ) → ℕ → List ℕ → Bool → State → Type 0
Closed f zero s b x = Unit {0}
Closed f (suc n) [] b x = Unit {0}
Closed f (suc n) (a ∷ s) b x = (a ≡ opening → 0 < (sweep f n s (is_more a) x).depth) × Closed f n s (is_more a) x

pub closed_last : (f : Name → ℕ) (n : ℕ) (s : List ℕ) (b : Bool) (x : State) → n < length s → Closed f (suc n) s b x
    → (get_or s n 0 ≡ opening → 0 < x.depth) × Closed f n s b (step f (after n s b) (get_or s n 0) (run is_more (drop n s)) x)
closed_last f zero (a ∷ s) b x h (p, c) = (p, tt)
closed_last f (suc n) (a ∷ s) b x h (p, c) =
    let (q, d) = closed_last f n s (is_more a) x (omega arith) c in
    (q, (λ e. rw (sweep_last f n s (is_more a) x (omega arith)) at (p e), d))
closed_last f zero [] b x h c = absurd (omega arith)
closed_last f (suc n) [] b x h c = absurd (omega arith)

-- ---- how many symbols there are

abbrev pub size : State → ℕ
size x = length x.owed + length x.done

pub settled_size : (w : List (ℕ × ℕ)) (d e : ℕ) (o : List ℕ) → size (settled w d e o) ≡ length w + length o
settled_size [] d e o = refl
settled_size ((k, g) ∷ w) d e o = by (eqb k e) (settled_size w d e (g ∷ o))
  where
    by : (t : Bool) → size (settled w d e (g ∷ o)) ≡ length w + length (g ∷ o)
        → size (cond t (settled w d e (g ∷ o)) (at d ((k, g) ∷ w) o)) ≡ suc (length w) + length o
    by true p = omega arith
    by false p = refl

settled_depth : (w : List (ℕ × ℕ)) (d e : ℕ) (o : List ℕ) → (settled w d e o).depth ≡ d
settled_depth [] d e o = refl
settled_depth ((k, g) ∷ w) d e o = by (eqb k e) (settled_depth w d e (g ∷ o))
  where
    by : (t : Bool) → (settled w d e (g ∷ o)).depth ≡ d → (cond t (settled w d e (g ∷ o)) (at d ((k, g) ∷ w) o)).depth ≡ d
    by true p = p
    by false p = refl

-- there are no fewer, and it is at most one deeper
abbrev Grows : State → State → Type 0
Grows x y = (size x ≤ size y) × (y.depth ≤ suc x.depth)

module _ (f : Name → ℕ) where
  pub step_grows : (before : Bool) (a : ℕ) (n : Name) (x : State) → Grows x (step f before a n x)
  unfolding step
  step_grows before a n x = by (is_more a) before (eqb a opening) (eqb a closing) (eqb (symbol_for a) 5)
    where
      by : (more before left right none : Bool)
          → Grows x (cond more (cond before x (settled x.owed x.depth (suc x.depth) ((5 + f n) ∷ x.done)))
          (cond left (settled x.owed (x.depth - 1) x.depth x.done)
          (cond right (at (suc x.depth) x.owed x.done)
          (cond none x (at x.depth ((suc x.depth, symbol_for a) ∷ x.owed) x.done)))))
      by true true o c z = (omega arith, omega arith)
      by true false o c z = (
        omega (arith, settled_size x.owed x.depth (suc x.depth) ((5 + f n) ∷ x.done)),
        omega (arith, settled_depth x.owed x.depth (suc x.depth) ((5 + f n) ∷ x.done)),
      )
      by false b true c z = (
        omega (arith, settled_size x.owed (x.depth - 1) x.depth x.done),
        omega (arith, settled_depth x.owed (x.depth - 1) x.depth x.done),
      )
      by false b false true z = (omega arith, omega arith)
      by false b false false true = (omega arith, omega arith)
      by false b false false false = (omega arith, omega arith)

  pub sweep_size : (n : ℕ) (s : List ℕ) (b : Bool) (x : State) → size x ≤ size (sweep f n s b x)
  sweep_size zero s b x = omega arith
  sweep_size (suc n) [] b x = omega arith
  sweep_size (suc n) (a ∷ s) b x =
      let h = sweep_size n s (is_more a) x in
      let k = (step_grows b a (run is_more (a ∷ s)) (sweep f n s (is_more a) x)).0 in
      omega arith
