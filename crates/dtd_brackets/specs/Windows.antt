-- The innermost brackets as one number, a digit to base 4 for each: a window on those that are open. Assumes nothing.
use Rattle.std.specs.Prelude.{◌≡◌, refl, ◌≢◌, not, ◌&&◌, ◌||◌, List, [], ◌∷◌, ◌++◌, ℕ, ◌+◌, ◌*◌, ◌/◌, ◌%◌, ◌≤◌, ◌<◌, eqb}
use Rattle.std.proofs.Common.{ap, arith}
use Rattle.dtd_model_laws.specs.Walks.{Joint, free, commas, bars, meets}

abbrev pub digit : Joint → ℕ
digit free = 1
digit commas = 2
digit bars = 3

abbrev pub code : List Joint → ℕ
code [] = 0
code (k ∷ l) = digit k + 4 * code l

-- the number that comes behind the digits of the list
abbrev pub power : List Joint → ℕ
power [] = 1
power (k ∷ l) = 4 * power l

-- w is the window on the innermost of these brackets
pub record Known (w : ℕ) (l : List Joint) : Type 0 where
  pub near : List Joint
  pub far : List Joint
  pub all : l ≡ near ++ far
  pub coded : w ≡ code near

-- ---- digits

pub digit_some : (k : Joint) → (1 ≤ digit k) × (digit k ≤ 3)
digit_some free = (omega arith, omega arith)
digit_some commas = (omega arith, omega arith)
digit_some bars = (omega arith, omega arith)

-- whether a separator may stand in a bracket, by their digits
pub meets_digits : (k j : Joint) → not (eqb (digit j) 1) && (eqb (digit k) 1 || eqb (digit k) (digit j)) ≡ meets k j
meets_digits free free = refl
meets_digits commas free = refl
meets_digits bars free = refl
meets_digits free commas = refl
meets_digits commas commas = refl
meets_digits bars commas = refl
meets_digits free bars = refl
meets_digits commas bars = refl
meets_digits bars bars = refl

-- ---- one more digit behind the others

pub code_snoc : (l : List Joint) (k : Joint) → code (l ++ (k ∷ [])) ≡ code l + digit k * power l
code_snoc [] k = omega arith
code_snoc (j ∷ l) k = let e = code_snoc l k in rw e (omega arith)

pub power_snoc : (l : List Joint) (k : Joint) → power (l ++ (k ∷ [])) ≡ power l * 4
power_snoc [] k = refl
power_snoc (j ∷ l) k = let e = power_snoc l k in rw e (omega arith)

pub code_small : (l : List Joint) → code l < power l
code_small [] = omega arith
code_small (k ∷ l) = let e = code_small l in let d = digit_some k in omega arith

-- none is known only if the list is empty
pub code_none : (l : List Joint) → code l ≡ 0 → l ≡ []
code_none [] e = refl
code_none (k ∷ l) e = let d = digit_some k in absurd (omega arith)

-- ---- windows

-- a bracket opens: w fits, or it is begun anew
pub opened : (w : ℕ) (l : List Joint) → Known w l → Known (w * 4 + 1) (free ∷ l)
opened w l k =
    let c = k.coded in
    record { near = free ∷ k.near; far = k.far; all = ap (λ t. free ∷ t) k.all; coded = omega arith }

pub anew : (l : List Joint) → Known 1 (free ∷ l)
anew l = record { near = free ∷ []; far = l; all = refl; coded = refl }

-- r is the window w with one more bracket
abbrev pub Pushed : ℕ → ℕ → Type 0
Pushed w r = (l : List Joint) → Known w l → Known r (free ∷ l)

module _ (w : ℕ) (k : Joint) (l : List Joint) (n : Known w (k ∷ l)) where
  -- nothing is known, or the innermost is
  seen : {A : Type 0} → (w ≡ 0 → A) → ((t : List Joint) → l ≡ t ++ n.far → w ≡ digit k + 4 * code t → A) → A
  seen {A} f g = by n.near n.all n.coded
    where
      by : (t : List Joint) → k ∷ l ≡ t ++ n.far → w ≡ code t → A
      by [] e c = f c
      by (j ∷ t) e c = let i : k ≡ j = cc in g t (cc) (rw i c)

  -- the bracket closes
  pub shut : Known (w / 4) l
  shut = seen (λ e. record { near = []; far = l; all = refl; coded = rw e })
      (λ t a e. let d = digit_some k in record { near = t; far = n.far; all = a; coded = omega arith })

  -- where something is known: which bracket is the innermost, and a separator in it
  module _ (some : w ≢ 0) where
    pub top : w % 4 ≡ digit k
    top = seen (λ e. absurd (some e)) (λ t a e. let d = digit_some k in omega arith)

    pub joined : (j : Joint) → Known (w / 4 * 4 + digit j) (j ∷ l)
    joined j = seen (λ e. absurd (some e))
        (λ t a e. let d = digit_some k in record { near = j ∷ t; far = n.far; all = ap (λ u. j ∷ u) a; coded = omega arith })
