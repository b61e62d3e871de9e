-- A phase and a token as the scan keeps them, and the phase after a token. Assumes nothing.
use Rattle.std.specs.Prelude.{◌≡◌, refl, Bool, true, false, cond, ◌&&◌, ℕ, suc, ◌+◌, ◌-◌, ◌*◌, ◌<◌, ◌≤◌, leb, ltb}
use Rattle.std.proofs.Common.{arith, le-leb, ltb-true, ltb-false, ne_eqb}
use Rattle.std.proofs.lemmas.Bool.{lt-leb}
use Rattle.paper.specs.declared.Tok.{Tok}
use Rattle.paper.specs.declared.Tok.TheVariants.{Start, End, Text, Attr, Value, Bad}
use Rattle.paper.specs.Basics.{most_number}
use Rattle.paper.specs.Tokens.{level_of}
use Rattle.paper.specs.Shape.{Phase, Head, Named, Valued, Body, Fail}
use Rattle.tokens.specs.Sorts.{token, by_sort_lem}
use Rattle.scan.specs.Scan.{rules, follow, numbers, rise, is_attribute, is_value, holds}

-- ---- a phase, as the scan keeps it

abbrev pub next_of : Phase → ℕ
next_of Head = 30
next_of (Named a) = 32
next_of (Valued a) = 62
next_of Body = 14
next_of Fail = 0

abbrev pub least_of : Phase → ℕ
least_of Head = 0
least_of (Named a) = suc a
least_of (Valued a) = suc a
least_of Body = 0
least_of Fail = 0

-- ---- a token, as the scan reads it

abbrev pub sort_of : Tok → ℕ
sort_of (Start n) = 1
sort_of End = 2
sort_of (Text n) = 3
sort_of (Attr n) = 4
sort_of (Value n) = 5
sort_of Bad = 0

abbrev pub number_of : Tok → ℕ
number_of (Start n) = n
number_of End = 0
number_of (Text n) = n
number_of (Attr n) = n
number_of (Value n) = n
number_of Bad = 0

-- a number that its sort has, and the sort, are those of the token
abbrev pub Read : ℕ → ℕ → Type 0
Read sort n = (sort_of (token sort n) ≡ sort) × (number_of (token sort n) ≡ n)

pub reads : (n sort : ℕ) → sort < 8 → ltb n (numbers sort) ≡ true → Read sort n
unfolding rules
reads n =
    by_sort_lem (λ s. ltb n (numbers s) ≡ true → Read s n)
    (λ e. absurd (omega (arith, ltb-true n 0 e)))
    (λ e. rw (wide e) (refl, refl))
    (λ e. let z : n ≡ 0 = omega (arith, ltb-true n 1 e) in rw z (refl, refl))
    (λ e. rw (wide e) (refl, refl))
    (λ e. rw (wide e) (refl, refl))
    (λ e. rw (wide e) (refl, refl))
    (λ e. absurd (omega (arith, ltb-true n 0 e)))
    (λ e. absurd (omega (arith, ltb-true n 0 e)))
  where
    wide : ltb n (most_number + 1) ≡ true → leb n most_number ≡ true
    wide e = le-leb n most_number (omega (arith, ltb-true n (most_number + 1) e))

-- a number that its sort does not have is of no token
pub no_token : (n sort : ℕ) → sort < 8 → ltb n (numbers sort) ≡ false → token sort n ≡ Bad
unfolding rules
no_token n =
    by_sort_lem (λ s. ltb n (numbers s) ≡ false → token s n ≡ Bad)
    (λ e. none (leb n most_number))
    (wide (Start n))
    (λ e. rw (ne_eqb n 0 (λ z. omega (arith, ltb-false n 1 e))) (none (leb n most_number)))
    (wide (Text n))
    (wide (Attr n))
    (wide (Value n))
    (λ e. none (leb n most_number))
    (λ e. none (leb n most_number))
  where
    none : (b : Bool) → cond b Bad Bad ≡ Bad
    none true = refl
    none false = refl

    wide : (t : Tok) → ltb n (most_number + 1) ≡ false → cond (leb n most_number) t Bad ≡ Bad
    wide t e = rw (lt-leb n most_number (omega (arith, ltb-false n (most_number + 1) e)))

-- ---- a turn

-- after a token: the phase q is told by next and least if it stands, and is Fail if not
abbrev pub Told : Bool → Phase → ℕ → ℕ → Type 0
Told true q next least = (next ≡ next_of q) × (least ≡ least_of q)
Told false q next least = q ≡ Fail

abbrev pub Turn : Phase → Phase → ℕ → ℕ → Type 0
Turn p q sort n =
    Told (holds (next_of p) sort && leb (least_of p * is_attribute sort) n) q (follow sort) (least_of p * is_value sort + (n + 1) * is_attribute sort)

-- the level, as the table has it
pub level_tok : (k : ℕ) (t : Tok) → level_of (suc k) t ≡ suc k + rise (sort_of t) - 1
unfolding rules
level_tok k (Start n) = omega arith
level_tok k End = omega arith
level_tok k (Text n) = omega arith
level_tok k (Attr n) = omega arith
level_tok k (Value n) = omega arith
level_tok k Bad = omega arith

-- ---- how large the numbers stay

-- a sort that has numbers leads on, and keeps the least number small
pub leads : (n sort : ℕ) → sort < 8 → n < numbers sort → follow sort ≡ 0 → ⊥
unfolding rules
leads n =
    by_sort_lem (λ s. n < numbers s → follow s ≡ 0 → ⊥)
    (λ l e. omega arith) (λ l e. omega arith) (λ l e. omega arith) (λ l e. omega arith)
    (λ l e. omega arith) (λ l e. omega arith) (λ l e. omega arith) (λ l e. omega arith)

pub stays_small : (least n sort : ℕ) → sort < 8 → least ≤ most_number + 1 → n < numbers sort → least * is_value sort + (n + 1) * is_attribute sort ≤ most_number + 1
unfolding rules
stays_small least n =
    by_sort_lem (λ s. least ≤ most_number + 1 → n < numbers s → least * is_value s + (n + 1) * is_attribute s ≤ most_number + 1)
    (λ m l. omega arith) (λ m l. omega arith) (λ m l. omega arith) (λ m l. omega arith)
    (λ m l. omega arith) (λ m l. omega arith) (λ m l. omega arith) (λ m l. omega arith)
