-- The values from a place on, the tokens before an attribute, and the tokens of one attribute, as counts. Assumes nothing.
use Rattle.std.specs.Prelude.{◌≡◌, refl, Bool, true, false, cond, ◌&&◌, ◌||◌, List, [], ◌∷◌, ℕ, suc, ◌+◌, ◌/◌, ◌%◌, ◌≤◌, ltb, eqb, length}
use Rattle.std.specs.List.{prefix_len, take_while}
use Rattle.std.proofs.Common.{sym, ap, ◌∙◌, arith}
use Rattle.std.proofs.lemmas.List.{length-map}
use Rattle.std.proofs.lemmas.List.Folds.{length-prefix_len}
use Rattle.paper.specs.declared.Tok.{Tok}
use Rattle.paper.specs.declared.Tok.TheVariants.{Start, End, Text, Attr, Value, Bad}
use Rattle.paper.specs.Tokens.{tok_of, toks, values, slot, held}
use Rattle.tokens.specs.Sorts.{attr_tok, value_tok}
use Rattle.tokens.specs.Theorems.{token_cases}

-- the attribute a stands behind t, where t is one of the attributes and values of an element
abbrev pub passes : ℕ → Tok → Bool
passes a (Start n) = false
passes a End = false
passes a (Text n) = false
passes a (Attr n) = ltb n a
passes a (Value n) = true
passes a Bad = false

-- t is the attribute a
abbrev pub names : ℕ → Tok → Bool
names a (Start n) = false
names a End = false
names a (Text n) = false
names a (Attr n) = eqb n a
names a (Value n) = false
names a Bad = false

passes_is : (a t : ℕ) → value_tok (tok_of t) || (attr_tok (tok_of t) && ltb (t / 8) a) ≡ passes a (tok_of t)
passes_is a t =
    token_cases (λ u. value_tok u || (attr_tok u && ltb (t / 8) a) ≡ passes a u) (t % 8) (t / 8) refl refl refl refl refl refl

names_is : (a t : ℕ) → attr_tok (tok_of t) && eqb (t / 8) a ≡ names a (tok_of t)
names_is a t = token_cases (λ u. attr_tok u && eqb (t / 8) a ≡ names a u) (t % 8) (t / 8) refl refl refl refl refl refl

-- the code's answers
module _ (a t : ℕ) {z : Bool} {n : ℕ} (ez : z ≡ attr_tok (tok_of t)) (en : n ≡ t / 8) where
  pub passes_told : {y : Bool} → y ≡ value_tok (tok_of t) → y || (z && ltb n a) ≡ passes a (tok_of t)
  passes_told ey = rw (ey, ez, en) (passes_is a t)

  names_told : z && eqb n a ≡ names a (tok_of t)
  names_told = rw (ez, en) (names_is a t)

-- ---- a count of the tokens that pass a test

values_test : (t : Tok) (r : List Tok) → values (t ∷ r) ≡ cond (value_tok t) (suc (values r)) 0
values_test (Start n) r = refl
values_test End r = refl
values_test (Text n) r = refl
values_test (Attr n) r = refl
values_test (Value n) r = refl
values_test Bad r = refl

slot_test : (a : ℕ) (t : Tok) (r : List Tok) → slot a (t ∷ r) ≡ cond (passes a t) (suc (slot a r)) 0
slot_test a (Start n) r = refl
slot_test a End r = refl
slot_test a (Text n) r = refl
slot_test a (Attr n) r = refl
slot_test a (Value n) r = refl
slot_test a Bad r = refl

held_test : (a : ℕ) (t : Tok) (r : List Tok) → held a (t ∷ r) ≡ cond (names a t) (suc (values r)) 0
held_test a (Start n) r = refl
held_test a End r = refl
held_test a (Text n) r = refl
held_test a (Attr n) r = refl
held_test a (Value n) r = refl
held_test a Bad r = refl

-- each is how many tokens pass a test, up to the first that does not
module _ (count : List Tok → ℕ) (test : Tok → Bool) (none : count [] ≡ 0) (each : (t : Tok) (r : List Tok) → count (t ∷ r) ≡ cond (test t) (suc (count r)) 0) where
  counted : (l : List ℕ) → length (take_while (λ t. test (tok_of t)) l) ≡ count (toks l)
  counted l = length-prefix_len (λ t. test (tok_of t)) l ∙ go l
    where
      by : (b : Bool) (n : ℕ) → cond b (1 + n) 0 ≡ cond b (suc n) 0
      by true n = omega arith
      by false n = refl

      go : (l : List ℕ) → prefix_len (λ t. test (tok_of t)) l ≡ count (toks l)
      go [] = sym none
      go (x ∷ l) = rw (each, go l) (by (test (tok_of x)) (count (toks l)))

pub values_counted : (l : List ℕ) → length (take_while (λ t. value_tok (tok_of t)) l) ≡ values (toks l)
values_counted = counted values value_tok refl values_test

pub slot_counted : (a : ℕ) (l : List ℕ) → length (take_while (λ t. passes a (tok_of t)) l) ≡ slot a (toks l)
slot_counted a = counted (slot a) (passes a) refl (slot_test a)

-- the attribute that begins the tokens
module _ (a t : ℕ) (l : List ℕ) {y : Bool} {m : ℕ} (ey : y ≡ attr_tok (tok_of t)) (em : m ≡ t / 8) where
  here : held a (toks (t ∷ l)) ≡ cond (y && eqb m a) (suc (values (toks l))) 0
  here = held_test a (tok_of t) (toks l) ∙ ap (λ b. cond b (suc (values (toks l))) 0) (sym (names_told a t ey em))

  pub held_other : y && eqb m a ≡ false → 0 ≡ held a (toks (t ∷ l))
  held_other n = sym (here ∙ rw n)

  pub held_some : y && eqb m a ≡ true → {n : ℕ} → n ≡ values (toks l) → n + 1 ≡ held a (toks (t ∷ l))
  held_some n e = let w : held a (toks (t ∷ l)) ≡ suc (values (toks l)) = here ∙ rw n in omega arith

-- ---- how large the counts are

values_le : (r : List Tok) → values r ≤ length r
values_le [] = omega arith
values_le (Start n ∷ r) = omega arith
values_le (End ∷ r) = omega arith
values_le (Text n ∷ r) = omega arith
values_le (Attr n ∷ r) = omega arith
values_le (Value n ∷ r) = omega (arith, values_le r)
values_le (Bad ∷ r) = omega arith

pub slot_le : (a : ℕ) (r : List Tok) → slot a r ≤ length r
slot_le a [] = omega arith
slot_le a (Start n ∷ r) = omega arith
slot_le a (End ∷ r) = omega arith
slot_le a (Text n ∷ r) = omega arith
slot_le a (Attr n ∷ r) = go (ltb n a) (slot_le a r)
  where
    go : (b : Bool) → slot a r ≤ length r → cond b (suc (slot a r)) 0 ≤ suc (length r)
    go true h = omega arith
    go false h = omega arith
slot_le a (Value n ∷ r) = omega (arith, slot_le a r)
slot_le a (Bad ∷ r) = omega arith

pub values_few : (l : List ℕ) {n : ℕ} → n ≡ values (toks l) → n ≤ length l
values_few l e = omega (arith, values_le (toks l), length-map l tok_of)
