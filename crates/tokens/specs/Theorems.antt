-- What a test on a word tells of its token, and of its number. Assumes nothing.
use Rattle.std.specs.Prelude.{◌≡◌, refl, Bool, true, false, cond, ◌↔◌, ℕ, ◌/◌, ◌%◌, ◌≤◌, leb, eqb}
use Rattle.std.proofs.Common.{sym, ap, ◌∙◌, true≢false, leb-true}
use Rattle.paper.specs.declared.Tok.{Tok}
use Rattle.paper.specs.declared.Tok.TheVariants.{Start, End, Text, Attr, Value, Bad}
use Rattle.paper.specs.Basics.{most_number}
use Rattle.paper.specs.Tokens.{tok_of, starts}
use Rattle.tokens.specs.Sorts.{token, ends, text_tok, attr_tok, value_tok}

-- a token of number n is one of these
pub token_cases : (P : Tok → Type 0) (sort n : ℕ) → P (Start n) → P End → P (Text n) → P (Attr n) → P (Value n) → P Bad → P (token sort n)
token_cases P sort n a b c d e f = go (leb n most_number) (eqb sort 1) (eqb sort 2) (eqb n 0) (eqb sort 3) (eqb sort 4) (eqb sort 5)
  where
    go : (x s₁ s₂ z s₃ s₄ s₅ : Bool)
        → P (cond x (cond s₁ (Start n) (cond s₂ (cond z End Bad) (cond s₃ (Text n) (cond s₄ (Attr n) (cond s₅ (Value n) Bad))))) Bad)
    go false s₁ s₂ z s₃ s₄ s₅ = f
    go true true s₂ z s₃ s₄ s₅ = a
    go true false true true s₃ s₄ s₅ = b
    go true false true false s₃ s₄ s₅ = f
    go true false false z true s₄ s₅ = c
    go true false false z false true s₅ = d
    go true false false z false false true = e
    go true false false z false false false = f

-- ---- a word that passes a test is that token, with the number of the word

module _ (t : ℕ) where
  pub start_iff : starts (tok_of t) ≡ true ↔ tok_of t ≡ Start (t / 8)
  start_iff = (token_cases (λ u. starts u ≡ true → u ≡ Start (t / 8)) (t % 8) (t / 8) (λ e. refl) (λ e. cc) (λ e. cc) (λ e. cc) (λ e. cc) (λ e. cc), (λ e. rw e))

  pub end_iff : ends (tok_of t) ≡ true ↔ tok_of t ≡ End
  end_iff = (token_cases (λ u. ends u ≡ true → u ≡ End) (t % 8) (t / 8) (λ e. cc) (λ e. refl) (λ e. cc) (λ e. cc) (λ e. cc) (λ e. cc), (λ e. rw e))

  pub text_iff : text_tok (tok_of t) ≡ true ↔ tok_of t ≡ Text (t / 8)
  text_iff = (token_cases (λ u. text_tok u ≡ true → u ≡ Text (t / 8)) (t % 8) (t / 8) (λ e. cc) (λ e. cc) (λ e. refl) (λ e. cc) (λ e. cc) (λ e. cc), (λ e. rw e))

  pub attr_iff : attr_tok (tok_of t) ≡ true ↔ tok_of t ≡ Attr (t / 8)
  attr_iff = (token_cases (λ u. attr_tok u ≡ true → u ≡ Attr (t / 8)) (t % 8) (t / 8) (λ e. cc) (λ e. cc) (λ e. cc) (λ e. refl) (λ e. cc) (λ e. cc), (λ e. rw e))

  pub value_iff : value_tok (tok_of t) ≡ true ↔ tok_of t ≡ Value (t / 8)
  value_iff = (token_cases (λ u. value_tok u ≡ true → u ≡ Value (t / 8)) (t % 8) (t / 8) (λ e. cc) (λ e. cc) (λ e. cc) (λ e. cc) (λ e. refl) (λ e. cc), (λ e. rw e))

-- what passes none of the tests is no token
pub bad_iff : (u : Tok) → ((starts u ≡ false) × (ends u ≡ false) × (text_tok u ≡ false) × (attr_tok u ≡ false) × (value_tok u ≡ false)) ↔ u ≡ Bad
bad_iff u = (none u, (λ e. rw e (refl, refl, refl, refl, refl)))
  where
    none : (u : Tok) → (starts u ≡ false) × (ends u ≡ false) × (text_tok u ≡ false) × (attr_tok u ≡ false) × (value_tok u ≡ false) → u ≡ Bad
    none (Start n) (a, b, c, d, e) = cc
    none End (a, b, c, d, e) = cc
    none (Text n) (a, b, c, d, e) = cc
    none (Attr n) (a, b, c, d, e) = cc
    none (Value n) (a, b, c, d, e) = cc
    none Bad (a, b, c, d, e) = refl

-- a token's number is at most the largest
pub number_small : (t : ℕ) → (tok_of t ≡ Bad → ⊥) → t / 8 ≤ most_number
number_small t h = go (leb (t / 8) most_number) refl
  where
    go : (b : Bool) → leb (t / 8) most_number ≡ b → t / 8 ≤ most_number
    go true e = leb-true (t / 8) most_number e
    go false e = absurd (h (rw e))

pub value_small : (t : ℕ) → value_tok (tok_of t) ≡ true → t / 8 ≤ most_number
value_small t e = number_small t (λ z. true≢false (sym e ∙ ap value_tok z))
