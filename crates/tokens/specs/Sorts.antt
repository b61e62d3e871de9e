-- The sorts of tokens, as tests on one, and a word's sort. Assumes nothing.
use Rattle.std.specs.Prelude.{◌≡◌, refl, Bool, true, false, cond, ◌&&◌, ℕ, zero, suc, ◌/◌, ◌%◌, ◌<◌, leb, eqb}
use Rattle.std.proofs.Common.{sym, ◌∙◌, arith, eqb-true, ne_eqb}
use Rattle.std.proofs.lemmas.Bool.{eqb-false}
use Rattle.paper.specs.declared.Tok.{Tok}
use Rattle.paper.specs.declared.Tok.TheVariants.{Start, End, Text, Attr, Value, Bad}
use Rattle.paper.specs.Basics.{most_number}
use Rattle.paper.specs.Tokens.{by_sort, tok_of, starts, closes_of}

-- ---- a token's sort: a start by `starts` of the paper, an end where it closes the element that is open

abbrev pub ends : Tok → Bool
ends = closes_of 0

abbrev pub text_tok : Tok → Bool
text_tok (Start n) = false
text_tok End = false
text_tok (Text n) = true
text_tok (Attr n) = false
text_tok (Value n) = false
text_tok Bad = false

abbrev pub attr_tok : Tok → Bool
attr_tok (Start n) = false
attr_tok End = false
attr_tok (Text n) = false
attr_tok (Attr n) = true
attr_tok (Value n) = false
attr_tok Bad = false

abbrev pub value_tok : Tok → Bool
value_tok (Start n) = false
value_tok End = false
value_tok (Text n) = false
value_tok (Attr n) = false
value_tok (Value n) = true
value_tok Bad = false

-- ---- a word's

-- the token of a sort and a number: token (t % 8) (t / 8) is tok_of t
abbrev pub token : ℕ → ℕ → Tok
token sort n = cond (leb n most_number) (by_sort sort n) Bad

-- the word is of the sort, with a number that a token can have
abbrev pub of_sort : ℕ → ℕ → Bool
of_sort sort t = eqb (t % 8) sort && leb (t / 8) most_number

-- what holds of each sort
pub by_sort_lem : (P : ℕ → Type 0) → P 0 → P 1 → P 2 → P 3 → P 4 → P 5 → P 6 → P 7 → (s : ℕ) → s < 8 → P s
by_sort_lem P a b c d e f g h zero l = a
by_sort_lem P a b c d e f g h (suc zero) l = b
by_sort_lem P a b c d e f g h (suc (suc zero)) l = c
by_sort_lem P a b c d e f g h (suc (suc (suc zero))) l = d
by_sort_lem P a b c d e f g h (suc (suc (suc (suc zero)))) l = e
by_sort_lem P a b c d e f g h (suc (suc (suc (suc (suc zero))))) l = f
by_sort_lem P a b c d e f g h (suc (suc (suc (suc (suc (suc zero)))))) l = g
by_sort_lem P a b c d e f g h (suc (suc (suc (suc (suc (suc (suc zero))))))) l = h
by_sort_lem P a b c d e f g h (suc (suc (suc (suc (suc (suc (suc (suc s)))))))) l = absurd (omega arith)

-- ---- the tests, from the word

-- a test that holds of one sort alone, and of neither ends nor what is no token
module _ (P : Tok → Bool) (bad : P Bad ≡ false) where
  small : (b c : Bool) (t : Tok) → c ≡ P t → c && b ≡ P (cond b t Bad)
  small true true t e = e
  small true false t e = e
  small false true t e = sym bad
  small false false t e = sym bad

  no_end : P End ≡ false → (b : Bool) → false ≡ P (cond b End Bad)
  no_end e true = sym e
  no_end e false = sym bad

  word : (sort t : ℕ) → ((s : ℕ) → s < 8 → eqb s sort ≡ P (by_sort s (t / 8))) → of_sort sort t ≡ P (tok_of t)
  word sort t each = small (leb (t / 8) most_number) (eqb (t % 8) sort) (by_sort (t % 8) (t / 8)) (each (t % 8) (omega arith))

module _ (t : ℕ) {y : Bool} where
  pub start_word : y ≡ of_sort 1 t → y ≡ starts (tok_of t)
  start_word e = e ∙ word starts refl 1 t (by_sort_lem (λ s. eqb s 1 ≡ starts (by_sort s (t / 8))) refl refl (no_end starts refl refl (eqb (t / 8) 0)) refl refl refl refl refl)

  pub text_word : y ≡ of_sort 3 t → y ≡ text_tok (tok_of t)
  text_word e = e ∙ word text_tok refl 3 t (by_sort_lem (λ s. eqb s 3 ≡ text_tok (by_sort s (t / 8))) refl refl (no_end text_tok refl refl (eqb (t / 8) 0)) refl refl refl refl refl)

  pub attr_word : y ≡ of_sort 4 t → y ≡ attr_tok (tok_of t)
  attr_word e = e ∙ word attr_tok refl 4 t (by_sort_lem (λ s. eqb s 4 ≡ attr_tok (by_sort s (t / 8))) refl refl (no_end attr_tok refl refl (eqb (t / 8) 0)) refl refl refl refl refl)

  pub value_word : y ≡ of_sort 5 t → y ≡ value_tok (tok_of t)
  value_word e = e ∙ word value_tok refl 5 t (by_sort_lem (λ s. eqb s 5 ≡ value_tok (by_sort s (t / 8))) refl refl (no_end value_tok refl refl (eqb (t / 8) 0)) refl refl refl refl refl)

-- an end is the word 2
other_word : (n sort : ℕ) → sort < 8 → (sort ≡ 2 → n ≡ 0 → ⊥) → ends (token sort n) ≡ false
other_word n =
    by_sort_lem (λ s. (s ≡ 2 → n ≡ 0 → ⊥) → ends (token s n) ≡ false)
    (λ h. other Bad refl) (λ h. other (Start n) refl) (λ h. rw (ne_eqb n 0 (h refl)) (other Bad refl)) (λ h. other (Text n) refl)
    (λ h. other (Attr n) refl) (λ h. other (Value n) refl) (λ h. other Bad refl) (λ h. other Bad refl)
  where
    other : (t : Tok) → ends t ≡ false → ends (cond (leb n most_number) t Bad) ≡ false
    other t e = go (leb n most_number)
      where
        go : (b : Bool) → ends (cond b t Bad) ≡ false
        go true = e
        go false = refl

pub end_word : (t : ℕ) → eqb t 2 ≡ ends (tok_of t)
end_word t = go (eqb t 2) refl
  where
    go : (b : Bool) → eqb t 2 ≡ b → eqb t 2 ≡ ends (tok_of t)
    go true e = let z : t ≡ 2 = eqb-true t 2 e in rw z
    go false e = e ∙ sym (other_word (t / 8) (t % 8) (omega arith) (λ u v. absurd (eqb-false t 2 e (omega arith))))
