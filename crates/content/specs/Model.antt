-- What is given for the symbols of a model: its sets, or that they are no expression of at most 64 names. Assumes nothing.
use Rattle.std.specs.Prelude.{◌≡◌, refl, Bool, true, false, Option, Some, None, List, ◌∷◌, ◌++◌, map, ℕ, zero, suc, ◌+◌, ◌-◌, ◌≤◌, T, length, replicate}
use Rattle.std.proofs.Common.{sym, ap, ap₂, ◌∙◌, arith}
use Rattle.std.proofs.Math.Option.{some}
use Rattle.std.proofs.lemmas.List.{length-map}
use Rattle.std.specs.Int.Bits.{or_zero_l}
use Rattle.paper.specs.Basics.{most_names, from, pad}
use Rattle.paper.specs.Expressions.{Expr, count}
use Rattle.paper.specs.Sets.{nullable, follow, first_word, last_word, follow_word}
use Rattle.paper.specs.Schema.{expr_of}
use Rattle.paper_laws.specs.Words.{none_zero}
use Rattle.paper_laws.specs.Basics.{length_from}
use Rattle.content_laws.specs.Within.{follow_within}
use Rattle.content_laws.specs.Words.{follow_word_lem}
use Rattle.content.specs.declared.Model.{Model}
use Rattle.content.specs.Linked.{or_from, linked}

-- the follow sets, in 64 words
abbrev pub follow_words : Expr → List ℕ
follow_words e = pad most_names (map (follow_word 0 e) (from 0 (count e)))

-- the symbols are one expression: its sets are in r, and its follow sets in g
pub record ModelOf (s g : List ℕ) (r : Model) : Type 0 where
  pub expr : Expr
  pub reads : expr_of s ≡ some expr
  pub fits : count expr ≤ most_names
  pub count : r.count ≡ count expr
  pub nullable : r.nullable ≡ nullable expr
  pub first : r.first ≡ first_word 0 expr
  pub last : r.last ≡ last_word 0 expr
  pub follow : g ≡ follow_words expr

-- the symbols are none
pub record NoModel (s g : List ℕ) : Type 0 where
  pub never : (e : Expr) → expr_of s ≡ some e → count e ≤ most_names → ⊥
  pub follow : g ≡ replicate most_names 0

pub record Modelled (s g : List ℕ) (r : Option Model) : Type 0 where
  pub found : (m : Model) → r ≡ Some m → ModelOf s g m
  pub none : r ≡ None → NoModel s g

-- ---- the follow sets over zeros

pub length_words : (e : Expr) → length (map (follow_word 0 e) (from 0 (count e))) ≡ count e
length_words e = length-map (from 0 (count e)) (follow_word 0 e) ∙ length_from 0 (count e)

module _ (f : ℕ → ℕ) where
  or_zeros : (j n : ℕ) → or_from f j (replicate n 0) ≡ map f (from j n)
  or_zeros j zero = refl
  or_zeros j (suc n) = ap₂ ◌∷◌ (or_zero_l (f j)) (or_zeros (suc j) n)

  zeros_from : (b n : ℕ) → ((k : ℕ) → b ≤ k → f k ≡ 0) → map f (from b n) ≡ replicate n 0
  zeros_from b zero h = refl
  zeros_from b (suc n) h = ap₂ ◌∷◌ (h b (omega arith)) (zeros_from (suc b) n (λ k l. h k (omega arith)))

  padded : (b c n : ℕ) → c ≤ n → ((k : ℕ) → b + c ≤ k → f k ≡ 0) → map f (from b n) ≡ map f (from b c) ++ replicate (n - c) 0
  padded b zero n l h = let e : n ≡ n - 0 = omega arith in zeros_from b n (λ k i. h k (omega arith)) ∙ ap (λ m. replicate m 0) e
  padded b (suc c) zero l h = absurd (omega arith)
  padded b (suc c) (suc n) l h =
      let e : n - c ≡ suc n - suc c = omega arith in
      ap (λ r. f b ∷ r) (padded (suc b) c n (omega arith) (λ k i. h k (omega arith)) ∙ ap (λ m. map f (from (suc b) c) ++ replicate m 0) e)

-- past e's occurrences nothing follows
follow_past : (e : Expr) (j : ℕ) → count e ≤ j → follow_word 0 e j ≡ 0
follow_past e j h = none_zero (follow_word 0 e j) λ k. follow_word_lem 0 e j k ∙ no (follow 0 e j k) (λ t. let w = (follow_within 0 e j k t).0 in omega arith)
  where
    no : (b : Bool) → (T b → ⊥) → b ≡ false
    no true f = absurd (f tt)
    no false f = refl

pub linked_zeros : (e : Expr) (n : ℕ) → count e ≤ n → linked 0 e (replicate n 0) ≡ pad n (map (follow_word 0 e) (from 0 (count e)))
linked_zeros e n h =
    let f : ℕ → ℕ = follow_word 0 e in
    or_zeros f 0 n
    ∙ padded f 0 (count e) n h (λ k i. follow_past e k (omega arith))
    ∙ ap (λ m. map f (from 0 (count e)) ++ replicate (n - m) 0) (sym (length_words e))
