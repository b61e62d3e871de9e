-- One model, by all three calls: `read_model` found it, `list_names` listed its names over 64 zeros, and `unambiguous` tells whether it is
-- ambiguous. Assumes nothing.
use Rattle.std.specs.Prelude.{◌≡◌, refl, true, not, List, [], ◌∷◌, map, ℕ, ◌+◌, ◌≤◌, ltb, length, take, replicate}
use Rattle.std.proofs.Common.{sym, ap, ap₂, ◌∙◌, arith, ltb-true, lt-ltb, take_at}
use Rattle.std.proofs.Math.Bool.{and-eq-true_iff}
use Rattle.std.proofs.lemmas.List.Edits.{sets}
use Rattle.paper.specs.Basics.{most_names, between, all, from, pad}
use Rattle.paper.specs.Expressions.{Expr, names, count}
use Rattle.paper.specs.Sets.{ambiguous, first_word, follow_word}
use Rattle.content_laws.specs.Names.{length_names}
use Rattle.sets.specs.Chosen.{small}
use Rattle.content.specs.declared.Model.{Model}
use Rattle.paper_laws.specs.Basics.{length_pad}
use Rattle.content.specs.Model.{ModelOf, follow_words, length_words}
use Rattle.model_names.specs.Listed.{names_in, names_listed, count_listed, listed_pad, listed_below}
use Rattle.ambiguity.specs.Unambiguous.{is_unambiguous, Bounded, unambiguous_iff}

-- ---- of an expression's own words and names, in 64 places

below_small : (E : ℕ) (l : List ℕ) → E ≤ most_names → all (λ a. ltb a E) l ≡ true → small l ≡ true
below_small E [] h e = refl
below_small E (x ∷ l) h e =
    let (p, q) = (and-eq-true_iff (ltb x E) (all (λ a. ltb a E) l)).0 e in
    let i = ltb-true x E p in
    rw (lt-ltb x 64 (omega arith)) (below_small E l h q)

module _ (e : Expr) where
  names_used : take (count e) (pad most_names (names e)) ≡ names e
  names_used = take_at (names e) _ (count e) (length_names e)

  follow_used : take (count e) (follow_words e) ≡ map (follow_word 0 e) (from 0 (count e))
  follow_used = take_at (map (follow_word 0 e) (from 0 (count e))) _ (count e) (length_words e)

  module _ {n : ℕ} {l g : List ℕ} (c : n ≡ count e) (w : l ≡ pad most_names (names e)) (f : g ≡ follow_words e) where
    words_bounded : (E : ℕ) → count e ≤ most_names → E ≤ most_names → all (λ a. ltb a E) (names e) ≡ true → Bounded n l g
    words_bounded E k h b = rw (c, w, f) (record {
      few = k;
      names_long = length_pad most_names (names e) (omega (arith, length_names e));
      follow_long = length_pad most_names (map (follow_word 0 e) (from 0 (count e))) (omega (arith, length_words e));
      low = ap small names_used ∙ below_small E (names e) h b;
    })

    words_unambiguous : {first : ℕ} → first ≡ first_word 0 e → is_unambiguous first (take n l) (take n g) ≡ not (ambiguous e)
    words_unambiguous d = rw (c, w, f, d) (ap₂ (is_unambiguous (first_word 0 e)) names_used follow_used ∙ unambiguous_iff e)

-- ---- as the calls leave them

module _ {s g : List ℕ} {r : Model} (m : ModelOf s g r) where
  -- what `list_names` requires of 64 words
  pub names_fit : length (names_in s) ≤ most_names
  names_fit = omega (arith, count_listed s m.expr m.reads, m.fits)

  module _ {l : List ℕ} (w : l ≡ sets (replicate most_names 0) 0 (names_in s)) where
    pub names_are : l ≡ pad most_names (names m.expr)
    names_are = w ∙ listed_pad s m.expr m.reads m.fits

    -- what `unambiguous` requires, where the symbols are below 5 + E
    pub model_bounded : (E : ℕ) → E ≤ most_names → all (between 0 (4 + E)) s ≡ true → Bounded r.count l g
    model_bounded E h b =
        words_bounded m.expr m.count names_are m.follow E m.fits h
        (ap (all (λ a. ltb a E)) (sym (names_listed s m.expr m.reads)) ∙ listed_below E s b)

    -- and what it answers
    pub model_unambiguous : is_unambiguous r.first (take r.count l) (take r.count g) ≡ not (ambiguous m.expr)
    model_unambiguous = words_unambiguous m.expr m.count names_are m.follow m.first
