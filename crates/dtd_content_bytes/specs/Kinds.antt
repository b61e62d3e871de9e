-- Which of the three kinds of content stands at a place, told by its first bytes. Assumes nothing.
use Rattle.std.specs.Prelude.{◌≡◌, refl, Bool, true, false, not, cond, ◌&&◌, List, [], ◌∷◌, ◌++◌, ℕ, ◌+◌, ◌≤◌, ◌<◌, eqb, length, drop, get_or}
use Rattle.std.proofs.Common.{sym, ap, ◌∙◌, eqb-true, drop-drop}
use Rattle.std.proofs.Math.Bool.{and-eq-true_iff}
use Rattle.std.proofs.lemmas.Bool.{not-true, not-false}
use Rattle.paper.specs.Basics.{all}
use Rattle.paper.specs.Dtd.Letters.{is_white, is_first, is_more, begins, past, opening, hash, comma}
use Rattle.paper.specs.Dtd.Declarations.{Part, word, sequence, choice, Parts, only, ◌and◌, Content, empty, text, model}
use Rattle.paper.specs.Dtd.Grammar.{cp, cps, contentspec}
use Rattle.basic_laws.specs.Bools.{clash, fails}
use Rattle.dtd_laws.specs.Leaves.{past_run}
use Rattle.dtd_words.specs.Places.{At, begins_none, begins_at, begins_inside}

-- no `(`: EMPTY. Behind `(` and white space `#`: text only. Else a model.
abbrev pub kind_from : List ℕ → ℕ
kind_from s = cond (begins (λ b. eqb b opening) s) (cond (begins (λ b. eqb b hash) (past is_white (drop 1 s))) 1 2) 0

abbrev pub kind_of : Content → ℕ
kind_of empty = 0
kind_of text = 1
kind_of (model p) = 2

-- ---- as it is spelled

no_hash_name : (n t : List ℕ) → begins is_first n && all is_more n ≡ true → begins (λ b. eqb b hash) (n ++ t) ≡ false
no_hash_name [] t k = clash k refl
no_hash_name (a ∷ n) t k =
    fails (eqb a hash) (λ p. clash ((and-eq-true_iff (is_first a) (all is_more (a ∷ n))).0 k).0 (ap is_first (eqb-true a hash p)))

no_hash : (p : Part) (s r : List ℕ) → cp p s r → begins (λ b. eqb b hash) s ≡ false
no_hash (word n q) s r (t, (e, k, x), y) = rw e (no_hash_name n t k)
no_hash (sequence ps q) s r (t, e, y) = rw e
no_hash (choice p ps q) s r (t, e, y) = rw e

no_hash_first : (ps : Parts) (j : ℕ) (s r : List ℕ) → cps ps j s r → begins (λ b. eqb b hash) s ≡ false
no_hash_first (only p) j s r c = no_hash p s r c
no_hash_first (p and ps) j s r (t, c, y) = no_hash p s t c

pub kind_spelled : (c : Content) (s r : List ℕ) → contentspec c s r → kind_from s ≡ kind_of c
kind_spelled empty s r e = rw e
kind_spelled text s r (t, e, (u, (w, a, b', d), (v, f, y))) = rw (e, (past_run is_white w u (a, b', d)).1, f)
kind_spelled (model (word n q)) s r (b, c) = clash b refl
kind_spelled (model (sequence ps q)) s r (b, (t, e, (u, (w, a, b', d), (v, f, y)))) = rw (e, (past_run is_white w u (a, b', d)).1, no_hash_first ps comma u v f)
kind_spelled (model (choice p ps q)) s r (b, (t, e, (u, (w, a, b', d), (v, f, y)))) = rw (e, (past_run is_white w u (a, b', d)).1, no_hash p u v f)

-- ---- as the code finds it

module _ (text : List ℕ) (at : ℕ) where
  pub no_byte : (b : ℕ) → length text ≤ at → false ≡ begins (λ c. eqb c b) (drop at text)
  no_byte b h = begins_none (λ c. eqb c b) text at h

  pub the_byte : (b : ℕ) (x : Bool) → at < length text → x ≡ eqb (get_or text at 0) b → x ≡ begins (λ c. eqb c b) (drop at text)
  the_byte b x h p = begins_at (λ c. eqb c b) text at x h p

  module _ (x : Bool) (p : x ≡ begins (λ c. eqb c 40) (drop at text)) where
    pub no_bracket : not x ≡ true → 0 ≡ kind_from (drop at text)
    no_bracket q = rw (sym p ∙ not-true x q)

    module _ (q : not x ≡ false) where
      pub bracket_inside : at < length text
      bracket_inside = begins_inside (λ c. eqb c 40) text at (sym p ∙ not-false x q)

      behind : (i : ℕ) → At text i (past is_white (drop (at + 1) text)) → past is_white (drop 1 (drop at text)) ≡ drop i text
      behind i a = ap (past is_white) (drop-drop 1 at text) ∙ sym a.rest

      module _ (i : ℕ) (a : At text i (past is_white (drop (at + 1) text))) (y : Bool) (e : y ≡ begins (λ c. eqb c 35) (drop i text)) where
        pub text_only_lem : y ≡ true → 1 ≡ kind_from (drop at text)
        text_only_lem k = rw (sym p ∙ not-false x q, behind i a, sym e ∙ k)

        pub a_model : y ≡ false → 2 ≡ kind_from (drop at text)
        a_model k = rw (sym p ∙ not-false x q, behind i a, sym e ∙ k)
