-- One value alone at a place. Assumes nothing.
use Rattle.std.specs.Prelude.{◌≡◌, refl, Bool, true, not, ◌&&◌, List, [], ◌∷◌, ℕ, ◌+◌, ◌/◌, eqb, drop, get_or}
use Rattle.std.proofs.Common.{sym, ap, ◌∙◌, drop-drop}
use Rattle.std.proofs.Math.Dec.{eqb-suc-zero}
use Rattle.paper.specs.declared.Tok.{Tok}
use Rattle.paper.specs.declared.Tok.TheVariants.{Start, End, Text, Attr, Value, Bad}
use Rattle.paper.specs.Tokens.{tok_of, toks, heads, values}
use Rattle.paper.specs.Judgement.{only_value}
use Rattle.tokens.specs.Sorts.{value_tok}
use Rattle.tokens.specs.Theorems.{value_iff}
use Rattle.places.specs.Items.{head_tok, head_is}

-- no value begins r
no_value : (r : List Tok) → eqb (values (heads r)) 0 ≡ not (value_tok (head_tok r))
no_value [] = refl
no_value (Value v ∷ r) = eqb-suc-zero (values (heads r))
no_value (Attr n ∷ r) = refl
no_value (Start n ∷ r) = refl
no_value (End ∷ r) = refl
no_value (Text n ∷ r) = refl
no_value (Bad ∷ r) = refl

-- told by the first two tokens; m is the number of the first, if it is a value
only_is : (v m : ℕ) (d : List Tok) → (value_tok (head_tok d) ≡ true → head_tok d ≡ Value m)
    → value_tok (head_tok d) && eqb m v && not (value_tok (head_tok (drop 1 d))) ≡ only_value v (heads d)
only_is v m [] f = refl
only_is v m (Value n ∷ d) f = let e : n ≡ m = same (f refl) in rw e (ap (λ b. eqb m v && b) (sym (no_value d)))
  where
    same : Value n ≡ Value m → n ≡ m
    same q = cc
only_is v m (Attr n ∷ d) f = refl
only_is v m (Start n ∷ d) f = refl
only_is v m (End ∷ d) f = refl
only_is v m (Text n ∷ d) f = refl
only_is v m (Bad ∷ d) f = refl

module _ (doc : List ℕ) (place v : ℕ) {t next m : ℕ} {p q : Bool} where
  pub only_value_lem : t ≡ get_or doc place 0 → next ≡ get_or doc (place + 1) 0 → p ≡ value_tok (tok_of t) → m ≡ t / 8
      → q ≡ value_tok (tok_of next) → p && eqb m v && not q ≡ only_value v (heads (drop place (toks doc)))
  only_value_lem et en ep em eq =
      let d : List Tok = drop place (toks doc) in
      let here : tok_of t ≡ head_tok d = ap tok_of et ∙ head_is doc place in
      let then : tok_of next ≡ head_tok (drop 1 d) = ap tok_of en ∙ head_is doc (place + 1) ∙ ap head_tok (sym (drop-drop 1 place (toks doc))) in
      rw (ep, eq, here, then) (only_is v m d (λ c. sym here ∙ (value_iff t).0 (ap value_tok here ∙ c) ∙ ap Value (sym em)))
