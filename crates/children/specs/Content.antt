-- The content of one element, by its kind. Assumes nothing.
use Rattle.std.specs.Prelude.{◌≡◌, refl, length, drop, Result, Err}
use Rattle.std.proofs.Common.{◌∙◌, arith, ne_eqb, length-drop}
use Rattle.std.proofs.lemmas.List.{length-map}
use Rattle.std.proofs.Math.Path.{ap, ap₂}
use mathlib.Core.List.{List, [], ◌∷◌}
use Prim.Native.Nat.{ℕ, zero, suc, ◌+◌, ◌≤◌, ◌<◌, suc-le-suc}
use Rattle.paper.specs.declared.Tok.{Tok}
use Rattle.paper.specs.declared.Tok.TheVariants.{Start, End, Text, Attr, Value, Bad}
use Rattle.paper.specs.Basics.{null}
use Rattle.paper.specs.Tokens.{tok_of, toks, kids, child_at}
use Rattle.paper.specs.Table.{block, cell, kind_at}
use Rattle.paper.specs.Rules.{Rules, start, of_table}
use Rattle.paper.specs.Judgement.{text_or_none, content, content_good, content_begun, stop_after}
use Rattle.stops.specs.Stop.{stop_by, content_stop, only_texts, texts_stop, texts_stop_lem, model_stop, good_from, begun_from, model_stop_lem, walked, walked_err}

-- no text, and one at most
no_texts : (k : List Tok) → only_texts 0 k ≡ null k
no_texts [] = refl
no_texts (Text m ∷ k) = refl
no_texts (Start m ∷ k) = refl
no_texts (End ∷ k) = refl
no_texts (Attr m ∷ k) = refl
no_texts (Value m ∷ k) = refl
no_texts (Bad ∷ k) = refl

text_or_none_lem : (k : List Tok) → only_texts 1 k ≡ text_or_none k
text_or_none_lem [] = refl
text_or_none_lem (Text m ∷ k) = no_texts k
text_or_none_lem (Start m ∷ k) = refl
text_or_none_lem (End ∷ k) = refl
text_or_none_lem (Attr m ∷ k) = refl
text_or_none_lem (Value m ∷ k) = refl
text_or_none_lem (Bad ∷ k) = refl

module _ (table : List ℕ) (e : ℕ) {kind : ℕ} (ek : kind ≡ cell (block table e) kind_at) where
  abbrev R : Rules
  R = of_table table

  -- the kind is known
  by_kind : (i : ℕ) (d : List Tok) → stop_by (content kind (R.describes e)) (content kind (R.begins e)) i zero d ≡ content_stop (of_table table) e i d
  unfolding content_good content_begun
  by_kind i d = ap₂ (λ good begun. stop_by good begun i zero d) (λ j k. good_is k j) (λ j k. begun_is k j)
    where
      good_is : (k : List Tok) → content kind (R.describes e) k ≡ content_good R e k
      good_is k = ap (λ x. content x (R.describes e) k) ek

      begun_is : (k : List Tok) → content kind (R.begins e) k ≡ content_begun R e k
      begun_is k = ap (λ x. content x (R.begins e) k) ek

  pub content_texts : (d : List Tok) (i : ℕ) {r : Result ℕ ℕ} → kind < 2 → r ≡ walked (texts_stop kind i d) d → r ≡ walked (content_stop (of_table table) e i d) d
  content_texts d i h er = er ∙ ap (λ o. walked o d) (texts_stop_lem d kind i ∙ go kind h ∙ by_kind i d)
    where
      go : (kind : ℕ) → kind < 2 → stop_by (only_texts kind) (only_texts kind) i zero d ≡ stop_by (content kind (R.describes e)) (content kind (R.begins e)) i zero d
      go zero h = ap (λ f. stop_by f f i zero d) (λ j k. no_texts k j)
      go (suc zero) h = ap (λ f. stop_by f f i zero d) (λ j k. text_or_none_lem k j)
      go (suc (suc n)) h = absurd (omega arith)

  pub content_model : (doc : List ℕ) (i : ℕ) {b : List ℕ} {r : Result ℕ ℕ} → 2 ≤ kind → i ≤ length doc → b ≡ block table e
      → r ≡ walked (model_stop b (length doc) start zero i (drop i (toks doc))) (drop i (toks doc))
      → r ≡ walked (content_stop (of_table table) e i (drop i (toks doc))) (drop i (toks doc))
  content_model doc i {b} h u eb er =
      let d : List Tok = drop i (toks doc) in
      let z : i + length d ≡ length doc = omega (arith, length-drop i (toks doc), length-map doc tok_of) in
      er
      ∙ ap (λ o. walked o d)
      (model_stop_lem b (length doc) d start zero i z
      ∙ ap₂ (λ good begun. stop_by good begun i zero d) (λ j k. good_is k j) (λ j k. begun_is k j)
      ∙ by_kind i d)
    where
      good_is : (k : List Tok) → good_from b start k ≡ content kind (R.describes e) k
      good_is k = rw (eb, ne_eqb kind 0 (λ z. omega arith), ne_eqb kind 1 (λ z. omega arith))

      begun_is : (k : List Tok) → begun_from b start k ≡ content kind (R.begins e) k
      begun_is k = rw (eb, ne_eqb kind 0 (λ z. omega arith), ne_eqb kind 1 (λ z. omega arith))

-- ---- the place

pub child_within : (j k : ℕ) (d : List Tok) → child_at j k d ≤ length d
child_within j k [] = omega arith
child_within j (suc k) (Start n ∷ d) = suc-le-suc (child_within j (suc (suc k)) d)
child_within zero zero (Start n ∷ d) = omega arith
child_within (suc j) zero (Start n ∷ d) = suc-le-suc (child_within j 1 d)
child_within j zero (End ∷ d) = omega arith
child_within j (suc k) (End ∷ d) = suc-le-suc (child_within j k d)
child_within j (suc k) (Text n ∷ d) = suc-le-suc (child_within j (suc k) d)
child_within zero zero (Text n ∷ d) = omega arith
child_within (suc j) zero (Text n ∷ d) = suc-le-suc (child_within j zero d)
child_within j k (Attr n ∷ d) = suc-le-suc (child_within j k d)
child_within j k (Value n ∷ d) = suc-le-suc (child_within j k d)
child_within j k (Bad ∷ d) = suc-le-suc (child_within j k d)

-- it is no further than behind the last token
pub stop_within : (rules : Rules) (e : ℕ) (doc : List ℕ) (i : ℕ) {place : ℕ} → i ≤ length doc
    → Err place ≡ walked (content_stop rules e i (drop i (toks doc))) (drop i (toks doc)) → place ≤ length doc
stop_within rules e doc i h er =
    let d : List Tok = drop i (toks doc) in
    let j : ℕ = stop_after (content_begun rules e) (kids zero d) in
    let (_, p) = walked_err (content_good rules e (kids zero d)) (i + child_at j zero d) d er in
    omega (arith, p, child_within j zero d, length-drop i (toks doc), length-map doc tok_of)
