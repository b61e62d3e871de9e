-- The attributes of an element, each of them kept to its fixed value. Assumes nothing.
use Rattle.std.specs.Prelude.{◌≡◌, Option as Answered, Some, None, Bool, true, not, ◌&&◌, ℕ, suc, ◌+◌, ◌/◌, ◌≤◌, ◌<◌, length, get_or}
use Rattle.std.proofs.Math.Path.{refl, sym, ap}
use Rattle.std.proofs.Common.{◌∙◌, add-one, arith}
use Rattle.std.proofs.Math.Bool.{false}
use mathlib.Core.List.{List, [], ◌∷◌}
use Rattle.std.proofs.lemmas.Bool.{not-true, not-false}
use Rattle.std.proofs.Math.ListN.{drop}
use Rattle.paper.specs.declared.Tok.{Tok}
use Rattle.paper.specs.declared.Tok.TheVariants.{Start, End, Text, Attr, Value, Bad}
use Rattle.paper.specs.Tokens.{tok_of, toks, heads}
use Rattle.paper.specs.Table.{fixed_at, fixed_part, entries}
use Rattle.paper.specs.Rules.{fixed_by}
use Rattle.paper.specs.Judgement.{each_attr, only_value, fixed_good}
use Rattle.basic_laws.specs.Bools.{clash}
use Rattle.shape_laws.specs.Ends.{rest_at, rest_past}
use Rattle.fixed.specs.Places.{entries_at, same_entries}
use Rattle.tokens.specs.Sorts.{attr_tok, value_tok}
use Rattle.tokens.specs.Theorems.{attr_iff, value_iff}
use Rattle.fixed_values.specs.Value.{value_of}

-- each attribute of h that is fixed has its value
unfoldable pub fixed_kept : List ℕ → ℕ → List Tok → Bool
fixed_kept t e h = each_attr (λ a r. fixed_good (fixed_by (entries (fixed_part t)) e a) r) h

-- where no attribute is fixed
pub kept_none : (t : List ℕ) (e : ℕ) → get_or t fixed_at 0 ≡ 0 → (h : List Tok) → fixed_kept t e h ≡ true
unfolding fixed_kept entries_at
kept_none t e z h = each h
  where
    free : (a : ℕ) (r : List Tok) → fixed_good (fixed_by (entries (fixed_part t)) e a) r ≡ true
    free a r = ap (λ l. fixed_good (fixed_by l e a) r) (same_entries t 0 (sym z))

    each : (h : List Tok) → each_attr (λ a r. fixed_good (fixed_by (entries (fixed_part t)) e a) r) h ≡ true
    each [] = refl
    each (Attr n ∷ r) = rw (free n r) (each r)
    each (Value v ∷ r) = each r
    each (Start n ∷ r) = each r
    each (End ∷ r) = each r
    each (Text n ∷ r) = each r
    each (Bad ∷ r) = each r

-- ---- one attribute

module _ (t : List ℕ) (e a : ℕ) (r : List Tok) (w : Answered ℕ) where
  pub kept_free : w ≡ None → value_of w ≡ fixed_by (entries (fixed_part t)) e a → true ≡ fixed_good (fixed_by (entries (fixed_part t)) e a) r
  kept_free c q = rw (← q, c)

  pub kept_to : {v : ℕ} {b : Bool} → w ≡ Some v → value_of w ≡ fixed_by (entries (fixed_part t)) e a → b ≡ only_value v r
      → b ≡ fixed_good (fixed_by (entries (fixed_part t)) e a) r
  kept_to c q d = rw (← q, c) d

-- ---- one after another

-- what the attributes from place i on must show is what all must
pub record Keeping (t : List ℕ) (e : ℕ) (doc : List ℕ) (at i : ℕ) : Type 0 where
  pub here : i ≤ length doc
  pub left : fixed_kept t e (heads (drop at (toks doc))) ≡ fixed_kept t e (heads (drop i (toks doc)))

pub keeping_none : (t : List ℕ) (e : ℕ) (doc : List ℕ) (at : ℕ) → at ≤ length doc → Keeping t e doc at at
keeping_none t e doc at h = record { here = h; left = refl }

module _ {t : List ℕ} {e : ℕ} {doc : List ℕ} {at i : ℕ} (c : Keeping t e doc at i) where
  abbrev d : List Tok
  d = toks doc

  pub keeping_all : length doc ≤ i → true ≡ fixed_kept t e (heads (drop at d))
  unfolding fixed_kept
  keeping_all h = sym (c.left ∙ rw (rest_past doc i h))

  module _ (h : i < length doc) where
    next : {x : Tok} → tok_of (get_or doc i 0) ≡ x → drop i d ≡ x ∷ drop (i + 1) d
    next q = rw (add-one i) (rest_at doc i h ∙ ap (λ x. x ∷ drop (suc i) d) q)

    module _ {y : Bool} (ey : y ≡ attr_tok (tok_of (get_or doc i 0))) where
      module _ (s : y ≡ true) {a : ℕ} (ea : a ≡ get_or doc i 0 / 8) {r : Bool} (er : r ≡ fixed_good (fixed_by (entries (fixed_part t)) e a) (heads (drop (i + 1) d))) where
        whole : fixed_kept t e (heads (drop at d)) ≡ r && fixed_kept t e (heads (drop (i + 1) d))
        unfolding fixed_kept
        whole = c.left ∙ ap (λ k. fixed_kept t e (heads k)) (next ((attr_iff (get_or doc i 0)).0 (sym ey ∙ s) ∙ ap Attr (sym ea)))
            ∙ ap (λ b. b && fixed_kept t e (heads (drop (i + 1) d))) (sym er)

        pub keeping_not : not r ≡ true → false ≡ fixed_kept t e (heads (drop at d))
        keeping_not n = sym (whole ∙ ap (λ b. b && fixed_kept t e (heads (drop (i + 1) d))) (not-true r n))

        pub keeping_attribute : not r ≡ false → Keeping t e doc at (i + 1)
        keeping_attribute n = record { here = omega arith; left = whole ∙ ap (λ b. b && fixed_kept t e (heads (drop (i + 1) d))) (not-false r n) }

      module _ (s : y ≡ false) {z : Bool} (ez : z ≡ value_tok (tok_of (get_or doc i 0))) where
        pub keeping_value : z ≡ true → Keeping t e doc at (i + 1)
        unfolding fixed_kept
        keeping_value k = record { here = omega arith; left = c.left ∙ ap (λ k. fixed_kept t e (heads k)) (next ((value_iff (get_or doc i 0)).0 (sym ez ∙ k))) }

        pub keeping_other : z ≡ false → true ≡ fixed_kept t e (heads (drop at d))
        unfolding fixed_kept
        keeping_other k = sym (c.left ∙ ap (λ m. fixed_kept t e m) (ap heads (next refl) ∙ no_head (tok_of (get_or doc i 0)) (sym ey ∙ s) (sym ez ∙ k)))
          where
            no_head : (u : Tok) → attr_tok u ≡ false → value_tok u ≡ false → heads (u ∷ drop (i + 1) d) ≡ []
            no_head (Attr a) f g = clash refl f
            no_head (Value v) f g = clash refl g
            no_head (Start n) f g = refl
            no_head End f g = refl
            no_head (Text n) f g = refl
            no_head Bad f g = refl
