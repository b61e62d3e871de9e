-- The elements of a piece, judged by the tokens of the piece alone: what stands behind an element's end is not asked for.
-- Assumes nothing.
use Rattle.std.specs.Prelude.{◌≡◌, refl, Bool, true, false, cond, List, [], ◌∷◌, ◌++◌, ℕ, zero, suc, ◌+◌, ◌≤◌, ◌<◌, eqb, length}
use Rattle.std.proofs.Common.{ap, ap₂, ◌∙◌, inl, inr, arith}
use Rattle.std.proofs.Math.Decide.{dec_lt}
use Rattle.paper.specs.declared.Tok.{Tok}
use Rattle.paper.specs.declared.Tok.TheVariants.{Start, End, Text, Attr, Value, Bad}
use Rattle.paper.specs.Tokens.{heads, kids, child_at, close, closes_of, level_of, starts}
use Rattle.paper.specs.Rules.{Rules}
use Rattle.paper.specs.Judgement.{Answer, or_else, content_begun, stop_after, element_fault, fault_at, first, stop_in, place_of, whole}
use Rattle.paper.specs.Edits.{opens}
use Rattle.basic_laws.specs.Bools.{clash}
use Rattle.shape_laws.specs.Depth.{count}
use Rattle.shape_laws.specs.Keep.{element_parts, from_start}
use Rattle.shape_laws.specs.Five.{element, one_text}
use Rattle.shape_laws.specs.Widths.{Comes}
use Rattle.places.specs.Items.{close_le}
use Rattle.closing.specs.Closing.{close_outer, close_none}
use Rattle.children.specs.Content.{child_within}
use Rattle.judge.specs.Elements.{first_none}

-- ---- one element that ends in q

heads_alone : (k : ℕ) (q r : List Tok) → close k q < length q → heads (q ++ r) ≡ heads q
heads_alone k [] r h = absurd (omega arith)
heads_alone k (Start n ∷ q) r h = refl
heads_alone k (End ∷ q) r h = refl
heads_alone k (Text n ∷ q) r h = refl
heads_alone k (Attr n ∷ q) r h = ap (λ l. Attr n ∷ l) (heads_alone k q r (omega arith))
heads_alone k (Value n ∷ q) r h = ap (λ l. Value n ∷ l) (heads_alone k q r (omega arith))
heads_alone k (Bad ∷ q) r h = refl

kids_alone : (k : ℕ) (q r : List Tok) → close k q < length q → kids k (q ++ r) ≡ kids k q
kids_alone k [] r h = absurd (omega arith)
kids_alone zero (Start n ∷ q) r h = ap (λ l. Start n ∷ l) (kids_alone 1 q r (omega arith))
kids_alone (suc k) (Start n ∷ q) r h = kids_alone (suc (suc k)) q r (omega arith)
kids_alone zero (End ∷ q) r h = refl
kids_alone (suc k) (End ∷ q) r h = kids_alone k q r (omega arith)
kids_alone zero (Text n ∷ q) r h = ap (λ l. Text n ∷ l) (kids_alone zero q r (omega arith))
kids_alone (suc k) (Text n ∷ q) r h = kids_alone (suc k) q r (omega arith)
kids_alone zero (Attr n ∷ q) r h = kids_alone zero q r (omega arith)
kids_alone (suc k) (Attr n ∷ q) r h = kids_alone (suc k) q r (omega arith)
kids_alone zero (Value n ∷ q) r h = kids_alone zero q r (omega arith)
kids_alone (suc k) (Value n ∷ q) r h = kids_alone (suc k) q r (omega arith)
kids_alone zero (Bad ∷ q) r h = kids_alone zero q r (omega arith)
kids_alone (suc k) (Bad ∷ q) r h = kids_alone (suc k) q r (omega arith)

child_alone : (j k : ℕ) (q r : List Tok) → close k q < length q → child_at j k (q ++ r) ≡ child_at j k q
child_alone j k [] r h = absurd (omega arith)
child_alone j (suc k) (Start n ∷ q) r h = ap suc (child_alone j (suc (suc k)) q r (omega arith))
child_alone zero zero (Start n ∷ q) r h = refl
child_alone (suc j) zero (Start n ∷ q) r h = ap suc (child_alone j 1 q r (omega arith))
child_alone j zero (End ∷ q) r h = refl
child_alone j (suc k) (End ∷ q) r h = ap suc (child_alone j k q r (omega arith))
child_alone j (suc k) (Text n ∷ q) r h = ap suc (child_alone j (suc k) q r (omega arith))
child_alone zero zero (Text n ∷ q) r h = refl
child_alone (suc j) zero (Text n ∷ q) r h = ap suc (child_alone j zero q r (omega arith))
child_alone j zero (Attr n ∷ q) r h = ap suc (child_alone j zero q r (omega arith))
child_alone j (suc k) (Attr n ∷ q) r h = ap suc (child_alone j (suc k) q r (omega arith))
child_alone j zero (Value n ∷ q) r h = ap suc (child_alone j zero q r (omega arith))
child_alone j (suc k) (Value n ∷ q) r h = ap suc (child_alone j (suc k) q r (omega arith))
child_alone j zero (Bad ∷ q) r h = ap suc (child_alone j zero q r (omega arith))
child_alone j (suc k) (Bad ∷ q) r h = ap suc (child_alone j (suc k) q r (omega arith))

-- an inner element ends no later
close_inner : (k : ℕ) (q : List Tok) → close zero q ≤ close k q
close_inner zero q = omega arith
close_inner (suc k) q = elim (dec_lt (close k q) (length q)) [
  | yes h ↦ omega (arith, close_outer k q h, close_inner k q)
  | no h ↦ omega (arith, close_none k q (omega (arith, close_le k q)), close_le k q, close_inner k q)
]

-- a fault of a piece, its place counted from where the piece begins at place a
abbrev pub moved_to : ℕ → Answer → Answer
moved_to a x = or_else x.0 (x.1 + a) x

module _ (R : Rules) where
  -- what t, that q follows, gives at place i, does not depend on what follows q
  pub record Same (t : Tok) (q r : List Tok) (i : ℕ) : Type 0 where
    pub number : fault_at (element_fault R) (t ∷ (q ++ r)) ≡ fault_at (element_fault R) (t ∷ q)
    pub place : (n : ℕ) → place_of R n i (t ∷ (q ++ r)) ≡ place_of R n i (t ∷ q)

  same : (t : Tok) (q r : List Tok) (i : ℕ) → (starts t ≡ true → close zero q < length q) → Same t q r i
  same (Start e) q r i h = record {
    number = ap₂ (element_fault R e) (heads_alone zero q r (h refl)) (kids_alone zero q r (h refl));
    place = λ n. ap (λ x. cond (eqb n 9) x i)
        (ap (λ k. suc i + child_at (stop_after (content_begun R e) k) zero (q ++ r)) (kids_alone zero q r (h refl))
        ∙ ap (λ x. suc i + x) (child_alone (stop_after (content_begun R e) (kids zero q)) zero q r (h refl)));
  }
  same End q r i h = record { number = refl; place = λ n. refl }
  same (Text m) q r i h = record { number = refl; place = λ n. refl }
  same (Attr m) q r i h = record { number = refl; place = λ n. refl }
  same (Value m) q r i h = record { number = refl; place = λ n. refl }
  same Bad q r i h = record { number = refl; place = λ n. refl }

  -- ---- the first fault, where the places of q are judged, and none behind them

  abbrev F : ℕ → List Tok → List Tok → ℕ
  F = element_fault R

  -- one token more
  one_more : (judged : ℕ → Bool) (t : Tok) (q r : List Tok) (i : ℕ) → judged i ≡ true → Same t q r i
      → first F (place_of R) judged (suc i) (q ++ r) ≡ first F (place_of R) whole (suc i) q
      → first F (place_of R) judged i (t ∷ (q ++ r)) ≡ first F (place_of R) whole i (t ∷ q)
  one_more judged t q r i y s e =
      ap (λ b. or_else (cond b (fault_at F (t ∷ (q ++ r))) 0) (place_of R (fault_at F (t ∷ (q ++ r))) i (t ∷ (q ++ r))) (first F (place_of R) judged (suc i) (q ++ r))) y
      ∙ ap (λ n. or_else n (place_of R n i (t ∷ (q ++ r))) (first F (place_of R) judged (suc i) (q ++ r))) s.number
      ∙ ap₂ (or_else (fault_at F (t ∷ q))) (s.place (fault_at F (t ∷ q))) e

  -- the places of q from i on, and no others
  pub record Only (judged : ℕ → Bool) (i n : ℕ) : Type 0 where
    pub here : (j : ℕ) → j < n → judged (i + j) ≡ true
    pub past : (j : ℕ) → judged (i + n + j) ≡ false

  only_next : {judged : ℕ → Bool} {i n : ℕ} → Only judged i (suc n) → Only judged (suc i) n
  only_next {judged} {i} {n} o = record { here = λ j h. ap judged (omega arith) ∙ o.here (suc j) (omega arith); past = λ j. ap judged (omega arith) ∙ o.past j }

  only_first : {judged : ℕ → Bool} {i n : ℕ} → Only judged i (suc n) → judged i ≡ true
  only_first {judged} {i} o = ap judged (omega arith) ∙ o.here zero (omega arith)

  none_left : (judged : ℕ → Bool) (q r : List Tok) (i : ℕ) → length q ≡ 0 → Only judged i (length q)
      → first F (place_of R) judged i (q ++ r) ≡ first F (place_of R) whole i q
  none_left judged [] r i e o = first_none F (place_of R) judged i r (λ j. ap judged (omega arith) ∙ o.past j)
  none_left judged (t ∷ q) r i e o = absurd (omega arith)

  started : (k : ℕ) (t : Tok) (q : List Tok) → suc (close k (t ∷ q)) ≡ suc (length q) → starts t ≡ true → close zero q < length q
  started k (Start n) q e s = omega (arith, close_inner (suc k) q)
  started k End q e s = clash s refl
  started k (Text n) q e s = clash s refl
  started k (Attr n) q e s = clash s refl
  started k (Value n) q e s = clash s refl
  started k Bad q e s = clash s refl

  -- the last token of q is the end of the element that is open k levels up
  first_inside : (judged : ℕ → Bool) (k : ℕ) (q r : List Tok) (i : ℕ) → suc (close k q) ≡ length q → Only judged i (length q)
      → first F (place_of R) judged i (q ++ r) ≡ first F (place_of R) whole i q
  first_inside judged k [] r i e o = absurd (omega arith)
  first_inside judged k (t ∷ q) r i e o =
      one_more judged t q r i (only_first o) (same t q r i (started k t q e))
      (rest (λ z. first_inside judged (level_of k t) q r (suc i) z (only_next o)) (closes_of k t) e)
    where
      rest : (suc (close (level_of k t) q) ≡ length q → first F (place_of R) judged (suc i) (q ++ r) ≡ first F (place_of R) whole (suc i) q)
          → (b : Bool) → suc (cond b zero (suc (close (level_of k t) q))) ≡ suc (length q)
          → first F (place_of R) judged (suc i) (q ++ r) ≡ first F (place_of R) whole (suc i) q
      rest later true z = none_left judged q r (suc i) (omega arith) (only_next o)
      rest later false z = later (omega arith)

  -- nothing starts in q
  first_flat : (judged : ℕ → Bool) (q r : List Tok) (i : ℕ) → count opens q ≡ 0 → Only judged i (length q)
      → first F (place_of R) judged i (q ++ r) ≡ first F (place_of R) whole i q
  first_flat judged [] r i e o = none_left judged [] r i refl o
  first_flat judged (Start n ∷ q) r i e o = absurd (omega arith)
  first_flat judged (Text n ∷ q) r i e o = absurd (omega arith)
  first_flat judged (End ∷ q) r i e o = one_more judged End q r i (only_first o) (same End q r i (λ s. clash s refl)) (first_flat judged q r (suc i) e (only_next o))
  first_flat judged (Attr n ∷ q) r i e o = one_more judged (Attr n) q r i (only_first o) (same (Attr n) q r i (λ s. clash s refl)) (first_flat judged q r (suc i) e (only_next o))
  first_flat judged (Value n ∷ q) r i e o = one_more judged (Value n) q r i (only_first o) (same (Value n) q r i (λ s. clash s refl)) (first_flat judged q r (suc i) e (only_next o))
  first_flat judged (Bad ∷ q) r i e o = one_more judged Bad q r i (only_first o) (same Bad q r i (λ s. clash s refl)) (first_flat judged q r (suc i) e (only_next o))

  -- the elements of a piece have the faults that they have in the piece by itself
  pub first_alone : (judged : ℕ → Bool) (p r : List Tok) (i : ℕ) → Comes p → Only judged i (length p)
      → first F (place_of R) judged i (p ++ r) ≡ first F (place_of R) whole i p
  first_alone judged p r i (inr e) o = first_flat judged p r i e o
  first_alone judged (Text n ∷ []) r i (inl one_text) o =
      one_more judged (Text n) [] r i (only_first o) (same (Text n) [] r i (λ s. clash s refl)) (none_left judged [] r (suc i) refl (only_next o))
  first_alone judged p r i (inl (element e)) o =
      from_start (λ p. Only judged i (length p) → first F (place_of R) judged i (p ++ r) ≡ first F (place_of R) whole i p) p e
      (λ n q e o.
      let z = (element_parts (Start n ∷ q) e).1 in
      one_more judged (Start n) q r i (only_first o) (same (Start n) q r i (λ s. omega arith)) (first_inside judged zero q r (suc i) (omega arith) (only_next o)))
      o

  -- ---- the piece counted from 0

  place_moved : (a n i : ℕ) (d : List Tok) → place_of R n (i + a) d ≡ place_of R n i d + a
  place_moved a n i d = go (eqb n 9)
    where
      stop_moved : (d : List Tok) → stop_in R (i + a) d ≡ stop_in R i d + a
      stop_moved [] = refl
      stop_moved (Start n ∷ d) = omega arith
      stop_moved (End ∷ d) = refl
      stop_moved (Text n ∷ d) = refl
      stop_moved (Attr n ∷ d) = refl
      stop_moved (Value n ∷ d) = refl
      stop_moved (Bad ∷ d) = refl

      go : (b : Bool) → cond b (stop_in R (i + a) d) (i + a) ≡ cond b (stop_in R i d) i + a
      go true = stop_moved d
      go false = refl

  or_moved : (a n p : ℕ) (x : Answer) → or_else n (p + a) (moved_to a x) ≡ moved_to a (or_else n p x)
  or_moved a zero p x = refl
  or_moved a (suc n) p x = refl

  pub first_moved : (a i : ℕ) (d : List Tok) → first F (place_of R) whole (i + a) d ≡ moved_to a (first F (place_of R) whole i d)
  first_moved a i [] = refl
  first_moved a i (x ∷ d) =
      ap₂ (or_else (fault_at F (x ∷ d))) (place_moved a (fault_at F (x ∷ d)) i (x ∷ d)) (ap (λ k. first F (place_of R) whole k d) (omega arith) ∙ first_moved a (suc i) d)
      ∙ or_moved a (fault_at F (x ∷ d)) (place_of R (fault_at F (x ∷ d)) i (x ∷ d)) (first F (place_of R) whole (suc i) d)

  -- it is no further than behind the last token
  place_within : (n i : ℕ) (x : Tok) (d : List Tok) → place_of R n i (x ∷ d) ≤ suc (i + length d)
  place_within n i x d = go (eqb n 9)
    where
      stop_within : (x : Tok) → stop_in R i (x ∷ d) ≤ suc (i + length d)
      stop_within (Start e) = omega (arith, child_within (stop_after (content_begun R e) (kids zero d)) zero d)
      stop_within End = omega arith
      stop_within (Text e) = omega arith
      stop_within (Attr e) = omega arith
      stop_within (Value e) = omega arith
      stop_within Bad = omega arith

      go : (b : Bool) → cond b (stop_in R i (x ∷ d)) i ≤ suc (i + length d)
      go true = stop_within x
      go false = omega arith

  pub first_within : (i : ℕ) (d : List Tok) → (first F (place_of R) whole i d).1 ≤ i + length d
  first_within i [] = omega arith
  first_within i (x ∷ d) = go (fault_at F (x ∷ d)) (place_of R (fault_at F (x ∷ d)) i (x ∷ d)) (place_within (fault_at F (x ∷ d)) i x d) (first_within (suc i) d)
    where
      go : (n p : ℕ) → p ≤ suc (i + length d) → (first F (place_of R) whole (suc i) d).1 ≤ suc i + length d
          → (or_else n p (first F (place_of R) whole (suc i) d)).1 ≤ i + suc (length d)
      go zero p h l = omega arith
      go (suc n) p h l = omega arith
