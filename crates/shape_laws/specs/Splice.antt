-- The five edits are one splice: n tokens at a place go, and a piece comes. What an edit leaves as it was.
use Rattle.std.specs.Prelude.{◌≡◌, refl, true, List, [], ◌∷◌, ◌++◌, ℕ, zero, suc, ◌+◌, ◌≤◌, ◌<◌, length, take, drop}
use Rattle.std.proofs.Common.{sym, ap, ◌∙◌, arith, suc-add, not-suc-le-zero, take-append-drop, drop-drop, length-take-le}
use Rattle.paper.specs.declared.Tok.{Tok}
use Rattle.paper.specs.declared.Tok.TheVariants.{Start, End, Text, Attr, Value, Bad}
use Rattle.shape_laws.specs.Keep.{Cut, from_start, cut_element, cut_text, keep_element}
use Rattle.shape_laws.specs.Local.{local}
use Rattle.paper.specs.Edits.{splice}
use Rattle.paper.specs.Judgement.{fault_at, first, or_else}
use Rattle.paper.specs.Shape.{is_element}
use Rattle.paper.specs.Tokens.{balanced, item_size, touched}
use Rattle.shape_laws.specs.Phases.{content, item}

-- the document, cut at the edited part
pub parts : {A : Type 0} (at n : ℕ) (d : List A) → take at d ++ (take n (drop at d) ++ drop (at + n) d) ≡ d
parts at n d = ap (λ r. take at d ++ r) (ap (λ r. take n (drop at d) ++ r) (sym (drop-drop n at d)) ∙ take-append-drop n (drop at d)) ∙ take-append-drop at d

module _ (fault : ℕ → List Tok → List Tok → ℕ) where
  none_here : (f i : ℕ) (r : ℕ × ℕ) → or_else f i r ≡ (0, 0) → (f ≡ 0) × (r ≡ (0, 0))
  none_here zero i r e = (refl, e)
  none_here (suc f) i r e = let z : suc f ≡ 0 = ap (λ (q : ℕ × ℕ). q.0) e in absurd (omega arith)

  -- no fault found is no fault at any place
  pub faultless : (given : ℕ → ℕ → List Tok → ℕ) (i : ℕ) (d : List Tok) → first fault given (λ _. true) i d ≡ (0, 0) → (j : ℕ) → fault_at fault (drop j d) ≡ 0
  faultless given i [] e zero = refl
  faultless given i [] e (suc j) = refl
  faultless given i (x ∷ d) e zero = (none_here (fault_at fault (x ∷ d)) (given (fault_at fault (x ∷ d)) i (x ∷ d)) (first fault given (λ _. true) (suc i) d) e).0
  faultless given i (x ∷ d) e (suc j) = faultless given (suc i) d (none_here (fault_at fault (x ∷ d)) (given (fault_at fault (x ∷ d)) i (x ∷ d)) (first fault given (λ _. true) (suc i) d) e).1 j

  -- An edit of a faultless document: judged at the touched places, it gets the answer of judging all.
  pub edit_local : (given : ℕ → ℕ → List Tok → ℕ) (d piece : List Tok) (at n : ℕ) → at ≤ length d → balanced (take n (drop at d)) ≡ true → balanced piece ≡ true
      → first fault given (λ _. true) 0 d ≡ (0, 0)
      → first fault given (λ _. true) 0 (splice at n piece d) ≡ first fault given (touched at (length piece) (splice at n piece d)) 0 (splice at n piece d)
  edit_local given d piece at n h hc hp v =
      rw (length-take-le at d h) at
      (local (take n (drop at d)) piece (drop (at + n) d) hc hp fault (take at d) (λ i. rw (parts at n d) (faultless given 0 d v i)) given)

-- ---- insert, remove and replace keep the shape

-- nothing is cut before content
pub cut_nothing : (t : Tok) (x : List Tok) → content t ≡ true → Cut 0 (t ∷ x)
cut_nothing t x c = record { next = t; later = x; splits = refl; follows = c; even = refl; whole = refl }

-- the whole element or text that stands at a place is cut
pub cut_item : (d : List Tok) (at : ℕ) → is_element d ≡ true → 0 < item_size (drop (suc at) d) → Cut (item_size (drop (suc at) d)) (drop (suc at) d)
cut_item d at e h = from_start (λ d. 0 < item_size (drop (suc at) d) → Cut (item_size (drop (suc at) d)) (drop (suc at) d)) d e go h
  where
    by_head : (n : ℕ) (q r : List Tok) → is_element (Start n ∷ q ++ r) ≡ true → 0 < item_size r → Cut (item_size r) r
    by_head n q [] e h = absurd (not-suc-le-zero h)
    by_head n q (Start v ∷ w) e h = cut_element n q v w e
    by_head n q (End ∷ w) e h = absurd (not-suc-le-zero h)
    by_head n q (Text v ∷ w) e h = cut_text n q v w e
    by_head n q (Attr v ∷ w) e h = absurd (not-suc-le-zero h)
    by_head n q (Value v ∷ w) e h = absurd (not-suc-le-zero h)
    by_head n q (Bad ∷ w) e h = absurd (not-suc-le-zero h)

    go : (n : ℕ) (q : List Tok) → is_element (Start n ∷ q) ≡ true → 0 < item_size (drop at q) → Cut (item_size (drop at q)) (drop at q)
    go n q e h = by_head n (take at q) (drop at q) (rw (take-append-drop at q) e) h

pub edit_keeps : (d piece : List Tok) (at n : ℕ) → is_element d ≡ true → Cut n (drop (suc at) d) → balanced piece ≡ true → item piece ≡ true
    → is_element (splice (suc at) n piece d) ≡ true
edit_keeps d piece at n e c b i = from_start (λ d. Cut n (drop (suc at) d) → is_element (splice (suc at) n piece d) ≡ true) d e go c
  where
    go : (v : ℕ) (q : List Tok) → is_element (Start v ∷ q) ≡ true → Cut n (drop at q) → is_element (splice (suc at) n piece (Start v ∷ q)) ≡ true
    go v q e c =
        let z : drop (at + n) q ≡ c.next ∷ c.later = sym (drop-drop n at q) ∙ c.splits in
        rw (suc-add, z)
        (keep_element v (take at q) (take n (drop at q)) piece c.next c.later c.even c.whole b i c.follows
        (rw (← z, parts at n q) e))
