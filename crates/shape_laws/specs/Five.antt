-- The five edits: each keeps the shape, how deep it makes the document is told at its place, and judging what it touches is judging the
-- whole.
use Rattle.std.specs.Prelude.{◌≡◌, refl, true, List, [], ◌∷◌, ◌↔◌, ℕ, zero, suc, ◌+◌, ◌≤◌, ◌<◌, leb, length, take, drop}
use Rattle.std.proofs.Common.{ap, append-nil, arith, zero-add, le-leb, leb-true, length-drop}
use Rattle.std.proofs.Math.Seq.{take-length, drop-length}
use Rattle.paper.specs.declared.Tok.{Tok}
use Rattle.paper.specs.declared.Tok.TheVariants.{Text}
use Rattle.basic_laws.specs.Bools.{same_test}
use Rattle.shape_laws.specs.Attrs.{Put, attr_even, attr_keeps, attr_rest, put_even}
use Rattle.shape_laws.specs.Depth.{open_in, run_place, open_deep, edit_deep}
use Rattle.shape_laws.specs.Keep.{Cut, element_item, element_parts}
use Rattle.shape_laws.specs.Splice.{cut_item, cut_nothing, edit_keeps, edit_local}
use Rattle.paper.specs.Edits.{attr_at, attr_cut, splice}
use Rattle.paper.specs.Judgement.{first}
use Rattle.paper.specs.Shape.{is_element}
use Rattle.paper.specs.Tokens.{balanced, deep, is_start, item_size, touched}
use Rattle.shape_laws.specs.Phases.{content, item}

-- the piece of an insert or a replace: one element or one text
pub data Whole : List Tok → Type 0 where
  element : {d : List Tok} → is_element d ≡ true → Whole d
  one_text : {n : ℕ} → Whole (Text n ∷ [])

-- an edit that is allowed in d: the place, how many tokens go, and what comes
pub data Allowed (d : List Tok) : ℕ → ℕ → List Tok → Type 0 where
  insert : (at : ℕ) (t : Tok) (x : List Tok) {piece : List Tok} → drop (suc at) d ≡ t ∷ x → content t ≡ true → Whole piece → Allowed d (suc at) 0 piece
  remove : (at : ℕ) → 0 < item_size (drop (suc at) d) → Allowed d (suc at) (item_size (drop (suc at) d)) []
  replace : (at : ℕ) {piece : List Tok} → 0 < item_size (drop (suc at) d) → Whole piece → Allowed d (suc at) (item_size (drop (suc at) d)) piece
  replace_root : {piece : List Tok} → is_element piece ≡ true → Allowed d 0 (length d) piece
  attribute : (a p : ℕ) {piece : List Tok} → is_start (drop p d) ≡ true → Put a piece → Allowed d (attr_at a p d) (attr_cut a p d) piece

whole_item : {piece : List Tok} → Whole piece → (balanced piece ≡ true) × (item piece ≡ true)
whole_item (element {d = d} e) = element_item d e
whole_item one_text = (refl, refl)

insert_cut : (d : List Tok) (at : ℕ) (t : Tok) (x : List Tok) → drop (suc at) d ≡ t ∷ x → content t ≡ true → Cut 0 (drop (suc at) d)
insert_cut d at t x e c = rw e (cut_nothing t x c)

size_some : (r : List Tok) → 0 < item_size r → 0 < length r
size_some [] h = h
size_some (t ∷ r) h = omega arith

leb_same : (a b lim : ℕ) → (a ≤ lim) ↔ (b ≤ lim) → leb a lim ≡ leb b lim
leb_same a b lim i =
    same_test (leb a lim) (leb b lim) (λ p. le-leb b lim (i.0 (leb-true a lim p))) (λ q. le-leb a lim (i.1 (leb-true b lim q)))

cut_within : (d : List Tok) (at n : ℕ) → Cut n (drop (suc at) d) → suc at + n ≤ length d
cut_within d at n c = omega (arith, ap length c.splits, length-drop n (drop (suc at) d), length-drop (suc at) d)

-- an allowed edit lies in the document
pub allowed_within : (d : List Tok) → is_element d ≡ true → {at n : ℕ} {piece : List Tok} → Allowed d at n piece → at + n ≤ length d
allowed_within d e (insert at t x s c w) = omega (arith, ap length s, length-drop (suc at) d)
allowed_within d e (remove at h) = cut_within d at (item_size (drop (suc at) d)) (cut_item d at e h)
allowed_within d e (replace at h w) = cut_within d at (item_size (drop (suc at) d)) (cut_item d at e h)
allowed_within d e (replace_root f) = omega arith
allowed_within d e (attribute a p s put) = omega (arith, attr_rest a p d (element_parts d e).2 s, length-drop (attr_at a p d + attr_cut a p d) d)

module _ (d : List Tok) (e : is_element d ≡ true) where
  pub five_keep : {at n : ℕ} {piece : List Tok} → Allowed d at n piece → is_element (splice at n piece d) ≡ true
  five_keep (insert at t x {piece = piece} s c w) = edit_keeps d piece at 0 e (insert_cut d at t x s c) (whole_item w).0 (whole_item w).1
  five_keep (remove at h) = edit_keeps d [] at (item_size (drop (suc at) d)) e (cut_item d at e h) refl refl
  five_keep (replace at {piece = piece} h w) = edit_keeps d piece at (item_size (drop (suc at) d)) e (cut_item d at e h) (whole_item w).0 (whole_item w).1
  five_keep (replace_root {piece = piece} f) = rw (zero-add, drop-length, append-nil) f
  five_keep (attribute a p s put) = attr_keeps a p d e s put

  -- what goes and what comes are balanced, and the place is in the document
  pub five_even : {at n : ℕ} {piece : List Tok} → Allowed d at n piece → (balanced (take n (drop at d)) ≡ true) × (balanced piece ≡ true) × (at ≤ length d)
  five_even (insert at t x s c w) = (refl, (whole_item w).0, omega (arith, ap length s, length-drop (suc at) d))
  five_even (remove at h) = ((cut_item d at e h).even, refl, omega (arith, size_some (drop (suc at) d) h, length-drop (suc at) d))
  five_even (replace at h w) = ((cut_item d at e h).even, (whole_item w).0, omega (arith, size_some (drop (suc at) d) h, length-drop (suc at) d))
  five_even (replace_root {piece = piece} f) = (rw take-length (element_item d e).0, (element_item piece f).0, omega arith)
  five_even (attribute a p s put) =
      (attr_even a p d (element_parts d e).2 s, put_even a put, omega (arith, attr_rest a p d (element_parts d e).2 s, length-drop (attr_at a p d + attr_cut a p d) d))

  pub five_local : (fault : ℕ → List Tok → List Tok → ℕ) (given : ℕ → ℕ → List Tok → ℕ) → first fault given (λ _. true) 0 d ≡ (0, 0) → {at n : ℕ} {piece : List Tok} → Allowed d at n piece
      → first fault given (λ _. true) 0 (splice at n piece d) ≡ first fault given (touched at (length piece) (splice at n piece d)) 0 (splice at n piece d)
  five_local fault given v {at} {n} {piece} w =
      let h = five_even w in
      edit_local fault given d piece at n h.2 h.0 h.1 v

  -- a document of at most lim levels has no more after an edit exactly if the piece has no more below the place
  module _ (lim : ℕ) (h : deep zero d ≤ lim) where
    pub five_deep : {at n : ℕ} {piece : List Tok} → Allowed d at n piece → leb (deep zero (splice at n piece d)) lim ≡ leb (open_in (take at d) + deep zero piece) lim
    five_deep {at} {n} {piece} w =
        let s = five_even w in
        leb_same (deep zero (splice at n piece d)) (open_in (take at d) + deep zero piece) lim
        (edit_deep d piece at n (open_in (take at d)) lim (run_place d at (element_item d e).0) s.0 s.1 h)

    pub place_deep : (at : ℕ) → open_in (take at d) ≤ lim
    place_deep at = omega (arith, open_deep d at (element_item d e).0)
