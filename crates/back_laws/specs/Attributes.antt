-- Set and drop in the document: after either, the attribute's place is what it was, and it has there what came. Assumes nothing.
use Rattle.std.specs.Prelude.{◌≡◌, refl, true, List, [], ◌∷◌, ◌++◌, ℕ, zero, suc, ◌+◌, ◌≤◌, ◌<◌, length, take, drop}
use Rattle.std.proofs.Common.{sym, ap, ap₂, ◌∙◌, arith, suc-add, zero-add, add-zero, not-suc-le-zero, le_of_suc-le-suc, length-drop, take-append-drop, drop-drop, drop_at, length-take-le}
use Rattle.basic_laws.specs.Bools.{clash}
use Rattle.paper.specs.declared.Tok.{Tok}
use Rattle.paper.specs.Tokens.{is_start, slot, held}
use Rattle.paper.specs.Shape.{Phase, Body, is_body, phases}
use Rattle.paper.specs.Edits.{attr_with, some_values, attr_number, attr_at, attr_cut, splice}
use Rattle.shape_laws.specs.Phases.{phases_append}
use Rattle.shape_laws.specs.Attrs.{Put, attr_later}
use Rattle.back_laws.specs.Came.{slot_before, Came, put_came, held_good}

-- a splice behind the first k is a splice of what is behind them
splice_behind : (k s n : ℕ) (p d : List Tok) → k ≤ length d → drop k (splice (k + s) n p d) ≡ splice s n p (drop k d)
splice_behind zero s n p d h = rw zero-add
splice_behind (suc k) s n p [] h = absurd (not-suc-le-zero h)
splice_behind (suc k) s n p (t ∷ d) h = rw (suc-add k s, suc-add (k + s) n) (splice_behind k s n p d (le_of_suc-le-suc h))

start_stays : (place s n : ℕ) (p d : List Tok) → is_start (drop place d) ≡ true → is_start (drop place (splice (suc place + s) n p d)) ≡ true
start_stays zero s n p [] e = clash e refl
start_stays zero s n p (t ∷ d) e = rw suc-add e
start_stays (suc place) s n p [] e = clash e refl
start_stays (suc place) s n p (t ∷ d) e = rw (suc-add (suc place) s, suc-add (suc place + s) n) (start_stays place s n p d e)

module _ (a place : ℕ) (d : List Tok) (e : is_body (phases Body d) ≡ true) (st : is_start (drop place d) ≡ true) (inside : attr_at a place d ≤ length d) where
  -- the attributes, and what stands behind them
  abbrev r : List Tok
  r = drop (suc place) d

  -- from the slot on
  abbrev u : List Tok
  u = drop (slot a r) r

  -- behind what the attribute has
  abbrev x : List Tok
  x = drop (held a u) u

  module _ {p : List Tok} (put : Put a p) where
    abbrev new : List Tok
    new = splice (attr_at a place d) (attr_cut a place d) p d

    came : Came a p x
    came = put_came a x (attr_later a place d e st) put

    after_set : drop (suc place) new ≡ take (slot a r) r ++ (p ++ x)
    after_set = splice_behind (suc place) (slot a r) (held a u) p d (omega arith) ∙ ap (λ z. take (slot a r) r ++ (p ++ z)) (sym (drop-drop (held a u) (slot a r) r))

    slot_after : slot a (drop (suc place) new) ≡ slot a r
    slot_after = ap (slot a) after_set ∙ slot_before a r (p ++ x) ∙ ap (λ z. slot a r + z) came.here ∙ add-zero (slot a r)

    pub start_after : is_start (drop place new) ≡ true
    start_after = start_stays place (slot a r) (held a u) p d st

    pub at_after : attr_at a place new ≡ attr_at a place d
    at_after = ap (λ z. suc place + z) slot_after

    pub cut_after : attr_cut a place new ≡ length p
    cut_after =
        ap₂ (λ i l. held a (drop i l)) slot_after after_set
        ∙ ap (held a) (drop_at (take (slot a r) r) (p ++ x) (slot a r) (length-take-le (slot a r) r (omega (arith, length-drop (suc place) d)))) ∙ came.size

  -- what the attribute has is a piece to set it
  abbrev had : List Tok
  had = take (attr_cut a place d) (drop (attr_at a place d) d)

  pub had_good : 0 < attr_cut a place d → (attr_number had ≡ a) × (attr_with some_values had ≡ true)
  had_good h =
      let at : ℕ = attr_at a place d in
      let there : drop at d ≡ u = sym (drop-drop (slot a r) (suc place) d) in
      let before : Phase = phases Body (take at d) in
      let well : is_body (phases before u) ≡ true =
      ap is_body (ap (phases before) (sym there) ∙ sym (phases_append Body (take at d) (drop at d)) ∙ ap (phases Body) (take-append-drop at d)) ∙ e in
      rw there (held_good a before u well h)
