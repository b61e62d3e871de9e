-- Set and drop: what is cut, and that the shape is kept. Assumes nothing.
use Rattle.std.specs.Prelude.{◌≡◌, Bool, true, false, List, [], ◌∷◌, ◌++◌, ◌⊎◌, ℕ, zero, suc, ◌+◌, ◌<◌, pred, eqb, length, take, drop}
use Rattle.std.proofs.Math.Path.{refl, sym, ap}
use Rattle.std.proofs.Common.{ap₂, ◌∙◌, inl, inr, arith, suc-add, take-append-drop, drop-drop, take-add}
use Rattle.std.proofs.Math.Seq.{take-length}
use Rattle.paper.specs.declared.Tok.{Tok}
use Rattle.paper.specs.declared.Tok.TheVariants.{Start, End, Text, Attr, Value, Bad}
use Rattle.paper.specs.Shape.{Phase, Head, Named, Valued, Body, Fail}
use Rattle.shape_laws.specs.Phases.{phases_append, ready_content, was_ready}
use Rattle.shape_laws.specs.Keep.{element_made, element_parts, from_start, keep_end}
use Rattle.shape_laws.specs.Slots.{settled, later, agree, to_slot, Held, at_held}
use Rattle.shape_laws.specs.Splice.{parts}
use Rattle.paper.specs.Edits.{attr_at, attr_cut, splice}
use Rattle.paper.specs.Shape.{is_body, is_element, phase_of, phases}
use Rattle.paper.specs.Tokens.{balanced, held, is_start, slot, values}
use Rattle.basic_laws.specs.Bools.{clash}

-- ---- the whole document

head_at : (q : Phase) (d : List Tok) (p : ℕ) → is_start (drop p d) ≡ true → is_body (phases q d) ≡ true
    → (phases q (take (suc p) d) ≡ Head) × (is_body (phases Head (drop (suc p) d)) ≡ true)
head_at q [] zero s e = clash s refl
head_at q [] (suc p) s e = clash s refl
head_at q (Start n ∷ d) zero s e =
    let h : phase_of q (Start n) ≡ Head = ready_content q (Start n) (was_ready q (Start n) d refl e) refl in
    (h, rw h at e)
head_at q (End ∷ d) zero s e = clash s refl
head_at q (Text n ∷ d) zero s e = clash s refl
head_at q (Attr n ∷ d) zero s e = clash s refl
head_at q (Value n ∷ d) zero s e = clash s refl
head_at q (Bad ∷ d) zero s e = clash s refl
head_at q (t ∷ d) (suc p) s e = head_at (phase_of q t) d p s e

values_even : (r : List Tok) → balanced (take (values r) r) ≡ true
values_even [] = refl
values_even (Value v ∷ r) = values_even r
values_even (Attr n ∷ r) = refl
values_even (Start n ∷ r) = refl
values_even (End ∷ r) = refl
values_even (Text n ∷ r) = refl
values_even (Bad ∷ r) = refl

pub held_even : (a : ℕ) (r : List Tok) → balanced (take (held a r) r) ≡ true
held_even a [] = refl
held_even a (Attr n ∷ r) = go (eqb n a) refl
  where
    go : (z : Bool) → eqb n a ≡ z → balanced (take (held a (Attr n ∷ r)) (Attr n ∷ r)) ≡ true
    go true f = rw f (values_even r)
    go false f = rw f
held_even a (Value v ∷ r) = refl
held_even a (Start n ∷ r) = refl
held_even a (End ∷ r) = refl
held_even a (Text n ∷ r) = refl
held_even a (Bad ∷ r) = refl

through : (a : ℕ) (q : Phase) (h : ℕ) (r : List Tok) → Held a q h r → phases q r ≡ phases (Valued a) (drop h r)
through a q h r k = ap (phases q) (sym (take-append-drop h r)) ∙ phases_append q (take h r) (drop h r) ∙ go k.ends
  where
    go : (h ≡ 0) ⊎ (phases q (take h r) ≡ Valued a) → phases (phases q (take h r)) (drop h r) ≡ phases (Valued a) (drop h r)
    go (inl z) = ap (λ i. phases (phases q (take i r)) (drop h r)) z ∙ agree a q (drop h r) k.calm k.rest
    go (inr z) = ap (λ i. phases i (drop h r)) z

-- what set and drop put in: the attribute a and its values, or nothing
pub data Put (a : ℕ) : List Tok → Type 0 where
  gone : Put a []
  given : (v : ℕ) (vs : List Tok) → values vs ≡ length vs → Put a (Attr a ∷ (Value v ∷ vs))

values_phase : (a : ℕ) (vs : List Tok) → values vs ≡ length vs → phases (Valued a) vs ≡ Valued a
values_phase a [] e = refl
values_phase a (Value v ∷ vs) e = values_phase a vs (ap pred e)
values_phase a (Attr n ∷ vs) e = absurd (omega arith)
values_phase a (Start n ∷ vs) e = absurd (omega arith)
values_phase a (End ∷ vs) e = absurd (omega arith)
values_phase a (Text n ∷ vs) e = absurd (omega arith)
values_phase a (Bad ∷ vs) e = absurd (omega arith)

named_settled : (a : ℕ) (q : Phase) → settled a q ≡ true → phase_of q (Attr a) ≡ Named a
named_settled a Head s = refl
named_settled a (Named b) s = clash s refl
named_settled a (Valued b) s = rw s
named_settled a Body s = clash s refl
named_settled a Fail s = clash s refl

pub put_even : (a : ℕ) {piece : List Tok} → Put a piece → balanced piece ≡ true
put_even a gone = refl
put_even a (given v vs e) = ap balanced (sym (take-length vs) ∙ ap (λ i. take i vs) (sym e)) ∙ values_even vs

put_through : (a : ℕ) (q : Phase) {piece : List Tok} (post : List Tok) → Put a piece → settled a q ≡ true → later a post ≡ true → phases q (piece ++ post) ≡ phases (Valued a) post
put_through a q post gone s l = agree a q post s l
put_through a q post (given v vs e) s l =
    ap (λ i. phases (phase_of i (Value v)) (vs ++ post)) (named_settled a q s) ∙ phases_append (Valued a) vs post ∙ ap (λ i. phases i post) (values_phase a vs e)

later_some : (a : ℕ) (r : List Tok) → later a r ≡ true → 0 < length r
later_some a [] l = clash l refl
later_some a (t ∷ r) l = omega arith

-- a splice inside the root keeps it one element, if the phases are kept
splice_element : (d piece : List Tok) (at h : ℕ) → is_element d ≡ true → balanced (take h (drop (suc at) d)) ≡ true → balanced piece ≡ true
    → 0 < length (drop (suc at + h) d) → is_body (phases Body (splice (suc at) h piece d)) ≡ true → is_element (splice (suc at) h piece d) ≡ true
splice_element d piece at h e bc bp l f =
    from_start (λ c. balanced (take h (drop (suc at) c)) ≡ true → 0 < length (drop (suc at + h) c) → is_body (phases Body (splice (suc at) h piece c)) ≡ true → is_element (splice (suc at) h piece c) ≡ true)
    d e go bc l f
  where
    go : (v : ℕ) (q : List Tok) → is_element (Start v ∷ q) ≡ true → balanced (take h (drop at q)) ≡ true → 0 < length (drop (suc at + h) (Start v ∷ q))
        → is_body (phases Body (splice (suc at) h piece (Start v ∷ q))) ≡ true → is_element (splice (suc at) h piece (Start v ∷ q)) ≡ true
    go v q e bc l f =
        rw suc-add
        (element_made (Start v ∷ take at q ++ (piece ++ drop (at + h) q)) refl
        (ap suc (keep_end (take at q) (take h (drop at q)) piece (drop (at + h) q) bc bp (rw (parts at h q) (ap pred (element_parts (Start v ∷ q) e).1)) (rw suc-add at l)))
        (rw suc-add at f))

module _ (a p : ℕ) (d : List Tok) (e : is_body (phases Body d) ≡ true) (st : is_start (drop p d) ≡ true) where
  r : List Tok
  r = drop (suc p) d

  q : Phase
  q = phases Head (take (slot a r) r)

  at_slot : Held a q (attr_cut a p d) (drop (slot a r) r)
  unfolding q r
  at_slot = at_held a q (drop (slot a r) r) (to_slot a Head r refl (head_at Body d p st e).1)

  before_slot : phases Body (take (attr_at a p d) d) ≡ q
  unfolding q r
  before_slot = ap (phases Body) (take-add (suc p) (slot a r) d) ∙ phases_append Body (take (suc p) d) (take (slot a r) r) ∙ ap (λ i. phases i (take (slot a r) r)) (head_at Body d p st e).0

  after_slot : drop (attr_at a p d) d ≡ drop (slot a r) r
  unfolding r
  after_slot = sym (drop-drop (slot a r) (suc p) d)

  after_cut : drop (attr_at a p d + attr_cut a p d) d ≡ drop (attr_cut a p d) (drop (slot a r) r)
  unfolding r
  after_cut = sym (drop-drop (attr_cut a p d) (attr_at a p d) d) ∙ ap (drop (attr_cut a p d)) after_slot

  attr_phases : {piece : List Tok} → Put a piece → is_body (phases Body (splice (attr_at a p d) (attr_cut a p d) piece d)) ≡ true
  attr_phases {piece} put =
      let at : ℕ = attr_at a p d in
      let h : ℕ = attr_cut a p d in
      let u : List Tok = drop (slot a r) r in
      let new : phases Body (splice at h piece d) ≡ phases (Valued a) (drop h u)
      = phases_append Body (take at d) (piece ++ drop (at + h) d) ∙ ap₂ (λ i j. phases i (piece ++ j)) before_slot after_cut
      ∙ put_through a q (drop h u) put at_slot.calm at_slot.rest in
      let old : phases Body d ≡ phases (Valued a) (drop h u)
      = ap (phases Body) (sym (take-append-drop at d)) ∙ phases_append Body (take at d) (drop at d) ∙ ap₂ phases before_slot after_slot ∙ through a q h u at_slot in
      ap is_body (new ∙ sym old) ∙ e

  -- behind what the attribute has stands nothing of it, nor a value
  pub attr_later : later a (drop (attr_cut a p d) (drop (slot a (drop (suc p) d)) (drop (suc p) d))) ≡ true
  unfolding r
  attr_later = at_slot.rest

  pub attr_rest : 0 < length (drop (attr_at a p d + attr_cut a p d) d)
  attr_rest = rw after_cut (later_some a (drop (attr_cut a p d) (drop (slot a r) r)) at_slot.rest)

  pub attr_even : balanced (take (attr_cut a p d) (drop (attr_at a p d) d)) ≡ true
  unfolding r
  attr_even = rw after_slot (held_even a (drop (slot a r) r))

-- set and drop keep the shape
pub attr_keeps : (a p : ℕ) (d : List Tok) {piece : List Tok} → is_element d ≡ true → is_start (drop p d) ≡ true → Put a piece
    → is_element (splice (attr_at a p d) (attr_cut a p d) piece d) ≡ true
attr_keeps a p d {piece} e s put =
    let b = (element_parts d e).2 in
    let z : attr_at a p d ≡ suc (p + slot a (drop (suc p) d)) = omega arith in
    rw z
    (splice_element d piece (p + slot a (drop (suc p) d)) (attr_cut a p d) e (rw z at (attr_even a p d b s)) (put_even a put) (rw z at (attr_rest a p d b s)) (rw z at (attr_phases a p d b s put)))
