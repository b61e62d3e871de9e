-- The plan of an edit: its splice, if its place is good. Assumes nothing.
use Rattle.std.specs.Prelude.{◌≡◌, Bool, true, false, ◌&&◌, ◌||◌, List, [], ◌∷◌, ℕ, suc, ◌+◌, ◌-◌, ◌≤◌, ◌<◌, length, get_or, take, drop, Option, Some, None}
use Rattle.std.proofs.Math.Path.{refl, sym, ap, ap₂}
use Rattle.std.proofs.Common.{◌∙◌, arith, add-one, length-drop, drop-drop}
use Rattle.std.proofs.Math.Bool.{cond, not}
use Rattle.std.proofs.lemmas.List.{length-map, take_rest}
use Rattle.std.proofs.Math.Dec.{ltb}
use Rattle.paper.specs.declared.Tok.{Tok}
use Rattle.paper.specs.declared.Tok.TheVariants.{Start, End, Text, Attr, Value, Bad}
use Rattle.paper.specs.declared.Operation.{Operation}
use Rattle.paper.specs.declared.Operation.TheVariants.{Insert, Remove, Replace, Set, Drop}
use Rattle.paper.specs.Codes.{operation_of}
use Rattle.paper.specs.Tokens.{tok_of, toks, starts, is_start, item_size, slot, held}
use Rattle.paper.specs.Edits.{is_text, opens, opens_or_ends, at_head, attr_number, attr_at, attr_cut, good_place, splice_at, splice_cut}
use Rattle.shape_laws.specs.Bridge.{toks_drop}
use Rattle.plans.specs.declared.Plan.{Plan}
use Rattle.tokens.specs.Sorts.{ends, text_tok}
use Rattle.places.specs.Items.{head_tok, head_is}
use Rattle.slots.specs.Counts.{slot_le}

-- a plan, if its place is good
abbrev pub planned : Bool → ℕ → ℕ → Option Plan
planned good at cut = cond good (Some (record { at = at; cut = cut })) None

-- the splice, if the place is good
unfoldable pub plan_of : ℕ → ℕ → List Tok → List Tok → Option Plan
plan_of op place p d = planned (good_place op place p d) (splice_at op place p d) (splice_cut op place p d)

-- of a start, the tokens of the attribute that the piece p names
unfoldable pub head_of : ℕ → List Tok → List Tok → Option Plan
head_of place p d = planned (is_start (drop place d)) (attr_at (attr_number p) place d) (attr_cut (attr_number p) place d)

-- ---- what stands at the place

head_test : (P : Tok → Bool) → P Bad ≡ false → (r : List Tok) → P (head_tok r) ≡ at_head P r
head_test P e [] = e
head_test P e (t ∷ r) = refl

start_head : (r : List Tok) → starts (head_tok r) ≡ is_start r
start_head [] = refl
start_head (t ∷ r) = refl

-- an attribute's place is inside the document too
pub slot_place : (a : ℕ) (doc : List ℕ) (place : ℕ) {s : ℕ} → place < length doc → s ≡ slot a (toks (take (length doc - (place + 1)) (drop (place + 1) doc)))
    → place + 1 + s ≤ length doc
slot_place a doc place h es =
    let e = rw take_rest at es in
    omega (arith, slot_le a (toks (drop (place + 1) doc)), length-map (drop (place + 1) doc) tok_of, length-drop (place + 1) doc)

-- ---- what begins or ends there

opens_is : (u : Tok) → starts u || text_tok u ≡ opens u
opens_is (Start n) = refl
opens_is End = refl
opens_is (Text n) = refl
opens_is (Attr n) = refl
opens_is (Value n) = refl
opens_is Bad = refl

opens_ends_is : (u : Tok) → opens u || ends u ≡ opens_or_ends u
opens_ends_is (Start n) = refl
opens_ends_is End = refl
opens_ends_is (Text n) = refl
opens_ends_is (Attr n) = refl
opens_ends_is (Value n) = refl
opens_ends_is Bad = refl

module _ (t : ℕ) {y z : Bool} where
  pub opens_told : y ≡ starts (tok_of t) → z ≡ text_tok (tok_of t) → y || z ≡ opens (tok_of t)
  opens_told ey ez = ap₂ ◌||◌ ey ez ∙ opens_is (tok_of t)

  pub opens_ends_told : y ≡ opens (tok_of t) → z ≡ ends (tok_of t) → y || z ≡ opens_or_ends (tok_of t)
  opens_ends_told ey ez = ap₂ ◌||◌ ey ez ∙ opens_ends_is (tok_of t)

-- ---- the attribute of a start

module _ (place : ℕ) (piece doc : List ℕ) where
  abbrev d : List Tok
  d = toks doc

  abbrev p : List Tok
  p = toks piece

  plan_by : (op : ℕ) {good : Bool} {at cut : ℕ} → good ≡ good_place op place p d → at ≡ splice_at op place p d → cut ≡ splice_cut op place p d → planned good at cut ≡ plan_of op place p d
  unfolding plan_of
  plan_by op {good} {at} {cut} eo ea ec = ap₂ (planned good) ea ec ∙ ap (λ b. planned b (splice_at op place p d) (splice_cut op place p d)) eo

  module _ {t : ℕ} (et : t ≡ get_or doc place 0) where
    here : tok_of t ≡ head_tok (drop place d)
    here = ap tok_of et ∙ head_is doc place

    start_here : {y : Bool} → y ≡ starts (tok_of t) → y ≡ is_start (drop place d)
    start_here ey = ey ∙ ap starts here ∙ start_head (drop place d)

    pub head_none : {y : Bool} → y ≡ starts (tok_of t) → y ≡ false → None ≡ head_of place (toks piece) (toks doc)
    unfolding head_of
    head_none ey n = rw (← start_here ey, n)

    pub head_some : {y : Bool} → y ≡ starts (tok_of t) → y ≡ true → {a s n : ℕ} → a ≡ attr_number (toks piece) → s ≡ slot a (toks (take (length doc - (place + 1)) (drop (place + 1) doc)))
        → n ≡ held a (toks (take (length doc - (place + 1 + s)) (drop (place + 1 + s) doc))) → Some (record { at = place + 1 + s; cut = n }) ≡ head_of place (toks piece) (toks doc)
    unfolding head_of
    head_some ey m {a} {s} {n} ea es en =
        let es' = rw take_rest at es in
        let en' = rw take_rest at en in
        let k : s ≡ slot a (drop (suc place) d) = rw add-one at (es' ∙ ap (slot a) (toks_drop (place + 1) doc)) in
        let at_is : place + 1 + s ≡ attr_at a place d = omega arith in
        let cut_is : n ≡ attr_cut a place d
        = en' ∙ ap (held a) (toks_drop (place + 1 + s) doc) ∙ rw add-one (ap (held a) (sym (drop-drop s (suc place) d) ∙ ap (λ x. drop x (drop (suc place) d)) k)) in
        rw (← start_here ey, m, ← ea) (ap₂ (λ (x z : ℕ). Some (record { at = x; cut = z })) at_is cut_is)

    -- ---- the plan, by the operation

    opens_here : {y : Bool} → y ≡ opens (tok_of t) → y ≡ at_head opens (drop place d)
    opens_here ey = ey ∙ ap opens here ∙ head_test opens refl (drop place d)

    module _ {o : Operation} {r : Option Plan} {y : Bool} where
      pub plan_inserted : o ≡ Insert → y ≡ opens_or_ends (tok_of t) → r ≡ planned (y && ltb 0 place) place 0 → r ≡ plan_of (operation_of o) place (toks piece) (toks doc)
      unfolding good_place
      plan_inserted e ey er =
          let g : y ≡ at_head opens_or_ends (drop place d) = ey ∙ ap opens_or_ends here ∙ head_test opens_or_ends refl (drop place d) in
          rw e (er ∙ plan_by 1 (ap (λ b. b && ltb 0 place) g) refl refl)

      pub plan_removed : {n : ℕ} → o ≡ Remove → y ≡ opens (tok_of t) → n ≡ item_size (drop place (toks doc)) → r ≡ planned (y && ltb 0 place) place n
          → r ≡ plan_of (operation_of o) place (toks piece) (toks doc)
      unfolding good_place
      plan_removed e ey en er = rw e (er ∙ plan_by 2 (ap (λ b. b && ltb 0 place) (opens_here ey)) refl en)

      pub plan_replaced : {n : ℕ} {z : Bool} → o ≡ Replace → y ≡ opens (tok_of t) → z ≡ is_text (toks piece) → n ≡ item_size (drop place (toks doc))
          → r ≡ planned (y && (ltb 0 place || not z)) place n → r ≡ plan_of (operation_of o) place (toks piece) (toks doc)
      unfolding good_place
      plan_replaced e ey ez en er = rw e (er ∙ plan_by 3 (ap₂ (λ b x. b && (ltb 0 place || not x)) (opens_here ey) ez) refl en)

  module _ {o : Operation} where
    pub plan_set : {r : Option Plan} → o ≡ Set → r ≡ head_of place (toks piece) (toks doc) → r ≡ plan_of (operation_of o) place (toks piece) (toks doc)
    unfolding plan_of head_of good_place
    plan_set e er = rw e er

    pub plan_no_head : {q : Option Plan} → o ≡ Drop → q ≡ head_of place (toks piece) (toks doc) → q ≡ None → None ≡ plan_of (operation_of o) place (toks piece) (toks doc)
    unfolding plan_of head_of good_place
    plan_no_head e eq n = rw e (go (is_start (drop place d)) (attr_at (attr_number p) place d) (attr_cut (attr_number p) place d) (sym n ∙ eq))
      where
        go : (b : Bool) (at cut : ℕ) → None ≡ planned b at cut → None ≡ planned (b && ltb 0 cut) at cut
        go true at cut e = cc
        go false at cut e = refl

    pub plan_dropped : {q r : Option Plan} {v : Plan} → o ≡ Drop → q ≡ head_of place (toks piece) (toks doc) → q ≡ Some v → r ≡ planned (ltb 0 v.cut) v.at v.cut
        → r ≡ plan_of (operation_of o) place (toks piece) (toks doc)
    unfolding plan_of head_of good_place
    plan_dropped {v = v} e eq s er = rw e (er ∙ go (is_start (drop place d)) (attr_at (attr_number p) place d) (attr_cut (attr_number p) place d) (sym s ∙ eq))
      where
        go : (b : Bool) (at cut : ℕ) → Some v ≡ planned b at cut → planned (ltb 0 v.cut) v.at v.cut ≡ planned (b && ltb 0 cut) at cut
        go true at cut f = let w : v ≡ record { at = at; cut = cut } = cc in ap (λ (x : Plan). planned (ltb 0 x.cut) x.at x.cut) w
        go false at cut f = cc
