-- The edit at a place of a list. Assumes nothing.
use Rattle.std.specs.Prelude.{◌≡◌, refl, Bool, true, false, List, [], ◌∷◌, ℕ, suc, ◌+◌, ◌-◌, ◌≤◌, ◌<◌, leb, length, take, drop, get_or}
use Rattle.std.proofs.Common.{sym, ap, ◌∙◌, arith, leb-true, length-drop, drop-drop}
use Rattle.paper.specs.Edits.{Request}
use Rattle.paper.specs.Lists.{fault, before, split_from}
use Rattle.basic_laws.specs.Bools.{clash}
use Rattle.basic_laws.specs.Lists.{drop_next}
use Rattle.edit_list.specs.declared.Edit.{Edit}

-- a whole edit begins the numbers
abbrev pub whole : List ℕ → Bool
whole [] = false
whole (op ∷ []) = false
whole (op ∷ place ∷ []) = false
whole (op ∷ place ∷ n ∷ rest) = leb n (length rest)

-- it is within the list
pub record Within (list : List ℕ) (at : ℕ) : Type 0 where
  pub head : at + 3 ≤ length list
  pub piece : at + 3 + get_or list (at + 2) 0 ≤ length list

-- the edit at a place
abbrev pub edit_at : List ℕ → ℕ → Edit
edit_at list at = record { operation = get_or list at 0; place = get_or list (at + 1) 0; from = at + 3; to = at + 3 + get_or list (at + 2) 0 }

-- .. as it is handed out, its piece within the list
pub record Handed (list : List ℕ) (at : ℕ) (e : Edit) : Type 0 where
  pub same : e ≡ edit_at list at
  pub begins : e.from ≤ e.to
  pub ends : e.to ≤ length list

-- what it asks for
abbrev pub request_of : List ℕ → Edit → Request
request_of list e = record { operation = e.operation; place = e.place; piece = take (e.to - e.from) (drop e.from list) }

pub handed : (list : List ℕ) (at : ℕ) → Within list at → Handed list at (edit_at list at)
handed list at w = record { same = refl; begins = omega arith; ends = w.piece }

module _ (list : List ℕ) (at : ℕ) where
  abbrev n : ℕ
  n = get_or list (at + 2) 0

  -- what stands from the place on, taken apart
  parts : at + 3 ≤ length list → drop at list ≡ get_or list at 0 ∷ get_or list (at + 1) 0 ∷ n ∷ drop (at + 3) list
  parts h =
      let one : at + 1 + 1 ≡ at + 2 = omega arith in
      let two : at + 2 + 1 ≡ at + 3 = omega arith in
      drop_next list at (omega arith)
      ∙ ap (λ r. get_or list at 0 ∷ r) (drop_next list (at + 1) (omega arith) ∙ ap (λ k. get_or list (at + 1) 0 ∷ drop k list) one)
      ∙ ap (λ r. get_or list at 0 ∷ get_or list (at + 1) 0 ∷ r) (drop_next list (at + 2) (omega arith) ∙ ap (λ k. n ∷ drop k list) two)

  short : (r : List ℕ) → length r < 3 → false ≡ whole r
  short [] h = refl
  short (op ∷ []) h = refl
  short (op ∷ place ∷ []) h = refl
  short (op ∷ place ∷ n ∷ r) h = absurd (omega arith)

  -- ---- the test

  pub whole_short : length list - at < 3 → false ≡ whole (drop at list)
  whole_short h = short (drop at list) (omega (arith, length-drop at list))

  pub whole_long : 3 ≤ length list - at → leb n (length list - at - 3) ≡ whole (drop at list)
  whole_long h =
      let l : length list - at - 3 ≡ length (drop (at + 3) list) = omega (arith, length-drop (at + 3) list) in
      ap (leb n) l ∙ sym (ap whole (parts (omega arith)))

  -- ---- a whole edit

  three : (r : List ℕ) → whole r ≡ true → 3 ≤ length r
  three [] w = clash w refl
  three (op ∷ []) w = clash w refl
  three (op ∷ place ∷ []) w = clash w refl
  three (op ∷ place ∷ n ∷ r) w = omega arith

  module _ (w : whole (drop at list) ≡ true) where
    head : at + 3 ≤ length list
    head = omega (arith, three (drop at list) w, length-drop at list)

    fits : leb n (length (drop (at + 3) list)) ≡ true
    fits = sym (ap whole (parts head)) ∙ w

    pub whole_within : Within list at
    whole_within = let h = leb-true n (length (drop (at + 3) list)) fits in record { head = head; piece = omega (arith, length-drop (at + 3) list, head) }

    -- it is split off, and the next one begins behind it
    pub split_whole : (more : ℕ) → split_from (suc more) (drop at list) ≡ before (request_of list (edit_at list at)) (split_from more (drop (edit_at list at).to list))
    split_whole more =
        let k : at + 3 + n - (at + 3) ≡ n = omega arith in
        rw (parts head, fits, k, drop-drop n (at + 3) list)

  -- what begins with no whole edit ends inside one
  pub split_broken : (more : ℕ) → at < length list → whole (drop at list) ≡ false → split_from (suc more) (drop at list) ≡ fault 4
  split_broken more h w = go (drop at list) (omega (arith, length-drop at list)) w
    where
      go : (r : List ℕ) → 0 < length r → whole r ≡ false → split_from (suc more) r ≡ fault 4
      go [] h w = absurd (omega arith)
      go (op ∷ []) h w = refl
      go (op ∷ place ∷ []) h w = refl
      go (op ∷ place ∷ n ∷ r) h w = rw w
