-- Values that are IDs, or are referred to no more. Assumes nothing.
use Rattle.std.specs.Prelude.{◌≡◌, refl, Bool, true, false, cond, not, ◌&&◌, ◌||◌, List, [], ◌∷◌, ℕ, ◌/◌, ◌≤◌, ◌<◌, eqb, length, get_or}
use Rattle.std.proofs.Common.{sym, ap, ap₂, ◌∙◌}
use Rattle.std.proofs.Math.Bool.{and-true}
use Rattle.std.proofs.lemmas.Bool.{not-true, not-false}
use Rattle.paper.specs.Basics.{all, cons_if}
use Rattle.paper.specs.Tokens.{tok_of}
use Rattle.paper.specs.Rules.{Rules, of_table}
use Rattle.paper.specs.Judgement.{is_id, is_ref}
use Rattle.paper_laws.specs.Basics.{all_append}
use Rattle.tokens.specs.Sorts.{value_tok}
use Rattle.field.specs.Field.{marked}
use Rattle.key_walk.specs.declared.Walk.{Walk}
use Rattle.key_walk.specs.Walk.{behind}
use Rattle.key_moves.specs.Moves.{value_here}
use Rattle.key_moves.specs.Turns.{passing, passing_step, passing_none}

-- IDs, or references
abbrev pub of_kind : Bool → Rules → ℕ → ℕ → Bool
of_kind ids R e a = cond ids (is_id R e a) (is_ref R e a)

module _ (R : Rules) (e a : ℕ) {ids r : Bool} where
  pub kind_ids : ids ≡ true → r ≡ is_id R e a → r ≡ of_kind ids R e a
  kind_ids t h = rw t h

  pub kind_refs : ids ≡ false → r ≡ is_ref R e a → r ≡ of_kind ids R e a
  kind_refs f h = rw f h

-- the value is an ID, or no reference has it
abbrev pub settled : (field counts : List ℕ) → ℕ → Bool
settled field counts v = marked field v || eqb (get_or counts v 0) 0

-- those of the token at a walk's place, and those from a walk on, are
abbrev pub settled_here : (table : List ℕ) → Bool → Walk → ℕ → (field counts : List ℕ) → Bool
settled_here table ids at t field counts = all (settled field counts) (value_here (of_kind ids (of_table table)) at t)

abbrev pub settled_in : (table : List ℕ) → Bool → (doc : List ℕ) → Walk → (field counts : List ℕ) → Bool
settled_in table ids doc w field counts = all (settled field counts) (passing (of_kind ids (of_table table)) doc w)

-- the IDs that went and the references that came are
abbrev pub both_settled : (table went came : List ℕ) → Walk → (field counts : List ℕ) → Bool
both_settled table went came w field counts = settled_in table true went w field counts && settled_in table false came w field counts

module _ (a b : Bool) {s : Bool} (e : s ≡ a) where
  pub settled_not : not s ≡ true → false ≡ (a && b)
  settled_not n = ap (λ z. z && b) (sym (not-true s n) ∙ e)

  pub settled_both : not s ≡ false → {t : Bool} → t ≡ b → t ≡ (a && b)
  settled_both n {t} f = f ∙ ap (λ z. z && b) (sym (not-false s n) ∙ e)

-- ---- a token

module _ (table : List ℕ) (ids : Bool) (at : Walk) (t : ℕ) (field counts : List ℕ) {y : Bool} (ey : y ≡ value_tok (tok_of t)) where
  pub settled_none : not y ≡ true → true ≡ settled_here table ids at t field counts
  settled_none n = rw (sym ey ∙ not-true y n)

  module _ (n : not y ≡ false) {k : Bool} (ek : k ≡ of_kind ids (of_table table) at.element at.attribute) where
    here : (b : Bool) → k ≡ b → all (settled field counts) (cons_if b (t / 8) []) ≡ settled_here table ids at t field counts
    here b e = ap (λ z. all (settled field counts) (cons_if z (t / 8) [])) (sym (ap₂ ◌&&◌ (sym ey ∙ not-false y n) (sym ek ∙ e)))

    pub settled_other : not k ≡ true → true ≡ settled_here table ids at t field counts
    settled_other o = here false (not-true k o)

    module _ (o : not k ≡ false) {v : ℕ} (ev : v ≡ t / 8) {m : Bool} (em : m ≡ marked field v) where
      one : settled field counts v ≡ settled_here table ids at t field counts
      one = sym (and-true (settled field counts v)) ∙ ap (λ z. all (settled field counts) (z ∷ [])) ev ∙ here true (not-false k o)

      pub settled_id : m ≡ true → true ≡ settled_here table ids at t field counts
      settled_id e = sym (ap (λ z. z || eqb (get_or counts v 0) 0) (sym em ∙ e)) ∙ one

      pub settled_count : m ≡ false → {r : Bool} → r ≡ eqb (get_or counts v 0) 0 → r ≡ settled_here table ids at t field counts
      settled_count e er = er ∙ sym (ap (λ z. z || eqb (get_or counts v 0) 0) (sym em ∙ e)) ∙ one

-- ---- the loop: from here on as from the beginning

pub record Settling (table : List ℕ) (ids : Bool) (doc : List ℕ) (from : Walk) (field counts : List ℕ) (at : Walk) : Type 0 where
  pub same : settled_in table ids doc at field counts ≡ settled_in table ids doc from field counts

pub settling_begin : (table : List ℕ) (ids : Bool) (doc : List ℕ) (from : Walk) {field counts : List ℕ} → Settling table ids doc from field counts from
settling_begin table ids doc from = record { same = refl }

module _ (table : List ℕ) (ids : Bool) (doc : List ℕ) (from : Walk) {field counts : List ℕ} {at : Walk} (s : Settling table ids doc from field counts at) where
  pub settling_end : length doc ≤ at.place → true ≡ settled_in table ids doc from field counts
  settling_end h = ap (all (settled field counts)) (sym (passing_none (of_kind ids (of_table table)) doc at h)) ∙ s.same

  module _ (h : at.place < length doc) {t : ℕ} (et : t ≡ get_or doc at.place 0) {y : Bool} (ey : y ≡ settled_here table ids at t field counts) where
    parts : {to : Walk} → to ≡ behind at (tok_of t) → (y && settled_in table ids doc to field counts) ≡ settled_in table ids doc from field counts
    parts {to} e =
        ap (λ b. b && settled_in table ids doc to field counts) (ey ∙ ap (λ z. settled_here table ids at z field counts) et)
        ∙ sym (all_append (settled field counts) (value_here (of_kind ids (of_table table)) at (get_or doc at.place 0)) (passing (of_kind ids (of_table table)) doc to))
        ∙ ap (all (settled field counts)) (sym (passing_step (of_kind ids (of_table table)) doc at h (e ∙ ap (λ z. behind at (tok_of z)) et))) ∙ s.same

    pub settling_none : not y ≡ true → false ≡ settled_in table ids doc from field counts
    settling_none n = ap (λ b. b && settled_in table ids doc (behind at (tok_of t)) field counts) (sym (not-true y n)) ∙ parts refl

    pub settling_more : {to : Walk} → not y ≡ false → to ≡ behind at (tok_of t) → Settling table ids doc from field counts to
    settling_more {to} n e = record { same = ap (λ b. b && settled_in table ids doc to field counts) (sym (not-false y n)) ∙ parts e }
