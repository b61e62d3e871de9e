-- The fault of a document's IDs and references, from both passes. Assumes nothing.
use Rattle.std.specs.Prelude.{◌≡◌, refl, cond, List, [], ◌∷◌, map, ℕ, zero, suc, ◌≤◌, length, take}
use Rattle.std.proofs.Common.{sym, ap, ap₂, ◌∙◌}
use Rattle.paper.specs.Basics.{elem}
use Rattle.paper.specs.Tokens.{toks}
use Rattle.paper.specs.Codes.{number_of}
use Rattle.paper.specs.declared.Fault.{Fault}
use Rattle.paper_laws.specs.Codes.{stands_first}
use Rattle.paper.specs.Rules.{of_table}
use Rattle.paper.specs.Judgement.{Answer, before, is_id, is_ref, value_in, repeated, dangling, key_fault}
use Rattle.field.specs.Field.{marked}
use Rattle.key_walk.specs.declared.Walk.{Walk}
use Rattle.key_walk.specs.Walk.{left_none, Found}
use Rattle.keys.specs.declared.Refs.{Refs}
use Rattle.keys.specs.Marking.{ids_left, refs_left}
use Rattle.keys.specs.Turns.{Clean}
use Rattle.keys.specs.Looking.{unmarked}

-- the fault of the keys that are left before a walk
abbrev pub fault_from : (table doc : List ℕ) → Walk → Answer
fault_from table doc w =
    before (repeated [] (ids_left table doc w)) (dangling (map value_in (ids_left table doc w)) (refs_left table doc w))

-- a field that holds the values of a list tells of references what the list does
unmarked_dangling : (field ids : List ℕ) → ((v : ℕ) → marked field v ≡ elem v ids) → (l : List (ℕ × ℕ)) → unmarked field l ≡ dangling ids l
unmarked_dangling field ids same [] = refl
unmarked_dangling field ids same (p ∷ l) = ap₂ (λ b r. cond b r (12, p.0)) (same p.1) (unmarked_dangling field ids same l)

module _ (table doc : List ℕ) (from : Walk) where
  abbrev references : Answer
  references = dangling (map value_in (ids_left table doc from)) (refs_left table doc from)

  -- an ID is met twice
  pub fault_twice : (f : Fault) → (number_of f.refusal, f.place) ≡ repeated [] (ids_left table doc from) → (number_of f.refusal, f.place) ≡ fault_from table doc from
  fault_twice f e = stands_first f references ∙ ap (λ a. before a references) e

  -- none is: the references decide
  pub fault_dangling : {field : List ℕ} {refs : Refs} → Clean table doc from field refs → {a : Answer} → a ≡ unmarked field (refs_left table doc refs.at)
      → a ≡ fault_from table doc from
  fault_dangling {field} c e =
      e ∙ ap (unmarked field) c.same ∙ unmarked_dangling field (map value_in (ids_left table doc from)) c.holds (refs_left table doc from)
      ∙ ap (λ a. before a references) c.none

-- ---- from the front

abbrev pub front : Walk
front = record { place = 0; element = 0; attribute = 0 }

module _ (table doc : List ℕ) {first : Walk} (k : Found table doc front first) where
  -- the keys from the first one on are all
  pub key_first : {a : Answer} → a ≡ fault_from table doc first → a ≡ key_fault (of_table table) (toks doc)
  key_first e = e ∙ ap₂ (λ ids refs. before (repeated [] ids) (dangling (map value_in ids) refs)) k.came.ids k.came.refs

  -- there is none
  pub key_none : length doc ≤ first.place → (0, 0) ≡ key_fault (of_table table) (toks doc)
  key_none h =
      ap₂ (λ ids refs. before (repeated [] ids) (dangling (map value_in ids) refs))
      (sym (left_none (is_id (of_table table)) doc first h) ∙ k.came.ids)
      (sym (left_none (is_ref (of_table table)) doc first h) ∙ k.came.refs)
