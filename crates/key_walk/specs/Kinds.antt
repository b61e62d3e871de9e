-- Which attributes of an element are IDs, and which are references, by the sets of its block. Assumes nothing.
use Rattle.std.specs.Prelude.{◌≡◌, Bool, true, false, not, ◌||◌, List, ℕ, ◌^◌, ◌≤◌, ◌<◌, ltb, get_or}
use Rattle.std.proofs.Common.{sym, ap, ◌∙◌, inl, inr, ltb-true}
use Rattle.std.proofs.Math.Bool.{and_comm, and-eq-true_iff}
use Rattle.std.proofs.lemmas.Bool.{not-true, not-false}
use Rattle.std.specs.Int.Bits.{bit_or}
use Rattle.std.proofs.lemmas.Nat.{or_lt}
use Rattle.paper.specs.Sets.{bit}
use Rattle.paper.specs.Table.{block, cell, allowed_at, required_at, id_at, idref_at, idrefs_at, within, apart, single, proper_sets, proper}
use Rattle.paper.specs.Rules.{of_table}
use Rattle.paper.specs.Judgement.{is_id, is_ref}
use Rattle.basic_laws.specs.Bools.{either, meet}
use Rattle.paper_laws.specs.Basics.{every_iff}
use Rattle.paper_laws.specs.Words.{bit_of_or, bit_below, bit_past}
use Rattle.table_laws.specs.Parts.{table_parts, block_parts}

-- an attribute of 64 or more is in no set
pub not_in : (set a : ℕ) → set < 2 ^ 64 → 64 ≤ a → false ≡ bit set a
not_in set a h l = sym (bit_past 64 set a h l)

-- ---- as the judgement has them

-- "the three kinds lie in allowed"
record InAllowed (b : List ℕ) : Type 0 where
  id_in : within (cell b id_at) (cell b allowed_at) ≡ true
  idref_in : within (cell b idref_at) (cell b allowed_at) ≡ true
  idrefs_in : within (cell b idrefs_at) (cell b allowed_at) ≡ true

in_allowed : (b : List ℕ) → proper_sets b ≡ true → InAllowed b
unfolding proper_sets
in_allowed b e =
    let (e, s) = (and-eq-true_iff _ (single (cell b id_at))).0 e in
    let (e, s) = (and-eq-true_iff _ (apart (cell b idref_at) (cell b idrefs_at))).0 e in
    let (e, s) = (and-eq-true_iff _ (apart (cell b id_at) (cell b idrefs_at))).0 e in
    let (e, s) = (and-eq-true_iff _ (apart (cell b id_at) (cell b idref_at))).0 e in
    let (e, idrefs) = (and-eq-true_iff _ (within (cell b idrefs_at) (cell b allowed_at))).0 e in
    let (e, idref) = (and-eq-true_iff _ (within (cell b idref_at) (cell b allowed_at))).0 e in
    let (e, id) = (and-eq-true_iff (within (cell b required_at) (cell b allowed_at)) (within (cell b id_at) (cell b allowed_at))).0 e in
    record { id_in = id; idref_in = idref; idrefs_in = idrefs }

-- a member of a set that lies in another is a member of that
member : (w v a : ℕ) → within w v ≡ true → a < 64 → bit w a ≡ true → bit v a ≡ true
member w v a e h m = rw m at ((every_iff (λ k. not (bit w k) || bit v k) 64).0 e a h)

module _ (t : List ℕ) (e : ℕ) {y : Bool} (ey : y ≡ ltb e (get_or t 0 0)) where
  pub is_below : not y ≡ false → e < get_or t 0 0
  is_below n = ltb-true e (get_or t 0 0) (sym ey ∙ not-false y n)

  abbrev b : List ℕ
  b = block t e

  -- those of an undeclared element are neither
  module _ (a : ℕ) (n : not y ≡ true) where
    pub id_none : false ≡ is_id (of_table t) e a
    id_none = rw (sym ey ∙ not-true y n)

    pub ref_none : false ≡ is_ref (of_table t) e a
    ref_none = rw (sym ey ∙ not-true y n)

  module _ (a : ℕ) (p : proper t ≡ true) (n : not y ≡ false) where
    sets : InAllowed b
    sets = in_allowed b (block_parts (get_or t 0 0) b ((table_parts t p).blocks e (is_below n))).sets

    pub id_some : {x : ℕ} {r : Bool} → x ≡ cell b id_at → x < 2 ^ 64 → r ≡ bit x a → r ≡ is_id (of_table t) e a
    id_some {x} {r} ex l er =
        let in_it : bit (cell b id_at) a ≡ true → bit (cell b allowed_at) a ≡ true
        = λ m. member (cell b id_at) (cell b allowed_at) a sets.id_in (bit_below 64 (cell b id_at) a (rw ex at l) m) m in
        rw (sym ey ∙ not-false y n) (er ∙ ap (λ w. bit w a) ex
        ∙ sym (and_comm (bit (cell b allowed_at) a) (bit (cell b id_at) a) ∙ meet (bit (cell b id_at) a) (bit (cell b allowed_at) a) in_it))

    pub ref_some : {x z : ℕ} {r : Bool} → x ≡ cell b idref_at → x < 2 ^ 64 → z ≡ cell b idrefs_at → z < 2 ^ 64 → r ≡ bit (bit_or x z) a
        → r ≡ is_ref (of_table t) e a
    ref_some {x} {z} {r} ex lx ez lz er =
        let in_it : (bit x a || bit z a) ≡ true → bit (cell b allowed_at) a ≡ true = λ m.
        let s : a < 64 = bit_below 64 (bit_or x z) a (or_lt 64 x z lx lz) (bit_of_or x z a ∙ m) in
        elim (either (bit x a) (bit z a) m) [
          | inl m ↦ member (cell b idref_at) (cell b allowed_at) a sets.idref_in s (rw ex at m)
          | inr m ↦ member (cell b idrefs_at) (cell b allowed_at) a sets.idrefs_in s (rw ez at m)
        ] in
        rw (sym ey ∙ not-false y n, ← ex, ← ez) (er ∙ bit_of_or x z a
        ∙ sym (and_comm (bit (cell b allowed_at) a) (bit x a || bit z a) ∙ meet (bit x a || bit z a) (bit (cell b allowed_at) a) in_it))
