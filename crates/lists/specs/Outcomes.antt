-- The answer to a list with what it leaves, as the paper's outcome; a list of which no edit is done. Assumes nothing.
use Rattle.std.specs.Prelude.{◌≡◌, Bool, true, false, not, List, [], ℕ, ℤ}
use Rattle.std.proofs.Common.{sym, ◌∙◌, arith}
use Rattle.std.proofs.Math.Path.{ap}
use borrow.Author.Tests.{ne_eqb, not-true, not-false}
use Rattle.paper.specs.Shape.{shape_of}
use Rattle.paper.specs.Table.{proper}
use Rattle.paper.specs.Edits.{Request, Outcome, edit_by, edit}
use Rattle.paper.specs.Lists as paper
use Rattle.paper.specs.Lists.{Split, fault, edits, split_list, fault_of, lent_with, next_edit, number_of, edit_list}
use Rattle.edits.specs.Outcomes.{outcome_of, refusal}
use Rattle.edit_list.specs.Places.{edit_at, request_of}
use Rattle.edit_list.specs.Left.{Whole, left_all, left_next}
use Rattle.lists.specs.declared.Listed.{Listed}

abbrev pub listed_of : Listed → (buffer : List ℕ) → (counts : List ℤ) → paper.Listed Outcome
listed_of r buffer counts = record { last = outcome_of r.last buffer [] counts; done = r.done }

abbrev pub list_refusal : (number used : ℕ) → Listed
list_refusal number used = record { last = refusal number 0 used; done = 0 }

module _ (table buffer : List ℕ) (used : ℕ) (list : List ℕ) (counts : List ℤ) where
  -- the list's own fault: "before any edit is run"
  pub own_fault : {n : ℕ} {r : Listed} → n ≡ fault_of (split_list list) → (n ≡ 0 → ⊥) → r ≡ list_refusal n used
      → listed_of r buffer counts ≡ edit_list table buffer used list counts
  unfolding edit_list
  own_fault {n} {r} e h er = ap (λ x. listed_of x buffer counts) er ∙ go (split_list list) e
    where
      go : (s : Split) → n ≡ fault_of s → listed_of (list_refusal n used) buffer counts ≡ paper.listed (next_edit table) number_of (lent_with buffer used counts) s
      go (fault k) e = ap (λ x. listed_of (list_refusal x used) buffer counts) e
      go (edits es) e = absurd (h e)

  -- table (13) and document shape (4) are answers of the first edit
  module _ {k : ℕ} (ek : k ≡ fault_of (split_list list)) (z : k ≡ 0) where
    pub has_edits : 0 ≡ fault_of (split_list list)
    has_edits = sym z ∙ ek

    first_refused : (n : ℕ) → (n ≡ 0 → ⊥) → ((q : Request) → next_edit table (lent_with buffer used counts 0) q ≡ lent_with buffer used counts n)
        → listed_of (list_refusal n used) buffer counts ≡ edit_list table buffer used list counts
    unfolding edit_list
    first_refused n h every =
        let w : Whole list = left_all list has_edits in
        let next = left_next list 0 0 w.all w.left w.some in
        let q : Request = request_of list (edit_at list 0) in
        rw (w.splits, next.first, every q, ne_eqb n 0 h)

    module _ {y : Bool} (ey : y ≡ proper table) where
      pub first_table : {r : Listed} → not y ≡ true → r ≡ list_refusal 13 used → listed_of r buffer counts ≡ edit_list table buffer used list counts
      unfolding edit
      first_table t e = ap (λ x. listed_of x buffer counts) e ∙ first_refused 13 (λ k. omega arith) (λ q. rw (← ey, not-true y t))

      pub first_shape : {r : Listed} {x : Bool} → not y ≡ false → x ≡ shape_of buffer used → not x ≡ true → r ≡ list_refusal 4 used
          → listed_of r buffer counts ≡ edit_list table buffer used list counts
      unfolding edit edit_by
      first_shape {r} {x} t ex g e = ap (λ x. listed_of x buffer counts) e ∙ first_refused 4 (λ k. omega arith) (λ q. rw (← ey, not-false y t, ← ex, not-true x g))
