-- What the call for a list comes to. Assumes nothing.
use Rattle.std.specs.Prelude.{◌≡◌, refl, ◌≢◌, List, ℕ, ℤ, take}
use Rattle.paper.specs.Edits.{Request, Outcome}
use Rattle.paper.specs.Lists.{fault, edits, split_list, Listed, lent_with, next_edit, number_of, edit_list}
use Rattle.list_laws.specs.Singles.{by_singles, run_singles, singles_stand}

module _ (table buffer : List ℕ) (used : ℕ) (counts : List ℤ) where
  -- edits, made as single calls on what was lent
  abbrev pub singles : List Request → Listed Outcome
  singles = by_singles (next_edit table) number_of (lent_with buffer used counts 0)

  module _ (list : List ℕ) where
    -- The list's own fault: "before any edit is run"
    pub list_refused : (n : ℕ) → split_list list ≡ fault n → edit_list table buffer used list counts ≡ record { last = lent_with buffer used counts n; done = 0 }
    unfolding edit_list
    list_refused n e = rw e

    -- "Document, last answer and number of edits done are those of single calls."
    pub list_is_singles : (es : List Request) → split_list list ≡ edits es → edit_list table buffer used list counts ≡ singles es
    unfolding edit_list
    list_is_singles es e = rw e (run_singles (next_edit table) number_of es (lent_with buffer used counts 0))

    -- "what was done before stands"; "Demand 1's untouched memory holds for the refused edit alone": where a refused single call keeps
    -- what it was made on, a list that ends in a refusal keeps what its edits that were done left.
    module _ (Keeps : Outcome → Outcome → Type 0) (keeps : (o : Outcome) (q : Request) → (next_edit table o q).number ≢ 0 → Keeps o (next_edit table o q)) where
      pub done_stands : (es : List Request) → split_list list ≡ edits es
          → let o : Listed Outcome = edit_list table buffer used list counts in o.last.number ≢ 0 → Keeps (singles (take o.done es)).last o.last
      done_stands es e = rw (list_is_singles es e) (singles_stand (next_edit table) number_of Keeps keeps es (lent_with buffer used counts 0) refl)
