-- The promises of item 2, proved: a line for each statement. Assumes nothing.
use Rattle.std.specs.Prelude.{List, [], ◌∷◌, ℕ, ℤ}
use Rattle.paper.specs.Schema.{Schema}
use Rattle.paper.specs.Validity.{ValidDocument}
use Rattle.paper.specs.Requests.{Request}
use Rattle.paper.specs.Edits.{Outcome}
use Rattle.promises.specs.Calls.{Calls, Faithful}
use Rattle.promises.specs.Right.{TrueBeside, Right}
use Rattle.promises.specs.Statements.{Translated}
use Rattle.promises.proofs.Theorems.{demand_3}
use Rattle.promises.specs.Undo as promised
use Rattle.promises.proofs.Undone as undone

pub needs_most : promised.NeedsMost
needs_most = undone.most

module _ (calls : Calls) (is : Faithful calls) where
  open calls use {Performs}

  pub edit_second : promised.EditSecond calls
  edit_second table buffer used q second counts o p = undone.edit_second table buffer used q second counts o (is.performs table buffer used q second counts o p)

  pub back_reads : promised.BackReads calls
  back_reads table buffer used q second counts o p = undone.reads table buffer used q second counts o (is.performs table buffer used q second counts o p)

  right : (s : Schema) (table : List ℕ) → Translated calls s table → (buffer : List ℕ) (used : ℕ) → ValidDocument s buffer used
      → (q : Request) (second : List ℕ) (counts : List ℤ) → TrueBeside s buffer used counts
      → (o : Outcome) → Performs table buffer used q second counts o → Right s buffer used q second counts o
  right s table t buffer used v q second counts c o p =
      (demand_3 calls is s table t buffer used v counts c (record { asked = q; lent = second; came = o } ∷ []) (p, tt)).0

  pub undo_done : promised.UndoDone calls
  undo_done s table t = undone.undo calls s table (right s table t)

  pub redo_done : promised.RedoDone calls
  redo_done s table t = undone.redo calls s table (right s table t)

  pub run_back : promised.RunBack calls
  run_back s table t = undone.run_back calls s table (right s table t)
