-- The promises of item 7, proved: a line for each statement. Assumes nothing.
use Rattle.promises.specs.Calls.{Calls, Faithful}
use Rattle.promises.specs.Counts as promised
use Rattle.promises.proofs.Counted as counted

pub true_on_tree : promised.TrueOnTree
true_on_tree = counted.on_tree

module _ (calls : Calls) (is : Faithful calls) where
  pub edit_true : promised.EditTrue calls
  edit_true table buffer used q second counts o p = counted.edit_true table buffer used q second counts o (is.performs table buffer used q second counts o p)

  pub list_true : promised.ListTrue calls
  list_true table buffer used list counts o p = counted.list_true table buffer used list counts o (is.performs_list table buffer used list counts o p)

  pub edit_fifteen : promised.EditFifteen calls
  edit_fifteen table buffer used q second counts o p = counted.edit_fifteen table buffer used q second counts o (is.performs table buffer used q second counts o p)

  pub edit_never_15 : promised.EditNever15 calls
  edit_never_15 table buffer used q second counts o p = counted.edit_never_15 table buffer used q second counts o (is.performs table buffer used q second counts o p)

  pub check_writes : promised.CheckWrites calls
  check_writes table buffer used counts o c = counted.check_writes table buffer used counts o (is.checks table buffer used counts o c)

  pub tell_determinate : promised.TellDeterminate calls
  tell_determinate i o p a b = counted.tell_determinate i o p (is.tells _ _ _ o a) (is.tells _ _ _ p b)

  pub tell_answers : promised.TellAnswers calls
  tell_answers table counts name o t = counted.tell_answers table counts name o (is.tells table counts name o t)

  pub tells_tree : promised.TellsTree calls
  tells_tree table buffer used counts name o t = counted.tells_tree table buffer used counts name o (is.tells table counts name o t)
