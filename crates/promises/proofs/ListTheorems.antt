-- The promises of item 6, proved: a line for each statement. Assumes nothing.
use Rattle.promises.specs.Calls.{Calls, papers, Faithful, papers_faithful}
use Rattle.promises.proofs.Theorems.{by_paper, runs_by_paper, demand_3}
use Rattle.promises.specs.Lists as promised
use Rattle.promises.proofs.Listed as listed

pub list_forms : promised.ListForms
list_forms = listed.forms

module _ (calls : Calls) (is : Faithful calls) where
  pub list_determinate : promised.ListDeterminate calls
  list_determinate i o p a b = listed.determinate i o p (is.performs_list _ _ _ _ _ o a) (is.performs_list _ _ _ _ _ p b)

  pub list_answers_lem : promised.ListAnswers calls
  list_answers_lem table buffer used list counts o p = listed.answers table buffer used list counts o (is.performs_list table buffer used list counts o p)

  pub list_faults : promised.ListFaults calls
  list_faults table buffer used list counts o p = listed.faults table buffer used list counts o (is.performs_list table buffer used list counts o p)

  pub list_is_singles : promised.ListIsSingles calls
  list_is_singles table buffer used list counts o p es i l r =
      listed.singles table buffer used list counts o (is.performs_list table buffer used list counts o p) es i l (runs_by_paper calls is table buffer used counts l r)

  pub list_stands : promised.ListStands calls
  list_stands table buffer used list counts o p es i n =
      let (none, some) = listed.stands table buffer used list counts o (is.performs_list table buffer used list counts o p) es i n in
      (none, λ x y. some x (is.performs_list table buffer used _ counts x y))

  pub list_right : promised.ListRight calls
  list_right s table t buffer used v list counts c o p =
      listed.right s table buffer used v counts c (demand_3 papers papers_faithful s table (by_paper calls is s table t) buffer used v counts c) list o (is.performs_list table buffer used list counts o p)
