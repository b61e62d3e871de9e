-- The promises of item 9, proved: a line for each statement. Assumes nothing.
use Rattle.std.specs.Prelude.{◌≡◌, refl, ◌↔◌, List, [], ◌∷◌, ℕ, take}
use Rattle.std.proofs.Common.{subst}
use Rattle.paper.specs.Schema.{Schema}
use Rattle.paper.specs.Rules.{Rules, of_schema}
use Rattle.paper.specs.Judgement.{checking, check}
use Rattle.paper.specs.Counts.{TrueCounts, checked_counts}
use Rattle.paper.specs.Validity.{ValidDocument}
use Rattle.promises.specs.Calls.{Calls, papers, Faithful, papers_faithful}
use Rattle.promises.specs.Statements.{Translated}
use Rattle.promises.proofs.Theorems.{by_paper, check_valid, check_by_expressions, table_reads, demand_3}
use Rattle.promises.proofs.CountTheorems.{check_writes}
use Rattle.promises.specs.Right.{TrueBeside}
use Rattle.promises.specs.Groups as promised
use Rattle.promises.proofs.Grouped as grouped
use Rattle.promises.proofs.GroupOne as one

valid_iff : (s : Schema) (table : List ℕ) → Translated papers s table
    → (buffer : List ℕ) (used : ℕ) → ((checking (of_schema s) buffer used).0 ≡ 0) ↔ ValidDocument s buffer used
valid_iff s table t buffer used =
    rw (check_by_expressions papers papers_faithful s table t buffer used [] (check table buffer used, checked_counts table buffer used []) refl) at
    (check_valid papers papers_faithful s table t buffer used [] (check table buffer used, checked_counts table buffer used []) refl)

module _ (calls : Calls) (is : Faithful calls) where
  pub group_determinate : promised.GroupDeterminate calls
  group_determinate i o p a b = grouped.determinate i o p (is.performs_group _ _ _ _ _ o a) (is.performs_group _ _ _ _ _ p b)

  pub group_answers_lem : promised.GroupAnswers calls
  group_answers_lem table buffer used list second o p = grouped.answers table buffer used list second o (is.performs_group table buffer used list second o p)

  pub group_order : promised.GroupOrder calls
  group_order table buffer used list second o p = grouped.order table buffer used list second o (is.performs_group table buffer used list second o p)

  pub group_keeps : promised.GroupKeeps calls
  group_keeps table buffer used list second o p = grouped.keeps table buffer used list second o (is.performs_group table buffer used list second o p)

  pub group_second : promised.GroupSecond calls
  group_second table buffer used list second o p = grouped.second_holds table buffer used list second o (is.performs_group table buffer used list second o p)

  pub group_lengths : promised.GroupLengths calls
  group_lengths table buffer used list second o p = grouped.lengths table buffer used list second o (is.performs_group table buffer used list second o p)

  pub group_demand_3 : promised.GroupDemand3 calls
  group_demand_3 s table t buffer used v list second es x room o p =
      let u = by_paper calls is s table t in
      grouped.group_right s (valid_iff s table u) table u buffer used v list second es x room o (is.performs_group table buffer used list second o p)

  pub group_then_run : promised.GroupThenRun calls
  group_then_run s table t buffer used v list second es x room o p counts c e =
      let w : ValidDocument s o.buffer o.used = (group_demand_3 s table t buffer used v list second es x room o p).valid_after in
      let z : c.0.0 ≡ 0 = (check_valid calls is s table t o.buffer o.used counts c e).1 w in
      let d : TrueBeside s o.buffer o.used c.1 =
      subst (λ (R : Rules). TrueCounts R.elements (take o.used o.buffer) c.1) (table_reads calls is s table t)
      ((check_writes calls is table o.buffer o.used counts c e).0 z) in
      (z, d, demand_3 calls is s table t o.buffer o.used w c.1 d)

  pub group_of_one : promised.GroupOfOne calls
  group_of_one s table t buffer used v list second q x room o p lent counts c u e n =
      one.one_is_edit s buffer used q o lent counts u (group_demand_3 s table t buffer used v list second (q ∷ []) x room o p)
      (demand_3 calls is s table t buffer used v counts c (record { asked = q; lent = lent; came = u } ∷ []) (e, tt)).0 n
