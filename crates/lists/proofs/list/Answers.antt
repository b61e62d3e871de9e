-- `lists::list` meets its contract. Assumes nothing.
use mathlib.Core.Path.{sym, ◌∙◌}
use Rattle.paper_laws.specs.Codes.{refused}
use Rattle.lists.specs.Outcomes.{own_fault}
use Rattle.lists.proofs.list.Goals as goal

pub returns-in-Err : goal.returns-in-Err
returns-in-Err c =
    let a = c.args in
    own_fault a.table.now a.doc.now a.used a.list.now a.counts.now (c.number.ensures ∙ c.in-Err.ensures) (λ z. refused c.in-Err.refusal (sym c.number.ensures ∙ z)) c.none_done.ensures

pub good_list-requires : goal.good_list-requires
good_list-requires c = c.in-Ok.ensures

pub returns-in-Ok : goal.returns-in-Ok
returns-in-Ok c = c.good_list.ensures
