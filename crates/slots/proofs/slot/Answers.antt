use Rattle.std.proofs.Common.{◌∙◌, rules, tests}
use Rattle.std.proofs.lemmas.Iterator.{YieldsList-from_slice}
use Rattle.std.proofs.lemmas.Iterator.Consumers.{count_from_yields_List}
use Rattle.std.proofs.lemmas.Iterator.Search.{YieldsList-from_take_while}
use Rattle.paper.specs.Tokens.{tok_of}
use Rattle.slots.specs.Counts.{passes, slot_counted}
use Rattle.slots.proofs.slot.Goals as goal

pub returns : goal.returns
returns c =
    let a = c.args in
    count_from_yields_List c.take_while.result _ c.count.ensures.ran
    (YieldsList-from_take_while _ (λ t. passes a.a (tok_of t)) (YieldsList-from_slice a.rest.now (cc)) c.take_while.ensures.closure c.take_while.ensures.done (λ x b q k. search (rules, tests)))
    ∙ slot_counted a.a a.rest.now
