-- `dtd_names::name_of` meets its contract: how many bytes are taken. Assumes nothing.
use borrow.Author.Rules.{rules}
use Rattle.std.proofs.Common.{◌∙◌, drop, tests}
use Rattle.std.proofs.lemmas.Iterator.{YieldsList-from_slice}
use Rattle.std.proofs.lemmas.Iterator.Consumers.{count_from_yields_List}
use Rattle.std.proofs.lemmas.Iterator.Search.{YieldsList-from_take_while}
use Rattle.std.proofs.lemmas.List.Folds.{length-prefix_len}
use Rattle.paper.specs.Dtd.Letters.{is_more}
use Rattle.dtd_names.specs.Spelled.{run_taken}
use Rattle.dtd_names.proofs.name_of.Goals as goal

pub returns : goal.returns
returns c =
    let s = c.rest_of-rest.result.now in
    let n = count_from_yields_List c.take_while.result _ c.count.ensures.ran (YieldsList-from_take_while _ is_more (YieldsList-from_slice s (cc)) c.take_while.ensures.closure c.take_while.ensures.done (λ x b q k. search (rules, tests))) ∙ length-prefix_len is_more s in
    rw (n, c.rest_of-rest.ensures) (run_taken is_more (drop c.args.at c.args.text.now))
