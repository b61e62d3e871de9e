-- `dtd_words::skip_white` meets its contract: how many bytes are taken. Assumes nothing.
use borrow.Author.Rules.{rules}
use Rattle.std.proofs.lemmas.List.{take_rest}
use Rattle.std.proofs.Common.{◌∙◌, ◌-◌, length, take, drop, tests}
use Rattle.std.proofs.lemmas.Iterator.{YieldsList-from_slice}
use Rattle.std.proofs.lemmas.Iterator.Consumers.{count_from_yields_List}
use Rattle.std.proofs.lemmas.Iterator.Search.{YieldsList-from_take_while}
use Rattle.std.proofs.lemmas.List.Folds.{length-prefix_len}
use Rattle.paper.specs.Dtd.Letters.{is_white}
use Rattle.dtd_words.specs.Places.{behind_run}
use Rattle.dtd_words.proofs.skip_white.Goals as goal

pub returns : goal.returns
returns c =
    let text = c.args.text.now in
    let s = take (length text - c.args.at) (drop c.args.at text) in
    let n = count_from_yields_List c.take_while.result _ c.count.ensures.ran (YieldsList-from_take_while _ is_white (YieldsList-from_slice s (cc)) c.take_while.ensures.closure c.take_while.ensures.done (λ x b q k. search (rules, tests))) ∙ length-prefix_len is_white s in
    behind_run is_white text c.args.at c.count.result c.requires (n ∙ rw take_rest)
