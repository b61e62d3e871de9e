-- `judge::check` meets its contract. Assumes nothing.
use mathlib.Core.Bool.{not}
use mathlib.Core.Path.{sym, ap}
use lib.Seq.{length-take-le}
use borrow.Author.Rules.{rules}
use Rattle.judge.specs.Check.{is_proper, shape_fits, check_table, check_shape, check_judged}
use Rattle.judge.proofs.check.Goals as goal

pub returns-then-not-proper : goal.returns-then-not-proper
returns-then-not-proper c = search check_table

pub returns-then-not-shape : goal.returns-then-not-shape
returns-then-not-shape c = search check_shape

pub slice_bounds-judged_whole-end : goal.slice_bounds-judged_whole-end
slice_bounds-judged_whole-end c =
    let f = shape_fits c.args.doc.now c.args.used c.shape.ensures (ap not c.if-not-shape.false) in
    sym (length-take-le _ _ f.long)

pub judged_whole-requires : goal.judged_whole-requires
judged_whole-requires c =
    let f = shape_fits c.args.doc.now c.args.used c.shape.ensures (ap not c.if-not-shape.false) in
    let p = is_proper c.args.table.now c.proper.ensures (ap not c.if-not-proper.false) in
    search (rules, f.few, f.long, p)

pub returns : goal.returns
returns c = search (rules, check_judged)
