-- `contentspec::check_symbols` meets its contract. The loop's invariant is `Passing`. Assumes nothing.
use borrow.Author.Rules.{rules}
use Rattle.reading.specs.Ended.{handed}
use Rattle.contentspec.specs.Symbols.{passed_none, passed_stop, passed_one, passed_all}
use Rattle.contentspec.proofs.check_symbols.Goals as goal

pub loop-i-init : goal.loop-i-init
loop-i-init c = search (passed_none, rules)

pub returns-in_err-number_in : goal.returns-in_err-number_in
returns-in_err-number_in c =
    rw (handed c.from_residual.ensures.1) (passed_stop _ _ _ _ c.loop-i.invariant c.loop-i-test.true _ c.in_err-number_in.ensures)

pub loop-i-preserved : goal.loop-i-preserved
loop-i-preserved c = search (passed_one, c.in_ok-number_in.ensures)

pub returns : goal.returns
returns c = search (passed_all, rules)
