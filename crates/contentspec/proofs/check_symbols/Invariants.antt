-- `contentspec::check_symbols` meets its contract. The loop's invariant is `Passing`. Assumes nothing.
use Rattle.contentspec.specs.Symbols.{Passing}
use Rattle.contentspec.proofs.check_symbols.Given as goal

abbrev pub invariant-loop-i : goal.invariant-loop-i
invariant-loop-i l = Passing l.file l.at l.n l.top l.i
