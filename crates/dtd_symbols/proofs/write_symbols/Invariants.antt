-- `dtd_symbols::write_symbols` meets its contract: the text left of place i leads from what is held to the whole. Assumes nothing.
use Rattle.dtd_symbols.specs.Written.{Going}
use Rattle.dtd_symbols.proofs.write_symbols.Given as goal

abbrev pub invariant-loop-i : goal.invariant-loop-i
invariant-loop-i l = Going l.text l.names l.from l.to l.initial.out l.i l.held l.depths l.symbols l.out
