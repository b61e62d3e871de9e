-- `dtd_owed::settle` meets its contract: what is kept leads to what is to be written. Assumes nothing.
use lib.ListN.{drop}
use Rattle.dtd_symbol_laws.specs.Machine.{settled}
use Rattle.dtd_owed.specs.Held.{stack, Settling}
use Rattle.dtd_owed.proofs.settle.Given as goal

abbrev pub invariant-loop-top : goal.invariant-loop-top
invariant-loop-top l = Settling l.depths l.symbols l.initial.out l.held.depth l.level l.held.at (settled (stack l.held.owed l.depths l.symbols) l.held.depth l.level (drop l.held.at l.initial.out)) l.top l.at l.out
