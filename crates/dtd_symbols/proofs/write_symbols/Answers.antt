-- `dtd_symbols::write_symbols` meets its contract: the text left of place i leads from what is held to the whole. Assumes nothing.
use borrow.Author.Rules.{rules}
use Prim.Native.Nat.{◌-◌}
use Rattle.dtd_symbols.specs.Written.{begun, ready, next, all}
use Rattle.dtd_symbols.proofs.write_symbols.Goals as goal

pub loop-i-init : goal.loop-i-init
loop-i-init c = search (rules, begun)

pub turn-held-requires : goal.turn-held-requires
turn-held-requires c = search (rules, ready)

pub loop-i-preserved : goal.loop-i-preserved
loop-i-preserved c = search (rules, next)

pub returns : goal.returns
returns c = search (rules, all)
