-- `proper_blocks` meets its contract. The loop: the blocks below e are proper. Assumes nothing.
use native.Mathlib.Omega.{arith}
use borrow.Author.Rules.{rules}
use Rattle.table.specs.Block.{block_length_lem}
use Rattle.proper.specs.Whole.{none_passed, one_passed, one_stopped, all_passed}
use Rattle.proper.proofs.proper_blocks.Goals as goal

pub loop-e-init : goal.loop-e-init
loop-e-init c = search none_passed

pub proper_block-requires : goal.proper_block-requires
proper_block-requires c = (block_length_lem c.args.table.now _ c.block_of.ensures (search rules) (omega arith), search rules)

pub returns-then-not-proper_block : goal.returns-then-not-proper_block
returns-then-not-proper_block c = search one_stopped

pub loop-e-preserved : goal.loop-e-preserved
loop-e-preserved c = search one_passed

pub returns : goal.returns
returns c = search all_passed
