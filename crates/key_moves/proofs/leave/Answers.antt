-- `key_moves::leave` meets its contract. Assumes nothing.
use borrow.Author.Rules.{rules}
use Rattle.key_walk.specs.Walk.{pass_less}
use Rattle.key_moves.specs.Turns.{leaving_begin, leaving_enough, leaving_more, leaving_end}
use Rattle.key_moves.proofs.leave.Goals as goal

pub loop-at-init : goal.loop-at-init
loop-at-init c = search leaving_begin

pub take_out-requires : goal.take_out-requires
take_out-requires c = record { table_value = search rules; long = (search rules, search leaving_enough) }

pub loop-at-smaller : goal.loop-at-smaller
loop-at-smaller c = search pass_less

pub loop-at-preserved : goal.loop-at-preserved
loop-at-preserved c = search leaving_more

pub returns : goal.returns
returns c = search leaving_end
