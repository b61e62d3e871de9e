-- `key_moves::enter` meets its contract. Assumes nothing.
use borrow.Author.Rules.{rules}
use Rattle.key_walk.specs.Walk.{pass_less}
use Rattle.key_moves.specs.Turns.{entering_begin, entering_room, entering_more, entering_end}
use Rattle.key_moves.proofs.enter.Goals as goal

pub loop-at-init : goal.loop-at-init
loop-at-init c = search entering_begin

pub put_in-fresh-requires : goal.put_in-fresh-requires
put_in-fresh-requires c = record { table_value = search rules; long = (search rules, search entering_room) }

pub loop-at-smaller : goal.loop-at-smaller
loop-at-smaller c = search pass_less

pub loop-at-preserved : goal.loop-at-preserved
loop-at-preserved c = search entering_more

pub returns : goal.returns
returns c = search entering_end
