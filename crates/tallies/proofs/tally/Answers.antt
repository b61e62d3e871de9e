-- `tallies::tally` meets its contract. Assumes nothing.
use borrow.Author.Rules.{rules}
use Rattle.tallies.specs.Tallies.{tallying_begin, tallying_room, tallying_turn, tallying_end}
use Rattle.tallies.proofs.tally.Goals as goal

pub loop-t-init : goal.loop-t-init
loop-t-init c = search (rules, tallying_begin)

pub note-requires : goal.note-requires
note-requires c = search (rules, tallying_room)

pub loop-t-preserved : goal.loop-t-preserved
loop-t-preserved c = search (rules, tallying_turn)

pub returns : goal.returns
returns c = search tallying_end
