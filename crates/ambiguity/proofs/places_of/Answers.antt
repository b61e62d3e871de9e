-- `places_of` meets its contract. The loop: it holds of the first i places. Assumes nothing.
use Rattle.std.proofs.Common.{◌<◌, get_or, arith}
use Rattle.ambiguity.proofs.Sharing.{low_name, none_placed, more_placed, all_placed}
use Rattle.ambiguity.proofs.places_of.Goals as goal

pub loop-i-init : goal.loop-i-init
loop-i-init c = search none_placed

pub overflow_cast-names : goal.overflow_cast-names
overflow_cast-names c = let l : get_or c.args.names.now c.loop-i.i 0 < 64 = search low_name in omega arith

pub has-requires : goal.has-requires
has-requires c = search low_name

pub loop-i-preserved : goal.loop-i-preserved
loop-i-preserved c = search more_placed

pub returns : goal.returns
returns c = search all_placed
