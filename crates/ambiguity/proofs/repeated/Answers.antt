-- `repeated` meets its contract. The loop: it holds of the first i places. Assumes nothing.
use Rattle.std.proofs.Common.{◌<◌, get_or, arith}
use Rattle.ambiguity.proofs.Sharing.{low_name, none_repeats, more_repeats, all_repeats}
use Rattle.ambiguity.proofs.repeated.Goals as goal

pub loop-i-init : goal.loop-i-init
loop-i-init c = search none_repeats

pub overflow_cast-names : goal.overflow_cast-names
overflow_cast-names c = let l : get_or c.args.names.now c.loop-i.i 0 < 64 = search low_name in omega arith

pub one-name-requires : goal.one-name-requires
one-name-requires c = search low_name

pub loop-i-preserved : goal.loop-i-preserved
loop-i-preserved c = search more_repeats

pub returns : goal.returns
returns c = search all_repeats
