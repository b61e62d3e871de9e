-- `copying::copy` meets its contract. Assumes nothing.
use Rattle.copying.specs.Turns.{copy_none, copy_more, copy_end}
use Rattle.copying.proofs.copy.Goals as goal

pub loop-i-init : goal.loop-i-init
loop-i-init g c = copy_none _ _ _ _ _

pub loop-i-preserved : goal.loop-i-preserved
loop-i-preserved g c = copy_more _ _ _ _ _ c.loop-i.invariant c.index-src-from.is c.requires.0 c.requires.1 c.loop-i-test.true

pub returns : goal.returns
returns g c = copy_end _ _ _ _ _ c.loop-i.invariant c.loop-i-test.false
