use Rattle.sets.specs.Tests.{apart_test}
use Rattle.sets.proofs.is_apart.Goals as goal

pub returns : goal.returns
returns c = apart_test 64 c.args.a c.args.b c.ranges.a.fits
