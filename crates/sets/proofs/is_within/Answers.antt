use Rattle.sets.specs.Tests.{within_test}
use Rattle.sets.proofs.is_within.Goals as goal

pub returns : goal.returns
returns c = within_test 64 c.args.a c.args.b c.ranges.a.fits
