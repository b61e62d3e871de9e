use mathlib.Core.Path.{sym}
use native.Mathlib.Nat.{lt_of_lt_of_le}
use borrow.Author.Tests.{lt-ltb}
use lib.Pow.{pow_mono}
use Rattle.paper_laws.specs.Words.{shift_below}
use Rattle.sets.proofs.uses_lowest.Goals as goal

pub returns-then-n-ge64 : goal.returns-then-n-ge64
returns-then-n-ge64 c = sym (lt-ltb _ _ (lt_of_lt_of_le c.ranges.set.fits (pow_mono c.if-n-ge64.true)))

pub returns : goal.returns
returns c = shift_below c.args.set c.args.n
