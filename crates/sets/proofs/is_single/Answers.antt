use mathlib.Core.Path.{◌≡◌, ◌∙◌}
use mathlib.Core.Bool.{Bool}
use Prim.Native.Nat.{ℕ, ◌^◌, ◌<◌}
use lib.Dec.{leb}
use lib.Count.{ones}
use Rattle.paper.specs.Table.{single}
use Rattle.sets.specs.Tests.{single_test}
use Rattle.sets.proofs.is_single.Goals as goal

counted : (a : ℕ) (r : Bool) → a < 2 ^ 64 → r ≡ leb (ones a) 1 → r ≡ single a
counted a r h e = e ∙ single_test 64 a h

pub returns : goal.returns
returns c = search counted
