-- `dtd_models::model_at` meets its contract: `Held` of where the walk stands. Assumes nothing.
use Rattle.std.proofs.Common.{option_copied}
use Rattle.dtd_names.specs.Named.{known_in}
use Rattle.dtd_models.specs.Held.{Held, left}
use Rattle.dtd_models.proofs.model_at.Given as goal

abbrev pub invariant-loop-walk : goal.invariant-loop-walk
invariant-loop-walk l = Held (known_in l.text (option_copied l.known)) l.text l.at l.walk

abbrev pub decreases-loop-walk : goal.decreases-loop-walk
decreases-loop-walk l = left l.text l.walk
