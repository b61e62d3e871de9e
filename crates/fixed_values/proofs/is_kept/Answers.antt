-- `fixed_values::is_kept` meets its contract. Assumes nothing.
use Rattle.fixed_values.specs.Kept.{kept_free, kept_to}
use Rattle.fixed_values.proofs.is_kept.Goals as goal

pub returns-in-None : goal.returns-in-None
returns-in-None c = search kept_free

pub returns-in-Some : goal.returns-in-Some
returns-in-Some c = search kept_to
