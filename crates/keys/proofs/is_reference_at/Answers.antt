-- `keys::is_reference_at` meets its contract. Assumes nothing.
use Rattle.keys.specs.Looking.{reference_none, reference_test}
use Rattle.keys.proofs.is_reference_at.Goals as goal

pub returns-then-not-is_value : goal.returns-then-not-is_value
returns-then-not-is_value c = search reference_none

pub returns : goal.returns
returns c = search reference_test
