-- `attributes::finished` meets its contract. Assumes nothing.
use Rattle.attributes.specs.Attributes.{finished_ok, finished_err}
use Rattle.attributes.proofs.finished.Goals as goal

pub returns-then-good : goal.returns-then-good
returns-then-good c = search finished_ok

pub returns : goal.returns
returns c = search finished_err
