-- `one_name` meets its contract. Assumes nothing.
use Rattle.model_parts.proofs.one_name.Goals as goal

pub returns : goal.returns
returns c = rw c.one-alone.ensures
