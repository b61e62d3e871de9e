-- `in_sequence` meets its contract. Assumes nothing.
use Rattle.model_parts.proofs.in_sequence.Goals as goal

pub returns : goal.returns
returns c = rw (c.when.ensures, c.when-2.ensures)
