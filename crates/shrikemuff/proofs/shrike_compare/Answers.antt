-- `shrikemuff::shrike_compare` meets its contract: it hands on what `compare::compare` answers. Assumes nothing.
use Rattle.shrikemuff.proofs.shrike_compare.Goals as goal

pub returns : goal.returns
returns c = c.compare.ensures
