-- `shrikemuff::shrike_read` meets its contract: it hands on what `docfile::read` answers. Assumes nothing.
use Rattle.shrikemuff.proofs.shrike_read.Goals as goal

pub returns : goal.returns
returns c = c.read.ensures
