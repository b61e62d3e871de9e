-- `shrikemuff::shrike_names` meets its contract: it hands on what `dtd::names` answers. Assumes nothing.
use Rattle.shrikemuff.proofs.shrike_names.Goals as goal

pub returns : goal.returns
returns c = c.names.ensures
