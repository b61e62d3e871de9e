-- `shrikemuff::shrike_import` meets its contract: it hands on what `dtd::import` answers. Assumes nothing.
use Rattle.shrikemuff.proofs.shrike_import.Goals as goal

pub returns : goal.returns
returns c = c.import.ensures
