-- `shrikemuff::shrike_import_spot` meets its contract: it hands on what `dtd::import_spot` answers. Assumes nothing.
use Rattle.shrikemuff.proofs.shrike_import_spot.Goals as goal

pub returns : goal.returns
returns c = c.import_spot-met.ensures
