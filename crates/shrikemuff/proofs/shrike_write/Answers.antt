-- `shrikemuff::shrike_write` meets its contract: it hands on what `doc_writer::write` answers. Assumes nothing.
use Rattle.shrikemuff.proofs.shrike_write.Goals as goal

pub returns : goal.returns
returns c = c.write.ensures
