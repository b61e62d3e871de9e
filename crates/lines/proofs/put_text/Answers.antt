-- `lines::put_text` meets its contract: the copy is a run of stores. Assumes nothing.
use Rattle.lines.specs.Put.{put_copied}
use Rattle.lines.proofs.put_text.Goals as goal

pub returns : goal.returns
returns c = search put_copied
