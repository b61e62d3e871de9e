-- `written::write` meets its contract. Assumes nothing.
use Rattle.written.specs.Written.{put_written}
use Rattle.written.proofs.write.Goals as goal

pub returns : goal.returns
returns c = search put_written
