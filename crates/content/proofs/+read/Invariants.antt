-- What falls from call to call is the number of symbols left. Assumes nothing.
use Rattle.std.proofs.Common.{◌-◌, length}
use Rattle.content.proofs.+read.Given as goal

abbrev pub decreases-read : goal.decreases-read
decreases-read l = length l.s.now - l.at
