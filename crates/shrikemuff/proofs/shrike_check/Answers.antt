-- `shrikemuff::shrike_check` meets its contract: it hands on what `checks::check` answers. Assumes nothing.
use Rattle.shrikemuff.proofs.shrike_check.Goals as goal

pub returns-in-Ok : goal.returns-in-Ok
returns-in-Ok c = c.in-Ok.ensures

pub returns-in-Err : goal.returns-in-Err
returns-in-Err c = rw c.number.ensures c.in-Err.ensures
