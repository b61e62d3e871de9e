-- `shrikemuff::shrike_translate` meets its contract: it hands on what `schema::translate` answers. Assumes nothing.
use Rattle.shrikemuff.proofs.shrike_translate.Goals as goal

pub returns-in-Ok : goal.returns-in-Ok
returns-in-Ok c = c.in-Ok.ensures
