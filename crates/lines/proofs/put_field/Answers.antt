-- `lines::put_field` meets its contract. Assumes nothing.
use Rattle.lines.specs.Lines.{field_put}
use Rattle.lines.proofs.put_field.Goals as goal

pub returns : goal.returns
returns c = field_put _ _ c.requires c.put_decimal-next.ensures
