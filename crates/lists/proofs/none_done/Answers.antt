-- `lists::none_done` meets its contract. Assumes nothing.
use mathlib.Core.Path.{ap}
use Rattle.edits.specs.declared.Answer.{Answer}
use Rattle.lists.proofs.none_done.Goals as goal

pub returns : goal.returns
returns c = ap (λ (x : Answer). record { last = x; done = 0 }) c.refused.ensures
