-- `lines::put_due_stop` meets its contract: each fixed text is the stop's. Assumes nothing.
use mathlib.Core.Path.{refl}
use borrow.Author.Rules.{rules}
use Rattle.lines.specs.Lines.{due_stop_put, last_stop}
use Rattle.lines.proofs.put_due_stop.Goals as goal

pub returns-in-Broken : goal.returns-in-Broken
returns-in-Broken c = due_stop_put 1 refl (search rules) c.put_text.ensures

pub returns-in-Schema : goal.returns-in-Schema
returns-in-Schema c = due_stop_put 2 refl (search rules) c.put_text-in-Schema.ensures

pub returns-in-Ambiguous : goal.returns-in-Ambiguous
returns-in-Ambiguous c = due_stop_put 3 refl (search rules) c.put_text-in-Ambiguous.ensures

pub returns-in_default : goal.returns-in_default
returns-in_default c =
    let d = c.in_default in
    due_stop_put 5 refl (last_stop _ c.requires.0 d.not-Broken d.not-Schema d.not-Ambiguous) c.put_text-in_default.ensures
