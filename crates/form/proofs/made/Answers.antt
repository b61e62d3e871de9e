-- `form::made` meets its contract. Assumes nothing.
use Rattle.std.proofs.Common.{refl}
use Rattle.form.specs.Size.{made_long, made_past, made_deep, made_good}
use Rattle.form.proofs.made.Goals as goal

pub returns-then-used-gt-MOST_TOKENS : goal.returns-then-used-gt-MOST_TOKENS
returns-then-used-gt-MOST_TOKENS c = (refl, search made_long)

pub returns-then-room-used : goal.returns-then-room-used
returns-then-room-used c = (refl, search made_past)

pub returns-then-not-shallow_at : goal.returns-then-not-shallow_at
returns-then-not-shallow_at c = (refl, search made_deep)

pub returns : goal.returns
returns c = search made_good
