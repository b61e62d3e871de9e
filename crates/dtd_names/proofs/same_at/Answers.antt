-- `dtd_names::same_at` meets its contract. Assumes nothing.
use Rattle.std.proofs.Common.{◌∙◌, drop}
use Rattle.dtd_names.specs.Spelled.{spelled_same}
use Rattle.dtd_names.proofs.same_at.Goals as goal

pub returns : goal.returns
returns c = c.is_name.ensures ∙ rw c.name_of.ensures (spelled_same (drop c.args.a c.args.text.now) (drop c.args.b c.args.text.now))
