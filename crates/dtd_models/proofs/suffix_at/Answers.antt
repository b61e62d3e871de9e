-- `dtd_models::suffix_at` meets its contract: a suffix, or none. Assumes nothing.
use native.Mathlib.Omega.{arith}
use Rattle.std.proofs.Common.{◌≡◌, drop}
use Rattle.std.proofs.lemmas.Grind.{common_steps}
use Rattle.paper.specs.Dtd.Letters.{begins}
use Rattle.dtd_models.specs.Bytes.{is_suffix, suffix_there}
use Rattle.dtd_models.proofs.suffix_at.Goals as goal

pub returns : goal.returns
returns c =
    let q : c.is_some_and.result ≡ begins is_suffix (drop c.args.at c.args.text.now) = grind (arith, common_steps) in
    suffix_there c.args.text.now c.args.at c.requires c.is_some_and.result q
