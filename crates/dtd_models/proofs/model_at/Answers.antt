-- `dtd_models::model_at` meets its contract: `Held` of where the walk stands. Assumes nothing.
use Rattle.std.proofs.Common.{◌≡◌, Err}
use borrow.Author.Rules.{rules}
use Rattle.dtd_models.proofs.model_at.Goals as goal

pub returns-in_err-walk : goal.returns-in_err-walk
returns-in_err-walk c =
    let e : c.from_residual.result ≡ Err c.in_err-walk.field-0.0 = search rules in
    rw e (c.in_err-walk.ensures _)
