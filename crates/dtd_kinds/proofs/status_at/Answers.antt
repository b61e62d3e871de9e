-- `dtd_kinds::status_at` meets its contract: a status that is refused behind the hash. Assumes nothing.
use borrow.Author.Rules.{rules}
use Rattle.std.proofs.Common.{◌≡◌, Err}
use Rattle.dtd_kinds.specs.Kinds.{not_required, not_implied}
use Rattle.dtd_kinds.proofs.status_at.Goals as goal

pub returns-in_err-end-2 : goal.returns-in_err-end-2
returns-in_err-end-2 c =
    let e : c.from_residual-in_err-end-2.result ≡ Err c.in_err-end-2.field-0.0 = search rules in
    rw e (search (rules, not_required, c.in_ok-end.ensures, c.in_err-end-2.ensures))

pub returns-in_err-end-3 : goal.returns-in_err-end-3
returns-in_err-end-3 c =
    let e : c.from_residual-in_err-end-3.result ≡ Err c.in_err-end-3.field-0.0 = search rules in
    rw e (search (rules, not_implied, c.in_ok-end.ensures, c.in_err-end-3.ensures))
