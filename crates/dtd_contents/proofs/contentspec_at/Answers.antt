-- `dtd_contents::contentspec_at` meets its contract: by the first bytes. Assumes nothing.
use Rattle.std.proofs.Common.{◌≡◌, Err}
use Rattle.dtd_contents.specs.Contents.{no_empty, model_read, no_text, a_text}
use borrow.Author.Rules.{rules}
use Rattle.dtd_contents.proofs.contentspec_at.Goals as goal

pub returns-in_err-end : goal.returns-in_err-end
returns-in_err-end c =
    let e : c.from_residual.result ≡ Err c.in_err-end.field-0.0 = search rules in
    rw e (search (rules, no_empty, c.in_err-end.ensures))

pub returns-then-not-byte_at-2 : goal.returns-then-not-byte_at-2
returns-then-not-byte_at-2 c = search (rules, model_read)

pub returns-in_err-end-2 : goal.returns-in_err-end-2
returns-in_err-end-2 c =
    let e : c.from_residual-in_err-end-2.result ≡ Err c.in_err-end-2.field-0.0 = search rules in
    rw e (search (rules, no_text, c.in_err-end-2.ensures))

pub returns : goal.returns
returns c = search (rules, a_text, c.in_ok-end-2.ensures)
