-- `dtd_comments::comment_end` meets its contract: the comment goes on at i. Assumes nothing.
use borrow.Author.Rules.{rules}
use Rattle.std.proofs.Common.{◌≡◌, sym, ◌∙◌, true, false, true≢false, Err, ◌+◌, eqb, drop}
use Rattle.paper.specs.Dtd.Letters.{begins, hyphen}
use Rattle.dtd_comments.specs.Comments.{ends, next, next_less, broken}
use Rattle.dtd_comments.proofs.comment_end.Goals as goal
use Rattle.dtd_comments.proofs.comment_end.Goals.{else-hyphen-via-then-hyphen+else-byte_at, else-hyphen-via-else-hyphen}

pub returns-then-byte_at : goal.returns-then-byte_at
returns-then-byte_at c = search (rules, ends)

pub returns-in_err-i : goal.returns-in_err-i
returns-in_err-i c =
    let text = c.args.text.now in
    let i = c.loop-at.i in
    let b = c.byte_at-hyphen.result in
    let one : b ≡ true → begins (eqb hyphen) (drop (i + 1) text) ≡ false =
    elim c.else-hyphen.branch [
      | else-hyphen-via-then-hyphen+else-byte_at w ↦ λ p. sym w.byte_at.ensures ∙ w.if-byte_at.false
      | else-hyphen-via-else-hyphen w ↦ λ p. absurd (true≢false (sym p ∙ w.if-hyphen.false))
    ] in
    let e : c.from_residual.result ≡ Err c.in_err-i.field-0.0 = search rules in
    rw e (broken text c.args.at i c.loop-at.invariant b c.byte_at-hyphen.ensures one c.in_err-i.field-0.0 c.in_err-i.ensures)

pub loop-at-smaller : goal.loop-at-smaller
loop-at-smaller c =
    let text = c.args.text.now in
    let i = c.loop-at.i in
    let b = c.byte_at-hyphen.result in
    let one : b ≡ true → begins (eqb hyphen) (drop (i + 1) text) ≡ false =
    elim c.else-hyphen.branch [
      | else-hyphen-via-then-hyphen+else-byte_at w ↦ λ p. sym w.byte_at.ensures ∙ w.if-byte_at.false
      | else-hyphen-via-else-hyphen w ↦ λ p. absurd (true≢false (sym p ∙ w.if-hyphen.false))
    ] in
    next_less text c.args.at i c.loop-at.invariant b c.byte_at-hyphen.ensures one c.in_ok-i.i c.in_ok-i.ensures

pub loop-at-preserved : goal.loop-at-preserved
loop-at-preserved c =
    let text = c.args.text.now in
    let i = c.loop-at.i in
    let b = c.byte_at-hyphen.result in
    let one : b ≡ true → begins (eqb hyphen) (drop (i + 1) text) ≡ false =
    elim c.else-hyphen.branch [
      | else-hyphen-via-then-hyphen+else-byte_at w ↦ λ p. sym w.byte_at.ensures ∙ w.if-byte_at.false
      | else-hyphen-via-else-hyphen w ↦ λ p. absurd (true≢false (sym p ∙ w.if-hyphen.false))
    ] in
    next text c.args.at i c.loop-at.invariant b c.byte_at-hyphen.ensures one c.in_ok-i.i c.in_ok-i.ensures
