-- `dtd_models::join_at` meets its contract: a separator of its bracket. Assumes nothing.
use Rattle.std.proofs.Common.{◌≡◌, sym, ap, ◌∙◌, Some, drop}
use Rattle.dtd_brackets.specs.Separators.{joint}
use Rattle.dtd_models.specs.Bytes.{joint_at, separator_inside}
use Rattle.dtd_models.specs.BehindTurns.{no_separator, joined_at, no_joint}
use borrow.Author.Rules.{rules}
use Rattle.dtd_models.proofs.join_at.Goals as goal

pub returns-in_default : goal.returns-in_default
returns-in_default c = search (rules, no_separator)

pub returns-then-not-fits : goal.returns-then-not-fits
returns-then-not-fits c =
    let j : joint (Some c.in-Some.separator) ≡ joint_at (drop c.args.p.at c.args.text.now) = ap joint (sym c.in-Some.is) ∙ c.separator_at.ensures in
    search (rules, no_joint)

pub skip_white-requires : goal.skip_white-requires
skip_white-requires c = separator_inside c.args.text.now c.args.p.at c.in-Some.separator (ap joint (sym c.in-Some.is) ∙ c.separator_at.ensures)

pub returns : goal.returns
returns c =
    let j : joint (Some c.in-Some.separator) ≡ joint_at (drop c.args.p.at c.args.text.now) = ap joint (sym c.in-Some.is) ∙ c.separator_at.ensures in
    joined_at c.args.text.now c.args.from c.args.p c.requires.0 c.in-Some.separator j c.window_at-window.result c.window_at-window.ensures c.fits.result c.fits.ensures c.skip_white.result c.digit_of.result c.digit_of.ensures.value (search rules) c.skip_white.ensures
