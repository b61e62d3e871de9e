-- `dtd_models::part_at` meets its contract: a bracket that opens, or a name. Assumes nothing.
use Rattle.std.proofs.Common.{◌≡◌, Err, option_copied, drop}
use Rattle.paper.specs.Dtd.Reading.{mention}
use Rattle.dtd_words.specs.Words.{came_inside}
use Rattle.dtd_names.specs.Named.{known_in}
use Rattle.dtd_models.specs.PartTurns.{bracket, a_word, no_word}
use borrow.Author.Rules.{rules}
use Rattle.dtd_models.proofs.part_at.Goals as goal

pub returns-then-byte_at : goal.returns-then-byte_at
returns-then-byte_at c = search (rules, bracket)

pub returns-in_err-end : goal.returns-in_err-end
returns-in_err-end c =
    let e : c.from_residual.result ≡ Err c.in_err-end.field-0.0 = search rules in
    rw e (no_word (known_in c.args.text.now (option_copied c.args.known)) c.args.text.now c.args.from c.args.p c.requires c.byte_at.result c.byte_at.ensures c.if-byte_at.false c.in_err-end.field-0.0 c.in_err-end.ensures)

pub suffix_at-marks-requires : goal.suffix_at-marks-requires
suffix_at-marks-requires c =
    came_inside c.args.text.now c.in_ok-end.end (mention (known_in c.args.text.now (option_copied c.args.known)) (drop c.args.p.at c.args.text.now)) c.in_ok-end.ensures

pub returns : goal.returns
returns c =
    a_word (known_in c.args.text.now (option_copied c.args.known)) c.args.text.now c.args.from c.args.p c.requires c.byte_at.result c.byte_at.ensures c.if-byte_at.false c.in_ok-end.end c.suffix_at-marks.result c.in_ok-end.ensures c.suffix_at-marks.ensures
