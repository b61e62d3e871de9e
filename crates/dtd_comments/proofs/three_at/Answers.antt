-- `dtd_comments::three_at` meets its contract: the third byte is asked by the two before it. Assumes nothing.
use borrow.Author.Rules.{rules}
use Rattle.std.proofs.Common.{tests}
use Rattle.paper.specs.Dtd.Letters.{first_of_three, second, third}
use Rattle.dtd_comments.specs.Chars.{three_read}
use Rattle.dtd_comments.proofs.three_at.Goals as goal

pub returns : goal.returns
returns c =
    three_read c.args.text.now c.args.at c.in_ok-a.a c.in_ok-b.b c.in_ok-tested_at.field-0
    (c.in_ok-a.ensures.read first_of_three (λ x b k. search (rules, tests)))
    (c.in_ok-b.ensures.read (second c.in_ok-a.a) (λ x b k. search (rules, tests)))
    (c.in_ok-tested_at.ensures.read (third c.in_ok-a.a c.in_ok-b.b) (λ x b k. search (rules, tests)))
