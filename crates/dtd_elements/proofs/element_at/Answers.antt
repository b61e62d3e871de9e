-- `dtd_elements::element_at` meets its contract: a head, a content, an end. Assumes nothing.
use Rattle.std.proofs.Common.{◌≡◌, Err, option_copied}
use Rattle.dtd_names.specs.Named.{names_at, known_in}
use Rattle.dtd_elements.specs.Elements.{no_head, no_content, content_inside, no_end, made}
use borrow.Author.Rules.{rules}
use Rattle.dtd_elements.proofs.element_at.Goals as goal

pub returns-in_err-head : goal.returns-in_err-head
returns-in_err-head c =
    let e : c.from_residual.result ≡ Err c.in_err-head.field-0.0 = search rules in
    rw e (no_head c.args.text.now c.args.at (known_in c.args.text.now (option_copied c.args.known)) (names_at c.args.text.now c.args.elements.now) c.in_err-head.field-0.0 c.in_err-head.ensures)

pub returns-in_err-content : goal.returns-in_err-content
returns-in_err-content c =
    let e : c.from_residual-in_err-content.result ≡ Err c.in_err-content.field-0.0 = search rules in
    rw e (no_content c.args.text.now c.args.at (known_in c.args.text.now (option_copied c.args.known)) (names_at c.args.text.now c.args.elements.now) c.in_ok-head.head c.in_ok-head.ensures c.in_err-content.field-0.0 c.in_err-content.ensures)

pub end_at-requires : goal.end_at-requires
end_at-requires c =
    content_inside c.args.text.now c.args.at (known_in c.args.text.now (option_copied c.args.known)) (names_at c.args.text.now c.args.elements.now) c.in_ok-head.head c.in_ok-head.ensures c.in_ok-content.content c.in_ok-content.ensures

pub returns-in_err-behind : goal.returns-in_err-behind
returns-in_err-behind c =
    let e : c.from_residual-in_err-behind.result ≡ Err c.in_err-behind.field-0.0 = search rules in
    rw e (no_end c.args.text.now c.args.at (known_in c.args.text.now (option_copied c.args.known)) (names_at c.args.text.now c.args.elements.now) c.in_ok-head.head c.in_ok-head.ensures c.in_ok-content.content c.in_ok-content.ensures c.in_err-behind.field-0.0 c.in_err-behind.ensures)

pub returns : goal.returns
returns c =
    made c.args.text.now c.args.at (known_in c.args.text.now (option_copied c.args.known)) (names_at c.args.text.now c.args.elements.now) c.in_ok-head.head c.in_ok-head.ensures c.in_ok-content.content c.in_ok-content.ensures c.in_ok-behind.behind c.in_ok-behind.ensures
