-- `dtd_attributes::attlist_at` meets its contract: step by step. Assumes nothing.
use Rattle.std.proofs.Common.{◌≡◌, Err}
use Rattle.std.specs.Prelude.{option_copied}
use Rattle.dtd_words.specs.Words.{came_inside}
use Rattle.dtd_names.specs.Named.{known_in}
use Rattle.dtd_attributes.specs.Listed.{no_word, no_white, no_mention, all_listed}
use borrow.Author.Rules.{rules}
use Rattle.dtd_attributes.proofs.attlist_at.Goals as goal

pub returns-in_err-word : goal.returns-in_err-word
returns-in_err-word c =
    let a = c.args in
    let e : c.from_residual.result ≡ Err c.in_err-word.field-0.0 = search rules in
    rw e (no_word a.text.now a.upto (known_in a.text.now (option_copied a.known)) a.at a.attributes.now a.heads.now a.rows.now c.in_err-word.field-0.0 c.in_err-word.ensures)

pub returns-in_err-e : goal.returns-in_err-e
returns-in_err-e c =
    let a = c.args in
    let e : c.from_residual-in_err-e.result ≡ Err c.in_err-e.field-0.0 = search rules in
    rw e (no_white a.text.now a.upto (known_in a.text.now (option_copied a.known)) a.at a.attributes.now a.heads.now a.rows.now c.in_ok-word.word c.in_ok-word.ensures c.in_err-e.field-0.0 c.in_err-e.ensures)

pub returns-in_err-behind : goal.returns-in_err-behind
returns-in_err-behind c =
    let a = c.args in
    let e : c.from_residual-in_err-behind.result ≡ Err c.in_err-behind.field-0.0 = search rules in
    rw e (no_mention a.text.now a.upto (known_in a.text.now (option_copied a.known)) a.at a.attributes.now a.heads.now a.rows.now c.in_ok-word.word c.in_ok-word.ensures c.in_ok-e.e c.in_ok-e.ensures c.in_err-behind.field-0.0 c.in_err-behind.ensures)

pub element_at-requires-clause-inside : goal.element_at-requires-clause-inside
element_at-requires-clause-inside c = search (rules, came_inside)

pub returns : goal.returns
returns c =
    let a = c.args in
    let made = c.element_at in
    all_listed a.text.now a.upto (known_in a.text.now (option_copied a.known)) a.at made.new.attributes made.new.heads made.new.rows c.in_ok-word.word c.in_ok-word.ensures c.in_ok-e.e c.in_ok-e.ensures c.in_ok-behind.behind c.in_ok-behind.ensures made.result made.ensures
