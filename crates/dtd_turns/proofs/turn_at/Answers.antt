-- `dtd_turns::turn_at` meets its contract: one law for each way. Assumes nothing.
use borrow.Author.Rules.{rules}
use Rattle.std.proofs.Common.{◌≡◌, Err}
use Rattle.std.specs.Prelude.{option_copied}
use Rattle.dtd_names.specs.Named.{known_in}
use Rattle.dtd_turns.specs.Ways.{white, no_mark, mark_inside, noted, no_note, lists, no_list, declares, no_element}
use Rattle.dtd_turns.proofs.turn_at.Goals as goal

pub returns-then-is_white : goal.returns-then-is_white
returns-then-is_white c =
    let a = c.args in
    white (known_in a.text.now (option_copied a.known)) a.text.now a.at a.elements.now a.attributes.now a.defined a.heads.now a.many a.rows.now c.requires c.is_white.result c.is_white.ensures c.skip_white.result c.nothing.result c.nothing.ensures c.if-is_white.true c.skip_white.ensures

pub returns-in_err-mark : goal.returns-in_err-mark
returns-in_err-mark c =
    let a = c.args in
    let e : c.from_residual.result ≡ Err c.in_err-mark.field-0.0 = search rules in
    rw e (no_mark (known_in a.text.now (option_copied a.known)) a.text.now a.at a.elements.now a.attributes.now a.defined a.heads.now a.many a.rows.now c.requires c.is_white.result c.is_white.ensures c.if-is_white.false c.in_err-mark.field-0.0 c.in_err-mark.ensures)

pub comment_at-requires : goal.comment_at-requires
comment_at-requires c =
    let a = c.args in
    mark_inside (known_in a.text.now (option_copied a.known)) a.text.now a.at a.elements.now a.attributes.now a.defined a.heads.now a.many a.rows.now c.requires c.is_white.result c.is_white.ensures c.if-is_white.false c.in_ok-mark.mark c.in_ok-mark.ensures

pub returns-in_err-behind : goal.returns-in_err-behind
returns-in_err-behind c =
    let a = c.args in
    let e : c.from_residual-in_err-behind.result ≡ Err c.in_err-behind.field-0.0 = search rules in
    rw e (no_note (known_in a.text.now (option_copied a.known)) a.text.now a.at a.elements.now a.attributes.now a.defined a.heads.now a.many a.rows.now c.requires c.is_white.result c.is_white.ensures c.if-is_white.false c.in_ok-mark.mark c.in_ok-mark.ensures c.byte_at.result c.byte_at.ensures c.in_err-behind.field-0.0 c.if-byte_at.true c.in_err-behind.ensures)

pub returns-then-byte_at : goal.returns-then-byte_at
returns-then-byte_at c =
    let a = c.args in
    noted (known_in a.text.now (option_copied a.known)) a.text.now a.at a.elements.now a.attributes.now a.defined a.heads.now a.many a.rows.now c.requires c.is_white.result c.is_white.ensures c.if-is_white.false c.in_ok-mark.mark c.in_ok-mark.ensures c.byte_at.result c.byte_at.ensures c.in_ok-behind.behind c.nothing-then-byte_at.result c.nothing-then-byte_at.ensures c.if-byte_at.true c.in_ok-behind.ensures

pub attlist_at-requires : goal.attlist_at-requires
attlist_at-requires c =
    let a = c.args in
    let s = c.requires in
    record { inside = mark_inside (known_in a.text.now (option_copied a.known)) a.text.now a.at a.elements.now a.attributes.now a.defined a.heads.now a.many a.rows.now c.requires c.is_white.result c.is_white.ensures c.if-is_white.false c.in_ok-mark.mark c.in_ok-mark.ensures; long = s.room; few = s.few_attributes; ready = s.ready; heads = s.table }

pub returns-in_err-l : goal.returns-in_err-l
returns-in_err-l c =
    let a = c.args in
    let e : c.from_residual-in_err-l.result ≡ Err c.in_err-l.field-0.0 = search rules in
    rw e (no_list (known_in a.text.now (option_copied a.known)) a.text.now a.at a.elements.now a.attributes.now a.defined a.heads.now a.many a.rows.now c.requires c.is_white.result c.is_white.ensures c.if-is_white.false c.in_ok-mark.mark c.in_ok-mark.ensures c.byte_at.result c.byte_at.ensures c.if-byte_at.false c.byte_at-2.result c.byte_at-2.ensures c.attlist_at.new.attributes c.attlist_at.new.heads c.attlist_at.new.rows c.in_err-l.field-0.0 c.if-byte_at-2.true c.in_err-l.ensures)

pub returns-then-byte_at-2 : goal.returns-then-byte_at-2
returns-then-byte_at-2 c =
    let a = c.args in
    lists (known_in a.text.now (option_copied a.known)) a.text.now a.at a.elements.now a.attributes.now a.defined a.heads.now a.many a.rows.now c.requires c.is_white.result c.is_white.ensures c.if-is_white.false c.in_ok-mark.mark c.in_ok-mark.ensures c.byte_at.result c.byte_at.ensures c.if-byte_at.false c.byte_at-2.result c.byte_at-2.ensures c.attlist_at.new.attributes c.attlist_at.new.heads c.attlist_at.new.rows c.in_ok-l.l c.nothing-then-byte_at-2.result c.nothing-then-byte_at-2.ensures c.if-byte_at-2.true c.in_ok-l.ensures

pub element_at-requires : goal.element_at-requires
element_at-requires c =
    let a = c.args in
    record { inside = mark_inside (known_in a.text.now (option_copied a.known)) a.text.now a.at a.elements.now a.attributes.now a.defined a.heads.now a.many a.rows.now c.requires c.is_white.result c.is_white.ensures c.if-is_white.false c.in_ok-mark.mark c.in_ok-mark.ensures; few = c.requires.few }

pub returns-in_err-e : goal.returns-in_err-e
returns-in_err-e c =
    let a = c.args in
    let e : c.from_residual-in_err-e.result ≡ Err c.in_err-e.field-0.0 = search rules in
    rw e (no_element (known_in a.text.now (option_copied a.known)) a.text.now a.at a.elements.now a.attributes.now a.defined a.heads.now a.many a.rows.now c.requires c.is_white.result c.is_white.ensures c.if-is_white.false c.in_ok-mark.mark c.in_ok-mark.ensures c.byte_at.result c.byte_at.ensures c.if-byte_at.false c.byte_at-2.result c.byte_at-2.ensures c.in_err-e.field-0.0 c.if-byte_at-2.false c.in_err-e.ensures)

pub returns : goal.returns
returns c =
    let a = c.args in
    declares (known_in a.text.now (option_copied a.known)) a.text.now a.at a.elements.now a.attributes.now a.defined a.heads.now a.many a.rows.now c.requires c.is_white.result c.is_white.ensures c.if-is_white.false c.in_ok-mark.mark c.in_ok-mark.ensures c.byte_at.result c.byte_at.ensures c.if-byte_at.false c.byte_at-2.result c.byte_at-2.ensures c.in_ok-e.e c.if-byte_at-2.false c.in_ok-e.ensures
