-- `dtd::put_words` meets its contract. Assumes nothing.
use mathlib.Core.List.{◌++◌}
use Rattle.paper.specs.Dtd.Numbering.{listed}
use Rattle.dtd_names.specs.Named.{names_at}
use Rattle.dtd.specs.Outcomes.{words_no_room, words_fit, put_few, words_put}
use borrow.Author.Rules.{rules}
use Rattle.dtd.proofs.put_words.Goals as goal

pub returns-then-room-n : goal.returns-then-room-n
returns-then-room-n c =
    let a = c.args in
    let m = c.most_room-room in
    let n = c.names_length-n in
    words_no_room (listed (names_at a.text.now a.elements.now ++ names_at a.text.now a.attributes.now)) a.names.now m.result n.result m.ensures n.ensures c.refusal.result c.if-room-n.true c.refusal.ensures

pub put_names-put-requires : goal.put_names-put-requires
put_names-put-requires c =
    let a = c.args in
    let m = c.most_room-room in
    let n = c.names_length-n in
    words_fit (listed (names_at a.text.now a.elements.now ++ names_at a.text.now a.attributes.now)) a.names.now m.result n.result m.ensures n.ensures c.if-room-n.false

pub overflow_cast-count : goal.overflow_cast-count
overflow_cast-count c =
    let a = c.args in
    let m = c.most_room-room in
    let n = c.names_length-n in
    let k = put_few (listed (names_at a.text.now a.elements.now ++ names_at a.text.now a.attributes.now)) a.names.now m.result n.result m.ensures n.ensures c.put_names-put.new.out c.put_names-put.result c.put_names-put.ensures c.if-room-n.false in
    search (rules, k)

pub returns : goal.returns
returns c =
    let a = c.args in
    let m = c.most_room-room in
    let n = c.names_length-n in
    words_put (listed (names_at a.text.now a.elements.now ++ names_at a.text.now a.attributes.now)) a.names.now m.result n.result m.ensures n.ensures c.put_names-put.new.out c.put_names-put.result c.put_names-put.ensures c.if-room-n.false
