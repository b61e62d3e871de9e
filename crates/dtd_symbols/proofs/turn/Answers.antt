-- `dtd_symbols::turn` meets its contract. Assumes nothing.
use Rattle.dtd_symbols.specs.Turns.{within, name_room, begins, open_nested, open_room, opens, closes, nothing, owes_room, owes_one}
use borrow.Author.Rules.{rules}
use Prim.Native.Nat.{◌<◌}
use Rattle.dtd_symbols.proofs.turn.Goals as goal

pub returns-then-more_before : goal.returns-then-more_before
returns-then-more_before c = search (rules, within)

pub write_name-requires : goal.write_name-requires
write_name-requires c = search (rules, name_room)

pub returns-then-is_more : goal.returns-then-is_more
returns-then-is_more c = search (rules, begins)

pub overflow_sub-outside : goal.overflow_sub-outside
overflow_sub-outside c = search (rules, open_nested)

pub settle-requires : goal.settle-requires
settle-requires c = search (rules, open_room)

pub returns-then-b-eq40 : goal.returns-then-b-eq40
returns-then-b-eq40 c = search (rules, opens)

pub returns-then-b-eq41 : goal.returns-then-b-eq41
returns-then-b-eq41 c = search (rules, closes)

pub returns-in-None : goal.returns-in-None
returns-in-None c = search (rules, nothing)

pub owe-requires : goal.owe-requires
owe-requires c =
    let room : c.args.held.owed < 255 =
    owes_room _ _ _ _ _ _ _ _ c.requires _ c.is_more.ensures c.if-is_more.false c.if-b-eq40.false c.if-b-eq41.false _ c.in-Some.ensures in
    search rules

pub returns-in-Some : goal.returns-in-Some
returns-in-Some c = search (rules, owes_one)
