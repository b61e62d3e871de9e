-- `kept_keys::follow` meets its contract. Assumes nothing.
use Rattle.kept_keys.specs.Follow.{gone_within, come_within, sum_fits, new_less, gone_fits, come_fits, follow_enough, follow_fits, follow_twice, follow_rest}
use borrow.Author.Rules.{rules}
use Rattle.kept_keys.proofs.follow.Goals as goal

pub overflow_add-gone : goal.overflow_add-gone
overflow_add-gone c = search (rules, sum_fits)

pub overflow_sub-gone : goal.overflow_sub-gone
overflow_sub-gone c = search (rules, new_less)

pub overflow_add-gone-2 : goal.overflow_add-gone-2
overflow_add-gone-2 c = search (rules, gone_fits)

pub overflow_add-come : goal.overflow_add-come
overflow_add-come c = search (rules, come_fits)

pub slice_bounds-went-end : goal.slice_bounds-went-end
slice_bounds-went-end c = search (rules, gone_within)

pub slice_bounds-came-end : goal.slice_bounds-came-end
slice_bounds-came-end c = search (rules, come_within)

pub exchange-requires : goal.exchange-requires
exchange-requires c = record { table_value = search rules; long = (search rules, search (rules, follow_enough), search (rules, follow_fits)) }

pub returns-then-not-exchange : goal.returns-then-not-exchange
returns-then-not-exchange c =
    let told = follow_twice c.args.table.now c.args.doc.now c.args.new.now c.args.at c.args.coming c.args.element c.requires.change c.requires.table_value.1 c.exchange.ensures in
    search (rules, told)

pub none_owed-requires : goal.none_owed-requires
none_owed-requires c = search rules

pub returns : goal.returns
returns c =
    let told = follow_rest c.args.table.now c.args.doc.now c.args.new.now c.args.at c.args.coming c.args.element c.requires.change c.requires.table_value.1 c.exchange.ensures in
    search (rules, told)
