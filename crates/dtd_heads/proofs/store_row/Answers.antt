-- `dtd_heads::store_row` meets its contract: its five numbers. Assumes nothing.
use Rattle.dtd_heads.specs.Heads.{second_inside, third_inside, fourth_inside, fifth_inside}
use borrow.Author.Rules.{rules}
use Rattle.dtd_heads.proofs.store_row.Goals as goal

pub bounds-rows-i-2 : goal.bounds-rows-i-2
bounds-rows-i-2 c = search (rules, second_inside)

pub bounds-rows-i-3 : goal.bounds-rows-i-3
bounds-rows-i-3 c = search (rules, third_inside)

pub bounds-rows-i-4 : goal.bounds-rows-i-4
bounds-rows-i-4 c = search (rules, fourth_inside)

pub bounds-rows-i-5 : goal.bounds-rows-i-5
bounds-rows-i-5 c = search (rules, fifth_inside)
