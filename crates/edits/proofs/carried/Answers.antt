-- `edits::carried` meets its contract. Assumes nothing.
use native.Mathlib.Omega.{arith}
use Rattle.edits.specs.Parts.{table_first, table_few, part_few, part_moved}
use borrow.Author.Rules.{rules}
use Rattle.edits.proofs.carried.Goals as goal

pub bounds-table-0 : goal.bounds-table-0
bounds-table-0 c = search (rules, table_first)

pub overflow_cast-elements : goal.overflow_cast-elements
overflow_cast-elements c = record { fits = omega (arith, table_few c.args.table.now c.requires.0) }

pub moves-requires : goal.moves-requires
moves-requires c =
    let a = c.args in
    (table_few a.table.now c.requires.0, part_few a.at a.cut a.doc.now c.requires.2, part_few a.at a.coming a.new.now c.requires.4)

pub returns : goal.returns
returns c =
    let a = c.args in
    part_moved a.table.now a.at a.cut a.coming a.doc.now a.new.now a.counts.now c.moves.result c.moves.ensures
