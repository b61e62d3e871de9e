-- `cell` meets its contract. Assumes nothing.
use native.Mathlib.Omega.{arith}
use Rattle.table_laws.specs.Parts.{table_parts}
use Rattle.table.specs.Block.{cell_at}
use Rattle.table.proofs.cell.Goals as goal

pub overflow_mul-result : goal.overflow_mul-result
overflow_mul-result c = omega (arith, table_parts c.args.table.now c.requires.0)

pub overflow_add-result : goal.overflow_add-result
overflow_add-result c = omega (arith, table_parts c.args.table.now c.requires.0)

pub overflow_add-result-2 : goal.overflow_add-result-2
overflow_add-result-2 c = omega (arith, table_parts c.args.table.now c.requires.0)

pub offset_bounds-table-e : goal.offset_bounds-table-e
offset_bounds-table-e c = omega (arith, table_parts c.args.table.now c.requires.0)

pub bounds-table-e : goal.bounds-table-e
bounds-table-e c = omega (arith, table_parts c.args.table.now c.requires.0)

pub returns : goal.returns
returns c = search cell_at
