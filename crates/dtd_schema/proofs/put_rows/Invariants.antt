-- `dtd_schema::put_rows` meets its contract: a row after another. Assumes nothing.
use lib.ListN.{length}
use Rattle.dtd_schema.specs.Rows.{Filling}
use Rattle.dtd_schema.proofs.put_rows.Given as goal

abbrev pub invariant-loop-j : goal.invariant-loop-j
invariant-loop-j l = Filling l.text l.elements l.attributes l.heads l.many l.table (length l.initial.rows) l.rows l.j
