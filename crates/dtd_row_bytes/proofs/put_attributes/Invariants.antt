-- `dtd_row_bytes::put_attributes` meets its contract: what is left to put is the attributes of a set. Assumes nothing.
use Rattle.dtd_row_bytes.specs.Turns.{Walking}
use Rattle.dtd_row_bytes.proofs.put_attributes.Given as goal

abbrev pub invariant-loop-k : goal.invariant-loop-k
invariant-loop-k l = Walking l.row l.initial.out l.at l.next l.k-iterator.0 l.out
