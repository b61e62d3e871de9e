-- `list_names` meets its contract. The loop: with the names of the symbols from i on stored from n on, the list is the result.
-- Assumes nothing.
use Rattle.model_names.specs.Listed.{Listing}
use Rattle.model_names.proofs.list_names.Given as goal

abbrev pub invariant-loop-symbol : goal.invariant-loop-symbol
invariant-loop-symbol l = Listing l.s l.initial.names l.names l.n l.symbol-index
