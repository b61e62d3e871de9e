-- `attributes::listed` meets its contract. The loop's invariant is `Passing`. Assumes nothing.
use Rattle.attributes.specs.Attributes.{Passing}
use Rattle.attributes.proofs.listed.Given as goal

abbrev pub invariant-loop-i : goal.invariant-loop-i
invariant-loop-i l = Passing l.table l.e l.doc l.at l.required l.allowed l.idrefs l.m l.i
