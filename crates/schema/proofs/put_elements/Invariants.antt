-- `schema::put_elements` meets its contract. The loop's invariant is `Laying`. Assumes nothing.
use Rattle.schema.specs.Elements.{Laying}
use Rattle.schema.proofs.put_elements.Given as goal

abbrev pub invariant-loop-i : goal.invariant-loop-i
invariant-loop-i l = Laying l.elements l.file l.at l.initial.table l.place l.start l.i l.table l.fixed
