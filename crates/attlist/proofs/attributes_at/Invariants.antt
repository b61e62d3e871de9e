-- `attlist::attributes_at` meets its contract. The loop's invariant is `Listing`. Assumes nothing.
use Rattle.attlist.specs.Attributes.{Listing}
use Rattle.attlist.proofs.attributes_at.Given as goal

abbrev pub invariant-loop-i : goal.invariant-loop-i
invariant-loop-i l = Listing l.count l.element l.file l.at l.initial.fixed l.fixed l.s l._i
