-- `docfile::decode` meets its contract. The loop's invariant is `Decoding`; the measure is what is left of the file. Assumes nothing.
use Prim.Native.Nat.{◌-◌}
use lib.ListN.{length}
use Rattle.docfile.specs.Reader.{Decoding}
use Rattle.docfile.proofs.decode.Given as goal

abbrev pub invariant-loop-at : goal.invariant-loop-at
invariant-loop-at l = Decoding l.file l.initial.got l.room l.at l.held l.got

abbrev pub decreases-loop-at : goal.decreases-loop-at
decreases-loop-at l = length l.file - l.at
