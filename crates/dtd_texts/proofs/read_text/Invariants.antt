-- `dtd_texts::read_text` meets its contract: the reader stands at a place. Assumes nothing.
use Prim.Native.Nat.{◌-◌}
use lib.ListN.{length}
use Rattle.std.specs.Prelude.{option_copied}
use Rattle.dtd_names.specs.Named.{known_in}
use Rattle.dtd_texts.specs.Turns.{Going}
use Rattle.dtd_texts.proofs.read_text.Given as goal

abbrev pub invariant-loop-at : goal.invariant-loop-at
invariant-loop-at l = Going (known_in l.text (option_copied l.known)) l.text l.elements l.contents l.ends l.attributes l.heads l.rows l.at l.count l.defined l.many

abbrev pub decreases-loop-at : goal.decreases-loop-at
decreases-loop-at l = length l.text - l.at
