-- `all_below` meets its contract. The loop: the test so far, and that of the words that are left, is the whole. Assumes nothing.
use mathlib.Core.Path.{◌≡◌}
use mathlib.Core.Bool.{◌&&◌}
use lib.Dec.{ltb}
use lib.ListN.{drop}
use Rattle.paper.specs.Basics.{all}
use Rattle.proper.proofs.all_below.Given as goal

abbrev pub invariant-loop-word : goal.invariant-loop-word
invariant-loop-word l = (l.ok && all (λ a. ltb a l.bound) (drop l.word-index l.words)) ≡ all (λ a. ltb a l.bound) l.words
