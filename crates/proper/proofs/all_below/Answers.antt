-- `all_below` meets its contract. The loop: the test so far, and that of the words that are left, is the whole. Assumes nothing.
use lib.Dec.{ltb}
use Rattle.zeros.specs.Rest.{all_next, all_none}
use Rattle.proper.proofs.all_below.Goals as goal

pub loop-word-preserved : goal.loop-word-preserved
loop-word-preserved c =
    let s = c.args in
    all_next (λ a. ltb a s.bound) s.words.now _ c.loop-word.ok c.loop-word.invariant c.loop-word-test.true

pub returns : goal.returns
returns c =
    let s = c.args in
    all_none (λ a. ltb a s.bound) s.words.now _ c.loop-word.ok c.loop-word.invariant c.loop-word-test.false
