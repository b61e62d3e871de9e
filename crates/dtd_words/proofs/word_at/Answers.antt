-- `dtd_words::word_at` meets its contract: the word goes on with byte i, at `end`. Assumes nothing.
use borrow.Author.Rules.{rules}
use native.Mathlib.Omega.{arith}
use Rattle.dtd_words.specs.Words.{begun, goes_on, differs, whole}
use Rattle.dtd_words.proofs.word_at.Goals as goal

pub loop-byte-init : goal.loop-byte-init
loop-byte-init c = search (rules, begun)

pub overflow_add-end : goal.overflow_add-end
overflow_add-end c = omega (arith, c.loop-byte.invariant.inside)

pub returns-then-not-byte_at : goal.returns-then-not-byte_at
returns-then-not-byte_at c = search (rules, differs)

pub loop-byte-preserved : goal.loop-byte-preserved
loop-byte-preserved c = search (rules, goes_on)

pub returns : goal.returns
returns c = search (rules, whole)
