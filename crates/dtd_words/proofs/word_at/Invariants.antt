-- `dtd_words::word_at` meets its contract: the word goes on with byte i, at `end`. Assumes nothing.
use Rattle.dtd_words.specs.Words.{Spelt}
use Rattle.dtd_words.proofs.word_at.Given as goal

abbrev pub invariant-loop-byte : goal.invariant-loop-byte
invariant-loop-byte l = Spelt l.text l.word l.at l.byte-index l.end
