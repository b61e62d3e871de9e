-- `keys::key_fault` meets its contract. Assumes nothing.
use Rattle.keys.specs.Answer.{key_first, key_none}
use Rattle.keys.proofs.key_fault.Goals as goal

pub returns-then-first-doc : goal.returns-then-first-doc
returns-then-first-doc c = search key_none

pub returns : goal.returns
returns c = search key_first
