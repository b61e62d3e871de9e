-- `docfile::decode` meets its contract. The loop's invariant is `Decoding`; the measure is what is left of the file. Assumes nothing.
use Rattle.docfile.specs.Reader.{decode_none, decode_end, decode_broken, decode_less, decode_full, decode_place, decode_more}
use Rattle.docfile.proofs.decode.Goals as goal

pub loop-at-init : goal.loop-at-init
loop-at-init c = decode_none _ _ _

pub returns-in_default : goal.returns-in_default
returns-in_default c = search decode_broken

pub returns-then-held-room : goal.returns-then-held-room
returns-then-held-room c = search decode_full

pub bounds-got-held : goal.bounds-got-held
bounds-got-held c = search decode_place

pub loop-at-smaller : goal.loop-at-smaller
loop-at-smaller c = search decode_less

pub loop-at-preserved : goal.loop-at-preserved
loop-at-preserved c = search decode_more

pub returns : goal.returns
returns c = search decode_end
