-- `stops::texts_stop` meets its contract. The loop's invariant is `Reading`. Assumes nothing.
use Rattle.stops.specs.Texts.{reading_begin, reading_out, reading_end, reading_start, reading_other, reading_more, reading_text}
use Rattle.stops.proofs.texts_stop.Goals.{then-is_text+else-children-most, else-is_text}
use Rattle.stops.proofs.texts_stop.Goals as goal

pub loop-i-init : goal.loop-i-init
loop-i-init c = search reading_begin

pub returns-then-is_end : goal.returns-then-is_end
returns-then-is_end c = search reading_end

pub returns-then-is_start : goal.returns-then-is_start
returns-then-is_start c = search reading_start

pub returns : goal.returns
returns c = search reading_out

pub returns-then-children-most : goal.returns-then-children-most
returns-then-children-most c = search reading_more

pub loop-i-preserved : goal.loop-i-preserved
loop-i-preserved c =
    elim c.if-is_text.branch [
      | then-is_text+else-children-most w ↦ rw w.children-is (search reading_text)
      | else-is_text w ↦ rw w.children-is (search reading_other)
    ]
