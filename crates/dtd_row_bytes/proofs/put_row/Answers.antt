-- `dtd_row_bytes::put_row` meets its contract: their count, and the attributes. Assumes nothing.
use borrow.Author.Rules.{rules}
use mathlib.Core.Path.{◌∙◌}
use lib.ListN.{length-set}
use Rattle.lines.specs.Put.{put_length}
use Rattle.dtd_row_bytes.specs.Turns.{few_ones, some_room, rest_room, row_put}
use Rattle.dtd_row_bytes.proofs.put_row.Goals as goal

pub overflow_cast-out : goal.overflow_cast-out
overflow_cast-out c = search (rules, few_ones)

pub bounds-out-at : goal.bounds-out-at
bounds-out-at c = search (rules, some_room)

pub put_attributes-requires : goal.put_attributes-requires
put_attributes-requires c = search (rules, rest_room)

pub shape_of-out : goal.shape_of-out
shape_of-out c = put_length c.put_attributes.ensures ∙ simp length-set

pub returns : goal.returns
returns c = search (rules, row_put)
