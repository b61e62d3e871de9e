-- `list_names` meets its contract. The loop: with the names of the symbols from i on stored from n on, the list is the result.
-- Assumes nothing.
use Rattle.std.proofs.Common.{◌<◌, length, arith}
use Rattle.model_names.specs.Listed.{none_listed, name_room, name_listed, not_listed, all_listed}
use Rattle.model_names.proofs.list_names.Goals as goal
use Rattle.model_names.proofs.list_names.Goals.{then-symbol-ge-NAMED, else-symbol-ge-NAMED}

pub loop-symbol-init : goal.loop-symbol-init
loop-symbol-init c = search none_listed

pub offset_bounds-names-n : goal.offset_bounds-names-n
offset_bounds-names-n c = let r : c.loop-symbol.n < length c.loop-symbol.names = search name_room in omega arith

pub bounds-names-n : goal.bounds-names-n
bounds-names-n c = search name_room

pub overflow_add-n : goal.overflow_add-n
overflow_add-n c = let r : c.loop-symbol.n < length c.loop-symbol.names = search name_room in omega arith

pub loop-symbol-preserved : goal.loop-symbol-preserved
loop-symbol-preserved c = elim c.if-symbol-ge-NAMED.branch [ then-symbol-ge-NAMED w ↦ search name_listed | else-symbol-ge-NAMED w ↦ search not_listed ]

pub returns : goal.returns
returns c = search all_listed
