-- `contentspec::put_symbols` meets its contract: the block as `read_model` and `list_names` leave it, and what `unambiguous` tells of it. Assumes nothing.
use Rattle.contentspec.specs.Model.{zeros_long, model_none, follow_room, names_room, names_long, block_room, names_end, unambiguous_room, model_ambiguous, model_put}
use Rattle.contentspec.proofs.put_symbols.Goals as goal

pub slice_bounds-read_model-end : goal.slice_bounds-read_model-end
slice_bounds-read_model-end c = search zeros_long

pub returns-in_default : goal.returns-in_default
returns-in_default c = search model_none

pub slice_bounds-list_names-end : goal.slice_bounds-list_names-end
slice_bounds-list_names-end c = search follow_room

pub list_names-requires : goal.list_names-requires
list_names-requires c = search names_room

pub slice_bounds-unambiguous-end : goal.slice_bounds-unambiguous-end
slice_bounds-unambiguous-end c = search names_end

pub slice_bounds-unambiguous-end-2 : goal.slice_bounds-unambiguous-end-2
slice_bounds-unambiguous-end-2 c = search block_room

pub unambiguous-requires : goal.unambiguous-requires
unambiguous-requires c = search unambiguous_room

pub returns-then-not-unambiguous : goal.returns-then-not-unambiguous
returns-then-not-unambiguous c = search model_ambiguous

pub put_model-requires : goal.put_model-requires
put_model-requires c = search names_long

pub returns : goal.returns
returns c = search model_put
