-- `dtd_content_bytes::put_content` meets its contract: its kind, and its model. Assumes nothing.
use borrow.Author.Rules.{rules}
use mathlib.Core.Path.{◌∙◌}
use lib.ListN.{length-set}
use Rattle.dtd_content_bytes.specs.Contents.{some_room, content_alone, model_ready, content_model}
use Rattle.dtd_content_bytes.proofs.put_content.Goals as goal

pub bounds-out-at : goal.bounds-out-at
bounds-out-at c = search (rules, some_room)

pub returns-then-kind-ne-MODEL : goal.returns-then-kind-ne-MODEL
returns-then-kind-ne-MODEL c = content_alone _ _ _ _ _ _ c.requires _ c.kind_at-kind.ensures c.if-kind-ne-MODEL.true

pub put_model-requires : goal.put_model-requires
put_model-requires c = model_ready _ _ _ _ _ _ c.requires _ c.kind_at-kind.ensures c.if-kind-ne-MODEL.false

pub returns : goal.returns
returns c =
    content_model _ _ _ _ _ _ c.requires _ c.kind_at-kind.ensures c.if-kind-ne-MODEL.false _ _ c.put_model.ensures
