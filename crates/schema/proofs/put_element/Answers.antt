-- `schema::put_element` meets its contract: one law for each way out. Assumes nothing.
use borrow.Author.Rules.{rules}
use Rattle.reading.specs.Ended.{handed}
use Rattle.schema.specs.Element.{block_kept, element_kind, element_content, element_count, element_attributes, element_put}
use Rattle.schema.proofs.put_element.Goals as goal

pub returns-in_err-kind : goal.returns-in_err-kind
returns-in_err-kind c = rw (handed c.from_residual.ensures.1) (element_kind _ c.args.e _ _ c.args.fixed.now _ c.in_err-kind.ensures)

pub put_content-requires : goal.put_content-requires
put_content-requires c = (c.in_ok-kind.ensures.within, c.in_ok-kind.ensures.high, c.requires.0, c.requires.1)

pub returns-in_err-next : goal.returns-in_err-next
returns-in_err-next c =
    rw (handed c.from_residual-in_err-next.ensures.1) (element_content _ c.args.e _ _ c.args.fixed.now c.in_ok-kind.ensures _ c.in_err-next.ensures)

pub returns-in_err-n : goal.returns-in_err-n
returns-in_err-n c =
    rw (handed c.from_residual-in_err-n.ensures.1) (element_count _ c.args.e _ _ c.args.fixed.now c.in_ok-kind.ensures c.in_ok-next.ensures _ c.in_err-n.ensures)

pub attributes_at-requires : goal.attributes_at-requires
attributes_at-requires c = (c.in_ok-n.ensures.within, c.requires.2)

pub returns-in_err-s : goal.returns-in_err-s
returns-in_err-s c =
    rw (handed c.from_residual-in_err-s.ensures.1)
    (element_attributes _ c.args.e _ _ c.args.fixed.now c.in_ok-kind.ensures c.in_ok-next.ensures c.in_ok-n.ensures _ c.in_err-s.ensures)

pub put_sets-requires : goal.put_sets-requires
put_sets-requires c = block_kept c.put_content.new.block c.args.block.now c.put_content.auto.block c.requires.1

pub returns : goal.returns
returns c = element_put _ c.args.e _ _ c.args.fixed.now c.in_ok-kind.ensures c.in_ok-next.ensures c.in_ok-n.ensures c.in_ok-s.ensures c.put_sets.ensures
