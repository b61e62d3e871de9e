-- `dtd_content_bytes::put_model` meets its contract: the symbols are at the end of a buffer of their own, and copied from there. Assumes nothing.
use borrow.Author.Rules.{rules}
use mathlib.Core.Path.{refl}
use native.Mathlib.Omega.{arith}
use Rattle.dtd_content_bytes.specs.Models.{to_write, begin_inside, number_room, copy_room, model_put}
use Rattle.dtd_content_bytes.proofs.put_model.Goals as goal

pub write_symbols-begin-requires : goal.write_symbols-begin-requires
write_symbols-begin-requires c = search (rules, to_write)

pub overflow_sub-n : goal.overflow_sub-n
overflow_sub-n c =
    begin_inside _ _ _ _ _ _ c.requires _ _ _ refl c.write_symbols-begin.auto.out c.write_symbols-begin.ensures

pub put_number-next-requires : goal.put_number-next-requires
put_number-next-requires c =
    number_room _ _ _ _ _ _ c.requires _ _ _ refl c.write_symbols-begin.auto.out c.write_symbols-begin.ensures _ (omega arith)

pub copy-requires : goal.copy-requires
copy-requires c =
    copy_room _ _ _ _ _ _ c.requires _ _ _ refl c.write_symbols-begin.auto.out c.write_symbols-begin.ensures _ _ _ c.put_number-next.ensures (omega arith)

pub overflow_add-result : goal.overflow_add-result
overflow_add-result c =
    let h = (copy_room _ _ _ _ _ _ c.requires _ _ _ refl c.write_symbols-begin.auto.out c.write_symbols-begin.ensures _ _ _ c.put_number-next.ensures (omega arith)).0 in
    search rules

pub returns : goal.returns
returns c =
    model_put _ _ _ _ _ _ c.requires _ _ _ refl c.write_symbols-begin.auto.out c.write_symbols-begin.ensures _ _ _ c.put_number-next.ensures c.copy.ensures
