-- `dtd_file::put_element` meets its contract: its content, and its row. Assumes nothing.
use borrow.Author.Rules.{rules}
use Rattle.dtd_file.specs.Elements.{content_ready, row_room, element_put}
use Rattle.dtd_file.proofs.put_element.Goals as goal

pub put_content-next-requires : goal.put_content-next-requires
put_content-next-requires c = search (rules, content_ready)

pub put_row-requires : goal.put_row-requires
put_row-requires c = search (rules, row_room)

pub returns : goal.returns
returns c = search (rules, element_put)
