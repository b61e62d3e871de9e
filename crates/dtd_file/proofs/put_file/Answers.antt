-- `dtd_file::put_file` meets its contract: the count of elements, the root, and the elements. Assumes nothing.
use borrow.Author.Rules.{rules}
use mathlib.Core.Path.{◌∙◌}
use lib.ListN.{length-set}
use Rattle.dtd_file.specs.Whole.{files_in, file_put}
use Rattle.dtd_file.proofs.put_file.Goals as goal

pub put_elements-requires : goal.put_elements-requires
put_elements-requires c = search (rules, files_in)

pub returns : goal.returns
returns c = search (rules, file_put)
