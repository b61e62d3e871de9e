-- `unfolding all-open` opens every definition of the paper, for examples that are computed.
use Rattle.paper.specs.Files.{bytes_of, front, reading, writing, read, write}
use Rattle.paper.specs.Matching.{matches, begins}
use Rattle.paper.specs.Schema.{symbol, expr_of, number, schema_of}
use Rattle.paper.specs.Table.{block, fixed_part, table_of, translate, proper_sets, proper_model, proper_block, proper_entry, proper_fixed, proper}
use Rattle.paper.specs.Tokens.{end_of}
use Rattle.paper.specs.Shape.{is_element, shape_of}
use Rattle.paper.specs.Judgement.{attributes_good, content_good, content_begun, element_fault, judge, checking, check}
use Rattle.paper.specs.Requests.{good_piece, good_place, edited, touched_by}
use Rattle.paper.specs.Back.{went, inverse}
use Rattle.paper.specs.Counts.{fresh, checked_counts, moved, elements_of}
use Rattle.paper.specs.Edits.{looked_at, form_fault, size_fault, limit_fault, editing, edit_by, edit}
use Rattle.paper.specs.Lists.{split_list, edit_list}
use Rattle.paper.specs.Groups.{group}
use Rattle.paper.specs.Inclusion.{shortest_lost, comparing, compare}
use Rattle.paper.specs.Dtd.Reading as dtd
use Rattle.paper.specs.Dtd.Imported.{declared, import, names, spot}
use Rattle.paper.specs.Program.{request, lines_of, printed}

unfoldable pub all_open : Unit {0}
unfolding bytes_of front reading writing read write matches begins symbol expr_of number schema_of block fixed_part table_of translate proper_sets proper_model proper_block proper_entry proper_fixed proper end_of is_element shape_of attributes_good content_good content_begun element_fault judge checking check good_piece good_place edited touched_by went inverse fresh checked_counts moved elements_of looked_at form_fault size_fault limit_fault editing edit_by edit split_list edit_list group shortest_lost comparing compare dtd.reading declared import names spot request lines_of printed
all_open = tt
