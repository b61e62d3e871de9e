-- `dtd_turns::comment_at` meets its contract. Assumes nothing.
use Rattle.dtd_words.specs.Words.{came_inside}
use Rattle.dtd_turns.specs.Ways.{no_hyphens, commented}
use borrow.Author.Rules.{rules}
use Rattle.dtd_turns.proofs.comment_at.Goals as goal

pub returns-in_err-inside : goal.returns-in_err-inside
returns-in_err-inside c = search (rules, no_hyphens)

pub comment_end-requires : goal.comment_end-requires
comment_end-requires c = search (rules, came_inside)

pub returns : goal.returns
returns c = search (rules, commented)
