-- `children::content` meets its contract. Assumes nothing.
use native.Mathlib.Omega.{arith}
use borrow.Author.Rules.{rules}
use Rattle.table_laws.specs.Parts.{table_parts}
use Rattle.table.specs.Run.{ready_table}
use Rattle.children.specs.Content.{content_texts, content_model}
use Rattle.children.proofs.content.Goals as goal

pub returns-then-kind : goal.returns-then-kind
returns-then-kind c = search content_texts

pub block_of-requires : goal.block_of-requires
block_of-requires c = omega (arith, table_parts c.args.table.now c.requires.table_value.0)

pub model_stop-requires : goal.model_stop-requires
model_stop-requires c = search (rules, ready_table)

pub returns : goal.returns
returns c = search content_model
