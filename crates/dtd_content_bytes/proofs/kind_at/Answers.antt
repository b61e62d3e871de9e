-- `dtd_content_bytes::kind_at` meets its contract: `(`, and `#` behind it. Assumes nothing.
use borrow.Author.Rules.{rules}
use native.Mathlib.Omega.{arith}
use Rattle.std.proofs.lemmas.Bool.{not_from_true}
use Rattle.dtd_content_bytes.specs.Kinds.{no_bracket, bracket_inside, text_only_lem, a_model}
use Rattle.dtd_content_bytes.proofs.kind_at.Goals as goal

pub returns-then-not-byte_at : goal.returns-then-not-byte_at
returns-then-not-byte_at c = search (rules, no_bracket)

pub overflow_add-at : goal.overflow_add-at
overflow_add-at c = let h = bracket_inside c.args.text.now c.args.at _ c.byte_at.ensures (not_from_true _ c.if-not-byte_at.false) in search rules

pub skip_white-requires : goal.skip_white-requires
skip_white-requires c = let h = bracket_inside c.args.text.now c.args.at _ c.byte_at.ensures (not_from_true _ c.if-not-byte_at.false) in omega arith

pub returns-then-byte_at : goal.returns-then-byte_at
returns-then-byte_at c = search (rules, text_only_lem)

pub returns : goal.returns
returns c = search (rules, a_model)
