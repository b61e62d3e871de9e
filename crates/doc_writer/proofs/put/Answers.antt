-- `doc_writer::put` meets its contract: a law for each answer, in the paper's order. Assumes nothing.
use Rattle.std.proofs.Common.{arith, ap}
use Rattle.std.proofs.Math.Bool.{not}
use Rattle.doc_writer.specs.Writer.{write_many, write_large, write_full, write_ready, file_long, write_done}
use Rattle.doc_writer.proofs.put.Goals as goal

pub returns-then-tokens-gt-MOST_TOKENS : goal.returns-then-tokens-gt-MOST_TOKENS
returns-then-tokens-gt-MOST_TOKENS c = search write_many

pub returns-then-not-all_small : goal.returns-then-not-all_small
returns-then-not-all_small c = search write_large

pub returns-then-n-file : goal.returns-then-n-file
returns-then-n-file c = search write_full

pub put_bytes-requires : goal.put_bytes-requires
put_bytes-requires c =
    write_ready _ _ c.if-tokens-gt-MOST_TOKENS.false c.all_small.ensures (ap not c.if-not-all_small.false) c.count_bytes-n.ensures c.if-n-file.false

pub overflow_cast-result : goal.overflow_cast-result
overflow_cast-result c = omega (arith, c.count_bytes-n.ensures, file_long c.args.tokens.now)

pub returns : goal.returns
returns c = search write_done
