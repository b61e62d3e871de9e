-- `contentspec::put_content` meets its contract: one law for each way out. Assumes nothing.
use native.Mathlib.Omega.{arith}
use borrow.Author.Rules.{rules}
use Rattle.reading.specs.Ended.{handed}
use Rattle.contentspec.specs.Content.{content_plain, content_count, content_symbols, symbols_range, content_fault, content_model}
use Rattle.contentspec.proofs.put_content.Goals as goal

pub returns-then-kind-lt-MODEL : goal.returns-then-kind-lt-MODEL
returns-then-kind-lt-MODEL c = search content_plain

pub returns-in_err-n : goal.returns-in_err-n
returns-in_err-n c = rw (handed c.from_residual.ensures.1) (content_count _ _ _ c.requires.1 (omega arith) _ c.in_err-n.ensures)

pub returns-in_err-check_symbols : goal.returns-in_err-check_symbols
returns-in_err-check_symbols c =
    rw (handed c.from_residual-in_err-check_symbols.ensures.1)
    (content_symbols _ _ _ c.requires.1 (omega arith) c.in_ok-n.ensures _ c.in_err-check_symbols.ensures)

pub put_symbols-requires : goal.put_symbols-requires
put_symbols-requires c =
    (symbols_range _ _ _ c.requires.1 (omega arith) c.in_ok-n.ensures c.in_ok-check_symbols.ensures c.requires.2, c.requires.3)

pub returns-in_err-put_symbols : goal.returns-in_err-put_symbols
returns-in_err-put_symbols c =
    rw (handed c.from_residual-in_err-put_symbols.ensures.1)
    (content_fault _ _ _ c.requires.1 (omega arith) c.in_ok-n.ensures c.in_ok-check_symbols.ensures _ c.in_err-put_symbols.ensures)

pub returns : goal.returns
returns c = content_model _ _ _ c.requires.1 (omega arith) c.in_ok-n.ensures c.in_ok-check_symbols.ensures c.in_ok-put_symbols.ensures
