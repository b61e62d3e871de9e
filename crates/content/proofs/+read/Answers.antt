-- `read` meets its contract: each way out is a lemma of proofs/Got.antt. Assumes nothing.
use Rattle.std.proofs.Common.{rules, arith}
use Rattle.content.proofs.Got.{part_falls, got_end, got_full, got_name, got_no_part, got_optional, got_repeated, got_no_second, got_choice, got_sequence}
use Rattle.content.proofs.+read.Goals as goal

pub returns-then-at-s : goal.returns-then-at-s
returns-then-at-s t c = search got_end

pub returns-then-p-ge-MOST_NAMES : goal.returns-then-p-ge-MOST_NAMES
returns-then-p-ge-MOST_NAMES t c = got_full (omega arith)

pub returns-then-symbol-ge-NAMED : goal.returns-then-symbol-ge-NAMED
returns-then-symbol-ge-NAMED t c = search got_name

pub returns-in_err-a : goal.returns-in_err-a
returns-in_err-a t c = rw c.from_residual.ensures (got_no_part c.if-at-s.false c.read.ensures c.if-symbol-ge-NAMED.false c.in_err-a.was)

pub returns-then-symbol-eq-OPTIONAL : goal.returns-then-symbol-eq-OPTIONAL
returns-then-symbol-eq-OPTIONAL t c = got_optional c.if-at-s.false c.read.ensures c.in_ok-a.was c.if-symbol-eq-OPTIONAL.true c.with_none.ensures

pub returns-then-symbol-gt-OPTIONAL : goal.returns-then-symbol-gt-OPTIONAL
returns-then-symbol-gt-OPTIONAL t c =
    got_repeated c.if-at-s.false c.read.ensures c.in_ok-a.was c.if-symbol-gt-OPTIONAL.true c.if-symbol-ge-NAMED.false c.connect.ensures c.with_none-then-symbol-gt-OPTIONAL.ensures

pub read-requires-2 : goal.read-requires-2
read-requires-2 t c = (part_falls c.if-at-s.false c.read.ensures c.in_ok-a.was c.decreases, search rules)

pub returns-in_err-b : goal.returns-in_err-b
returns-in_err-b t c =
    rw c.from_residual-in_err-b.ensures (got_no_second c.if-at-s.false c.read.ensures c.if-symbol-eq-OPTIONAL.false c.if-symbol-gt-OPTIONAL.false c.in_ok-a.was c.read-2.ensures c.in_err-b.was)

pub returns-then-symbol-eq-CHOICE : goal.returns-then-symbol-eq-CHOICE
returns-then-symbol-eq-CHOICE t c = got_choice c.if-at-s.false c.read.ensures c.in_ok-a.was c.read-2.ensures c.in_ok-b.was c.if-symbol-eq-CHOICE.true c.either.ensures

pub returns : goal.returns
returns t c =
    got_sequence c.if-at-s.false c.read.ensures c.in_ok-a.was c.read-2.ensures c.in_ok-b.was c.if-symbol-eq-CHOICE.false c.if-symbol-eq-OPTIONAL.false
    c.if-symbol-gt-OPTIONAL.false c.connect-2.ensures c.in_sequence.ensures
