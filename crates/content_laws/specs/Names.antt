-- Content models: regular expressions whose letters are the numbers of elements.
--
-- The occurrences of an expression are the places where it names an element, numbered from 0 in reading order.
-- Assumes nothing.
use Rattle.std.specs.Prelude.{◌≡◌, refl, ◌≤◌, length}
use Rattle.std.proofs.Common.{arith, length-append}
use Rattle.paper.specs.Expressions.{Expr, name, seq, alt, opt, star, plus, names, count}

pub length_names : (e : Expr) → length (names e) ≡ count e
length_names (name a) = refl
length_names (seq e f) = rw (length-append (names e) (names f), length_names e, length_names f)
length_names (alt e f) = rw (length-append (names e) (names f), length_names e, length_names f)
length_names (opt e) = length_names e
length_names (star e) = length_names e
length_names (plus e) = length_names e

pub count_some : (e : Expr) → 1 ≤ count e
count_some (name a) = omega arith
count_some (seq e f) = let h = count_some e in omega arith
count_some (alt e f) = let h = count_some e in omega arith
count_some (opt e) = count_some e
count_some (star e) = count_some e
count_some (plus e) = count_some e
