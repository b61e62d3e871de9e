-- The symbols of a model are one byte each. Assumes nothing.
use Rattle.std.specs.Prelude.{List, ◌++◌, ℕ, ◌+◌, ◌≤◌, ltb}
use Rattle.std.proofs.Common.{arith, lt-ltb}
use Rattle.paper.specs.Basics.{most_elements}
use Rattle.paper.specs.Expressions.{Expr, name, seq, alt}
use Rattle.paper.specs.Schema.{symbols_of}
use Rattle.paper.specs.Dtd.Letters.{Name}
use Rattle.paper.specs.Dtd.Declarations.{Suffix, once, maybe, many, several, Part, word, sequence, choice, Parts, only, ◌and◌}
use Rattle.paper.specs.Dtd.Numbering.{suffixed, expr_of, paired}
use Rattle.paper_laws.specs.Basics.{all_append}
use Rattle.numbers.specs.Small.{IsSmall}

suffix_small : (q : Suffix) (e : Expr) → IsSmall (symbols_of e) → IsSmall (symbols_of (suffixed q e))
suffix_small once e h = h
suffix_small maybe e h = h
suffix_small many e h = h
suffix_small several e h = h

both_small : (l m : List ℕ) → IsSmall l → IsSmall m → IsSmall (l ++ m)
both_small l m h k = rw (all_append (λ n. ltb n 128) l m, h, k)

module _ (f : Name → ℕ) (few : (n : Name) → f n ≤ most_elements) where
  mutual
    pub part_small : (p : Part) → IsSmall (symbols_of (expr_of p f))
    part_small (word n q) = suffix_small q (name (f n)) (rw (lt-ltb (5 + f n) 128 (omega (arith, few n))))
    part_small (sequence ps q) = suffix_small q (paired ps seq f) (seq_small ps)
    part_small (choice p ps q) = suffix_small q (alt (expr_of p f) (paired ps alt f)) (both_small (symbols_of (expr_of p f)) (symbols_of (paired ps alt f)) (part_small p) (alt_small ps))

    seq_small : (ps : Parts) → IsSmall (symbols_of (paired ps seq f))
    seq_small (only p) = part_small p
    seq_small (p and ps) = both_small (symbols_of (expr_of p f)) (symbols_of (paired ps seq f)) (part_small p) (seq_small ps)

    alt_small : (ps : Parts) → IsSmall (symbols_of (paired ps alt f))
    alt_small (only p) = part_small p
    alt_small (p and ps) = both_small (symbols_of (expr_of p f)) (symbols_of (paired ps alt f)) (part_small p) (alt_small ps)
