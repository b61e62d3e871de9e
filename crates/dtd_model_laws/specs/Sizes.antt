-- How many symbols and names a part of a model has: a name is one symbol, and so is a separator, and so is a suffix. Assumes nothing.
use Rattle.std.specs.Prelude.{◌≡◌, refl, ℕ, ◌+◌, length}
use Rattle.std.proofs.Common.{◌∙◌, arith, length-append}
use Rattle.paper.specs.Expressions.{Expr, seq, alt, count}
use Rattle.paper.specs.Schema.{symbols_of}
use Rattle.paper.specs.Dtd.Letters.{Name}
use Rattle.paper.specs.Dtd.Declarations.{Suffix, once, maybe, many, several, Part, word, sequence, choice, Parts, only, ◌and◌}
use Rattle.paper.specs.Dtd.Numbering.{suffixed, expr_of, paired}

abbrev pub marks : Suffix → ℕ
marks once = 0
marks maybe = 1
marks many = 1
marks several = 1

abbrev mutual
  pub symbols : Part → ℕ
  symbols (word n q) = 1 + marks q
  symbols (sequence ps q) = symbols_in ps + marks q
  symbols (choice p ps q) = symbols p + (1 + symbols_in ps) + marks q

  pub symbols_in : Parts → ℕ
  symbols_in (only p) = symbols p
  symbols_in (p and ps) = symbols p + (1 + symbols_in ps)

abbrev mutual
  pub words : Part → ℕ
  words (word n q) = 1
  words (sequence ps q) = words_in ps
  words (choice p ps q) = words p + words_in ps

  pub words_in : Parts → ℕ
  words_in (only p) = words p
  words_in (p and ps) = words p + words_in ps

module _ (f : Name → ℕ) where
  record Has (e : Expr) (a b : ℕ) : Type 0 where
    many_symbols : length (symbols_of e) ≡ a
    many_names : count e ≡ b

  suffix_has : (q : Suffix) (e : Expr) (a b : ℕ) → Has e a b → Has (suffixed q e) (a + marks q) b
  suffix_has once e a b h = record { many_symbols = h.many_symbols ∙ omega arith; many_names = h.many_names }
  suffix_has maybe e a b h = let i = h.many_symbols in record { many_symbols = omega arith; many_names = h.many_names }
  suffix_has many e a b h = let i = h.many_symbols in record { many_symbols = omega arith; many_names = h.many_names }
  suffix_has several e a b h = let i = h.many_symbols in record { many_symbols = omega arith; many_names = h.many_names }

  seq_has : (e g : Expr) (a b c d : ℕ) → Has e a b → Has g c d → Has (seq e g) (a + (1 + c)) (b + d)
  seq_has e g a b c d h k =
      let i = h.many_symbols in
      let j = k.many_symbols in
      record { many_symbols = rw (length-append (symbols_of e) (symbols_of g)) (omega arith); many_names = rw (h.many_names, k.many_names) }

  alt_has : (e g : Expr) (a b c d : ℕ) → Has e a b → Has g c d → Has (alt e g) (a + (1 + c)) (b + d)
  alt_has e g a b c d h k =
      let i = h.many_symbols in
      let j = k.many_symbols in
      record { many_symbols = rw (length-append (symbols_of e) (symbols_of g)) (omega arith); many_names = rw (h.many_names, k.many_names) }

  mutual
    has : (p : Part) → Has (expr_of p f) (symbols p) (words p)
    has (word n q) = suffix_has q _ 1 1 (record { many_symbols = refl; many_names = refl })
    has (sequence ps q) = suffix_has q (paired ps seq f) (symbols_in ps) (words_in ps) (has_seq ps)
    has (choice p ps q) =
        suffix_has q (alt (expr_of p f) (paired ps alt f)) (symbols p + (1 + symbols_in ps)) (words p + words_in ps)
        (alt_has (expr_of p f) (paired ps alt f) (symbols p) (words p) (symbols_in ps) (words_in ps) (has p) (has_alt ps))

    has_seq : (ps : Parts) → Has (paired ps seq f) (symbols_in ps) (words_in ps)
    has_seq (only p) = has p
    has_seq (p and ps) = seq_has (expr_of p f) (paired ps seq f) (symbols p) (words p) (symbols_in ps) (words_in ps) (has p) (has_seq ps)

    has_alt : (ps : Parts) → Has (paired ps alt f) (symbols_in ps) (words_in ps)
    has_alt (only p) = has p
    has_alt (p and ps) = alt_has (expr_of p f) (paired ps alt f) (symbols p) (words p) (symbols_in ps) (words_in ps) (has p) (has_alt ps)

  pub symbols_many : (p : Part) → length (symbols_of (expr_of p f)) ≡ symbols p
  symbols_many p = (has p).many_symbols

  pub names_many : (p : Part) → count (expr_of p f) ≡ words p
  names_many p = (has p).many_names
