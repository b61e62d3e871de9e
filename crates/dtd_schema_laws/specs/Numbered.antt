-- Models with numbers for names: symbols and names are as many whatever the numbers are. Assumes nothing.
use Rattle.std.specs.Prelude.{◌≡◌, refl, Bool, true, ℕ, suc, length}
use Rattle.std.proofs.Common.{ap, length-append}
use Rattle.std.proofs.Math.Bool.{and-true, and-eq-true_iff}
use Rattle.paper.specs.Basics.{all}
use Rattle.paper.specs.Expressions.{Expr, seq, alt, names, count}
use Rattle.paper.specs.Schema.{symbols_of}
use Rattle.paper.specs.Dtd.Letters.{Name}
use Rattle.paper.specs.Dtd.Declarations.{Suffix, once, maybe, many, several, Part, word, sequence, choice, Parts, only, ◌and◌, each, each_of}
use Rattle.paper.specs.Dtd.Numbering.{suffixed, expr_of, paired}
use Rattle.paper_laws.specs.Basics.{all_append}

-- ---- as many symbols and names

pub record Alike (e g : Expr) : Type 0 where
  pub symbols : length (symbols_of e) ≡ length (symbols_of g)
  pub counts : count e ≡ count g

module _ (f g : Name → ℕ) where
  suffix_alike : (q : Suffix) {a b : Expr} → Alike a b → Alike (suffixed q a) (suffixed q b)
  suffix_alike once p = p
  suffix_alike maybe p = record { symbols = ap suc p.symbols; counts = p.counts }
  suffix_alike many p = record { symbols = ap suc p.symbols; counts = p.counts }
  suffix_alike several p = record { symbols = ap suc p.symbols; counts = p.counts }

  seq_alike : {a b c d : Expr} → Alike a b → Alike c d → Alike (seq a c) (seq b d)
  seq_alike {a} {b} {c} {d} p q = record {
    symbols = rw (length-append (symbols_of a) (symbols_of c), length-append (symbols_of b) (symbols_of d), p.symbols, q.symbols);
    counts = rw (p.counts, q.counts);
  }

  alt_alike : {a b c d : Expr} → Alike a b → Alike c d → Alike (alt a c) (alt b d)
  alt_alike {a} {b} {c} {d} p q = record {
    symbols = rw (length-append (symbols_of a) (symbols_of c), length-append (symbols_of b) (symbols_of d), p.symbols, q.symbols);
    counts = rw (p.counts, q.counts);
  }

  mutual
    pub alike : (p : Part) → Alike (expr_of p f) (expr_of p g)
    alike (word n q) = suffix_alike q (record { symbols = refl; counts = refl })
    alike (sequence ps q) = suffix_alike q (alike_seq ps)
    alike (choice p ps q) = suffix_alike q (alt_alike (alike p) (alike_alt ps))

    alike_seq : (ps : Parts) → Alike (paired ps seq f) (paired ps seq g)
    alike_seq (only p) = alike p
    alike_seq (p and ps) = seq_alike (alike p) (alike_seq ps)

    alike_alt : (ps : Parts) → Alike (paired ps alt f) (paired ps alt g)
    alike_alt (only p) = alike p
    alike_alt (p and ps) = alt_alike (alike p) (alike_alt ps)

-- ---- the numbers

module _ (P : ℕ → Bool) (f : Name → ℕ) where
  suffix_names : (q : Suffix) (e : Expr) → names (suffixed q e) ≡ names e
  suffix_names once e = refl
  suffix_names maybe e = refl
  suffix_names many e = refl
  suffix_names several e = refl

  mutual
    pub names_each : (p : Part) → all P (names (expr_of p f)) ≡ each p (λ n. P (f n))
    names_each (word n q) = rw (suffix_names q) (and-true (P (f n)))
    names_each (sequence ps q) = rw (suffix_names q) (names_seq ps)
    names_each (choice p ps q) = rw (suffix_names q, all_append P (names (expr_of p f)) (names (paired ps alt f)), names_each p, names_alt ps)

    names_seq : (ps : Parts) → all P (names (paired ps seq f)) ≡ each_of ps (λ n. P (f n))
    names_seq (only p) = names_each p
    names_seq (p and ps) = rw (all_append P (names (expr_of p f)) (names (paired ps seq f)), names_each p, names_seq ps)

    names_alt : (ps : Parts) → all P (names (paired ps alt f)) ≡ each_of ps (λ n. P (f n))
    names_alt (only p) = names_each p
    names_alt (p and ps) = rw (all_append P (names (expr_of p f)) (names (paired ps alt f)), names_each p, names_alt ps)

module _ (P Q : Name → Bool) (h : (n : Name) → P n ≡ true → Q n ≡ true) where
  mutual
    pub each_implies : (p : Part) → each p P ≡ true → each p Q ≡ true
    each_implies (word n q) k = h n k
    each_implies (sequence ps q) k = each_of_implies ps k
    each_implies (choice p ps q) k = let (a, b) = (and-eq-true_iff (each p P) (each_of ps P)).0 k in rw (each_implies p a) (each_of_implies ps b)

    each_of_implies : (ps : Parts) → each_of ps P ≡ true → each_of ps Q ≡ true
    each_of_implies (only p) k = each_implies p k
    each_of_implies (p and ps) k = let (a, b) = (and-eq-true_iff (each p P) (each_of ps P)).0 k in rw (each_implies p a) (each_of_implies ps b)
