-- The reader of an element's content takes exactly what is written, and stops with 3 exactly at an ambiguous model.
-- Assumes nothing.
use Rattle.std.specs.Prelude.{◌≡◌, refl, Bool, true, false, cond, not, ◌&&◌, List, [], ◌∷◌, ℕ, zero, suc, ◌+◌, ◌≤◌, ◌<◌, leb, ltb, length}
use Rattle.std.proofs.Common.{◌∙◌, arith, leb-true, le-leb}
use Rattle.std.proofs.Math.Bool.{and-eq-true_iff}
use Rattle.std.proofs.Math.Option.{Option, none, some}
use Rattle.std.proofs.lemmas.Bool.{not-true}
use Rattle.paper.specs.Basics.{most_elements, most_names, between, all}
use Rattle.paper.specs.Expressions.{Expr, names, count}
use Rattle.paper.specs.Sets.{ambiguous}
use Rattle.paper.specs.Schema.{symbols_of, expr_of, Content, empty, text, model, ok, pure, refuse, modelled, most_symbols, content_as}
use Rattle.paper.specs.SchemaWritten.{content_written, formed_model}
use Rattle.content_laws.specs.Symbols.{symbols_some, expr_of_iff, range_names}
use Rattle.schema_laws.specs.Written.{ahead, Ends, took, met, failed, Exact, then_takes, then_ends}
use Rattle.schema_laws.specs.Rows.{number_exact, numbers_exact}
use Rattle.schema_laws.specs.Contents.{kind_of, body_of, fit_content, Tangled}

some_symbols : (e : Expr) → leb 1 (length (symbols_of e)) ≡ true
some_symbols e = le-leb 1 (length (symbols_of e)) (symbols_some e)

pub kind_body : (c : Content) → content_written c ≡ kind_of c ∷ body_of c
kind_body empty = refl
kind_body text = refl
kind_body (model e) = refl

module _ (E : ℕ) (h : E ≤ most_elements) where
  -- what is read after the kind k, and where that stops with 3
  abbrev Fit : ℕ → Content → Type 0
  Fit k c = (kind_of c ≡ k) × (fit_content E c ≡ true)

  abbrev Stuck : ℕ → List ℕ → Type 0
  Stuck k s = (k ≡ 2) × Tangled E (λ e. body_of (model e)) s

  abbrev Contents : ℕ → Type 0
  Contents k = Exact (content_as E k) (Fit k) body_of (Stuck k)

  -- EMPTY and text only: c, whose kind no other has
  plain : (k : ℕ) (c : Content) → k < 2 → ((s : List ℕ) → content_as E k s ≡ ok c s)
      → (kind_of c ≡ k) × (body_of c ≡ []) × (fit_content E c ≡ true) → ((d : Content) → kind_of d ≡ k → d ≡ c) → Contents k
  plain k c low reads own other = record {
    takes = λ d r p. rw (other d p.0, own.1) (reads r);
    stops = λ s q. let two = q.0 in absurd (omega arith);
    ends = λ s b. rw (reads s) (took c s (rw own.1) (own.0, own.2));
  }

  only_empty : (c : Content) → kind_of c ≡ 0 → c ≡ empty
  only_empty empty p = refl
  only_empty text p = absurd (omega arith)
  only_empty (model e) p = absurd (omega arith)

  only_text : (c : Content) → kind_of c ≡ 1 → c ≡ text
  only_text empty p = absurd (omega arith)
  only_text text p = refl
  only_text (model e) p = absurd (omega arith)

  -- a model in form, before r
  model_read : (e : Expr) (r : List ℕ) (b : Bool) → formed_model E e ≡ true → ambiguous e ≡ b
      → content_as E 2 (ahead (body_of (model e)) r) ≡ cond b (refuse 3) (pure (model e)) r
  model_read e r b p q =
      let (u, small) = (and-eq-true_iff (leb (length (symbols_of e)) most_symbols && all (λ a. ltb a E) (names e)) (leb (count e) most_names)).0 p in
      let (short, below) = (and-eq-true_iff (leb (length (symbols_of e)) most_symbols) (all (λ a. ltb a E) (names e))).0 u in
      then_takes (number_exact 1 most_symbols (omega arith)) _ (length (symbols_of e)) _ (rw (some_symbols e) short)
      ∙ then_takes (numbers_exact 0 (4 + E) (omega arith) (length (symbols_of e))) _ (symbols_of e) r (refl, range_names E e ∙ below)
      ∙ rw ((expr_of_iff (symbols_of e) e).1 refl, small, q)

  -- the symbols l, read before r
  module _ (l r s : List ℕ) (p : s ≡ ahead (length l ∷ l) r) (short : leb (length l) most_symbols ≡ true)
      (in_range : all (between 0 (4 + E)) l ≡ true) where
    model_ends : (x : Option Expr) → expr_of l ≡ x → Ends (Fit 2) body_of (Stuck 2) s (modelled x r)
    model_ends none q = failed 2 (λ z. omega arith)
    model_ends (some e) q = by (leb (count e) most_names) (ambiguous e) refl refl
      where
        symbols : symbols_of e ≡ l
        symbols = (expr_of_iff l e).0 q

        formed : leb (count e) most_names ≡ true → formed_model E e ≡ true
        formed small = rw (symbols, short, ← range_names E e, symbols, in_range) small

        by : (a b : Bool) → leb (count e) most_names ≡ a → ambiguous e ≡ b
            → Ends (Fit 2) body_of (Stuck 2) s (cond a (cond b (refuse 3) (pure (model e))) (refuse 2) r)
        by true true small amb = met (refl, record { e = e; rest = r; formed = formed small; tangled = amb; begins = rw symbols p })
        by true false small amb = took (model e) r (rw symbols p) (refl, rw (formed small, amb))
        by false b large amb = failed 2 (λ z. omega arith)

  models_exact : Contents 2
  models_exact = record {
    takes = takes;
    stops = λ s q. rw q.1.begins (model_read q.1.e q.1.rest true q.1.formed q.1.tangled);
    ends = λ s b.
        then_ends (number_exact 1 most_symbols (omega arith)) _ s b (λ z. absurd z) λ n t p good c.
        then_ends (numbers_exact 0 (4 + E) (omega arith) n) _ t c (λ z. absurd z) λ l r q fine d.
        model_ends l r s (rw fine.0 (cc)) (rw fine.0 ((and-eq-true_iff (leb 1 n) (leb n most_symbols)).0 good).1) fine.1 (expr_of l) refl;
  }
    where
      takes : (c : Content) (r : List ℕ) → Fit 2 c → content_as E 2 (ahead (body_of c) r) ≡ ok c r
      takes empty r p = let d = p.0 in absurd (omega arith)
      takes text r p = let d = p.0 in absurd (omega arith)
      takes (model e) r p =
          let (fit, k) = (and-eq-true_iff (formed_model E e) (not (ambiguous e))).0 p.1 in
          model_read e r false fit (not-true (ambiguous e) k)

  pub content_exact : (k : ℕ) → leb k 2 ≡ true → Contents k
  content_exact zero low = plain 0 empty (omega arith) (λ s. refl) (refl, refl, refl) only_empty
  content_exact (suc zero) low = plain 1 text (omega arith) (λ s. refl) (refl, refl, refl) only_text
  content_exact (suc (suc zero)) low = models_exact
  content_exact (suc (suc (suc k))) low = let d = leb-true (suc (suc (suc k))) 2 low in absurd (omega arith)
