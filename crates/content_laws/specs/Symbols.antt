-- The symbols of a content model and the expression that they are: the symbols are exactly one expression, and that one, exactly if
-- they are its prefix form. Assumes nothing.
use Rattle.std.specs.Prelude.{◌≡◌, refl, ◌↔◌, Bool, true, false, List, [], ◌∷◌, ◌++◌, ℕ, zero, suc, ◌+◌, ◌-◌, ◌≤◌, leb, ltb, length}
use Rattle.std.proofs.Common.{sym, ap, ◌∙◌, append_assoc, append-nil, arith, ne_eqb, ltb-true, ltb-false, le-leb}
use Rattle.std.proofs.Math.Option.{Option, none, some}
use Rattle.std.proofs.lemmas.Bool.{lt-leb}
use Rattle.std.proofs.Math.Dec.{leb-zero}
use Rattle.paper.specs.Expressions.{Expr, name, seq, alt, opt, star, plus, names}
use Rattle.paper.specs.Basics.{between, all}
use Rattle.paper.specs.Schema.{symbols_of, symbol, fed, exprs_of, only, expr_of}
use Rattle.basic_laws.specs.Numbers.{five}
use Rattle.paper_laws.specs.Basics.{all_append}

pub symbols_some : (e : Expr) → 1 ≤ length (symbols_of e)
symbols_some (name a) = omega arith
symbols_some (seq e f) = omega arith
symbols_some (alt e f) = omega arith
symbols_some (opt e) = omega arith
symbols_some (star e) = omega arith
symbols_some (plus e) = omega arith

abbrev pushed : Expr → Option (List Expr) → Option (List Expr)
pushed e none = none
pushed e (some es) = some (e ∷ es)

symbol_name : (a : ℕ) (o : Option (List Expr)) → fed (5 + a) o ≡ pushed (name a) o
unfolding symbol
symbol_name a none = refl
symbol_name a (some es) =
    let d : 5 + a - 5 ≡ a = omega arith in
    rw (
      ne_eqb (5 + a) 0 (λ c. omega arith),
      ne_eqb (5 + a) 1 (λ c. omega arith),
      ne_eqb (5 + a) 2 (λ c. omega arith),
      ne_eqb (5 + a) 3 (λ c. omega arith),
      ne_eqb (5 + a) 4 (λ c. omega arith),
      d,
    )

pushed_two : (e f : Expr) (o : Option (List Expr)) → (fed 0 (pushed e (pushed f o)) ≡ pushed (seq e f) o) × (fed 1 (pushed e (pushed f o)) ≡ pushed (alt e f) o)
unfolding symbol
pushed_two e f none = (refl, refl)
pushed_two e f (some es) = (refl, refl)

pushed_one : (e : Expr) (o : Option (List Expr))
    → (fed 2 (pushed e o) ≡ pushed (opt e) o) × (fed 3 (pushed e o) ≡ pushed (star e) o) × (fed 4 (pushed e o) ≡ pushed (plus e) o)
unfolding symbol
pushed_one e none = (refl, refl, refl)
pushed_one e (some es) = (refl, refl, refl)

push_both : (e f : Expr) (r : List ℕ) → exprs_of (symbols_of e ++ (symbols_of f ++ r)) ≡ pushed e (exprs_of (symbols_of f ++ r))
    → exprs_of (symbols_of f ++ r) ≡ pushed f (exprs_of r) → exprs_of ((symbols_of e ++ symbols_of f) ++ r) ≡ pushed e (pushed f (exprs_of r))
push_both e f r p q = ap exprs_of (append_assoc (symbols_of e) (symbols_of f) r) ∙ p ∙ ap (pushed e) q

-- the symbols of e, before others, give e, before theirs
exprs_push : (e : Expr) (r : List ℕ) → exprs_of (symbols_of e ++ r) ≡ pushed e (exprs_of r)
exprs_push (name a) r = symbol_name a (exprs_of r)
exprs_push (seq e f) r = ap (fed 0) (push_both e f r (exprs_push e (symbols_of f ++ r)) (exprs_push f r)) ∙ (pushed_two e f (exprs_of r)).0
exprs_push (alt e f) r = ap (fed 1) (push_both e f r (exprs_push e (symbols_of f ++ r)) (exprs_push f r)) ∙ (pushed_two e f (exprs_of r)).1
exprs_push (opt e) r = ap (fed 2) (exprs_push e r) ∙ (pushed_one e (exprs_of r)).0
exprs_push (star e) r = ap (fed 3) (exprs_push e r) ∙ (pushed_one e (exprs_of r)).1
exprs_push (plus e) r = ap (fed 4) (exprs_push e r) ∙ (pushed_one e (exprs_of r)).2

-- the symbols of several expressions
abbrev symbols_of_all : List Expr → List ℕ
symbols_of_all [] = []
symbols_of_all (e ∷ es) = symbols_of e ++ symbols_of_all es

symbol_back : (s : ℕ) (es fs : List Expr) → symbol s es ≡ some fs → s ∷ symbols_of_all es ≡ symbols_of_all fs
unfolding symbol
symbol_back zero (e ∷ f ∷ es) fs c = let d : fs ≡ seq e f ∷ es = cc in rw (d, append_assoc)
symbol_back zero [] fs c = let z : ◌≡◌ {A = ℕ} 0 1 = cc in absurd (omega arith)
symbol_back zero (e ∷ []) fs c = let z : ◌≡◌ {A = ℕ} 0 1 = cc in absurd (omega arith)
symbol_back (suc zero) (e ∷ f ∷ es) fs c = let d : fs ≡ alt e f ∷ es = cc in rw (d, append_assoc)
symbol_back (suc zero) [] fs c = let z : ◌≡◌ {A = ℕ} 0 1 = cc in absurd (omega arith)
symbol_back (suc zero) (e ∷ []) fs c = let z : ◌≡◌ {A = ℕ} 0 1 = cc in absurd (omega arith)
symbol_back (suc (suc zero)) (e ∷ es) fs c = let d : fs ≡ opt e ∷ es = cc in rw d
symbol_back (suc (suc zero)) [] fs c = let z : ◌≡◌ {A = ℕ} 0 1 = cc in absurd (omega arith)
symbol_back (suc (suc (suc zero))) (e ∷ es) fs c = let d : fs ≡ star e ∷ es = cc in rw d
symbol_back (suc (suc (suc zero))) [] fs c = let z : ◌≡◌ {A = ℕ} 0 1 = cc in absurd (omega arith)
symbol_back (suc (suc (suc (suc zero)))) (e ∷ es) fs c = let d : fs ≡ plus e ∷ es = cc in rw d
symbol_back (suc (suc (suc (suc zero)))) [] fs c = let z : ◌≡◌ {A = ℕ} 0 1 = cc in absurd (omega arith)
symbol_back (suc (suc (suc (suc (suc a))))) es fs c =
    let k : some (name a ∷ es) ≡ some fs = sym (symbol_name a (some es)) ∙ ap (λ s. fed s (some es)) (five a) ∙ c in
    let d : fs ≡ name a ∷ es = cc in
    rw d (ap (λ s. s ∷ symbols_of_all es) (sym (five a)))

fed_back : (s : ℕ) (r : List ℕ) (o : Option (List Expr)) (fs : List Expr) → ((es : List Expr) → o ≡ some es → r ≡ symbols_of_all es)
    → fed s o ≡ some fs → s ∷ r ≡ symbols_of_all fs
fed_back s r none fs h c = let z : ◌≡◌ {A = ℕ} 0 1 = cc in absurd (omega arith)
fed_back s r (some es) fs h c = ap (λ l. s ∷ l) (h es refl) ∙ symbol_back s es fs c

exprs_back : (w : List ℕ) (es : List Expr) → exprs_of w ≡ some es → w ≡ symbols_of_all es
exprs_back [] es c = let d : es ≡ [] = cc in rw d
exprs_back (s ∷ r) fs c = fed_back s r (exprs_of r) fs (λ es d. exprs_back r es d) c

only_back : (o : Option (List Expr)) (e : Expr) → only o ≡ some e → o ≡ some (e ∷ [])
only_back none e c = let z : ◌≡◌ {A = ℕ} 0 1 = cc in absurd (omega arith)
only_back (some []) e c = let z : ◌≡◌ {A = ℕ} 0 1 = cc in absurd (omega arith)
only_back (some (f ∷ [])) e c = let d : f ≡ e = cc in rw d
only_back (some (f ∷ g ∷ es)) e c = let z : ◌≡◌ {A = ℕ} 0 1 = cc in absurd (omega arith)

-- The symbols are the expression e exactly if they are e's in prefix form.
pub expr_of_iff : (w : List ℕ) (e : Expr) → (expr_of w ≡ some e) ↔ (symbols_of e ≡ w)
unfolding expr_of
expr_of_iff w e = (
  λ c. sym (exprs_back w (e ∷ []) (only_back (exprs_of w) e c) ∙ append-nil (symbols_of e)),
  λ c. ap (λ s. only (exprs_of s)) (sym c ∙ sym (append-nil (symbols_of e))) ∙ ap only (exprs_push e []),
)

-- ---- symbols in range, and names below E

module _ (E : ℕ) where
  name_range : (a : ℕ) → between 0 (4 + E) (5 + a) ≡ ltb a E
  name_range a = rw (leb-zero (5 + a)) (go (ltb a E) refl)
    where
      go : (b : Bool) → ltb a E ≡ b → leb (5 + a) (4 + E) ≡ b
      go true p = let q = ltb-true a E p in le-leb (5 + a) (4 + E) (omega arith)
      go false p = let q = ltb-false a E p in lt-leb (5 + a) (4 + E) (omega arith)

  abbrev Same : List ℕ → List ℕ → Type 0
  Same symbols l = all (between 0 (4 + E)) symbols ≡ all (λ a. ltb a E) l

  both_names : (l m : List ℕ) (p q : List ℕ) → Same l p → Same m q → Same (l ++ m) (p ++ q)
  both_names l m p q x y = rw (all_append (between 0 (4 + E)) l m, all_append (λ a. ltb a E) p q, x, y)

  -- the symbols of e are in the range of E elements exactly if e's names are below E
  pub range_names : (e : Expr) → all (between 0 (4 + E)) (symbols_of e) ≡ all (λ a. ltb a E) (names e)
  range_names (name a) = rw name_range
  range_names (seq e f) = rw (le-leb 0 (4 + E) (omega arith)) (both_names (symbols_of e) (symbols_of f) (names e) (names f) (range_names e) (range_names f))
  range_names (alt e f) = rw (le-leb 1 (4 + E) (omega arith)) (both_names (symbols_of e) (symbols_of f) (names e) (names f) (range_names e) (range_names f))
  range_names (opt e) = rw (le-leb 2 (4 + E) (omega arith)) (range_names e)
  range_names (star e) = rw (le-leb 3 (4 + E) (omega arith)) (range_names e)
  range_names (plus e) = rw (le-leb 4 (4 + E) (omega arith)) (range_names e)
