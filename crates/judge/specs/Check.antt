-- The whole check, from what its parts answer. Assumes nothing.
use Rattle.std.specs.Prelude.{◌≡◌, refl, Bool, true, false, not, List, [], ◌∷◌, ℕ, ◌/◌, ◌≤◌, leb, length, take, drop, get_or}
use Rattle.std.proofs.Common.{sym, ap, ◌∙◌, arith}
use Rattle.std.proofs.Math.Bool.{and-eq-true_iff}
use borrow.Author.Tests.{leb-true, eq-eqb, ne_eqb, not-true, not-false}
use Rattle.paper.specs.declared.Tok.{Tok}
use Rattle.paper.specs.declared.Tok.TheVariants.{Start, End, Text, Attr, Value, Bad}
use Rattle.paper.specs.Basics.{most_tokens}
use Rattle.paper.specs.Tokens.{tok_of, toks, starts}
use Rattle.paper.specs.Shape.{shape_of, is_element, shallow}
use Rattle.paper.specs.Table.{proper}
use Rattle.paper.specs.Rules.{of_table}
use Rattle.paper.specs.Judgement.{Answer, before, element_fault, first, place_of, whole, root_fault, key_fault, judge, checking, check}
use Rattle.basic_laws.specs.Bools.{clash}
use Rattle.shape_laws.specs.Ends.{rest_at}
use Rattle.tokens.specs.Theorems.{start_iff}
use Rattle.paper.specs.declared.Fault.{Fault}
use Rattle.paper.specs.Codes.{number_of}
use Rattle.paper_laws.specs.Codes.{stands_first}
use Rattle.judge.specs.Elements.{first_in, first_whole}

-- ---- the root

pub root_none : (table doc : List ℕ) → length doc ≡ 0 → (0, 0) ≡ root_fault (of_table table) (toks doc)
root_none table [] e = refl
root_none table (t ∷ doc) e = absurd (omega arith)

module _ (table doc : List ℕ) (some : length doc ≡ 0 → ⊥) {y : Bool} (ey : y ≡ starts (tok_of (get_or doc 0 0))) where
  next : root_fault (of_table table) (toks doc) ≡ root_fault (of_table table) (tok_of (get_or doc 0 0) ∷ drop 1 (toks doc))
  next = ap (root_fault (of_table table)) (rest_at doc 0 (omega arith))

  pub root_unknown : not y ≡ true → (0, 0) ≡ root_fault (of_table table) (toks doc)
  root_unknown n = sym (next ∙ none (tok_of (get_or doc 0 0)) (sym ey ∙ not-true y n))
    where
      none : (x : Tok) → starts x ≡ false → root_fault (of_table table) (x ∷ drop 1 (toks doc)) ≡ (0, 0)
      none (Start n) s = clash refl s
      none End s = refl
      none (Text n) s = refl
      none (Attr n) s = refl
      none (Value n) s = refl
      none Bad s = refl

  module _ (n : not y ≡ false) {r : ℕ} (er : r ≡ get_or doc 0 0 / 8) where
    named : root_fault (of_table table) (toks doc) ≡ root_fault (of_table table) (Start r ∷ drop 1 (toks doc))
    named = rw er (rw ((start_iff (get_or doc 0 0)).0 (sym ey ∙ not-false y n)) at next)

    pub root_same : r ≡ get_or table 1 0 → (0, 0) ≡ root_fault (of_table table) (toks doc)
    root_same q = sym (rw (eq-eqb r (get_or table 1 0) q) at named)

    pub root_other : (r ≡ get_or table 1 0 → ⊥) → (10, 0) ≡ root_fault (of_table table) (toks doc)
    root_other q = sym (rw (ne_eqb r (get_or table 1 0) q) at named)

-- ---- the judgement of a document with shape, where the first fault among the elements that are judged is known

abbrev pub judged_with : (table doc : List ℕ) → Answer → Answer
judged_with table doc elements = before (root_fault (of_table table) (toks doc)) (before elements (key_fault (of_table table) (toks doc)))

module _ (table doc : List ℕ) where
  abbrev keys : Answer
  keys = key_fault (of_table table) (toks doc)

  pub with_root : (elements : Answer) (f : Fault) → (number_of f.refusal, f.place) ≡ root_fault (of_table table) (toks doc)
      → (number_of f.refusal, f.place) ≡ judged_with table doc elements
  with_root elements f e = stands_first f (before elements keys) ∙ ap (λ a. before a (before elements keys)) e

  module _ (er : (0, 0) ≡ root_fault (of_table table) (toks doc)) where
    after_root : (elements : Answer) → before elements keys ≡ judged_with table doc elements
    after_root elements = ap (λ a. before a (before elements keys)) er

    pub with_element : (elements : Answer) (f : Fault) → (number_of f.refusal, f.place) ≡ elements → (number_of f.refusal, f.place) ≡ judged_with table doc elements
    with_element elements f e = stands_first f keys ∙ ap (λ a. before a keys) e ∙ after_root elements

    pub with_keys : (elements : Answer) {a : Answer} → (0, 0) ≡ elements → a ≡ key_fault (of_table table) (toks doc) → a ≡ judged_with table doc elements
    with_keys elements z e = e ∙ ap (λ a. before a keys) z ∙ after_root elements

-- judging some places is `judge`
pub judged_is : (table doc : List ℕ) (judged : ℕ → Bool)
    → judged_with table doc (first (element_fault (of_table table)) (place_of (of_table table)) judged 0 (toks doc)) ≡ judge (of_table table) judged (toks doc)
unfolding judge
judged_is table doc judged = refl

-- every element, then the rest
pub whole_judged : (table doc : List ℕ) {a : Answer} → a ≡ judged_with table doc (first_in table doc 0 (length doc)) → a ≡ judge (of_table table) whole (toks doc)
whole_judged table doc ea = ea ∙ ap (judged_with table doc) (first_whole table doc) ∙ judged_is table doc whole

-- ---- the check

-- a document with shape is no longer than it may be
pub record Fitting (doc : List ℕ) (used : ℕ) : Type 0 where
  pub few : used ≤ most_tokens
  pub long : used ≤ length doc

pub shape_fits : (doc : List ℕ) (used : ℕ) {y : Bool} → y ≡ shape_of doc used → not y ≡ false → Fitting doc used
unfolding shape_of
shape_fits doc used {y} e h =
    let d : List Tok = toks (take used doc) in
    let (s, _) = (and-eq-true_iff _ (shallow d)).0 (sym e ∙ not-false y h) in
    let (s, _) = (and-eq-true_iff _ (is_element d)).0 s in
    let (s, long) = (and-eq-true_iff _ (leb used (length doc))).0 s in
    let (_, few) = (and-eq-true_iff (leb 2 used) (leb used most_tokens)).0 s in
    record { few = leb-true used most_tokens few; long = leb-true used (length doc) long }

pub is_proper : (table : List ℕ) {y : Bool} → y ≡ proper table → not y ≡ false → proper table ≡ true
is_proper table {y} e h = sym e ∙ not-false y h

module _ (table doc : List ℕ) (used : ℕ) {y : Bool} (ey : y ≡ proper table) where
  pub check_table : not y ≡ true → (13, 0) ≡ check table doc used
  unfolding check
  check_table h = rw (← ey, not-true y h)

  module _ (h : not y ≡ false) {z : Bool} (ez : z ≡ shape_of doc used) where
    pub check_shape : not z ≡ true → (4, 0) ≡ check table doc used
    unfolding check checking
    check_shape g = rw (← ey, not-false y h, ← ez, not-true z g)

    pub check_judged : not z ≡ false → {a : Answer} → a ≡ judge (of_table table) whole (toks (take used doc)) → a ≡ check table doc used
    unfolding check checking
    check_judged g ea = rw (← ey, not-false y h, ← ez, not-false z g) ea
