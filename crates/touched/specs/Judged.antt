-- What the judgement at what is touched gives: of the root and the elements, and of the whole. Assumes nothing.
use Rattle.std.specs.Prelude.{◌≡◌, refl, Result, Bool, List, ℕ, zero, suc}
use Rattle.std.proofs.Common.{sym, ap, ◌∙◌}
use Rattle.paper.specs.declared.Tok.{Tok}
use Rattle.paper.specs.Tokens.{toks, touched}
use Rattle.paper.specs.Rules.{Rules, of_table}
use Rattle.paper.specs.Judgement.{Answer, or_else, before, root_fault, first, element_fault, place_of, key_fault, judge}
use Rattle.paper.specs.Edits.{children_of}
use Rattle.paper.specs.declared.Fault.{Fault}
use Rattle.paper.specs.Codes.{number_of}
use Rattle.paper_laws.specs.Codes.{stands_first}
use Rattle.judge.specs.Elements.{Told, told_as}
use Rattle.touched.specs.Touched.{touched_first, Looked}

-- the root, then the elements that are judged: the judgement without IDs and references
abbrev pub elements_fault : Rules → (ℕ → Bool) → List Tok → Answer
elements_fault R judged d = before (root_fault R d) (first (element_fault R) (place_of R) judged 0 d)

-- with IDs and references after it, it is the judgement
before_next : (a b c : Answer) → before (before a b) c ≡ before a (before b c)
before_next (zero, i) b c = refl
before_next (suc n, i) b c = refl

pub then_keys : (R : Rules) (judged : ℕ → Bool) (d : List Tok) → before (elements_fault R judged d) (key_fault R d) ≡ judge R judged d
unfolding judge
then_keys R judged d = before_next (root_fault R d) (first (element_fault R) (place_of R) judged 0 d) (key_fault R d)

-- root and elements at what is touched, or, where they have no fault, the number of children looked at
abbrev pub Elements : (table doc : List ℕ) (at n : ℕ) → Result ℕ Fault → Type 0
Elements table doc at n r = Told (elements_fault (of_table table) (touched at n (toks doc)) (toks doc)) (children_of (touched at n (toks doc)) 0 (toks doc)) r

module _ (table doc : List ℕ) (at n : ℕ) where
  pub elements_root : (f : Fault) → (number_of f.refusal, f.place) ≡ root_fault (of_table table) (toks doc)
      → (number_of f.refusal, f.place) ≡ elements_fault (of_table table) (touched at n (toks doc)) (toks doc)
  elements_root f e = stands_first f (touched_first table doc at n) ∙ ap (λ a. before a (touched_first table doc at n)) e

  pub elements_good : (0, 0) ≡ root_fault (of_table table) (toks doc) → (r : Result ℕ Fault) → Looked table doc at n r → Elements table doc at n r
  elements_good e r = told_as (ap (λ a. before a (touched_first table doc at n)) e) refl r

-- the judgement at what is touched, or, where it finds no fault, the number of children looked at
abbrev pub Found : (table doc : List ℕ) (at n : ℕ) → Result ℕ Fault → Type 0
Found table doc at n r = Told (judge (of_table table) (touched at n (toks doc)) (toks doc)) (children_of (touched at n (toks doc)) 0 (toks doc)) r

module _ (table doc : List ℕ) (at n : ℕ) where
  abbrev R : Rules
  R = of_table table

  abbrev d : List Tok
  d = toks doc

  pub found_elements : (f : Fault) → (number_of f.refusal, f.place) ≡ elements_fault (of_table table) (touched at n (toks doc)) (toks doc)
      → (number_of f.refusal, f.place) ≡ judge (of_table table) (touched at n (toks doc)) (toks doc)
  found_elements f e = stands_first f (key_fault R d) ∙ ap (λ a. before a (key_fault R d)) e ∙ then_keys R (touched at n d) d

  pub found_keys : (0, 0) ≡ elements_fault (of_table table) (touched at n (toks doc)) (toks doc) → {a : Answer} → a ≡ key_fault (of_table table) (toks doc)
      → a ≡ judge (of_table table) (touched at n (toks doc)) (toks doc)
  found_keys z e = e ∙ ap (λ a. before a (key_fault R d)) z ∙ then_keys R (touched at n d) d
