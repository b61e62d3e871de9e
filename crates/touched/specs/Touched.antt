-- The judgement of an edited document at what is touched: the parent of the place, if there is one, and then the piece. Assumes nothing.
use Rattle.std.specs.Prelude.{◌≡◌, refl, Result, Bool, true, false, cond, ◌&&◌, ◌||◌, List, [], ◌∷◌, ℕ, zero, suc, ◌+◌, ◌-◌, ◌≤◌, ◌<◌, length, take, drop}
use Rattle.std.proofs.Common.{sym, ap, subst, ◌∙◌, zero-add, add-one, arith, length-drop}
use Rattle.std.proofs.Math.Bool.{and-eq-true_iff}
use Rattle.std.proofs.lemmas.List.{length-map}
use Rattle.paper.specs.declared.Tok.{Tok}
use Rattle.paper.specs.Basics.{most_tokens}
use Rattle.paper.specs.Tokens.{tok_of, toks, starts, is_start, balanced, kids, parent, touched}
use Rattle.paper.specs.Rules.{of_table}
use Rattle.paper.specs.Judgement.{Answer, first, place_of, element_fault, or_else}
use Rattle.paper.specs.Edits.{opens, children_of}
use Rattle.basic_laws.specs.Bools.{clash}
use Rattle.shape_laws.specs.Bridge.{toks_take, toks_drop, length_toks}
use Rattle.shape_laws.specs.Depth.{count}
use Rattle.shape_laws.specs.Touch.{inside, touched_is, parent_of}
use Rattle.shape_laws.specs.Widths.{Comes}
use Rattle.paper.specs.declared.Fault.{Fault}
use Rattle.paper.specs.Codes.{number_of}
use Rattle.paper_laws.specs.Codes.{refused}
use Rattle.judge.specs.Elements.{told_as, number_at, fault_of, kids_at, kids_of, Told, found_first, found_none, first_in, first_same}
use Rattle.piece_faults.specs.Piece.{first_of, cut_out, piece_is}
use Rattle.cost.specs.Whole.{kids_few, piece_small, looked_alone, looked_both}

-- the first fault among the touched elements
abbrev pub touched_first : (table doc : List ℕ) (at n : ℕ) → Answer
touched_first table doc at n = first (element_fault (of_table table)) (place_of (of_table table)) (touched at n (toks doc)) 0 (toks doc)

-- ---- the parent

parent_is : (a : List Tok) → parent_of a < length a → parent a (parent_of a) ≡ true
unfolding parent_of
parent_is [] h = absurd (omega arith)
parent_is (t ∷ a) h = go (parent_is a) (starts t && balanced a) refl h
  where
    go : (parent_of a < length a → parent a (parent_of a) ≡ true) → (b : Bool) → starts t && balanced a ≡ b → cond b 0 (suc (parent_of a)) < suc (length a)
        → parent (t ∷ a) (cond b 0 (suc (parent_of a))) ≡ true
    go ih true f h = f
    go ih false f h = ih (omega arith)

parent_no : (a : List Tok) → length a ≤ parent_of a → (i : ℕ) → parent a i ≡ false
unfolding parent_of
parent_no [] h zero = refl
parent_no [] h (suc i) = refl
parent_no (t ∷ a) h i = go (parent_no a) (starts t && balanced a) refl h i
  where
    go : (length a ≤ parent_of a → (i : ℕ) → parent a i ≡ false) → (b : Bool) → starts t && balanced a ≡ b → suc (length a) ≤ cond b 0 (suc (parent_of a))
        → (i : ℕ) → parent (t ∷ a) i ≡ false
    go ih true f h i = absurd (omega arith)
    go ih false f h zero = f
    go ih false f h (suc i) = ih (omega arith) i

-- the parent is an element, and has its children
kids_start : (p at : ℕ) (d : List Tok) → is_start (drop p (take at d)) ≡ true → kids_at (drop p d) ≡ length (kids zero (drop (suc p) d))
kids_start zero zero d e = clash e refl
kids_start zero (suc at) [] e = clash e refl
kids_start zero (suc at) (t ∷ d) e = rw e
kids_start (suc p) zero d e = clash e refl
kids_start (suc p) (suc at) [] e = clash e refl
kids_start (suc p) (suc at) (t ∷ d) e = kids_start p at d e

kids_within : (d : List Tok) → kids_at d ≤ length d
kids_within [] = omega arith
kids_within (t ∷ d) = go (starts t)
  where
    go : (b : Bool) → cond b (length (kids zero d)) 0 ≤ suc (length d)
    go true = omega (arith, kids_few zero d)
    go false = omega arith

-- ---- what is touched

-- of the n tokens at a place: the first fault among their elements, or their children with the parent's
abbrev pub OfPiece : (table doc : List ℕ) (at n over : ℕ) → Result ℕ Fault → Type 0
OfPiece table doc at n over r = Told (first_of table (take n (drop at doc)) at) (over + (count opens (toks (take n (drop at doc))) - 1)) r

-- as the code cuts it out
pub cut_piece : (table doc : List ℕ) (at n : ℕ) {a : Answer} → a ≡ first_of table (take (at + n - at) (drop at doc)) at → a ≡ first_of table (take n (drop at doc)) at
cut_piece table doc at n e = let k : at + n - at ≡ n = omega arith in e ∙ ap (λ k. first_of table (take k (drop at doc)) at) k

pub cut_own : (doc : List ℕ) (at n : ℕ) {m : ℕ} → m ≡ count opens (toks (take (at + n - at) (drop at doc))) - 1 → m ≡ count opens (toks (take n (drop at doc))) - 1
cut_own doc at n e = let k : at + n - at ≡ n = omega arith in e ∙ ap (λ k. count opens (toks (take k (drop at doc))) - 1) k

-- neither is large
pub parent_few : (table doc : List ℕ) (p : ℕ) {children : ℕ} → length doc ≤ most_tokens → ((0, 0) ≡ fault_of table doc p) × (children ≡ kids_of doc p)
    → children ≤ most_tokens
parent_few table doc p m eo =
    let d : List Tok = toks doc in
    omega (arith, eo.1, kids_within (drop p d), length-drop p d, length-map doc tok_of)

pub piece_few : (doc : List ℕ) (at n : ℕ) {m : ℕ} → at + n ≤ length doc → m ≡ count opens (toks (take (at + n - at) (drop at doc))) - 1 → m ≤ n
piece_few doc at n l em =
    let k : at + n - at ≡ n = omega arith in
    omega (arith, em, ap (λ k. count opens (toks (take k (drop at doc)))) k, piece_small doc at n l)

-- the first fault among the touched elements, or, where they have none, the number of children looked at
abbrev pub Looked : (table doc : List ℕ) (at n : ℕ) → Result ℕ Fault → Type 0
Looked table doc at n r = Told (touched_first table doc at n) (children_of (touched at n (toks doc)) 0 (toks doc)) r

module _ (table doc : List ℕ) (at n : ℕ) (h : at + n ≤ length doc) {p : ℕ} (ep : p ≡ parent_of (toks (take at doc))) where
  before_is : take at (toks doc) ≡ toks (take at doc)
  before_is = sym (toks_take at doc)

  comes_piece : Comes (drop at (toks (take (at + n) doc))) → Comes (toks (take n (drop at doc)))
  comes_piece c = subst Comes (sym (toks_drop at (take (at + n) doc)) ∙ ap toks (cut_out at n doc (omega arith))) c

  no_parent : at ≤ p → (j : ℕ) → parent (take at (toks doc)) j ≡ false
  no_parent g j = rw before_is (parent_no (toks (take at doc)) (omega (arith, length_toks doc at (omega arith))) j)

  pub touched_alone : at ≤ p → Comes (drop at (toks (take (at + n) doc))) → (r : Result ℕ Fault) → OfPiece table doc at n 0 r → Looked table doc at n r
  touched_alone g c r = told_as
      (piece_is table doc at n h c
      ∙ sym
      (first_same (element_fault (of_table table)) (place_of (of_table table)) (touched at n (toks doc)) (inside at n) 0 (toks doc)
      (λ j k. ap (λ b. b || inside at n (0 + j)) (no_parent g (0 + j)))))
      (looked_alone doc at n h (comes_piece c) {m = 0 + (count opens (toks (take n (drop at doc))) - 1)} (zero-add _) ep g) r

  module _ (g : p < at) where
    abbrev number : ℕ
    number = number_at table doc p

    abbrev place : ℕ
    place = place_of (of_table table) number p (drop p (toks doc))

    is : parent (take at (toks doc)) p ≡ true
    is = let z : parent_of (toks (take at doc)) < length (toks (take at doc)) = omega (arith, length_toks doc at (omega arith)) in rw (before_is, ep) (parent_is (toks (take at doc)) z)

    both : or_else number place (first_in table doc at (at + n)) ≡ touched_first table doc at n
    both = sym (touched_is (element_fault (of_table table)) (place_of (of_table table)) at n p (toks doc) is)

    pub touched_parent : (f : Fault) → (number_of f.refusal, f.place) ≡ fault_of table doc p → (number_of f.refusal, f.place) ≡ touched_first table doc at n
    touched_parent f e = found_first number place (first_in table doc at (at + n)) e (refused f.refusal) ∙ both

    pub touched_piece : {over : ℕ} → ((0, 0) ≡ fault_of table doc p) × (over ≡ kids_of doc p) → Comes (drop at (toks (take (at + n) doc)))
        → (r : Result ℕ Fault) → OfPiece table doc at n over r → Looked table doc at n r
    touched_piece {over} o c r = told_as
        (piece_is table doc at n h c ∙ ap (λ x. or_else x place (first_in table doc at (at + n))) (sym (found_none number place o.0 refl)) ∙ both)
        (looked_both doc at n h (comes_piece c) refl ep g over_is) r
      where
        over_is : over ≡ length (kids zero (drop (p + 1) (toks doc)))
        over_is =
            let d : List Tok = toks doc in
            o.1 ∙ kids_start p at d ((and-eq-true_iff (is_start (drop p (take at d))) (balanced (drop (suc p) (take at d)))).0 is).0 ∙ rw add-one
