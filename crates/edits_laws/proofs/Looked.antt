-- The children that an edit looks at, on the tree: those of the element in which the place lies, and of an element whose attribute is set or
-- dropped. Assumes nothing.
use Rattle.std.specs.Prelude.{◌≡◌, refl, Bool, true, false, cond, List, [], ◌∷◌, ◌++◌, ℕ, zero, suc, ◌+◌, ltb, length, take, drop}
use Rattle.std.proofs.Common.{sym, ap, ap₂, ◌∙◌, arith, take_at}
use Rattle.std.proofs.Math.Seq.{take-append-add, drop-append-add}
use Rattle.paper.specs.declared.Tok.{Tok}
use Rattle.paper.specs.declared.Tok.TheVariants.{Start, End, Text, Attr, Value, Bad}
use Rattle.paper.specs.Tokens.{balanced, kids, level, run, slot}
use Rattle.paper.specs.Trees.{Given, Forest, nil, txt, elem, flat_v, flat_a, flat}
use Rattle.paper.specs.Edits.{splice}
use Rattle.paper.specs.TreeEdits.{Hole, here, past_text, past_element, inside, fill, place_of, width, around}
use Rattle.shape_laws.specs.Looked.{over, over_even, over_start}
use Rattle.shape_laws.specs.Tree.{flat_a_append}
use Rattle.shape_laws.specs.Widths.{content_width}
use Rattle.edits_laws.specs.Places.{before, after, before_length}
use Rattle.edits_laws.proofs.Places.{flat_fill}

-- ---- what a part of a tree opens, it closes

run_values : (k : ℕ) (vs : List ℕ) (r : List Tok) → run k (flat_v vs r) ≡ run k r
run_values k [] r = refl
run_values k (v ∷ vs) r = run_values k vs r

run_given : (k : ℕ) (gs : List Given) (r : List Tok) → run k (flat_a gs r) ≡ run k r
run_given k [] r = refl
run_given k (g ∷ gs) r = run_values k g.more (flat_a gs r) ∙ run_given k gs r

run_flat : (k : ℕ) (f : Forest) (r : List Tok) → run k (flat f r) ≡ run k r
run_flat k nil r = refl
run_flat k (txt n f) r = run_flat k f r
run_flat k (elem n gs c f) r = run_given (suc k) gs (flat c (End ∷ flat f r)) ∙ run_flat (suc k) c (End ∷ flat f r) ∙ run_flat k f r

over_values : (vs : List ℕ) (x r : List Tok) → over (flat_v vs x) r ≡ over x r
over_values [] x r = refl
over_values (v ∷ vs) x r = over_values vs x r

over_given : (gs : List Given) (x r : List Tok) → over (flat_a gs x) r ≡ over x r
over_given [] x r = refl
over_given (g ∷ gs) x r = over_values g.more (flat_a gs x) r ∙ over_given gs x r

over_flat : (f : Forest) (x r : List Tok) → over (flat f x) r ≡ over x r
over_flat nil x r = refl
over_flat (txt n f) x r = over_flat f x r
over_flat (elem n gs k f) x r =
    let y : List Tok = flat k (End ∷ flat f x) in
    ap (λ o. cond (level o) (length (kids zero (flat_a gs y ++ r))) (over (flat_a gs y) r)) (run_given zero gs y ∙ run_flat zero k (End ∷ flat f x))
    ∙ over_given gs y r ∙ over_flat k (End ∷ flat f x) r ∙ over_flat f x r

-- ---- the place

-- the tokens before a place close nothing that they did not open
before_open : (k : ℕ) (h : Hole) → level (run (suc k) (before h)) ≡ false
before_open k here = refl
before_open k (past_text n h) = before_open k h
before_open k (past_element n gs c h) = ap level (run_flat (suc k) (elem n gs c nil) (before h)) ∙ before_open k h
before_open k (inside n gs h f) = ap level (run_given (suc (suc k)) gs (before h)) ∙ before_open (suc k) h

around_is : (h : Hole) (g : Forest) (r : List Tok) (top : ℕ)
    → cond (balanced (before h)) top (over (before h) (flat g (after h r))) ≡ around h g top
around_is here g r top = refl
around_is (past_text n h) g r top = around_is h g r top
around_is (past_element n gs k h) g r top =
    ap₂ (λ o x. cond (level o) top x) (run_flat zero (elem n gs k nil) (before h)) (over_flat (elem n gs k nil) (before h) (flat g (after h r)))
    ∙ around_is h g r top
around_is (inside n gs h f) g r top =
    let x : List Tok = flat g (after h (End ∷ flat f r)) in
    let w : length (kids zero (flat_a gs (before h) ++ x)) ≡ width (fill h g)
    = ap (λ l. length (kids zero l)) (sym (flat_a_append gs (before h) x) ∙ ap (flat_a gs) (sym (flat_fill h g (End ∷ flat f r)))) ∙ content_width gs (fill h g) (flat f r) in
    ap (λ b. cond b top (over (Start n ∷ flat_a gs (before h)) x)) (ap level (run_given 1 gs (before h)) ∙ before_open zero h)
    ∙ ap₂ (λ o v. cond (level o) v (over (flat_a gs (before h)) x)) (run_given zero gs (before h)) w
    ∙ ap (λ v. cond (balanced (before h)) (width (fill h g)) v) (over_given gs (before h) x)
    ∙ around_is h g (End ∷ flat f r) (width (fill h g))

-- ---- at a place i of the tree of d

module _ (h : Hole) (f : Forest) (d : List Tok) (i : ℕ) (w : d ≡ flat (fill h f) []) (e : i ≡ place_of h) where
  -- the row g stands there now
  pub row_around : (g : Forest) (x : List Tok) → x ≡ flat g (after h []) → over (take i d) x ≡ around h g 0
  row_around g x r =
      ap₂ over (ap (take i) (w ∙ flat_fill h f []) ∙ take_at (before h) (flat f (after h [])) i (before_length h ∙ sym e)) r
      ∙ go (balanced (before h)) refl (around_is h g [] 0)
    where
      go : (b : Bool) → balanced (before h) ≡ b → cond b 0 (over (before h) (flat g (after h []))) ≡ around h g 0
          → over (before h) (flat g (after h [])) ≡ around h g 0
      go true t z = over_even zero (before h) (flat g (after h [])) t ∙ z
      go false t z = z

  -- an element starts there, with l behind its start; in l, tokens go behind a balanced part, and p comes
  pub start_children : (n : ℕ) (l : List Tok) → flat f (after h []) ≡ Start n ∷ l → (s c : ℕ) (p : List Tok) → balanced (take s l) ≡ true
      → over (take (suc i + s) d) (p ++ drop (suc i + s + c) d) ≡ length (kids zero (splice s c p l))
  start_children n l r s c p b =
      let u : List Tok = before h in
      let z : d ≡ u ++ (Start n ∷ l) = w ∙ flat_fill h f [] ∙ ap (λ x. u ++ x) r in
      let a : suc i + s ≡ length u + suc s = omega (arith, before_length h) in
      let k : suc i + s + c ≡ length u + suc (s + c) = omega (arith, before_length h) in
      ap₂ (λ x y. over x (p ++ y))
      (ap₂ take a z ∙ take-append-add u (Start n ∷ l) (suc s))
      (ap₂ drop k z ∙ drop-append-add u (Start n ∷ l) (suc (s + c)))
      ∙ over_start u n (take s l) (p ++ drop (s + c) l) b

-- an attribute's slot is behind attributes and values
pub slot_even : (a : ℕ) (l : List Tok) → balanced (take (slot a l) l) ≡ true
slot_even a [] = refl
slot_even a (Attr n ∷ l) = go (ltb n a) (slot_even a l)
  where
    go : (b : Bool) → balanced (take (slot a l) l) ≡ true → balanced (take (cond b (suc (slot a l)) 0) (Attr n ∷ l)) ≡ true
    go true h = h
    go false h = refl
slot_even a (Value v ∷ l) = slot_even a l
slot_even a (Start n ∷ l) = refl
slot_even a (End ∷ l) = refl
slot_even a (Text n ∷ l) = refl
slot_even a (Bad ∷ l) = refl
