-- What a document of good shape is: the tokens of one element, a tree.
use Rattle.std.specs.Prelude.{◌≡◌, refl, Bool, true, false, cond, ◌&&◌, List, [], ◌∷◌, ◌++◌, ◌↔◌, ℕ, zero, suc, pred, ltb, length}
use Rattle.std.proofs.Common.{sym, ap, ap₂, ◌∙◌, arith}
use Rattle.std.proofs.Math.Bool.{and-eq-true_iff}
use Rattle.paper.specs.declared.Tok.{Tok}
use Rattle.paper.specs.declared.Tok.TheVariants.{Start, End, Text, Attr, Value, Bad}
use Rattle.paper.specs.Shape.{Phase, Head, Named, Valued, Body, Fail}
use Rattle.basic_laws.specs.Bools.{both}
use Rattle.shape_laws.specs.Phases.{failing, content, ready, ready_content}
use Rattle.shape_laws.specs.Keep.{element_made, element_parts, from_start}
use Rattle.paper.specs.Shape.{is_body, is_element, phase_of, phases}
use Rattle.paper.specs.Tokens.{close}
use Rattle.paper.specs.Trees.{Given, Forest, nil, txt, elem, flat_v, flat_a, flat, above, rises, good, IsTree}

-- ---- the tokens of a part, and what comes after it

flat_v_append : (vs : List ℕ) (a r : List Tok) → flat_v vs (a ++ r) ≡ flat_v vs a ++ r
flat_v_append [] a r = refl
flat_v_append (v ∷ vs) a r = ap (λ z. Value v ∷ z) (flat_v_append vs a r)

pub flat_a_append : (gs : List Given) (a r : List Tok) → flat_a gs (a ++ r) ≡ flat_a gs a ++ r
flat_a_append [] a r = refl
flat_a_append (g ∷ gs) a r = rw (flat_a_append gs a r, flat_v_append g.more (flat_a gs a) r)

pub flat_append : (f : Forest) (a r : List Tok) → flat f (a ++ r) ≡ flat f a ++ r
flat_append nil a r = refl
flat_append (txt n f) a r = ap (λ z. Text n ∷ z) (flat_append f a r)
flat_append (elem n gs k f) a r =
    rw (flat_append f a r, flat_append k (End ∷ flat f a) r, flat_a_append gs (flat k (End ∷ flat f a)) r)

-- ---- the tokens of a tree have the shape

abbrev Full : ℕ → List Tok → Type 0
Full k d = suc (close k d) ≡ length d

full_values : (k : ℕ) (vs : List ℕ) (r : List Tok) → Full k r → Full k (flat_v vs r)
full_values k [] r e = e
full_values k (v ∷ vs) r e = ap suc (full_values k vs r e)

full_attrs : (k : ℕ) (gs : List Given) (r : List Tok) → Full k r → Full k (flat_a gs r)
full_attrs k [] r e = e
full_attrs k (g ∷ gs) r e = ap suc (ap suc (full_values k g.more (flat_a gs r) (full_attrs k gs r e)))

full_flat : (k : ℕ) (f : Forest) (r : List Tok) → Full k r → Full k (flat f r)
full_flat k nil r e = e
full_flat k (txt n f) r e = ap suc (full_flat k f r e)
full_flat k (elem n gs c f) r e =
    ap suc (full_attrs (suc k) gs (flat c (End ∷ flat f r)) (full_flat (suc k) c (End ∷ flat f r) (ap suc (full_flat k f r e))))

phases_values : (a : ℕ) (vs : List ℕ) (r : List Tok) → phases (Valued a) (flat_v vs r) ≡ phases (Valued a) r
phases_values a [] r = refl
phases_values a (v ∷ vs) r = phases_values a vs r

-- the attributes lead to a phase that is ready
after_above : (b : ℕ) (gs : List Given) (r : List Tok) → above b gs ≡ true → (q : Phase) × (ready q ≡ true) × (phases (Valued b) (flat_a gs r) ≡ phases q r)
after_above b [] r e = (Valued b, refl, refl)
after_above b (g ∷ gs) r e =
    let h = (and-eq-true_iff (ltb b g.name) (above g.name gs)).0 e in
    let n = after_above g.name gs r h.1 in (
      n.0,
      n.1,
      ap (λ z. phases (phase_of (cond z (Named g.name) Fail) (Value g.value)) (flat_v g.more (flat_a gs r))) h.0
          ∙ phases_values g.name g.more (flat_a gs r) ∙ n.2,
    )

after_rises : (gs : List Given) (r : List Tok) → rises gs ≡ true → (q : Phase) × (ready q ≡ true) × (phases Head (flat_a gs r) ≡ phases q r)
after_rises [] r e = (Head, refl, refl)
after_rises (g ∷ gs) r e =
    let n = after_above g.name gs r e in
    (n.0, n.1, phases_values g.name g.more (flat_a gs r) ∙ n.2)

phases_flat : (q : Phase) (f : Forest) (t : Tok) (r : List Tok) → ready q ≡ true → good f ≡ true → content t ≡ true
    → phases q (flat f (t ∷ r)) ≡ phases Body (t ∷ r)
phases_flat q nil t r p g c = ap (λ z. phases z r) (ready_content q t p c)
phases_flat q (txt n f) t r p g c = ap (λ z. phases z (flat f (t ∷ r))) (ready_content q (Text n) p refl) ∙ phases_flat Body f t r refl g c
phases_flat q (elem n gs k f) t r p g c =
    let h = (and-eq-true_iff (rises gs) (good k && good f)).0 g in
    let i = (and-eq-true_iff (good k) (good f)).0 h.1 in
    let a = after_rises gs (flat k (End ∷ flat f (t ∷ r))) h.0 in
    ap (λ z. phases z (flat_a gs (flat k (End ∷ flat f (t ∷ r))))) (ready_content q (Start n) p refl)
    ∙ a.2 ∙ phases_flat a.0 k End (flat f (t ∷ r)) a.1 i.0 refl ∙ phases_flat Body f t r refl i.1 c

pub tree_shape : (n : ℕ) (gs : List Given) (k : Forest) → good (elem n gs k nil) ≡ true → is_element (flat (elem n gs k nil) []) ≡ true
tree_shape n gs k g =
    let h = (and-eq-true_iff (rises gs) (good k && true)).0 g in
    let i = (and-eq-true_iff (good k) true).0 h.1 in
    let a = after_rises gs (flat k (End ∷ [])) h.0 in
    element_made (flat (elem n gs k nil) []) refl
    (ap suc (full_attrs zero gs (flat k (End ∷ [])) (full_flat zero k (End ∷ []) refl)))
    (ap is_body (a.2 ∙ phases_flat a.0 k End [] a.1 i.0 refl))

-- ---- what has the shape is a tree's tokens

-- what is left of a document k levels below its root: a row of children at each level, each with the end that closes it
abbrev Opens : ℕ → Type 0
Opens zero = Forest
Opens (suc k) = Forest × Opens k

abbrev flat_o : (k : ℕ) → Opens k → List Tok
flat_o zero f = flat f (End ∷ [])
flat_o (suc k) o = flat o.0 (End ∷ flat_o k o.1)

abbrev good_o : (k : ℕ) → Opens k → Bool
good_o zero f = good f
good_o (suc k) o = good o.0 && good_o k o.1

-- what a document's rest is, by the phase
abbrev Reads : Phase → ℕ → List Tok → Type 0
Reads Body k d = (o : Opens k) × (good_o k o ≡ true) × (d ≡ flat_o k o)
Reads Head k d = (gs : List Given) × (o : Opens k) × (rises gs ≡ true) × (good_o k o ≡ true) × (d ≡ flat_a gs (flat_o k o))
Reads (Named a) k d = (g : Given) × (gs : List Given) × (o : Opens k) × (g.name ≡ a) × (above a gs ≡ true) × (good_o k o ≡ true)
    × (d ≡ Value g.value ∷ flat_v g.more (flat_a gs (flat_o k o)))
Reads (Valued a) k d = (vs : List ℕ) × (gs : List Given) × (o : Opens k) × (above a gs ≡ true) × (good_o k o ≡ true) × (d ≡ flat_v vs (flat_a gs (flat_o k o)))
Reads Fail k d = ⊥

by_text : (n k : ℕ) (d : List Tok) → Reads Body k d → Reads Body k (Text n ∷ d)
by_text n zero d r = (txt n r.0, r.1, ap (λ z. Text n ∷ z) r.2)
by_text n (suc k) d r = ((txt n r.0.0, r.0.1), r.1, ap (λ z. Text n ∷ z) r.2)

by_end : (k : ℕ) (d : List Tok) → Reads Body k d → Reads Body (suc k) (End ∷ d)
by_end k d r = ((nil, r.0), r.1, ap (λ z. End ∷ z) r.2)

by_start : (n k : ℕ) (d : List Tok) → Reads Head (suc k) d → Reads Body k (Start n ∷ d)
by_start n zero d r =
    (elem n r.0 r.1.0 r.1.1, both r.2 r.3, ap (λ z. Start n ∷ z) r.4)
by_start n (suc k) d r =
    let f = (and-eq-true_iff (good r.1.0) (good r.1.1.0 && good_o k r.1.1.1)).0 r.3 in
    let g = (and-eq-true_iff (good r.1.1.0) (good_o k r.1.1.1)).0 f.1 in (
      (elem n r.0 r.1.0 r.1.1.0, r.1.1.1),
      both
          (both r.2 (both f.0 g.0)) g.1,
      ap (λ z. Start n ∷ z) r.4,
    )

to_head : (k : ℕ) (d : List Tok) → Reads Body k d → Reads Head k d
to_head k d r = ([], r.0, refl, r.1, r.2)

to_valued : (a k : ℕ) (d : List Tok) → Reads Body k d → Reads (Valued a) k d
to_valued a k d r = ([], [], r.0, refl, r.1, r.2)

by_first : (n k : ℕ) (d : List Tok) → Reads (Named n) k d → Reads Head k (Attr n ∷ d)
by_first n k d r = (r.0 ∷ r.1, r.2, rw r.3 r.4, r.5, ap₂ (λ a z. Attr a ∷ z) (sym r.3) r.6)

by_later : (a n k : ℕ) (d : List Tok) → ltb a n ≡ true → Reads (Named n) k d → Reads (Valued a) k (Attr n ∷ d)
by_later a n k d l r = ([], r.0 ∷ r.1, r.2, rw r.3 (both l r.4), r.5, ap₂ (λ a z. Attr a ∷ z) (sym r.3) r.6)

by_value : (a v k : ℕ) (d : List Tok) → Reads (Valued a) k d → Reads (Valued a) k (Value v ∷ d)
by_value a v k d r = (v ∷ r.0, r.1, r.2, r.3, r.4, ap (λ z. Value v ∷ z) r.5)

by_only : (a v k : ℕ) (d : List Tok) → Reads (Valued a) k d → Reads (Named a) k (Value v ∷ d)
by_only a v k d r = (record { name = a; value = v; more = r.0 }, r.1, r.2, refl, r.3, r.4, ap (λ z. Value v ∷ z) r.5)

at_end : (d : List Tok) → suc zero ≡ suc (length d) → Reads Body zero (End ∷ d)
at_end [] e = (nil, refl, refl)
at_end (t ∷ d) e = absurd (omega arith)

if_later : (a n k : ℕ) (d : List Tok) → is_body (phases (phase_of (Valued a) (Attr n)) d) ≡ true
    → (is_body (phases (Named n) d) ≡ true → Reads (Named n) k d) → Reads (Valued a) k (Attr n ∷ d)
if_later a n k d e f = go (ltb a n) refl
  where
    go : (b : Bool) → ltb a n ≡ b → Reads (Valued a) k (Attr n ∷ d)
    go true l = by_later a n k d l (f (rw l at e))
    go false l = failing d (rw l at e)

read : (q : Phase) (k : ℕ) (d : List Tok) → is_body (phases q d) ≡ true → Full k d → Reads q k d
read q k [] e f = absurd (omega arith)
read Body k (Start n ∷ d) e f = by_start n k d (read Head (suc k) d e (ap pred f))
read Body zero (End ∷ d) e f = at_end d f
read Body (suc k) (End ∷ d) e f = by_end k d (read Body k d e (ap pred f))
read Body k (Text n ∷ d) e f = by_text n k d (read Body k d e (ap pred f))
read Body k (Attr n ∷ d) e f = failing d e
read Body k (Value v ∷ d) e f = failing d e
read Body k (Bad ∷ d) e f = failing d e
read Head k (Start n ∷ d) e f = to_head k (Start n ∷ d) (by_start n k d (read Head (suc k) d e (ap pred f)))
read Head zero (End ∷ d) e f = to_head zero (End ∷ d) (at_end d f)
read Head (suc k) (End ∷ d) e f = to_head (suc k) (End ∷ d) (by_end k d (read Body k d e (ap pred f)))
read Head k (Text n ∷ d) e f = to_head k (Text n ∷ d) (by_text n k d (read Body k d e (ap pred f)))
read Head k (Attr n ∷ d) e f = by_first n k d (read (Named n) k d e (ap pred f))
read Head k (Value v ∷ d) e f = failing d e
read Head k (Bad ∷ d) e f = failing d e
read (Named a) k (Start n ∷ d) e f = failing d e
read (Named a) k (End ∷ d) e f = failing d e
read (Named a) k (Text n ∷ d) e f = failing d e
read (Named a) k (Attr n ∷ d) e f = failing d e
read (Named a) k (Value v ∷ d) e f = by_only a v k d (read (Valued a) k d e (ap pred f))
read (Named a) k (Bad ∷ d) e f = failing d e
read (Valued a) k (Start n ∷ d) e f = to_valued a k (Start n ∷ d) (by_start n k d (read Head (suc k) d e (ap pred f)))
read (Valued a) zero (End ∷ d) e f = to_valued a zero (End ∷ d) (at_end d f)
read (Valued a) (suc k) (End ∷ d) e f = to_valued a (suc k) (End ∷ d) (by_end k d (read Body k d e (ap pred f)))
read (Valued a) k (Text n ∷ d) e f = to_valued a k (Text n ∷ d) (by_text n k d (read Body k d e (ap pred f)))
read (Valued a) k (Attr n ∷ d) e f = if_later a n k d e (λ g. read (Named n) k d g (ap pred f))
read (Valued a) k (Value v ∷ d) e f = by_value a v k d (read (Valued a) k d e (ap pred f))
read (Valued a) k (Bad ∷ d) e f = failing d e
read Fail k (t ∷ d) e f = failing d e

pub shape_tree : (d : List Tok) → is_element d ≡ true → IsTree d
shape_tree d e = from_start IsTree d e (λ n d e.
    let p = element_parts (Start n ∷ d) e in
    let r = read Head zero d p.2 (ap pred p.1) in
    record {
      name = n;
      attributes = r.0;
      content = r.1;
      rising = both r.2 (both r.3 refl);
      tokens = ap (λ z. Start n ∷ z) r.4;
    })

-- a document has the shape exactly if it is a tree's tokens
pub shape_is_tree : (d : List Tok) → (is_element d ≡ true) ↔ IsTree d
shape_is_tree d = (shape_tree d, λ t. rw t.tokens (tree_shape t.name t.attributes t.content t.rising))
