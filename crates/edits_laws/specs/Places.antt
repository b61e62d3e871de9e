-- A place in a tree: the tokens before it and after it, and which places there are. Assumes nothing.
use Rattle.std.specs.Prelude.{◌≡◌, refl, ◌⊎◌, true, List, [], ◌∷◌, ◌++◌, ℕ, zero, suc, ◌+◌, length, drop}
use Rattle.std.proofs.Common.{sym, ap, ◌∙◌, inl, inr, arith, length-append}
use Rattle.paper.specs.declared.Tok.{Tok}
use Rattle.paper.specs.declared.Tok.TheVariants.{Start, End, Text}
use Rattle.paper.specs.Trees.{Given, Forest, nil, txt, elem, flat_v, flat_a, flat, IsTree}
use Rattle.paper.specs.Edits.{opens_or_ends, at_head}
use Rattle.paper.specs.TreeEdits.{Hole, here, past_text, past_element, inside, fill, place_of}
use Rattle.basic_laws.specs.Bools.{clash}
use Rattle.shape_laws.specs.Tree.{flat_a_append, flat_append}

-- ---- the tokens around a place

abbrev pub before : Hole → List Tok
before here = []
before (past_text n h) = Text n ∷ before h
before (past_element n gs k h) = flat (elem n gs k nil) (before h)
before (inside n gs h f) = Start n ∷ flat_a gs (before h)

-- those after the row at the place, in a tree that r comes after
abbrev pub after : Hole → List Tok → List Tok
after here r = r
after (past_text n h) r = after h r
after (past_element n gs k h) r = after h r
after (inside n gs h f) r = after h (End ∷ flat f r)

pub before_length : (h : Hole) → length (before h) ≡ place_of h
before_length here = refl
before_length (past_text n h) = ap suc (before_length h)
before_length (past_element n gs k h) =
    ap length (flat_append (elem n gs k nil) [] (before h)) ∙ rw (length-append, before_length h)
before_length (inside n gs h f) = ap suc (ap length (flat_a_append gs [] (before h)) ∙ rw (length-append, before_length h))

-- ---- the places

-- a start, a text or an end begins d
abbrev pub Stands : List Tok → Type 0
Stands d = at_head opens_or_ends d ≡ true

-- i is the place of a row of f
record Spot (f : Forest) (i : ℕ) : Type 0 where
  hole : Hole
  row : Forest
  whole : fill hole row ≡ f
  at : place_of hole ≡ i

-- i is past the tokens a, and what stands there stands in r
record Past (a r : List Tok) (i : ℕ) : Type 0 where
  rest : ℕ
  sum : i ≡ length a + rest
  stands : Stands (drop rest r)

past_one : {t : Tok} {a r : List Tok} {i : ℕ} → Past a r i → Past (t ∷ a) r (suc i)
past_one p = record { rest = p.rest; sum = omega arith; stands = p.stands }

past_values : (vs : List ℕ) (a b r : List Tok) (i : ℕ) → ((j : ℕ) → Stands (drop j b) → Past a r j) → Stands (drop i (flat_v vs b)) → Past (flat_v vs a) r i
past_values [] a b r i f s = f i s
past_values (v ∷ vs) a b r zero f s = clash s refl
past_values (v ∷ vs) a b r (suc i) f s = past_one (past_values vs a b r i f s)

past_attrs : (gs : List Given) (r : List Tok) (i : ℕ) → Stands (drop i (flat_a gs r)) → Past (flat_a gs []) r i
past_attrs [] r i s = record { rest = i; sum = omega arith; stands = s }
past_attrs (g ∷ gs) r zero s = clash s refl
past_attrs (g ∷ gs) r (suc zero) s = clash s refl
past_attrs (g ∷ gs) r (suc (suc i)) s = past_one (past_one (past_values g.more (flat_a gs []) (flat_a gs r) r i (past_attrs gs r) s))

element_length : (gs : List Given) (k : Forest) (r : List Tok)
    → length (flat_a gs (flat k (End ∷ r))) ≡ length (flat_a gs []) + (length (flat k (End ∷ [])) + length r)
element_length gs k r =
    ap length (flat_a_append gs [] (flat k (End ∷ r)) ∙ ap (λ z. flat_a gs [] ++ z) (flat_append k (End ∷ []) r)) ∙ simp length-append

spot_here : (f : Forest) → Spot f zero
spot_here f = record { hole = here; row = f; whole = refl; at = refl }

spot_text : (n : ℕ) {f : Forest} {i : ℕ} → Spot f i → Spot (txt n f) (suc i)
spot_text n s = record { hole = past_text n s.hole; row = s.row; whole = ap (txt n) s.whole; at = ap suc s.at }

spot_inside : (n : ℕ) (gs : List Given) {k : Forest} (f : Forest) (i : ℕ) {j : ℕ} → i ≡ length (flat_a gs []) + j → Spot k j → Spot (elem n gs k f) (suc i)
spot_inside n gs f i e s =
    let a = s.at in
    record { hole = inside n gs s.hole f; row = s.row; whole = ap (λ z. elem n gs z f) s.whole; at = omega arith }

spot_past : (n : ℕ) (gs : List Given) (k : Forest) {f : Forest} (i : ℕ) {j : ℕ}
    → i ≡ length (flat_a gs []) + (length (flat k (End ∷ [])) + j) → Spot f j → Spot (elem n gs k f) (suc i)
spot_past n gs k i e s =
    let a = s.at in
    record { hole = past_element n gs k s.hole; row = s.row; whole = ap (elem n gs k) s.whole; at = omega (arith, element_length gs k []) }

-- in a row and the end after it: what stands at i is at the place of a row, or past them
seek : (f : Forest) (r : List Tok) (i : ℕ) → Stands (drop i (flat f (End ∷ r))) → Spot f i ⊎ Past (flat f (End ∷ [])) r i
seek nil r zero s = inl (spot_here nil)
seek nil r (suc i) s = inr (record { rest = i; sum = omega arith; stands = s })
seek (txt n f) r zero s = inl (spot_here (txt n f))
seek (txt n f) r (suc i) s = elim (seek f r i s) [ inl t ↦ inl (spot_text n t) | inr t ↦ inr (past_one t) ]
seek (elem n gs k f) r zero s = inl (spot_here (elem n gs k f))
seek (elem n gs k f) r (suc i) s =
    let p = past_attrs gs (flat k (End ∷ flat f (End ∷ r))) i s in
    elim (seek k (flat f (End ∷ r)) p.rest p.stands) [
      | inl t ↦ inl (spot_inside n gs f i p.sum t)
      | inr t ↦ elim (seek f r t.rest t.stands) [
        | inl u ↦ inl (spot_past n gs k i (omega arith) u)
        | inr u ↦ inr (record { rest = u.rest; sum = omega (arith, element_length gs k (flat f (End ∷ []))); stands = u.stands })
      ]
    ]

-- a start, a text or an end in a tree is the place of a row
pub find : (d : List Tok) → IsTree d → (i : ℕ) → Stands (drop i d) → (h : Hole) × (f : Forest) × (d ≡ flat (fill h f) []) × (i ≡ place_of h)
find d t i s = let u = go i (rw t.tokens at s) in (u.hole, u.row, t.tokens ∙ ap (λ f. flat f []) (sym u.whole), sym u.at)
  where
    past_all : (j : ℕ) {A : Type 0} → Stands (drop j []) → A
    past_all zero s = clash s refl
    past_all (suc j) s = clash s refl

    go : (i : ℕ) → Stands (drop i (flat (elem t.name t.attributes t.content nil) [])) → Spot (elem t.name t.attributes t.content nil) i
    go zero s = spot_here (elem t.name t.attributes t.content nil)
    go (suc i) s =
        let p = past_attrs t.attributes (flat t.content (End ∷ [])) i s in
        elim (seek t.content [] p.rest p.stands) [
          | inl u ↦ spot_inside t.name t.attributes nil i p.sum u
          | inr u ↦ past_all u.rest u.stands
        ]
