-- An edit in form of a document that is a tree's tokens makes the tokens of the tree that the edit rules make of it, and looks at the children
-- that they say. Assumes nothing.
use Rattle.std.specs.Prelude.{◌≡◌, true, ◌||◌, leb, ltb, length, take}
use Rattle.std.proofs.Math.Path.{refl, sym}
use Rattle.std.proofs.Common.{ap, ◌∙◌, arith, add-zero, zero-add, add-one, leb-true, drop-drop}
use Rattle.std.proofs.Math.Bool.{not, and-eq-true_iff}
use mathlib.Core.List.{List, [], ◌∷◌, ◌++◌}
use Prim.Native.Nat.{ℕ, zero, suc, ◌+◌, ◌≤◌}
use Rattle.std.proofs.Math.ListN.{drop}
use Rattle.paper.specs.declared.Tok.{Tok}
use Rattle.paper.specs.declared.Tok.TheVariants.{Start, End, Text, Attr, Value, Bad}
use Rattle.paper.specs.Basics.{most_tokens, between, null}
use Rattle.paper.specs.Tokens.{toks, is_start, item_size, kids, slot}
use Rattle.paper.specs.Shape.{is_element}
use Rattle.paper.specs.Trees.{Given, Forest, nil, txt, elem, flat_a, flat, IsTree}
use Rattle.paper.specs.Edits.{Request, is_text, good_item, attr_with, some_values, good_piece, opens, opens_or_ends, at_head, attr_number, attr_at, attr_cut, good_place, splice_at, splice_cut, coming, splice, edited, looked_at}
use Rattle.paper.specs.TreeEdits.{Hole, fill, place_of, One, text, element, set_given, drop_given, width, looked, TreeEdit, insert, remove, replace, set, drop as drop-attribute}
use Rattle.basic_laws.specs.Bools.{clash}
use Rattle.shape_laws.specs.Tree.{shape_tree}
use Rattle.shape_laws.specs.EditJudged.{Asked, edited_toks}
use Rattle.shape_laws.specs.Looked.{over, own}
use Rattle.shape_laws.specs.Widths.{content_width, own_given}
use Rattle.shape_laws.proofs.EditLooked.{looked_is}
use Rattle.edits_laws.specs.Pieces.{Item, good_item_lem, set_piece, drop_piece}
use Rattle.edits_laws.specs.Places.{after, Stands, find}
use Rattle.edits_laws.proofs.Places.{after_shut}
use Rattle.edits_laws.proofs.Splices.{splice_cons, splice_row, drop_row, one_before, one_cut, held_in, attr_splice, set_splice, drop_splice}
use Rattle.edits_laws.proofs.ItemLooked.{item_looked}
use Rattle.edits_laws.proofs.Looked.{row_around, start_children, slot_even}

-- ---- the place

opens_stand : (d : List Tok) → at_head opens d ≡ true → Stands d
opens_stand [] e = e
opens_stand (Start n ∷ d) e = refl
opens_stand (Text n ∷ d) e = refl
opens_stand (End ∷ d) e = refl
opens_stand (Attr n ∷ d) e = e
opens_stand (Value n ∷ d) e = e
opens_stand (Bad ∷ d) e = e

start_opens : (d : List Tok) → is_start d ≡ true → at_head opens d ≡ true
start_opens [] e = e
start_opens (Start n ∷ d) e = refl
start_opens (Text n ∷ d) e = refl
start_opens (End ∷ d) e = e
start_opens (Attr n ∷ d) e = e
start_opens (Value n ∷ d) e = e
start_opens (Bad ∷ d) e = e

-- the tree of d, with a text or an element at the place i
record ItemAt (d : List Tok) (i : ℕ) : Type 0 where
  hole : Hole
  make : Forest → Forest
  one : One make
  next : Forest
  tokens : d ≡ flat (fill hole (make next)) []
  at : i ≡ place_of hole

item_at : (d : List Tok) → IsTree d → (i : ℕ) → at_head opens (drop i d) ≡ true → ItemAt d i
item_at d t i s = let (h, f, w, a) = find d t i (opens_stand (drop i d) s) in go h f w a (ap (at_head opens) (sym (drop_row h f d i w a)) ∙ s)
  where
    go : (h : Hole) (f : Forest) → d ≡ flat (fill h f) [] → i ≡ place_of h → at_head opens (flat f (after h [])) ≡ true → ItemAt d i
    go h nil w a s = clash s (after_shut h [] refl)
    go h (txt n f) w a s = record { hole = h; make = txt n; one = text n; next = f; tokens = w; at = a }
    go h (elem n gs k f) w a s = record { hole = h; make = elem n gs k; one = element n gs k; next = f; tokens = w; at = a }

-- the tree of d, with an element at the place i
record ElementAt (d : List Tok) (i : ℕ) : Type 0 where
  hole : Hole
  name : ℕ
  attributes : List Given
  content : Forest
  next : Forest
  tokens : d ≡ flat (fill hole (elem name attributes content next)) []
  at : i ≡ place_of hole

element_at_lem : (d : List Tok) → IsTree d → (i : ℕ) → is_start (drop i d) ≡ true → ElementAt d i
element_at_lem d t i s = go (item_at d t i (start_opens (drop i d) s))
  where
    by : (h : Hole) {x : Forest → Forest} → One x → (f : Forest) → d ≡ flat (fill h (x f)) [] → i ≡ place_of h → ElementAt d i
    by h (text n) f w a = clash s (ap is_start (drop_row h (txt n f) d i w a))
    by h (element n gs k) f w a = record { hole = h; name = n; attributes = gs; content = k; next = f; tokens = w; at = a }

    go : ItemAt d i → ElementAt d i
    go m = by m.hole m.one m.next m.tokens m.at

-- ---- the edits

at_most : (op : ℕ) → between 1 5 op ≡ true → op ≤ 5
at_most op b = leb-true op 5 ((and-eq-true_iff (leb 1 op) (leb op 5)).0 b).1

insert_splice : (h : Hole) (f : Forest) (d p : List Tok) (i : ℕ) → d ≡ flat (fill h f) [] → i ≡ place_of h → (m : Item p)
    → splice i 0 p d ≡ flat (fill h (m.make f)) []
insert_splice h f d p i w a m =
    rw (add-zero i) at (splice_row h f d i w a (m.make f) p 0 0 (ap (λ z. z ++ flat f (after h [])) m.tokens ∙ sym (one_before m.one f (after h []))))

-- the item at the place goes, and p comes
item_splice : (d p : List Tok) (i : ℕ) (m : ItemAt d i) (g : Forest) → p ++ flat m.next (after m.hole []) ≡ flat g (after m.hole [])
    → splice i (item_size (drop i d)) p d ≡ flat (fill m.hole g) []
item_splice d p i m g r =
    let f : Forest = m.make m.next in
    let y : List Tok = after m.hole [] in
    rw (drop_row m.hole f d i m.tokens m.at)
    (rw (add-zero i) at (splice_row m.hole f d i m.tokens m.at g p 0 (item_size (flat f y)) (one_cut m.one m.next p y ∙ r)))

-- what stands behind the start at the place
inner : {d : List Tok} {i : ℕ} → ElementAt d i → List Tok
inner m = flat m.content (End ∷ flat m.next (after m.hole []))

behind_start : (d : List Tok) (i : ℕ) (m : ElementAt d i) → drop (suc i) d ≡ flat_a m.attributes (inner m)
unfolding inner
behind_start d i m =
    ap (λ j. drop j d) (sym (add-one i)) ∙ sym (drop-drop 1 i d)
    ∙ ap (drop 1) (drop_row m.hole (elem m.name m.attributes m.content m.next) d i m.tokens m.at)

-- the attribute a goes, and p comes
attr_splice_lem : (a : ℕ) (d p : List Tok) (i : ℕ) (m : ElementAt d i) (gs : List Given) → attr_splice a p (flat_a m.attributes (inner m)) ≡ flat_a gs (inner m)
    → splice (attr_at a i d) (attr_cut a i d) p d ≡ flat (fill m.hole (elem m.name gs m.content m.next)) []
unfolding inner
attr_splice_lem a d p i m gs r =
    let l : List Tok = flat_a m.attributes (inner m) in
    let e : suc i + slot a l ≡ i + suc (slot a l) = omega arith in
    rw (behind_start d i m, e)
    (splice_row m.hole (elem m.name m.attributes m.content m.next) d i m.tokens m.at (elem m.name gs m.content m.next) p
    (suc (slot a l)) (held_in a l) (splice_cons (Start m.name) l p (slot a l) (held_in a l) ∙ ap (λ z. Start m.name ∷ z) r))

set_edit : (d p : List Tok) (i : ℕ) (x : ElementAt d i) (g : Given) → p ≡ flat_a (g ∷ []) []
    → splice (attr_at (attr_number p) i d) (attr_cut (attr_number p) i d) p d
    ≡ flat (fill x.hole (elem x.name (set_given g x.attributes) x.content x.next)) []
unfolding inner
set_edit d p i x g e =
    rw e
    (attr_splice_lem g.name d (flat_a (g ∷ []) []) i x (set_given g x.attributes)
    (set_splice x.content (flat x.next (after x.hole [])) g x.attributes))

drop_edit : (d p : List Tok) (i : ℕ) (x : ElementAt d i) (a : ℕ) → p ≡ Attr a ∷ [] → ltb 0 (attr_cut (attr_number p) i d) ≡ true
    → splice (attr_at (attr_number p) i d) (attr_cut (attr_number p) i d) [] d
    ≡ flat (fill x.hole (elem x.name (drop_given a x.attributes) x.content x.next)) []
unfolding inner
drop_edit d p i x a e s =
    rw e
    (attr_splice_lem a d [] i x (drop_given a x.attributes)
    (drop_splice x.content (flat x.next (after x.hole [])) a x.attributes (rw (e, behind_start d i x) at s)))

-- ---- the children looked at

-- what stands behind the item at the place
item_rest : (d : List Tok) (i : ℕ) (m : ItemAt d i) → drop (i + item_size (drop i d)) d ≡ flat m.next (after m.hole [])
item_rest d i m =
    let f : Forest = m.make m.next in
    let y : List Tok = after m.hole [] in
    sym (drop-drop (item_size (drop i d)) i d)
    ∙ ap (λ x. drop (item_size x) x) (drop_row m.hole f d i m.tokens m.at)
    ∙ ap (λ n. drop n (flat f y)) (sym (zero-add (item_size (flat f y))))
    ∙ one_cut m.one m.next [] y

-- the attribute a goes, and p comes
attr_looked : (a : ℕ) (d p : List Tok) (i : ℕ) (m : ElementAt d i) (gs : List Given) → attr_splice a p (flat_a m.attributes (inner m)) ≡ flat_a gs (inner m)
    → over (take (attr_at a i d) d) (p ++ drop (attr_at a i d + attr_cut a i d) d) ≡ width m.content
unfolding inner
attr_looked a d p i m gs r =
    let l : List Tok = flat_a m.attributes (inner m) in
    let y : List Tok = flat m.next (after m.hole []) in
    rw (behind_start d i m)
    (start_children m.hole (elem m.name m.attributes m.content m.next) d i m.tokens m.at m.name l refl (slot a l) (held_in a l) p (slot_even a l)
    ∙ ap (λ z. length (kids zero z)) r ∙ content_width gs m.content y)

set_looked : (d p : List Tok) (i : ℕ) (x : ElementAt d i) (g : Given) → p ≡ flat_a (g ∷ []) []
    → over (take (attr_at (attr_number p) i d) d) (p ++ drop (attr_at (attr_number p) i d + attr_cut (attr_number p) i d) d)
    + own p (drop (attr_at (attr_number p) i d + attr_cut (attr_number p) i d) d) ≡ width x.content
unfolding inner
set_looked d p i x g e =
    let r : List Tok = drop (attr_at g.name i d + attr_cut g.name i d) d in
    rw e
    (omega (
      arith,
      attr_looked g.name d (flat_a (g ∷ []) []) i x (set_given g x.attributes) (set_splice x.content (flat x.next (after x.hole [])) g x.attributes),
      own_given (g ∷ []) [] r,
    ))

drop_looked : (d p : List Tok) (i : ℕ) (x : ElementAt d i) (a : ℕ) → p ≡ Attr a ∷ [] → ltb 0 (attr_cut (attr_number p) i d) ≡ true
    → over (take (attr_at (attr_number p) i d) d) (drop (attr_at (attr_number p) i d + attr_cut (attr_number p) i d) d) + 0 ≡ width x.content
unfolding inner
drop_looked d p i x a e s =
    rw e
    (omega (
      arith,
      attr_looked a d [] i x (drop_given a x.attributes)
          (drop_splice x.content (flat x.next (after x.hole [])) a x.attributes (rw (e, behind_start d i x) at s)),
    ))

module _ (q : Request) (d : List Tok) (t : IsTree d) where
  abbrev p : List Tok
  p = toks q.piece

  abbrev i : ℕ
  i = q.place

  -- what stands behind the piece after the operation op
  abbrev rest : ℕ → List Tok
  rest op = drop (splice_at op i p d + splice_cut op i p d) d

  -- the tree before and after the operation op, and the children looked at
  abbrev Made : ℕ → Type 0
  Made op = (old : Forest) × (new : Forest) × (d ≡ flat old []) × (t : TreeEdit q old new)
      × (splice (splice_at op i p d) (splice_cut op i p d) (coming op p) d ≡ flat new [])
      × (over (take (splice_at op i p d) d) (coming op p ++ rest op) + own (coming op p) (rest op) ≡ looked t)

  made : (op : ℕ) → q.operation ≡ op → between 1 5 op ≡ true → good_piece op p ≡ true → good_place op i p d ≡ true → Made op
  unfolding good_piece good_place
  made zero o b g s = clash b refl
  made (suc zero) o b g s =
      let m = good_item_lem p ((and-eq-true_iff (leb (length p) most_tokens) (good_item p)).0 g).1 in
      let (h, f, w, a) = find d t i ((and-eq-true_iff (at_head opens_or_ends (drop i d)) (ltb 0 i)).0 s).0 in
      let behind : drop (i + 0) d ≡ flat f (after h []) = rw (add-zero i) (drop_row h f d i w a) in (
        fill h f,
        fill h (m.make f),
        w,
        insert o m.one m.tokens h f a,
        insert_splice h f d p i w a m,
        item_looked h f f d p i w a m (drop (i + 0) d) behind,
      )
  made (suc (suc zero)) o b g s =
      let x = item_at d t i ((and-eq-true_iff (at_head opens (drop i d)) (ltb 0 i)).0 s).0 in
      let left = row_around x.hole (x.make x.next) d i x.tokens x.at x.next (rest 2) (item_rest d i x) in (
        fill x.hole (x.make x.next),
        fill x.hole x.next,
        x.tokens,
        remove o x.one x.hole x.next x.at,
        item_splice d [] i x x.next refl,
        omega (arith, left),
      )
  made (suc (suc (suc zero))) o b g s =
      let m = good_item_lem p ((and-eq-true_iff (leb (length p) most_tokens) (good_item p)).0 g).1 in
      let x = item_at d t i ((and-eq-true_iff (at_head opens (drop i d)) (ltb 0 i || not (is_text p))).0 s).0 in
      let y : List Tok = after x.hole [] in (
        fill x.hole (x.make x.next),
        fill x.hole (m.make x.next),
        x.tokens,
        replace o m.one m.tokens x.one x.hole x.next x.at,
        item_splice d p i x (m.make x.next) (ap (λ z. z ++ flat x.next y) m.tokens ∙ sym (one_before m.one x.next y)),
        item_looked x.hole x.next (x.make x.next) d p i x.tokens x.at m (rest 3) (item_rest d i x),
      )
  made (suc (suc (suc (suc zero)))) o b g s =
      let (v, e) = set_piece p ((and-eq-true_iff (leb (length p) most_tokens) (attr_with some_values p)).0 g).1 in
      let x = element_at_lem d t i s in (
        fill x.hole (elem x.name x.attributes x.content x.next),
        fill x.hole (elem x.name (set_given v x.attributes) x.content x.next),
        x.tokens,
        set o v e x.hole x.name x.attributes x.content x.next x.at,
        set_edit d p i x v e,
        set_looked d p i x v e,
      )
  made (suc (suc (suc (suc (suc zero))))) o b g s =
      let (a, e) = drop_piece p ((and-eq-true_iff (leb (length p) most_tokens) (attr_with null p)).0 g).1 in
      let (c, k) = (and-eq-true_iff (is_start (drop i d)) (ltb 0 (attr_cut (attr_number p) i d))).0 s in
      let x = element_at_lem d t i c in (
        fill x.hole (elem x.name x.attributes x.content x.next),
        fill x.hole (elem x.name (drop_given a x.attributes) x.content x.next),
        x.tokens,
        drop-attribute o a e x.hole x.name x.attributes x.content x.next x.at,
        drop_edit d p i x a e k,
        drop_looked d p i x a e k,
      )
  made (suc (suc (suc (suc (suc (suc op)))))) o b g s =
      let f = at_most (suc (suc (suc (suc (suc (suc op)))))) b in
      absurd (omega arith)

-- An edit in form of a document that is a tree's tokens makes the tokens of the tree that the edit rules make of it, and looks at the children
-- that they say.
pub edited_tree : (room : ℕ) (q : Request) (doc : List ℕ) → is_element (toks doc) ≡ true → Asked room q doc
    → (old : Forest) × (new : Forest) × (toks doc ≡ flat old []) × (t : TreeEdit q old new) × (toks (edited q doc) ≡ flat new []) × (looked_at q doc ≡ looked t)
edited_tree room q doc e a =
    let (old, new, w, t, n, k) = made q (toks doc) (shape_tree (toks doc) e) q.operation refl a.operation a.piece a.place in
    (old, new, w, t, edited_toks q doc ∙ n, looked_is room q doc e a ∙ k)
