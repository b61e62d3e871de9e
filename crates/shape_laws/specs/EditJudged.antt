-- An edit of a valid document: judged at what it touches, it gets the answer of judging the whole edited document.
-- Assumes nothing.
use Rattle.std.specs.Prelude.{◌≡◌, ◌↔◌, Bool, false, cond, ◌&&◌, ◌||◌, leb, ltb, eqb, drop}
use Rattle.std.proofs.Math.Path.{refl, sym, ap, ap₂, subst}
use Rattle.std.proofs.Common.{◌∙◌, arith}
use Rattle.std.proofs.Math.Bool.{true, not, and-eq-true_iff}
use mathlib.Core.List.{List, [], ◌∷◌}
use Prim.Native.Nat.{ℕ, zero, suc, ◌≤◌, ◌<◌}
use borrow.Author.Tests.{leb-true, eqb-true, le-leb}
use Rattle.std.proofs.Math.ListN.{length, length-map}
use Rattle.std.proofs.Math.Seq.{take-length}
use Rattle.paper.specs.declared.Tok.{Tok}
use Rattle.paper.specs.declared.Tok.TheVariants.{Start, End, Text, Attr, Value, Bad}
use Rattle.paper.specs.Basics.{most_tokens, between}
use Rattle.paper.specs.Tokens.{toks, tok_of, is_start, item_size, values, touched}
use Rattle.paper.specs.Shape.{is_element, shallow, shape_of}
use Rattle.paper.specs.Rules.{Rules}
use Rattle.paper.specs.Judgement.{Answer, none_found, or_else, before, root_fault, key_fault, fault_at, first, place_of, element_fault, judge, whole}
use Rattle.paper.specs.Edits.{Request, by_operation, is_text, good_item, attr_with, some_values, good_piece, opens, opens_or_ends, at_head, attr_number, attr_cut, good_place, splice_at, splice_cut, coming, splice, edited, touched_by, fits, form_fault}
use Rattle.shape_laws.specs.Phases.{content}
use Rattle.basic_laws.specs.Bools.{clash}
use Rattle.shape_laws.specs.Keep.{element_parts, from_start}
use Rattle.shape_laws.specs.Attrs.{Put, gone, given}
use Rattle.shape_laws.specs.Bridge.{toks_splice}
use Rattle.shape_laws.specs.Five.{Whole, element, one_text, Allowed, insert, remove, replace, replace_root, attribute, five_keep, five_local}

-- ---- the tests of the paper give an edit that is allowed

pub text_is : (p : List Tok) → is_text p ≡ true → (n : ℕ) × (p ≡ Text n ∷ [])
text_is [] e = clash e refl
text_is (Text n ∷ []) e = (n, refl)
text_is (Text n ∷ x ∷ p) e = clash e refl
text_is (Start n ∷ p) e = clash e refl
text_is (End ∷ p) e = clash e refl
text_is (Attr n ∷ p) e = clash e refl
text_is (Value n ∷ p) e = clash e refl
text_is (Bad ∷ p) e = clash e refl

pub item_whole : (p : List Tok) → good_item p ≡ true → Whole p
item_whole p h = go (is_text p) refl h
  where
    go : (b : Bool) → is_text p ≡ b → b || (is_element p && shallow p) ≡ true → Whole p
    go true t h = let (n, f) = text_is p t in rw f one_text
    go false t h = element ((and-eq-true_iff (is_element p) (shallow p)).0 h).0

item_element : (p : List Tok) → good_item p ≡ true → not (is_text p) ≡ true → is_element p ≡ true
item_element p h n = go (is_text p) h n
  where
    go : (b : Bool) → b || (is_element p && shallow p) ≡ true → not b ≡ true → is_element p ≡ true
    go true h n = clash n refl
    go false h n = ((and-eq-true_iff (is_element p) (shallow p)).0 h).0

pub opens_size : (r : List Tok) → at_head opens r ≡ true → 0 < item_size r
opens_size [] e = clash e refl
opens_size (Start n ∷ r) e = omega arith
opens_size (Text n ∷ r) e = omega arith
opens_size (End ∷ r) e = clash e refl
opens_size (Attr n ∷ r) e = clash e refl
opens_size (Value n ∷ r) e = clash e refl
opens_size (Bad ∷ r) e = clash e refl

pub same_content : (t : Tok) → opens_or_ends t ≡ content t
same_content (Start n) = refl
same_content (Text n) = refl
same_content End = refl
same_content (Attr n) = refl
same_content (Value n) = refl
same_content Bad = refl

pub insert_at : (d p : List Tok) (at : ℕ) → at_head opens_or_ends (drop (suc at) d) ≡ true → Whole p → Allowed d (suc at) 0 p
insert_at d p at h w = go (drop (suc at) d) refl h
  where
    go : (r : List Tok) → drop (suc at) d ≡ r → at_head opens_or_ends r ≡ true → Allowed d (suc at) 0 p
    go [] e h = clash h refl
    go (t ∷ x) e h = insert at t x e (sym (same_content t) ∙ h) w

values_put : (a : ℕ) (p : List Tok) → some_values p ≡ true → Put a (Attr a ∷ p)
values_put a [] e = clash e refl
values_put a (Value v ∷ vs) e = given v vs (let h = eqb-true (suc (values vs)) (suc (length vs)) e in omega arith)
values_put a (Start n ∷ vs) e = let h = eqb-true 0 (suc (length vs)) e in absurd (omega arith)
values_put a (End ∷ vs) e = let h = eqb-true 0 (suc (length vs)) e in absurd (omega arith)
values_put a (Text n ∷ vs) e = let h = eqb-true 0 (suc (length vs)) e in absurd (omega arith)
values_put a (Attr n ∷ vs) e = let h = eqb-true 0 (suc (length vs)) e in absurd (omega arith)
values_put a (Bad ∷ vs) e = let h = eqb-true 0 (suc (length vs)) e in absurd (omega arith)

-- an attribute, and what follows it
pub attr_is : (P : List Tok → Bool) (p : List Tok) → attr_with P p ≡ true → (a : ℕ) × (r : List Tok) × (p ≡ Attr a ∷ r) × (P r ≡ true)
attr_is P [] e = clash e refl
attr_is P (Attr a ∷ p) e = (a, p, refl, e)
attr_is P (Start n ∷ p) e = clash e refl
attr_is P (End ∷ p) e = clash e refl
attr_is P (Text n ∷ p) e = clash e refl
attr_is P (Value n ∷ p) e = clash e refl
attr_is P (Bad ∷ p) e = clash e refl

pub set_put : (p : List Tok) → attr_with some_values p ≡ true → Put (attr_number p) p
set_put p e = let (a, r, f, v) = attr_is some_values p e in rw f (values_put a r v)

pub root_size : (d : List Tok) → is_element d ≡ true → item_size d ≡ length d
root_size d e = from_start (λ d. item_size d ≡ length d) d e (λ n q e. (element_parts (Start n ∷ q) e).1)

module _ (d p : List Tok) (e : is_element d ≡ true) where
  pub allowed_by : (op place : ℕ) → between 1 5 op ≡ true → good_piece op p ≡ true → good_place op place p d ≡ true
      → Allowed d (splice_at op place p d) (splice_cut op place p d) (coming op p)
  unfolding good_piece good_place
  allowed_by zero place o g h = clash o refl
  allowed_by (suc zero) zero o g h = clash ((and-eq-true_iff (at_head opens_or_ends d) false).0 h).1 refl
  allowed_by (suc zero) (suc at) o g h =
      insert_at d p at ((and-eq-true_iff (at_head opens_or_ends (drop (suc at) d)) (ltb 0 (suc at))).0 h).0 (item_whole p ((and-eq-true_iff (leb (length p) most_tokens) (good_item p)).0 g).1)
  allowed_by (suc (suc zero)) zero o g h = clash ((and-eq-true_iff (at_head opens d) false).0 h).1 refl
  allowed_by (suc (suc zero)) (suc at) o g h = remove at (opens_size (drop (suc at) d) ((and-eq-true_iff (at_head opens (drop (suc at) d)) (ltb 0 (suc at))).0 h).0)
  allowed_by (suc (suc (suc zero))) zero o g h =
      let f = item_element p ((and-eq-true_iff (leb (length p) most_tokens) (good_item p)).0 g).1 ((and-eq-true_iff (at_head opens d) (not (is_text p))).0 h).1 in
      subst (λ n. Allowed d 0 n p) (sym (root_size d e)) (replace_root f)
  allowed_by (suc (suc (suc zero))) (suc at) o g h =
      replace at (opens_size (drop (suc at) d) ((and-eq-true_iff (at_head opens (drop (suc at) d)) (ltb 0 (suc at) || not (is_text p))).0 h).0)
      (item_whole p ((and-eq-true_iff (leb (length p) most_tokens) (good_item p)).0 g).1)
  allowed_by (suc (suc (suc (suc zero)))) place o g h =
      attribute (attr_number p) place h (set_put p ((and-eq-true_iff (leb (length p) most_tokens) (attr_with some_values p)).0 g).1)
  allowed_by (suc (suc (suc (suc (suc zero))))) place o g h =
      attribute (attr_number p) place ((and-eq-true_iff (is_start (drop place d)) (ltb 0 (attr_cut (attr_number p) place d))).0 h).0 gone
  allowed_by (suc (suc (suc (suc (suc (suc op)))))) place o g h =
      let f = leb-true (suc (suc (suc (suc (suc (suc op)))))) 5 ((and-eq-true_iff (leb 1 (suc (suc (suc (suc (suc (suc op))))))) (leb (suc (suc (suc (suc (suc (suc op)))))) 5)).0 o).1 in
      absurd (omega arith)

-- ---- in numbers and in tokens

module _ {A B : Type 0} (f : A → B) where
  by_map : (op : ℕ) (a b c d e : A) → f (by_operation op a b c d e) ≡ by_operation op (f a) (f b) (f c) (f d) (f e)
  by_map op a b c d e = go (eqb op 1) (eqb op 2) (eqb op 3) (eqb op 4)
    where
      go : (x y z w : Bool) → f (cond x a (cond y b (cond z c (cond w d e)))) ≡ cond x (f a) (cond y (f b) (cond z (f c) (cond w (f d) (f e))))
      go true y z w = refl
      go false true z w = refl
      go false false true w = refl
      go false false false true = refl
      go false false false false = refl

module _ (q : Request) (doc : List ℕ) where
  abbrev op : ℕ
  op = q.operation

  abbrev p : List Tok
  p = toks q.piece

  abbrev at : ℕ
  at = splice_at op q.place p (toks doc)

  abbrev cut : ℕ
  cut = splice_cut op q.place p (toks doc)

  pub coming_toks : toks (coming op q.piece) ≡ coming op p
  coming_toks = by_map toks op q.piece [] q.piece q.piece []

  coming_length : length (coming op q.piece) ≡ length (coming op p)
  coming_length = sym (length-map (coming op q.piece) tok_of) ∙ ap length coming_toks

  pub edited_toks : toks (edited q doc) ≡ splice at cut (coming op p) (toks doc)
  unfolding edited
  edited_toks = toks_splice at cut (coming op q.piece) doc ∙ ap (λ l. splice at cut l (toks doc)) coming_toks

  pub touched_toks : touched_by q doc ≡ touched at (length (coming op p)) (splice at cut (coming op p) (toks doc))
  unfolding touched_by
  touched_toks = ap₂ (touched at) coming_length edited_toks

-- ---- no fault

none_of : (a r : Answer) → before a r ≡ none_found → (a.0 ≡ 0) × (r ≡ none_found)
none_of a r e = go a.0 refl e
  where
    go : (n : ℕ) → a.0 ≡ n → or_else n a.1 r ≡ none_found → (a.0 ≡ 0) × (r ≡ none_found)
    go zero f e = (f, e)
    go (suc n) f e = let z : suc n ≡ 0 = ap (λ (x : Answer). x.0) e in absurd (omega arith)

module _ (fault : ℕ → List Tok → List Tok → ℕ) (given : ℕ → ℕ → List Tok → ℕ) (J : ℕ → Bool) where
  first_none : (i : ℕ) (d : List Tok) → (first fault given J i d).0 ≡ 0 → first fault given J i d ≡ none_found
  first_none i [] e = refl
  first_none i (x ∷ d) e = go (cond (J i) (fault_at fault (x ∷ d)) 0) (first_none (suc i) d) e
    where
      go : (n : ℕ) → ((first fault given J (suc i) d).0 ≡ 0 → first fault given J (suc i) d ≡ none_found)
          → (or_else n (given (fault_at fault (x ∷ d)) i (x ∷ d)) (first fault given J (suc i) d)).0 ≡ 0
          → or_else n (given (fault_at fault (x ∷ d)) i (x ∷ d)) (first fault given J (suc i) d) ≡ none_found
      go zero rest e = rest e
      go (suc n) rest e = absurd (omega arith)

-- ---- the theorems

-- the four tests before the judgement
pub record Asked (room : ℕ) (q : Request) (doc : List ℕ) : Type 0 where
  pub operation : between 1 5 q.operation ≡ true
  pub piece : good_piece q.operation (toks q.piece) ≡ true
  pub place : good_place q.operation q.place (toks q.piece) (toks doc) ≡ true
  pub size : fits room (edited q doc) ≡ true

pub form_iff : (room : ℕ) (q : Request) (doc : List ℕ) → (form_fault room q doc ≡ 0) ↔ Asked room q doc
unfolding form_fault
form_iff room q doc = (
  go (between 1 5 q.operation) (good_piece q.operation (toks q.piece)) (good_place q.operation q.place (toks q.piece) (toks doc)) (fits room (edited q doc)) refl refl refl refl,
  λ a. rw (a.operation, a.piece, a.place, a.size),
)
  where
    go : (a b c d : Bool) → between 1 5 q.operation ≡ a → good_piece q.operation (toks q.piece) ≡ b
        → good_place q.operation q.place (toks q.piece) (toks doc) ≡ c → fits room (edited q doc) ≡ d
        → ◌≡◌ {A = ℕ} (cond a (cond b (cond c (cond d 0 5) 6) 4) 6) 0 → Asked room q doc
    go true true true true f g h i k = record { operation = f; piece = g; place = h; size = i }
    go true true true false f g h i k = absurd (omega arith)
    go true true false d f g h i k = absurd (omega arith)
    go true false c d f g h i k = absurd (omega arith)
    go false b c d f g h i k = absurd (omega arith)

module _ (R : Rules) (room : ℕ) (q : Request) (doc : List ℕ) (e : is_element (toks doc) ≡ true) where
  module _ (a : Asked room q doc) where
    permitted : Allowed (toks doc) (at q doc) (cut q doc) (coming q.operation (p q doc))
    permitted = allowed_by (toks doc) (toks q.piece) e q.operation q.place a.operation a.piece a.place

    -- the edited document is one element
    pub edited_element : is_element (toks (edited q doc)) ≡ true
    edited_element = ap is_element (edited_toks q doc) ∙ five_keep (toks doc) e permitted

    -- Of a valid document: what is judged at the touched elements is the judgement of the whole edited document.
    pub judged_whole : judge R whole (toks doc) ≡ none_found → judge R (touched_by q doc) (toks (edited q doc)) ≡ judge R whole (toks (edited q doc))
    unfolding judge
    judged_whole v =
        let d : List Tok = toks doc in
        let f = (none_of (root_fault R d) (before (first (element_fault R) (place_of R) whole 0 d) (key_fault R d)) v).1 in
        let g = (none_of (first (element_fault R) (place_of R) whole 0 d) (key_fault R d) f).0 in
        let h = first_none (element_fault R) (place_of R) whole 0 d g in
        let l = five_local (toks doc) e (element_fault R) (place_of R) h permitted in
        let m : first (element_fault R) (place_of R) (touched_by q doc) 0 (toks (edited q doc)) ≡ first (element_fault R) (place_of R) whole 0 (toks (edited q doc)) =
        ap₂ (λ t x. first (element_fault R) (place_of R) t 0 x) (touched_toks q doc) (edited_toks q doc) ∙ sym l ∙ ap (first (element_fault R) (place_of R) whole 0) (sym (edited_toks q doc)) in
        ap (λ x. before (root_fault R (toks (edited q doc))) (before x (key_fault R (toks (edited q doc))))) m

  -- in form, it makes a document with shape
  pub asked_shape : Asked room q doc → shape_of (edited q doc) (length (edited q doc)) ≡ true
  unfolding shape_of
  asked_shape a =
      let new : List ℕ = edited q doc in
      let one : is_element (toks new) ≡ true = edited_element a in
      let (size, depth) = (and-eq-true_iff (leb (length new) most_tokens) (shallow (toks new))).0 ((and-eq-true_iff (leb (length new) most_tokens && shallow (toks new)) (leb (length new) room)).0 a.size).0 in
      let two : 2 ≤ length new = let h = (element_parts (toks new) one).1 in omega (arith, length-map new tok_of) in
      rw (le-leb 2 (length new) two, size, le-leb (length new) (length new) (omega arith), take-length new, one, depth)
