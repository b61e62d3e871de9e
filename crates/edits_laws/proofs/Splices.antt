-- A splice at a place in a tree: of a text or an element, and of an attribute. Assumes nothing.
use Rattle.std.specs.Prelude.{◌≡◌, refl, Bool, true, false, cond, List, [], ◌∷◌, ◌++◌, ℕ, suc, ◌+◌, ltb, eqb, length, drop}
use Rattle.std.proofs.Common.{sym, ap, ap₂, ◌∙◌, arith, zero-add, suc-add, ltb-true, eqb-true, drop_at}
use Rattle.paper.specs.declared.Tok.{Tok}
use Rattle.paper.specs.declared.Tok.TheVariants.{End, Attr, Value}
use Rattle.paper.specs.Tokens.{close, item_size, values, slot, held}
use Rattle.paper.specs.Trees.{Given, Forest, nil, txt, elem, flat_v, flat_a, flat}
use Rattle.paper.specs.Edits.{splice}
use Rattle.paper.specs.TreeEdits.{Hole, fill, place_of, One, text, element, set_given, drop_given}
use Rattle.basic_laws.specs.Bools.{clash}
use Rattle.shape_laws.specs.Tree.{flat_a_append, flat_append}
use Rattle.edits_laws.specs.Places.{before, after, before_length}
use Rattle.edits_laws.proofs.Places.{flat_fill}

pub splice_cons : (t : Tok) (l p : List Tok) (s n : ℕ) → splice (suc s) n p (t ∷ l) ≡ t ∷ splice s n p l
splice_cons t l p s n = rw suc-add

splice_past : (a l p : List Tok) (s n : ℕ) → splice (length a + s) n p (a ++ l) ≡ a ++ splice s n p l
splice_past [] l p s n = rw zero-add
splice_past (t ∷ a) l p s n = rw suc-add (splice_cons t (a ++ l) p (length a + s) n ∙ ap (λ z. t ∷ z) (splice_past a l p s n))

-- at a place i of the tree of d
module _ (h : Hole) (f : Forest) (d : List Tok) (i : ℕ) (w : d ≡ flat (fill h f) []) (e : i ≡ place_of h) where
  pub drop_row : drop i d ≡ flat f (after h [])
  drop_row = ap (drop i) (w ∙ flat_fill h f []) ∙ drop_at (before h) (flat f (after h [])) i (before_length h ∙ sym e)

  -- a splice in the row
  pub splice_row : (g : Forest) (p : List Tok) (s n : ℕ) → splice s n p (flat f (after h [])) ≡ flat g (after h [])
      → splice (i + s) n p d ≡ flat (fill h g) []
  splice_row g p s n r =
      ap₂ (λ j l. splice (j + s) n p l) (e ∙ sym (before_length h)) (w ∙ flat_fill h f [])
      ∙ splice_past (before h) (flat f (after h [])) p s n
      ∙ ap (λ z. before h ++ z) r
      ∙ sym (flat_fill h g [])

-- ---- a text or an element

-- the tokens of d up to the end of the element that is open k levels up, that end with them, are as many as x has
abbrev Ends : ℕ → List Tok → List Tok → Type 0
Ends k d x = suc (close k d) ≡ length x

ends_values : (k : ℕ) (vs : List ℕ) (d x : List Tok) → Ends k d x → Ends k (flat_v vs d) (flat_v vs x)
ends_values k [] d x e = e
ends_values k (v ∷ vs) d x e = ap suc (ends_values k vs d x e)

ends_attrs : (k : ℕ) (gs : List Given) (d x : List Tok) → Ends k d x → Ends k (flat_a gs d) (flat_a gs x)
ends_attrs k [] d x e = e
ends_attrs k (g ∷ gs) d x e = ap suc (ap suc (ends_values k g.more (flat_a gs d) (flat_a gs x) (ends_attrs k gs d x e)))

ends_flat : (k : ℕ) (f : Forest) (d x : List Tok) → Ends k d x → Ends k (flat f d) (flat f x)
ends_flat k nil d x e = e
ends_flat k (txt n f) d x e = ap suc (ends_flat k f d x e)
ends_flat k (elem n gs c f) d x e =
    ap suc
    (ends_attrs (suc k) gs (flat c (End ∷ flat f d)) (flat c (End ∷ flat f x))
    (ends_flat (suc k) c (End ∷ flat f d) (End ∷ flat f x) (ap suc (ends_flat k f d x e))))

-- before a row: its tokens, and then the row's
pub one_before : {x : Forest → Forest} → One x → (f : Forest) (r : List Tok) → flat (x f) r ≡ flat (x nil) [] ++ flat f r
one_before (text n) f r = refl
one_before (element n gs k) f r = flat_append (elem n gs k nil) [] (flat f r)

one_size : {x : Forest → Forest} → One x → (f : Forest) (r : List Tok) → length (flat (x nil) []) ≡ item_size (flat (x f) r)
one_size (text n) f r = refl
one_size (element n gs k) f r =
    ap suc (sym (ends_attrs 0 gs (flat k (End ∷ flat f r)) (flat k (End ∷ [])) (ends_flat 0 k (End ∷ flat f r) (End ∷ []) refl)))

-- it goes, and p comes
pub one_cut : {x : Forest → Forest} → One x → (f : Forest) (p r : List Tok) → splice 0 (item_size (flat (x f) r)) p (flat (x f) r) ≡ p ++ flat f r
one_cut {x} o f p r =
    rw zero-add
    (ap (λ z. p ++ z)
    (ap (drop (item_size (flat (x f) r))) (one_before o f r) ∙ drop_at (flat (x nil) []) (flat f r) (item_size (flat (x f) r)) (one_size o f r)))

-- ---- an attribute

-- how many tokens the attribute a has in l, that begins behind a start
abbrev pub held_in : ℕ → List Tok → ℕ
held_in a l = held a (drop (slot a l) l)

-- it goes, and p comes
abbrev pub attr_splice : ℕ → List Tok → List Tok → List Tok
attr_splice a p l = splice (slot a l) (held_in a l) p l

values_drop : (vs : List ℕ) (l : List Tok) → values l ≡ 0 → drop (values (flat_v vs l)) (flat_v vs l) ≡ l
values_drop [] l e = rw e
values_drop (v ∷ vs) l e = values_drop vs l e

-- no value begins the attributes that are left, or the content
no_value : (gs : List Given) (k : Forest) (r : List Tok) → values (flat_a gs (flat k (End ∷ r))) ≡ 0
no_value [] nil r = refl
no_value [] (txt n f) r = refl
no_value [] (elem n gs k f) r = refl
no_value (g ∷ gs) k r = refl

module _ (a : ℕ) where
  held_values : (vs : List ℕ) (l : List Tok) → held_in a (flat_v vs l) ≡ held_in a l
  held_values [] l = refl
  held_values (v ∷ vs) l = held_values vs l

  module _ (p : List Tok) where
    by_values : (vs : List ℕ) (l : List Tok) → attr_splice a p (flat_v vs l) ≡ flat_v vs (attr_splice a p l)
    by_values [] l = refl
    by_values (v ∷ vs) l = splice_cons (Value v) (flat_v vs l) p (slot a (flat_v vs l)) (held_in a (flat_v vs l)) ∙ ap (λ z. Value v ∷ z) (by_values vs l)

    -- a lower attribute stays
    by_lower : (g : Given) (l : List Tok) → ltb g.name a ≡ true
        → attr_splice a p (flat_a (g ∷ []) l) ≡ flat_a (g ∷ []) (attr_splice a p l)
    by_lower g l e =
        let m : List Tok = Value g.value ∷ flat_v g.more l in
        rw e (splice_cons (Attr g.name) m p (slot a m) (held_in a m) ∙ ap (λ z. Attr g.name ∷ z) (by_values (g.value ∷ g.more) l))

    by_same : (g : Given) (l : List Tok) → ltb g.name a ≡ false → eqb g.name a ≡ true → values l ≡ 0 → attr_splice a p (flat_a (g ∷ []) l) ≡ p ++ l
    by_same g l e f v = rw (e, f, zero-add) (ap (λ z. p ++ z) (values_drop g.more l v))

    by_higher : (g : Given) (l : List Tok) → ltb g.name a ≡ false → eqb g.name a ≡ false → attr_splice a p (flat_a (g ∷ []) l) ≡ p ++ flat_a (g ∷ []) l
    by_higher g l e f = rw (e, f)

    by_content : (k : Forest) (r : List Tok) → attr_splice a p (flat k (End ∷ r)) ≡ p ++ flat k (End ∷ r)
    by_content nil r = refl
    by_content (txt n f) r = refl
    by_content (elem n gs k f) r = refl

module _ (k : Forest) (r : List Tok) where
  pub set_splice : (g : Given) (gs : List Given)
      → attr_splice g.name (flat_a (g ∷ []) []) (flat_a gs (flat k (End ∷ r))) ≡ flat_a (set_given g gs) (flat k (End ∷ r))
  set_splice g [] = by_content g.name (flat_a (g ∷ []) []) k r ∙ sym (flat_a_append (g ∷ []) [] (flat k (End ∷ r)))
  set_splice g (b ∷ gs) = go (ltb b.name g.name) (eqb b.name g.name) refl refl (set_splice g gs)
    where
      x : List Tok
      x = flat k (End ∷ r)

      p : List Tok
      p = flat_a (g ∷ []) []

      go : (s t : Bool) → ltb b.name g.name ≡ s → eqb b.name g.name ≡ t
          → attr_splice g.name p (flat_a gs x) ≡ flat_a (set_given g gs) x
          → attr_splice g.name p (flat_a (b ∷ gs) x) ≡ flat_a (cond s (b ∷ set_given g gs) (cond t (g ∷ gs) (g ∷ b ∷ gs))) x
      go true t e f h = by_lower g.name p b (flat_a gs x) e ∙ ap (flat_a (b ∷ [])) h
      go false true e f h = by_same g.name p b (flat_a gs x) e f (no_value gs k r) ∙ sym (flat_a_append (g ∷ []) [] (flat_a gs x))
      go false false e f h = by_higher g.name p b (flat_a gs x) e f ∙ sym (flat_a_append (g ∷ []) [] (flat_a (b ∷ gs) x))

  -- where the attribute stands
  pub drop_splice : (a : ℕ) (gs : List Given) → ltb 0 (held_in a (flat_a gs (flat k (End ∷ r)))) ≡ true
      → attr_splice a [] (flat_a gs (flat k (End ∷ r))) ≡ flat_a (drop_given a gs) (flat k (End ∷ r))
  drop_splice a [] e = by_content a [] k r
  drop_splice a (b ∷ gs) e = go (ltb b.name a) (eqb b.name a) refl refl (drop_splice a gs)
    where
      x : List Tok
      x = flat k (End ∷ r)

      go : (s t : Bool) → ltb b.name a ≡ s → eqb b.name a ≡ t
          → (ltb 0 (held_in a (flat_a gs x)) ≡ true → attr_splice a [] (flat_a gs x) ≡ flat_a (drop_given a gs) x)
          → attr_splice a [] (flat_a (b ∷ gs) x) ≡ flat_a (cond t gs (b ∷ drop_given a gs)) x
      go true true i f h = absurd (omega (arith, ltb-true b.name a i, eqb-true b.name a f))
      go true false i f h = by_lower a [] b (flat_a gs x) i ∙ ap (flat_a (b ∷ [])) (h (rw (i, held_values a b.more (flat_a gs x)) at e))
      go false true i f h = by_same a [] b (flat_a gs x) i f (no_value gs k r)
      go false false i f h = clash (rw (i, f) at e) refl
