-- An attribute among those of its element, after a set or a drop: its slot is the same, and it has there what came. What an attribute has is
-- a piece to set it. Assumes nothing.
use Rattle.std.specs.Prelude.{◌≡◌, refl, Bool, true, false, cond, List, [], ◌∷◌, ◌++◌, ℕ, suc, ◌+◌, ◌<◌, pred, ltb, eqb, length, take}
use Rattle.std.proofs.Common.{sym, ap, ◌∙◌, arith, suc-add, zero-add, ltb-true, le-ltb, ne_eqb, eqb-true, eq-eqb}
use Rattle.basic_laws.specs.Bools.{clash}
use Rattle.paper.specs.declared.Tok.{Tok}
use Rattle.paper.specs.declared.Tok.TheVariants.{Start, End, Text, Attr, Value, Bad}
use Rattle.paper.specs.Tokens.{values, slot, held}
use Rattle.paper.specs.Shape.{Phase, Named, is_body, phases}
use Rattle.paper.specs.Edits.{attr_with, some_values, attr_number}
use Rattle.shape_laws.specs.Phases.{failing}
use Rattle.shape_laws.specs.Slots.{later, named_next}
use Rattle.shape_laws.specs.Attrs.{Put, gone, given}

-- ---- the slot

-- what stands before the slot stays before it
pub slot_before : (a : ℕ) (r x : List Tok) → slot a (take (slot a r) r ++ x) ≡ slot a r + slot a x
slot_before a [] x = sym (zero-add (slot a x))
slot_before a (Attr n ∷ r) x = go (ltb n a) refl (slot_before a r x)
  where
    go : (b : Bool) → ltb n a ≡ b → slot a (take (slot a r) r ++ x) ≡ slot a r + slot a x
        → slot a (take (slot a (Attr n ∷ r)) (Attr n ∷ r) ++ x) ≡ slot a (Attr n ∷ r) + slot a x
    go true e h = rw (e, e, suc-add) (ap suc h)
    go false e h = rw e (sym (zero-add (slot a x)))
slot_before a (Value v ∷ r) x = ap suc (slot_before a r x) ∙ sym (suc-add (slot a r) (slot a x))
slot_before a (Start n ∷ r) x = sym (zero-add (slot a x))
slot_before a (End ∷ r) x = sym (zero-add (slot a x))
slot_before a (Text n ∷ r) x = sym (zero-add (slot a x))
slot_before a (Bad ∷ r) x = sym (zero-add (slot a x))

-- ---- what came

-- what a slot has after p came there
pub record Came (a : ℕ) (p x : List Tok) : Type 0 where
  pub here : slot a (p ++ x) ≡ 0
  pub size : held a (p ++ x) ≡ length p

-- behind the attribute stands nothing of it, nor a value
later_none : (a : ℕ) (x : List Tok) → later a x ≡ true → Came a [] x
later_none a [] l = clash l refl
later_none a (Attr n ∷ x) l =
    let h = ltb-true a n l in record { here = rw (le-ltb n a (omega arith)); size = rw (ne_eqb n a (λ z. omega arith)) }
later_none a (Value v ∷ x) l = clash l refl
later_none a (Start n ∷ x) l = record { here = refl; size = refl }
later_none a (End ∷ x) l = record { here = refl; size = refl }
later_none a (Text n ∷ x) l = record { here = refl; size = refl }
later_none a (Bad ∷ x) l = clash l refl

later_values : (a : ℕ) (x : List Tok) → later a x ≡ true → values x ≡ 0
later_values a [] l = refl
later_values a (Attr n ∷ x) l = refl
later_values a (Value v ∷ x) l = clash l refl
later_values a (Start n ∷ x) l = refl
later_values a (End ∷ x) l = refl
later_values a (Text n ∷ x) l = refl
later_values a (Bad ∷ x) l = refl

values_append : (vs x : List Tok) → values vs ≡ length vs → values x ≡ 0 → values (vs ++ x) ≡ length vs
values_append [] x e z = z
values_append (Value v ∷ vs) x e z = ap suc (values_append vs x (ap pred e) z)
values_append (Attr n ∷ vs) x e z = absurd (omega arith)
values_append (Start n ∷ vs) x e z = absurd (omega arith)
values_append (End ∷ vs) x e z = absurd (omega arith)
values_append (Text n ∷ vs) x e z = absurd (omega arith)
values_append (Bad ∷ vs) x e z = absurd (omega arith)

pub put_came : (a : ℕ) {p : List Tok} (x : List Tok) → later a x ≡ true → Put a p → Came a p x
put_came a x l gone = later_none a x l
put_came a x l (given v vs e) = record {
  here = rw (le-ltb a a (omega arith));
  size = rw (eq-eqb a a refl) (ap (λ n. suc (suc n)) (values_append vs x e (later_values a x l)));
}

-- ---- what went

take_values : (r : List Tok) → values (take (values r) r) ≡ length (take (values r) r)
take_values [] = refl
take_values (Value v ∷ r) = ap suc (take_values r)
take_values (Attr n ∷ r) = refl
take_values (Start n ∷ r) = refl
take_values (End ∷ r) = refl
take_values (Text n ∷ r) = refl
take_values (Bad ∷ r) = refl

named_values : (n : ℕ) (r : List Tok) → is_body (phases (Named n) r) ≡ true → some_values (take (values r) r) ≡ true
named_values n [] e = clash e refl
named_values n (Value v ∷ r) e = eq-eqb (suc (values (take (values r) r))) (suc (length (take (values r) r))) (ap suc (take_values r))
named_values n (Attr m ∷ r) e = failing r e
named_values n (Start m ∷ r) e = failing r e
named_values n (End ∷ r) e = failing r e
named_values n (Text m ∷ r) e = failing r e
named_values n (Bad ∷ r) e = failing r e

-- what an attribute has in a document is a piece to set it
pub held_good : (a : ℕ) (q : Phase) (u : List Tok) → is_body (phases q u) ≡ true → 0 < held a u
    → (attr_number (take (held a u) u) ≡ a) × (attr_with some_values (take (held a u) u) ≡ true)
held_good a q [] e h = absurd (omega arith)
held_good a q (Attr n ∷ r) e h = go (eqb n a) refl h
  where
    go : (b : Bool) → eqb n a ≡ b → 0 < cond b (suc (values r)) 0
        → (attr_number (take (cond b (suc (values r)) 0) (Attr n ∷ r)) ≡ a) × (attr_with some_values (take (cond b (suc (values r)) 0) (Attr n ∷ r)) ≡ true)
    go true f h = (eqb-true n a f, named_values n r (rw (named_next q n r e) at e))
    go false f h = absurd (omega arith)
held_good a q (Value v ∷ r) e h = absurd (omega arith)
held_good a q (Start n ∷ r) e h = absurd (omega arith)
held_good a q (End ∷ r) e h = absurd (omega arith)
held_good a q (Text n ∷ r) e h = absurd (omega arith)
held_good a q (Bad ∷ r) e h = absurd (omega arith)
