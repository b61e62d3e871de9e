-- The piece of an edit, as a part of a tree. Assumes nothing.
use Rattle.std.specs.Prelude.{◌≡◌, refl, Bool, true, false, not, ◌&&◌, ◌||◌, List, [], ◌∷◌, ℕ, pred, eqb, length}
use Rattle.std.proofs.Common.{ap, ◌∙◌, arith, eqb-true}
use Rattle.std.proofs.Math.Bool.{and-eq-true_iff}
use Rattle.paper.specs.declared.Tok.{Tok}
use Rattle.paper.specs.declared.Tok.TheVariants.{Start, End, Text, Attr, Value, Bad}
use Rattle.paper.specs.Basics.{null}
use Rattle.paper.specs.Tokens.{values}
use Rattle.paper.specs.Shape.{is_element, shallow}
use Rattle.paper.specs.Trees.{Given, Forest, nil, txt, elem, flat_v, flat_a, flat}
use Rattle.paper.specs.Edits.{is_text, good_item, attr_with, some_values}
use Rattle.paper.specs.TreeEdits.{One, text, element}
use Rattle.basic_laws.specs.Bools.{clash}
use Rattle.shape_laws.specs.Tree.{shape_tree}
use Rattle.shape_laws.specs.EditJudged.{text_is, attr_is}

-- p is one text or one element
pub record Item (p : List Tok) : Type 0 where
  pub make : Forest → Forest
  pub one : One make
  pub tokens : p ≡ flat (make nil) []

pub good_item_lem : (p : List Tok) → good_item p ≡ true → Item p
good_item_lem p h = go (is_text p) refl h
  where
    go : (b : Bool) → is_text p ≡ b → b || (is_element p && shallow p) ≡ true → Item p
    go true t h = let (n, f) = text_is p t in record { make = txt n; one = text n; tokens = f }
    go false t h =
        let f = shape_tree p ((and-eq-true_iff (is_element p) (shallow p)).0 h).0 in
        record { make = elem f.name f.attributes f.content; one = element f.name f.attributes f.content; tokens = f.tokens }

values_flat : (l : List Tok) → values l ≡ length l → (vs : List ℕ) × (l ≡ flat_v vs [])
values_flat [] e = ([], refl)
values_flat (Value v ∷ l) e = let (vs, f) = values_flat l (ap pred e) in (v ∷ vs, ap (λ z. Value v ∷ z) f)
values_flat (Attr n ∷ l) e = absurd (omega arith)
values_flat (Start n ∷ l) e = absurd (omega arith)
values_flat (End ∷ l) e = absurd (omega arith)
values_flat (Text n ∷ l) e = absurd (omega arith)
values_flat (Bad ∷ l) e = absurd (omega arith)

pub set_piece : (p : List Tok) → attr_with some_values p ≡ true → (g : Given) × (p ≡ flat_a (g ∷ []) [])
set_piece p e =
    let (a, r, f, v) = attr_is some_values p e in
    let (n, l) = (and-eq-true_iff (not (null r)) (eqb (values r) (length r))).0 v in
    go a r f (values_flat r (eqb-true (values r) (length r) l)) n
  where
    go : (a : ℕ) (r : List Tok) → p ≡ Attr a ∷ r → (vs : List ℕ) × (r ≡ flat_v vs []) → not (null r) ≡ true → (g : Given) × (p ≡ flat_a (g ∷ []) [])
    go a r e ([], f) n = clash (rw f at n) refl
    go a r e (v ∷ vs, f) n = (record { name = a; value = v; more = vs }, e ∙ ap (λ z. Attr a ∷ z) f)

pub drop_piece : (p : List Tok) → attr_with null p ≡ true → (a : ℕ) × (p ≡ Attr a ∷ [])
drop_piece p e = go (attr_is null p e)
  where
    go : (a : ℕ) × (r : List Tok) × (p ≡ Attr a ∷ r) × (null r ≡ true) → (a : ℕ) × (p ≡ Attr a ∷ [])
    go (a, [], f, n) = (a, f)
    go (a, t ∷ r, f, n) = clash n refl
