-- What is asked of a row: whether an attribute is defined. Assumes nothing.
use Rattle.std.specs.Prelude.{◌≡◌, refl, Bool, true, false, cond, ◌||◌, List, [], ◌∷◌, suc, ◌<◌, length}
use Rattle.std.proofs.Common.{sym, ap, ◌∙◌, arith}
use Rattle.std.proofs.Math.Option.{some}
use Rattle.paper.specs.Sets.{bit}
use Rattle.paper.specs.Dtd.Letters.{Name, same, among}
use Rattle.paper.specs.Dtd.Declarations.{Definition}
use Rattle.paper.specs.Dtd.Numbering.{number_in, definition_of}
use Rattle.dtd_laws.specs.Kept.{same_true}
use Rattle.dtd_rows.specs.declared.Row.{Row}
use Rattle.dtd_rows.specs.Rows.{called, holds, marked, defines, RowOf}

-- ---- an attribute is defined

holds_among : (a : Name) (own : List Definition) → holds defines (definition_of a own) ≡ among a (called own)
holds_among a [] = refl
holds_among a (d ∷ own) = by (same a d.name) (holds_among a own)
  where
    by : (b : Bool) → holds defines (definition_of a own) ≡ among a (called own) → holds defines (cond b (some d) (definition_of a own)) ≡ (b || among a (called own))
    by true p = refl
    by false p = p

marked_at : (P : Definition → Bool) (names : List Name) (own : List Definition) (a : Name) → number_in names a < length names
    → marked P names own (number_in names a) ≡ holds P (definition_of a own)
marked_at P [] own a h = absurd (omega arith)
marked_at P (n ∷ l) own a h = by (same a n) refl h (marked_at P l own a)
  where
    by : (b : Bool) → same a n ≡ b → cond b 0 (suc (number_in l a)) < suc (length l)
        → (number_in l a < length l → marked P l own (number_in l a) ≡ holds P (definition_of a own))
        → marked P (n ∷ l) own (cond b 0 (suc (number_in l a))) ≡ holds P (definition_of a own)
    by true q h ih = ap (λ z. holds P (definition_of z own)) (sym (same_true a n q))
    by false q h ih = ih (omega arith)

pub row_has : (names : List Name) (own : List Definition) (r : Row) (a : Name) → RowOf names own r → number_in names a < length names
    → bit r.allowed (number_in names a) ≡ among a (called own)
row_has names own r a t h = t.allowed (number_in names a) ∙ marked_at defines names own a h ∙ holds_among a own
