-- Elements and texts that come or go whole: the size of what came, and that what went is a good piece. Assumes nothing.
use Rattle.std.specs.Prelude.{◌≡◌, refl, true, false, List, [], ◌∷◌, ◌++◌, ℕ, zero, suc, ◌≤◌, ◌<◌, length, take, drop}
use Rattle.std.proofs.Common.{sym, ap, ◌∙◌, arith, not-suc-le-zero, le_of_suc-le-suc, length-drop, length-take-le}
use Rattle.basic_laws.specs.Bools.{clash}
use Rattle.paper.specs.declared.Tok.{Tok}
use Rattle.paper.specs.declared.Tok.TheVariants.{Start, End, Text, Attr, Value, Bad}
use Rattle.paper.specs.Tokens.{close, item_size}
use Rattle.paper.specs.Shape.{is_element, shallow}
use Rattle.paper.specs.Edits.{is_text, good_item, opens, opens_or_ends, at_head}
use Rattle.shape_laws.specs.Keep.{Cut, element_made, element_parts, from_start}
use Rattle.shape_laws.specs.Splice.{cut_item}
use Rattle.shape_laws.specs.Five.{Whole, element, one_text}
use Rattle.shape_laws.specs.EditJudged.{opens_size, same_content}

-- ---- what came

close_append : (k : ℕ) (q x : List Tok) → close k q < length q → close k (q ++ x) ≡ close k q
close_append k [] x h = absurd (not-suc-le-zero h)
close_append k (Start n ∷ q) x h = ap suc (close_append (suc k) q x (le_of_suc-le-suc h))
close_append zero (End ∷ q) x h = refl
close_append (suc k) (End ∷ q) x h = ap suc (close_append k q x (le_of_suc-le-suc h))
close_append k (Text n ∷ q) x h = ap suc (close_append k q x (le_of_suc-le-suc h))
close_append k (Attr n ∷ q) x h = ap suc (close_append k q x (le_of_suc-le-suc h))
close_append k (Value n ∷ q) x h = ap suc (close_append k q x (le_of_suc-le-suc h))
close_append k (Bad ∷ q) x h = ap suc (close_append k q x (le_of_suc-le-suc h))

-- a whole piece is the item that stands where it came
pub whole_size : {p : List Tok} (x : List Tok) → Whole p → (item_size (p ++ x) ≡ length p) × (at_head opens (p ++ x) ≡ true)
whole_size x (element {d = d} e) = from_start (λ p. (item_size (p ++ x) ≡ length p) × (at_head opens (p ++ x) ≡ true)) d e (λ n q e.
    let f : suc (suc (close zero q)) ≡ suc (length q) = (element_parts (Start n ∷ q) e).1 in
    (ap (λ z. suc (suc z)) (close_append zero q x (omega arith)) ∙ f, refl))
whole_size x one_text = (refl, refl)

-- ---- what went

take_close : (k : ℕ) (w : List Tok) → close k (take (suc (close k w)) w) ≡ close k w
take_close k [] = refl
take_close k (Start n ∷ w) = ap suc (take_close (suc k) w)
take_close zero (End ∷ w) = refl
take_close (suc k) (End ∷ w) = ap suc (take_close k w)
take_close k (Text n ∷ w) = ap suc (take_close k w)
take_close k (Attr n ∷ w) = ap suc (take_close k w)
take_close k (Value n ∷ w) = ap suc (take_close k w)
take_close k (Bad ∷ w) = ap suc (take_close k w)

cut_whole : (r : List Tok) → at_head opens r ≡ true → Cut (item_size r) r → Whole (take (item_size r) r)
cut_whole [] o c = clash o refl
cut_whole (Start n ∷ w) o c =
    let k : ℕ = suc (close zero w) in
    let l : k ≤ length w = omega (arith, ap length c.splits, length-drop k w) in
    element (element_made (Start n ∷ take k w) refl
    (ap (λ z. suc (suc z)) (take_close zero w) ∙ ap suc (sym (length-take-le k w l)))
    c.whole)
cut_whole (Text n ∷ w) o c = one_text
cut_whole (End ∷ w) o c = clash o refl
cut_whole (Attr n ∷ w) o c = clash o refl
cut_whole (Value n ∷ w) o c = clash o refl
cut_whole (Bad ∷ w) o c = clash o refl

-- the item at a place inside: it is whole, and something may stand where it stood
module _ (d : List Tok) (at : ℕ) (e : is_element d ≡ true) (o : at_head opens (drop (suc at) d) ≡ true) where
  abbrev here : List Tok
  here = drop (suc at) d

  cut : Cut (item_size here) here
  cut = cut_item d at e (opens_size here o)

  pub went_whole : Whole (take (item_size here) here)
  went_whole = cut_whole here o cut

  pub went_next : at_head opens_or_ends (drop (item_size here) here) ≡ true
  went_next = rw cut.splits (same_content cut.next ∙ cut.follows)

-- ---- good pieces

pub no_text : (p : List Tok) → is_element p ≡ true → is_text p ≡ false
no_text p e = from_start (λ p. is_text p ≡ false) p e (λ n q e. refl)

pub whole_good : {p : List Tok} → Whole p → shallow p ≡ true → good_item p ≡ true
whole_good (element {d = d} e) s = rw (no_text d e, e, s)
whole_good one_text s = refl
