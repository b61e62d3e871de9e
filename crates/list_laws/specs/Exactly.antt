-- The split is exact: a list of numbers splits into edits exactly if it is their numbers, and each fault has its form. Assumes nothing.
use Rattle.std.specs.Prelude.{◌≡◌, refl, ◌↔◌, ◌⊎◌, Bool, true, false, cond, List, [], ◌∷◌, ◌++◌, ℕ, zero, suc, ◌+◌, ◌-◌, ◌≤◌, leb, length, take, drop}
use Rattle.std.proofs.Common.{sym, ap, ap₂, ◌∙◌, inl, inr, append_assoc, append-nil, arith, zero-add, suc-add, leb-true, leb-false, le-leb, length-append, take-append-drop, length-take-le}
use Rattle.std.proofs.lemmas.Bool.{lt-leb}
use Rattle.std.proofs.Math.Seq.{take-append_seam, drop-append_seam}
use Rattle.paper.specs.Basics.{most_edits}
use Rattle.paper.specs.Edits.{Request}
use Rattle.paper.specs.Lists.{Split, fault, edits, before, asked, split_from, split_list, list_numbers, Inside, EndsInside, OneMoreBegun}

-- ---- from edits to their split

-- edits before those that follow them
abbrev all_before : List Request → Split → Split
all_before [] x = x
all_before (q ∷ l) x = before q (all_before l x)

before_edits : (l : List Request) → all_before l (edits []) ≡ edits l
before_edits [] = refl
before_edits (q ∷ l) = ap (before q) (before_edits l)

before_fault : (l : List Request) (n : ℕ) → all_before l (fault n) ≡ fault n
before_fault [] n = refl
before_fault (q ∷ l) n = ap (before q) (before_fault l n)

-- the edits in front are split off, whatever stands behind them
split_front : (l : List Request) (k : ℕ) (r : List ℕ) → split_from (length l + k) (list_numbers l ++ r) ≡ all_before l (split_from k r)
split_front [] k r = rw (zero-add k)
split_front (q ∷ l) k r =
    let rest : List ℕ = q.piece ++ (list_numbers l ++ r) in
    let long : leb (length q.piece) (length rest) ≡ true = le-leb (length q.piece) (length rest) (omega (arith, length-append q.piece (list_numbers l ++ r))) in
    rw (suc-add (length l) k, append_assoc q.piece (list_numbers l) r, long, take-append_seam q.piece (list_numbers l ++ r), drop-append_seam q.piece (list_numbers l ++ r))
    (ap (before q) (split_front l k r))

split_behind : (es : List Request) (more k : ℕ) (r : List ℕ) → more ≡ length es + k → split_from more (list_numbers es ++ r) ≡ all_before es (split_from k r)
split_behind es more k r e = rw e (split_front es k r)

pub none_left : (k : ℕ) → split_from k [] ≡ edits []
none_left zero = refl
none_left (suc k) = refl

split_made : (es : List Request) (more : ℕ) → length es ≤ more → split_from more (list_numbers es) ≡ edits es
split_made es more h =
    ap (split_from more) (sym (append-nil (list_numbers es))) ∙ split_behind es more (more - length es) [] (omega arith)
    ∙ ap (all_before es) (none_left (more - length es)) ∙ before_edits es

split_inside : (more : ℕ) (r : List ℕ) → Inside r → split_from (suc more) r ≡ fault 4
split_inside more [] h = absurd h
split_inside more (op ∷ []) h = refl
split_inside more (op ∷ place ∷ []) h = refl
split_inside more (op ∷ place ∷ n ∷ rest) h = rw (lt-leb n (length rest) h)

split_ends : (more : ℕ) (l : List ℕ) → EndsInside more l → split_from more l ≡ fault 4
split_ends more l (es, r, k, i, e) =
    rw e (split_behind es more (suc (more - suc (length es))) r (omega arith) ∙ ap (all_before es) (split_inside (more - suc (length es)) r i) ∙ before_fault es 4)

split_begun : (more : ℕ) (l : List ℕ) → OneMoreBegun more l → split_from more l ≡ fault 5
split_begun more l (es, x, r, k, e) = rw e (split_behind es more 0 (x ∷ r) (omega arith) ∙ before_fault es 5)

-- ---- from a split to its form

-- what a list is, by how it splits
abbrev Told : (more : ℕ) → List ℕ → Split → Type 0
Told more l (edits es) = (l ≡ list_numbers es) × (length es ≤ more)
Told more l (fault n) = ((n ≡ 5) × OneMoreBegun more l) ⊎ ((n ≡ 4) × EndsInside more l)

module _ (more op place n : ℕ) (rest : List ℕ) (h : n ≤ length rest) where
  abbrev q : Request
  q = asked op place n rest

  whole : (y : List ℕ) → drop n rest ≡ y → op ∷ place ∷ n ∷ rest ≡ op ∷ place ∷ length (take n rest) ∷ (take n rest ++ y)
  whole y e =
      ap₂ (λ k r. op ∷ place ∷ k ∷ r) (sym (length-take-le n rest h)) (sym (take-append-drop n rest) ∙ ap (λ z. take n rest ++ z) e)

  told_before : (x : Split) → Told more (drop n rest) x → Told (suc more) (op ∷ place ∷ n ∷ rest) (before q x)
  told_before (edits es) (e, k) = (whole (list_numbers es) e, omega arith)
  told_before (fault m) (inl (f, (es, x, r, k, e))) =
      inl (f, (q ∷ es, x, r, ap suc k, whole (list_numbers es ++ x ∷ r) e ∙ ap (λ z. op ∷ place ∷ length (take n rest) ∷ z) (sym (append_assoc (take n rest) (list_numbers es) (x ∷ r)))))
  told_before (fault m) (inr (f, (es, r, k, i, e))) =
      inr (f, (q ∷ es, r, omega arith, i, whole (list_numbers es ++ r) e ∙ ap (λ z. op ∷ place ∷ length (take n rest) ∷ z) (sym (append_assoc (take n rest) (list_numbers es) r))))

told : (more : ℕ) (l : List ℕ) → Told more l (split_from more l)
told zero [] = (refl, omega arith)
told zero (x ∷ l) = inl (refl, ([], x, l, refl, refl))
told (suc more) [] = (refl, omega arith)
told (suc more) (op ∷ []) = inr (refl, ([], op ∷ [], omega arith, tt, refl))
told (suc more) (op ∷ place ∷ []) = inr (refl, ([], op ∷ place ∷ [], omega arith, tt, refl))
told (suc more) (op ∷ place ∷ n ∷ rest) = go (leb n (length rest)) refl (told more (drop n rest))
  where
    go : (b : Bool) → leb n (length rest) ≡ b → Told more (drop n rest) (split_from more (drop n rest))
        → Told (suc more) (op ∷ place ∷ n ∷ rest) (cond b (before (asked op place n rest) (split_from more (drop n rest))) (fault 4))
    go true e t = told_before more op place n rest (leb-true n (length rest) e) (split_from more (drop n rest)) t
    go false e t = let k = leb-false n (length rest) e in inr (refl, ([], op ∷ place ∷ n ∷ rest, omega arith, omega arith, refl))

-- .. and of a whole list
abbrev Form : List ℕ → Split → Type 0
Form l (edits es) = (l ≡ list_numbers es) × (1 ≤ length es) × (length es ≤ most_edits)
Form l (fault n) = ((n ≡ 5) × OneMoreBegun most_edits l) ⊎ ((n ≡ 4) × ((l ≡ []) ⊎ EndsInside most_edits l))

some : (es : List Request) (y : ℕ) (l : List ℕ) → y ∷ l ≡ list_numbers es → 1 ≤ length es
some [] y l e = let z : ◌≡◌ {A = ℕ} 0 1 = cc in absurd (omega arith)
some (q ∷ es) y l e = omega arith

form : (l : List ℕ) → Form l (split_list l)
unfolding split_list
form [] = inr (refl, inl refl)
form (y ∷ l) = go (split_from most_edits (y ∷ l)) (told most_edits (y ∷ l))
  where
    go : (x : Split) → Told most_edits (y ∷ l) x → Form (y ∷ l) x
    go (edits es) (e, k) = (e, some es y l e, k)
    go (fault n) (inl t) = inl t
    go (fault n) (inr (f, t)) = inr (f, inr t)

form_as : (l : List ℕ) (x : Split) → split_list l ≡ x → Form l x
form_as l x e = rw e at (form l)

none_four : split_list [] ≡ fault 4
unfolding split_list
none_four = refl

-- a list that is not empty is split from its front
from_front : (l : List ℕ) (x : Split) → (l ≡ [] → ⊥) → split_from most_edits l ≡ x → split_list l ≡ x
unfolding split_list
from_front [] x n e = absurd (n refl)
from_front (y ∷ l) x n e = e

-- ---- the laws

-- A list is edits exactly if it is their numbers, 1 to 256 of them.
pub split_exactly : (l : List ℕ) (es : List Request) → (split_list l ≡ edits es) ↔ ((l ≡ list_numbers es) × (1 ≤ length es) × (length es ≤ most_edits))
split_exactly l es = (form_as l (edits es), of)
  where
    not_none : (es : List Request) → 1 ≤ length es → list_numbers es ≡ [] → ⊥
    not_none [] h z = omega arith
    not_none (q ∷ es) h z = let y : ◌≡◌ {A = ℕ} 0 1 = cc in omega arith

    of : (l ≡ list_numbers es) × (1 ≤ length es) × (length es ≤ most_edits) → split_list l ≡ edits es
    of (e, h, k) = rw e (from_front (list_numbers es) (edits es) (not_none es h) (split_made es most_edits k))

-- So no list splits in two ways.
pub split_unique : (l m : List Request) → 1 ≤ length l → length l ≤ most_edits → 1 ≤ length m → length m ≤ most_edits → list_numbers l ≡ list_numbers m → l ≡ m
split_unique l m h k i j e =
    let f : edits l ≡ edits m = sym ((split_exactly (list_numbers m) l).1 (sym e, h, k)) ∙ (split_exactly (list_numbers m) m).1 (refl, i, j) in
    cc

behind_not_none : (es : List Request) (y : ℕ) (r : List ℕ) → list_numbers es ++ y ∷ r ≡ [] → ⊥
behind_not_none [] y r z = let k : ◌≡◌ {A = ℕ} 0 1 = cc in omega arith
behind_not_none (q ∷ es) y r z = let k : ◌≡◌ {A = ℕ} 0 1 = cc in omega arith

-- "a 257th edit begun is 5"
pub five_exactly : (l : List ℕ) → (split_list l ≡ fault 5) ↔ OneMoreBegun most_edits l
five_exactly l = (to, of)
  where
    to : split_list l ≡ fault 5 → OneMoreBegun most_edits l
    to e = elim (form_as l (fault 5) e) [ inl (f, b) ↦ b | inr (f, b) ↦ absurd (omega arith) ]

    of : OneMoreBegun most_edits l → split_list l ≡ fault 5
    of (es, x, r, k, e) =
        from_front l (fault 5) (λ z. behind_not_none es x r (sym e ∙ z)) (split_begun most_edits l (es, x, r, k, e))

-- "a list that is empty or ends inside an edit is 4"
pub four_exactly : (l : List ℕ) → (split_list l ≡ fault 4) ↔ ((l ≡ []) ⊎ EndsInside most_edits l)
four_exactly l = (to, of)
  where
    to : split_list l ≡ fault 4 → (l ≡ []) ⊎ EndsInside most_edits l
    to e = elim (form_as l (fault 4) e) [ inl (f, b) ↦ absurd (omega arith) | inr (f, b) ↦ b ]

    ends : (l : List ℕ) → EndsInside most_edits l → split_list l ≡ fault 4
    ends l (es, [], k, i, e) = absurd i
    ends l (es, x ∷ r, k, i, e) =
        from_front l (fault 4) (λ z. behind_not_none es x r (sym e ∙ z)) (split_ends most_edits l (es, x ∷ r, k, i, e))

    of : (l ≡ []) ⊎ EndsInside most_edits l → split_list l ≡ fault 4
    of (inl e) = ap split_list e ∙ none_four
    of (inr b) = ends l b

-- And there is no third fault.
pub four_or_five : (l : List ℕ) (n : ℕ) → split_list l ≡ fault n → (n ≡ 4) ⊎ (n ≡ 5)
four_or_five l n e = elim (form_as l (fault n) e) [ inl (f, b) ↦ inr f | inr (f, b) ↦ inl f ]
