-- How the edits of a group are worked: each in form, or up to the first that is not. Assumes nothing.
use Rattle.std.specs.Prelude.{◌≡◌, refl, ◌⊎◌, ◌≢◌, Bool, true, false, cond, ◌&&◌, List, [], ◌∷◌, ◌++◌, ℕ, suc, ◌+◌, ◌≤◌, max, leb, eqb, take}
use Rattle.std.proofs.Common.{ap, ◌∙◌, inl, inr, arith, take-take, length-take-le}
use Rattle.std.proofs.Math.Bool.{and-eq-true_iff}
use borrow.Author.Tests.{eqb-true, eqb-false, leb-true, le-leb}
use Rattle.std.proofs.Math.ListN.{length, length-take}
use Rattle.std.proofs.Math.Seq.{take-length}
use Rattle.paper.specs.Basics.{most_tokens}
use Rattle.paper.specs.Tokens.{toks}
use Rattle.paper.specs.Shape.{is_element, shallow, shape_of}
use Rattle.paper.specs.Rules.{of_table}
use Rattle.paper.specs.Edits.{Request, edited, form_fault}
use Rattle.shape_laws.specs.EditJudged.{form_iff, asked_shape}
use Rattle.shape_laws.specs.Shaped.{shaped}
use Rattle.paper.specs.Groups.{Work, worked, after, AllInForm}

-- ---- a document in its buffer

module _ (buf : List ℕ) (used : ℕ) (e : shape_of buf used ≡ true) where
  -- the first places of its buffer hold it
  pub shape_front : (room : ℕ) → used ≤ room → shape_of (take room buf) used ≡ true
  unfolding shape_of
  shape_front room h =
      let l : used ≤ length buf = (shaped buf used e).long in
      rw (take-take used room buf h, le-leb used (length (take room buf)) (omega (arith, length-take room buf))) (rw (le-leb used (length buf) l) at e)

  -- it is one alone
  pub shape_alone : shape_of (take used buf) (length (take used buf)) ≡ true
  shape_alone = rw (length-take-le used buf (shaped buf used e).long) (shape_front used (omega arith))

-- ---- all in form, or not

-- the first edit that is not in form, behind some that are
pub record Refused (room k : ℕ) (doc : List ℕ) (es : List Request) (w : Work) : Type 0 where
  pub ahead : List Request
  pub edit : Request
  pub behind : List Request
  pub splits : es ≡ ahead ++ edit ∷ behind
  pub in_form : AllInForm room ahead doc
  pub number : w.number ≡ form_fault room edit (after ahead doc)
  pub refused : w.number ≢ 0
  pub which : w.which ≡ k + length ahead
  pub reached : w.doc ≡ after ahead doc

-- all are in form
pub record Reached (room : ℕ) (doc : List ℕ) (es : List Request) (w : Work) : Type 0 where
  pub in_form : AllInForm room es doc
  pub number : w.number ≡ 0
  pub which : w.which ≡ 0
  pub reached : w.doc ≡ after es doc

one_more : (room k : ℕ) (doc : List ℕ) (q : Request) (es : List Request) (w : Work) → form_fault room q doc ≡ 0
    → Reached room (edited q doc) es w ⊎ Refused room (suc k) (edited q doc) es w → Reached room doc (q ∷ es) w ⊎ Refused room k doc (q ∷ es) w
one_more room k doc q es w f (inl r) = inl (record { in_form = (f, r.in_form); number = r.number; which = r.which; reached = r.reached })
one_more room k doc q es w f (inr r) = inr (record {
  ahead = q ∷ r.ahead;
  edit = r.edit;
  behind = r.behind;
  splits = ap (λ l. q ∷ l) r.splits;
  in_form = (f, r.in_form);
  number = r.number;
  refused = r.refused;
  which = omega (arith, r.which);
  reached = r.reached;
})

-- "Each edit is tested [..] in turn": one of the two
pub worked_told : (room k m : ℕ) (doc : List ℕ) (es : List Request) → Reached room doc es (worked room k m doc es) ⊎ Refused room k doc es (worked room k m doc es)
worked_told room k m doc [] = inl (record { in_form = tt; number = refl; which = refl; reached = refl })
worked_told room k m doc (q ∷ es) = go (eqb (form_fault room q doc) 0) refl (worked_told room (suc k) (max m (length (edited q doc))) (edited q doc) es)
  where
    go : (b : Bool) → eqb (form_fault room q doc) 0 ≡ b
        → let w : Work = worked room (suc k) (max m (length (edited q doc))) (edited q doc) es in
        Reached room (edited q doc) es w ⊎ Refused room (suc k) (edited q doc) es w
        → let v : Work = cond b w (record { number = form_fault room q doc; which = k; doc = doc; longest = m }) in
        Reached room doc (q ∷ es) v ⊎ Refused room k doc (q ∷ es) v
    go true e h = one_more room k doc q es (worked room (suc k) (max m (length (edited q doc))) (edited q doc) es) (eqb-true (form_fault room q doc) 0 e) h
    go false e h = inr (record {
      ahead = [];
      edit = q;
      behind = es;
      splits = refl;
      in_form = tt;
      number = refl;
      refused = eqb-false (form_fault room q doc) 0 e;
      which = omega arith;
      reached = refl;
    })

-- the two exclude each other
form_behind : (room : ℕ) (a : List Request) (q : Request) (b : List Request) (doc : List ℕ) → AllInForm room (a ++ q ∷ b) doc → form_fault room q (after a doc) ≡ 0
form_behind room [] q b doc (f, r) = f
form_behind room (x ∷ a) q b doc (f, r) = form_behind room a q b (edited x doc) r

pub not_both : (room k : ℕ) (doc : List ℕ) (es : List Request) (w : Work) → Refused room k doc es w → AllInForm room es doc → ⊥
not_both room k doc es w r f = r.refused (r.number ∙ form_behind room r.ahead r.edit r.behind doc (rw r.splits at f))

-- ---- one edit in form

module _ (room : ℕ) (q : Request) (doc : List ℕ) (f : form_fault room q doc ≡ 0) where
  -- it makes no more tokens than there is room for, nor than may be
  pub edited_fits : length (edited q doc) ≤ room
  edited_fits =
      let new : List ℕ = edited q doc in
      leb-true (length new) room ((and-eq-true_iff (leb (length new) most_tokens && shallow (toks new)) (leb (length new) room)).0 ((form_iff room q doc).0 f).size).1

  -- of a document with shape it makes one with shape
  pub edited_shape : shape_of doc (length doc) ≡ true → shape_of (edited q doc) (length (edited q doc)) ≡ true
  edited_shape h =
      let one : is_element (toks doc) ≡ true = rw (take-length doc) at (shaped doc (length doc) h).one in
      asked_shape (of_table []) room q doc one ((form_iff room q doc).0 f)

-- ---- lengths and shape

-- the longest reached is no less than the last, and no more than the first buffer has places
pub longest_most : (room k m : ℕ) (doc : List ℕ) (es : List Request) → length doc ≤ m → m ≤ room
    → (length (worked room k m doc es).doc ≤ (worked room k m doc es).longest) × ((worked room k m doc es).longest ≤ room)
longest_most room k m doc [] h j = (h, j)
longest_most room k m doc (q ∷ es) h j =
    go (eqb (form_fault room q doc) 0) refl (λ x y. longest_most room (suc k) (max m (length (edited q doc))) (edited q doc) es x y)
  where
    go : (b : Bool) → eqb (form_fault room q doc) 0 ≡ b
        → let w : Work = worked room (suc k) (max m (length (edited q doc))) (edited q doc) es in
        (length (edited q doc) ≤ max m (length (edited q doc)) → max m (length (edited q doc)) ≤ room → (length w.doc ≤ w.longest) × (w.longest ≤ room))
        → let v : Work = cond b w (record { number = form_fault room q doc; which = k; doc = doc; longest = m }) in
        (length v.doc ≤ v.longest) × (v.longest ≤ room)
    go true e r = let f = edited_fits room q doc (eqb-true (form_fault room q doc) 0 e) in r (omega arith) (omega arith)
    go false e r = (h, j)

-- what edits in form make of a document with shape has shape
pub shape_after : (room : ℕ) (es : List Request) (doc : List ℕ) → shape_of doc (length doc) ≡ true → AllInForm room es doc
    → shape_of (after es doc) (length (after es doc)) ≡ true
shape_after room [] doc h f = h
shape_after room (q ∷ es) doc h (f, r) = shape_after room es (edited q doc) (edited_shape room q doc f h) r
