-- The edits of a list, one after another: what holds while the loop goes on, and what each way out gives. Assumes nothing.
use Rattle.std.specs.Prelude.{◌≡◌, refl, true, List, [], ◌∷◌, ℕ, ◌+◌, ◌-◌, ◌≤◌, ◌<◌, ℤ, length}
use Rattle.std.proofs.Common.{sym, ap, ◌∙◌, arith, add-one, ne_eqb}
use Rattle.paper.specs.Basics.{most_tokens, most_edits}
use Rattle.paper.specs.Shape.{shape_of}
use Rattle.paper.specs.Edits.{Request, Outcome}
use Rattle.paper.specs.Lists.{split_list, fault_of, run_list, lent_with, next_edit, number_of, edit_list}
use Rattle.edits.specs.declared.Answer.{Answer}
use Rattle.edits.specs.Outcomes.{outcome_of, refusal}
use Rattle.edit_list.specs.declared.Edit.{Edit}
use Rattle.edit_list.specs.Places.{Within, Handed, request_of}
use Rattle.edit_list.specs.Left.{Left, Whole, left_all, Next, left_none, left_next}
use Rattle.lists.specs.Outcomes.{listed_of}
use Rattle.next_edits.specs.Single.{next_shape}

-- So many edits are done, and the last answer is there: the list comes to what the edits that are left come to.
pub record Going (table doc₀ : List ℕ) (used : ℕ) (list : List ℕ) (counts₀ : List ℤ) (doc : List ℕ) (counts : List ℤ) (new : List ℕ) (last : Answer) (done at : ℕ) : Type 0 where
  pub places : length new ≡ most_tokens
  pub long : length doc ≡ length doc₀
  pub shape : shape_of doc last.used ≡ true
  pub ahead : List Request
  pub left : Left list at done ahead
  pub same : edit_list table doc₀ used list counts₀ ≡ run_list (next_edit table) number_of done (outcome_of last doc [] counts) ahead

module _ (table doc₀ : List ℕ) (used : ℕ) (list : List ℕ) (counts₀ : List ℤ) where
  pub going_none : {new : List ℕ} {last : Answer} → length new ≡ most_tokens → shape_of doc₀ used ≡ true → 0 ≡ fault_of (split_list list) → last ≡ refusal 0 0 used
      → Going table doc₀ used list counts₀ doc₀ counts₀ new last 0 0
  unfolding edit_list
  going_none {new} {last} n sh z e =
      let w : Whole list = left_all list z in
      record { places = n; long = refl; shape = rw e sh; ahead = w.all; left = w.left; same = rw (w.splits, e) }

  module _ {doc : List ℕ} {counts : List ℤ} {new : List ℕ} {last : Answer} {done at : ℕ} (g : Going table doc₀ used list counts₀ doc counts new last done at) where
    -- no edit is left
    pub going_end : length list ≤ at → listed_of (record { last = last; done = done }) doc counts ≡ edit_list table doc₀ used list counts₀
    going_end h = let z = left_none list at done g.ahead g.left h in sym (g.same ∙ rw z)

    module _ (h : at < length list) where
      next : Next list at done g.ahead
      next = left_next list at done g.ahead g.left h

      pub going_within : Within list at
      going_within = next.within

      pub going_few : done < most_edits
      going_few = omega (arith, next.left.few)

      pub going_less : {e : Edit} → Handed list at e → length list - e.to < length list - at
      going_less o = rw o.same (omega (arith, next.within.piece))

      -- the edit there, made on what is left
      module _ {e : Edit} (o : Handed list at e) {last' : Answer} {doc' : List ℕ} {counts' : List ℤ}
          (s : outcome_of last' doc' [] counts' ≡ next_edit table (lent_with doc last.used counts 0) (request_of list e)) where
        abbrev call : Outcome → Request → Outcome
        call = next_edit table

        abbrev q : Request
        q = request_of list e

        first : g.ahead ≡ q ∷ next.rest
        first = next.first ∙ ap (λ (x : Edit). request_of list x ∷ next.rest) (sym o.same)

        -- "It ends at the first refusal; what was done before stands."
        pub going_refused : (last'.number ≡ 0 → ⊥) → listed_of (record { last = last'; done = done }) doc' counts' ≡ edit_list table doc₀ used list counts₀
        going_refused n = sym (g.same ∙ ap (run_list call number_of done (outcome_of last doc [] counts)) first ∙ rw (← s, ne_eqb last'.number 0 n))

        module _ (z : last'.number ≡ 0) where
          more : run_list call number_of done (outcome_of last doc [] counts) (q ∷ next.rest) ≡ run_list call number_of (done + 1) (outcome_of last' doc' [] counts') next.rest
          more = rw (← s, z, add-one done)

          pub going_next : {new' : List ℕ} → length new' ≡ length new → length doc' ≡ length doc → Going table doc₀ used list counts₀ doc' counts' new' last' (done + 1) e.to
          going_next en ed = record {
            places = en ∙ g.places;
            long = ed ∙ g.long;
            shape = next_shape table doc last.used counts q g.shape s;
            ahead = next.rest;
            left = rw o.same next.left;
            same = g.same ∙ ap (run_list call number_of done (outcome_of last doc [] counts)) first ∙ more;
          }
