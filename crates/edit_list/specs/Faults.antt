-- The list's own fault, from a place on. Assumes nothing.
use Rattle.std.specs.Prelude.{◌≡◌, refl, Bool, true, false, not, List, [], ◌∷◌, ℕ, suc, ◌+◌, ◌-◌, ◌≤◌, ◌<◌, length, drop}
use Rattle.std.proofs.Common.{sym, ap, ◌∙◌, arith, drop_of_length-le}
use Rattle.std.proofs.lemmas.Bool.{not-true, not-false}
use Rattle.paper.specs.Basics.{most_edits}
use Rattle.paper.specs.Edits.{Request}
use Rattle.paper.specs.Lists.{Split, fault, edits, before, split_from, split_list, fault_of}
use Rattle.basic_laws.specs.Lists.{drop_next}
use Rattle.list_laws.specs.Exactly.{none_left}
use Rattle.edit_list.specs.declared.Edit.{Edit}
use Rattle.edit_list.specs.Places.{whole, Within, edit_at, Handed, request_of, whole_within, split_whole, split_broken}

pub empty_fault : (list : List ℕ) → length list ≡ 0 → 4 ≡ fault_of (split_list list)
unfolding split_list
empty_fault [] h = refl
empty_fault (x ∷ list) h = absurd (omega arith)

fault_before : (q : Request) (x : Split) → fault_of (before q x) ≡ fault_of x
fault_before q (fault n) = refl
fault_before q (edits l) = refl

-- so many edits have begun before a place, and all of them are whole: the list's fault is that of what is left
pub record Begun (list : List ℕ) (at begun : ℕ) : Type 0 where
  pub within : at ≤ length list
  pub few : begun ≤ most_edits
  pub same : fault_of (split_list list) ≡ fault_of (split_from (most_edits - begun) (drop at list))

pub begun_none : (list : List ℕ) → (length list ≡ 0 → ⊥) → Begun list 0 0
unfolding split_list
begun_none [] h = absurd (h refl)
begun_none (x ∷ list) h = record { within = omega arith; few = omega arith; same = refl }

module _ (list : List ℕ) (at begun : ℕ) (b : Begun list at begun) where
  pub begun_end : length list ≤ at → 0 ≡ fault_of (split_list list)
  begun_end h = sym (b.same ∙ rw (drop_of_length-le list h, none_left (most_edits - begun)))

  module _ (h : at < length list) where
    pub begun_over : most_edits ≤ begun → 5 ≡ fault_of (split_list list)
    begun_over e =
        let z : most_edits - begun ≡ 0 = omega arith in
        sym (b.same ∙ rw (z, drop_next list at h))

    module _ (n : begun ≡ most_edits → ⊥) {w : Bool} (ew : w ≡ whole (drop at list)) where
      more : most_edits - begun ≡ suc (most_edits - (begun + 1))
      more = omega (arith, b.few)

      pub begun_broken : not w ≡ true → 4 ≡ fault_of (split_list list)
      begun_broken t = sym (b.same ∙ rw (more, split_broken list at (most_edits - (begun + 1)) h (sym ew ∙ not-true w t)))

      module _ (t : not w ≡ false) where
        it_is : whole (drop at list) ≡ true
        it_is = sym ew ∙ not-false w t

        pub begun_within : Within list at
        begun_within = whole_within list at it_is

        module _ {e : Edit} (o : Handed list at e) where
          pub begun_next : Begun list e.to (begun + 1)
          begun_next = record {
            within = o.ends;
            few = omega (arith, b.few);
            same =
                b.same
                ∙ ap (λ k. fault_of (split_from k (drop at list))) more
                ∙ ap fault_of (split_whole list at it_is (most_edits - (begun + 1)))
                ∙ fault_before (request_of list (edit_at list at)) (split_from (most_edits - (begun + 1)) (drop (edit_at list at).to list))
                ∙ ap (λ (x : Edit). fault_of (split_from (most_edits - (begun + 1)) (drop x.to list))) (sym o.same);
          }

          pub begun_less : length list - e.to < length list - at
          begun_less = rw o.same (omega (arith, (whole_within list at it_is).piece))
