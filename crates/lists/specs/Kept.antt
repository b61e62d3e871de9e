-- The edits of a list, one after another, with what is kept of the document's IDs and references. Assumes nothing.
use Rattle.std.specs.Prelude.{◌≡◌, refl, true, List, [], ℕ, ◌+◌, ◌-◌, ◌≤◌, ◌<◌, ℤ, length, take, drop}
use Rattle.std.proofs.Common.{sym, ap, subst, ◌∙◌, arith, length-drop, length-take-le, take_all}
use Rattle.paper.specs.Basics.{most_tokens, most_edits}
use Rattle.paper.specs.Tokens.{toks}
use Rattle.paper.specs.Shape.{shape_of}
use Rattle.paper.specs.Table.{proper}
use Rattle.paper.specs.Rules.{of_table}
use Rattle.paper.specs.Judgement.{key_fault}
use Rattle.paper.specs.Lists.{split_list, fault_of, lent_with, next_edit, edit_list}
use Rattle.shape_laws.specs.Shaped.{shaped}
use Rattle.edits.specs.declared.Answer.{Answer}
use Rattle.edits.specs.Outcomes.{outcome_of, refusal}
use Rattle.edit_list.specs.declared.Edit.{Edit}
use Rattle.edit_list.specs.Places.{Within, Handed, request_of}
use Rattle.kept_keys.specs.Follow.{Keeps}
use Rattle.next_edits.specs.Kept.{Goes, next_sound}
use Rattle.lists.specs.declared.Listed.{Listed}
use Rattle.lists.specs.Outcomes.{listed_of}
use Rattle.lists.specs.Going.{Going, going_none, going_end, going_within, going_few, going_refused, going_next, going_less}

-- a proper table, a document with shape and without a fault of 11 or 12, a list without a fault, and room for the edited tokens
pub record Begun (table doc : List ℕ) (used : ℕ) (list new : List ℕ) : Type 0 where
  pub table_good : proper table ≡ true
  pub shape : shape_of doc used ≡ true
  pub sound : (key_fault (of_table table) (toks (take used doc))).0 ≡ 0
  pub edits : 0 ≡ fault_of (split_list list)
  pub places : length new ≡ most_tokens

-- what the list comes to, and that there are no more edits than a list has
pub record Ended (table doc : List ℕ) (used : ℕ) (list : List ℕ) (counts : List ℤ) (doc' : List ℕ) (counts' : List ℤ) (r : Listed) : Type 0 where
  pub same : listed_of r doc' counts' ≡ edit_list table doc used list counts
  pub few : r.done ≤ most_edits

module _ (table doc : List ℕ) (used : ℕ) (list : List ℕ) {new : List ℕ} (b : Begun table doc used list new) where
  pub begun_part : used ≡ length (take used doc)
  begun_part = sym (length-take-le used doc (shaped doc used b.shape).long)

  pub begun_long : used ≤ length doc
  begun_long = (shaped doc used b.shape).long

  pub begun_few : length (take used doc) ≤ most_tokens
  begun_few = omega (arith, begun_part, (shaped doc used b.shape).few)

-- the numbers from a place on, as the code lends them
module _ (table doc : List ℕ) (used : ℕ) (list : List ℕ) (from : ℕ) where
  whole_part : take (length list - from) (drop from list) ≡ drop from list
  whole_part = take_all (length list - from) (drop from list) (omega (arith, length-drop from list))

  pub part_begun : {new : List ℕ} → Begun table doc used (drop from list) new → Begun table doc used (take (length list - from) (drop from list)) new
  part_begun {new} b = subst (λ l. Begun table doc used l new) (sym whole_part) b

  pub part_ended : {counts : List ℤ} {doc' : List ℕ} {counts' : List ℤ} {r : Listed} → Ended table doc used (take (length list - from) (drop from list)) counts doc' counts' r
      → Ended table doc used (drop from list) counts doc' counts' r
  part_ended {counts} {doc'} {counts'} {r} e = subst (λ l. Ended table doc used l counts doc' counts' r) whole_part e

-- the loop
pub record GoingKept (table doc₀ : List ℕ) (used : ℕ) (list : List ℕ) (counts₀ : List ℤ) (new₀ field₀ referred₀ doc : List ℕ)
    (counts : List ℤ) (new field referred : List ℕ) (last : Answer) (done at : ℕ) : Type 0 where
  pub table_good : proper table ≡ true
  pub same_new : length new ≡ length new₀
  pub same_field : length field ≡ length field₀
  pub same_referred : length referred ≡ length referred₀
  pub going : Going table doc₀ used list counts₀ doc counts new last done at
  pub sound : (key_fault (of_table table) (toks (take last.used doc))).0 ≡ 0
  pub keeps : Keeps table field referred (toks (take last.used doc))

module _ (table doc₀ : List ℕ) (used : ℕ) (list : List ℕ) (counts₀ : List ℤ) where
  pub kept_none : {new field referred : List ℕ} {last : Answer} → Begun table doc₀ used list new → Keeps table field referred (toks (take used doc₀)) → last ≡ refusal 0 0 used
      → GoingKept table doc₀ used list counts₀ new field referred doc₀ counts₀ new field referred last 0 0
  kept_none {new} {field} {referred} b k e = record {
    table_good = b.table_good;
    same_new = refl;
    same_field = refl;
    same_referred = refl;
    going = going_none table doc₀ used list counts₀ b.places b.shape b.edits e;
    sound = ap (λ (x : Answer). (key_fault (of_table table) (toks (take x.used doc₀))).0) e ∙ b.sound;
    keeps = subst (λ (x : Answer). Keeps table field referred (toks (take x.used doc₀))) (sym e) k;
  }

  module _ {new₀ field₀ referred₀ doc : List ℕ} {counts : List ℤ} {new field referred : List ℕ} {last : Answer} {done at : ℕ}
      (g : GoingKept table doc₀ used list counts₀ new₀ field₀ referred₀ doc counts new field referred last done at) where
    pub kept_end : length list ≤ at → Ended table doc₀ used list counts₀ doc counts (record { last = last; done = done })
    kept_end h = record { same = going_end table doc₀ used list counts₀ g.going h; few = omega (arith, g.going.left.few) }

    module _ (h : at < length list) where
      pub kept_within : Within list at
      kept_within = going_within table doc₀ used list counts₀ g.going h

      pub kept_few : done < most_edits
      kept_few = going_few table doc₀ used list counts₀ g.going h

      pub kept_less : {e : Edit} → Handed list at e → length list - e.to < length list - at
      kept_less o = going_less table doc₀ used list counts₀ g.going h o

      module _ {e : Edit} (o : Handed list at e) {last' : Answer} {doc' : List ℕ} {counts' : List ℤ}
          (s : outcome_of last' doc' [] counts' ≡ next_edit table (lent_with doc last.used counts 0) (request_of list e)) where
        pub kept_refused : (last'.number ≡ 0 → ⊥) → Ended table doc₀ used list counts₀ doc' counts' (record { last = last'; done = done })
        kept_refused n = record { same = going_refused table doc₀ used list counts₀ g.going h o s n; few = omega (arith, kept_few) }

        module _ (z : last'.number ≡ 0) where
          pub kept_next : {new' field' referred' : List ℕ} → Goes table doc' field' referred' last' → length doc' ≡ length doc → length new' ≡ length new
              → length field' ≡ length field → length referred' ≡ length referred
              → GoingKept table doc₀ used list counts₀ new₀ field₀ referred₀ doc' counts' new' field' referred' last' (done + 1) e.to
          kept_next k ed en ef ec = record {
            table_good = g.table_good;
            same_new = en ∙ g.same_new;
            same_field = ef ∙ g.same_field;
            same_referred = ec ∙ g.same_referred;
            going = going_next table doc₀ used list counts₀ g.going h o s z en ed;
            sound = next_sound table doc last.used counts (request_of list e) g.table_good g.going.shape s z;
            keeps = k.keeps z;
          }
