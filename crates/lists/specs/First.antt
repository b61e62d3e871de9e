-- The first edit of a list, and those behind it, which are a list as well. Assumes nothing.
use Rattle.std.specs.Prelude.{◌≡◌, refl, Bool, true, false, cond, ℕ, zero, suc, ◌+◌, ◌-◌, ◌≤◌, ◌<◌, leb, eqb, ℤ, length, drop, replicate}
use Rattle.std.proofs.Math.Path.{sym, ap}
use Rattle.std.proofs.Common.{subst, ◌∙◌, add-one, arith, length-drop}
use mathlib.Core.List.{List, [], ◌∷◌}
use Rattle.std.proofs.lemmas.List.{length-replicate}
use Rattle.paper.specs.Basics.{most_tokens, most_edits}
use Rattle.paper.specs.Shape.{shape_of}
use Rattle.paper.specs.Table.{proper}
use Rattle.paper.specs.Edits.{Request, Outcome}
use Rattle.paper.specs.Lists as paper
use Rattle.paper.specs.Lists.{Split, fault, edits, before, asked, split_from, split_list, fault_of, run_list, lent_with, next_edit, number_of, edit_list}
use Rattle.edits.specs.declared.Answer.{Answer}
use Rattle.edits.specs.Outcomes.{outcome_of, refusal}
use Rattle.edit_list.specs.declared.Edit.{Edit}
use Rattle.edit_list.specs.Places.{Within, Handed, request_of}
use Rattle.edit_list.specs.Left.{left_all}
use Rattle.list_laws.specs.Exactly.{split_exactly}
use Rattle.next_edits.specs.Kept.{next_sound}
use Rattle.lists.specs.declared.Listed.{Listed}
use Rattle.lists.specs.declared.First.{First}
use Rattle.lists.specs.Outcomes.{listed_of}
use Rattle.lists.specs.Going.{Going, going_none, going_end, going_within, going_refused, going_next}
use Rattle.lists.specs.Kept.{Begun, Ended}

-- ---- one edit more may begin

no_edits : {A : Type 0} {n : ℕ} {es : List Request} → fault n ≡ edits es → A
no_edits {n = n} {es = es} e = let z : ◌≡◌ {A = ℕ} 0 1 = cc in absurd (omega arith)

before_more : (q : Request) (s t : Split) (es : List Request) → ((r : List Request) → s ≡ edits r → t ≡ edits r) → before q s ≡ edits es → before q t ≡ edits es
before_more q (fault n) t es f e = no_edits e
before_more q (edits r) t es f e = ap (before q) (f r refl) ∙ e

split_more : (more : ℕ) (l : List ℕ) (es : List Request) → split_from more l ≡ edits es → split_from (suc more) l ≡ edits es
split_more zero [] es e = e
split_more zero (x ∷ l) es e = no_edits e
split_more (suc more) [] es e = e
split_more (suc more) (op ∷ []) es e = no_edits e
split_more (suc more) (op ∷ place ∷ []) es e = no_edits e
split_more (suc more) (op ∷ place ∷ n ∷ rest) es e = go (leb n (length rest)) (λ r. split_more more (drop n rest) r) e
  where
    go : (b : Bool) → ((r : List Request) → split_from more (drop n rest) ≡ edits r → split_from (suc more) (drop n rest) ≡ edits r)
        → cond b (before (asked op place n rest) (split_from more (drop n rest))) (fault 4) ≡ edits es
        → cond b (before (asked op place n rest) (split_from (suc more) (drop n rest))) (fault 4) ≡ edits es
    go true f e = before_more (asked op place n rest) (split_from more (drop n rest)) (split_from (suc more) (drop n rest)) es f e
    go false f e = no_edits e

-- those that are left behind the first are a list
split_rest : (l : List ℕ) (es : List Request) → 0 < length l → split_from (most_edits - 1) l ≡ edits es → split_list l ≡ edits es
unfolding split_list
split_rest [] es h e = absurd (omega arith)
split_rest (x ∷ l) es h e = split_more 255 (x ∷ l) es e

-- ---- one edit done more

abbrev one_more : paper.Listed Outcome → paper.Listed Outcome
one_more x = record { last = x.last; done = suc x.done }

run_more : (call : Outcome → Request → Outcome) (l : List Request) (n : ℕ) (o : Outcome) → run_list call number_of (suc n) o l ≡ one_more (run_list call number_of n o l)
run_more call [] n o = refl
run_more call (q ∷ l) n o = go (eqb (number_of (call o q)) 0) (run_more call l (suc n) (call o q))
  where
    go : (b : Bool) → run_list call number_of (suc (suc n)) (call o q) l ≡ one_more (run_list call number_of (suc n) (call o q) l)
        → cond b (run_list call number_of (suc (suc n)) (call o q) l) (record { last = call o q; done = suc n })
        ≡ one_more (cond b (run_list call number_of (suc n) (call o q) l) (record { last = call o q; done = n }))
    go true h = h
    go false h = refl

-- where an edit is made, only document and counts of what was before are read
run_start : (table : List ℕ) (l : List Request) (n : ℕ) (last : Answer) (doc : List ℕ) (counts : List ℤ) → (l ≡ [] → ⊥)
    → run_list (next_edit table) number_of n (outcome_of last doc [] counts) l ≡ run_list (next_edit table) number_of n (lent_with doc last.used counts 0) l
run_start table [] n last doc counts h = absurd (h refl)
run_start table (q ∷ l) n last doc counts h = refl

-- ---- the first edit

-- what the first edit of a list comes to, and the place behind it
pub record FirstOf (table doc₀ : List ℕ) (used : ℕ) (list : List ℕ) (counts₀ : List ℤ) (doc : List ℕ) (counts : List ℤ) (r : First) : Type 0 where
  pub edit : Edit
  pub handed : Handed list 0 edit
  pub behind : r.to ≡ edit.to
  pub same : outcome_of r.answer doc [] counts ≡ next_edit table (lent_with doc₀ used counts₀ 0) (request_of list edit)

pub first_of : (table doc₀ : List ℕ) (used : ℕ) (list : List ℕ) (counts₀ : List ℤ) {e : Edit} {answer : Answer} {doc : List ℕ} {counts : List ℤ} → Handed list 0 e
    → outcome_of answer doc [] counts ≡ next_edit table (lent_with doc₀ used counts₀ 0) (request_of list e)
    → FirstOf table doc₀ used list counts₀ doc counts (record { answer = answer; to = e.to })
first_of table doc₀ used list counts₀ {e} o s = record { edit = e; handed = o; behind = refl; same = s }

module _ (table doc₀ : List ℕ) (used : ℕ) (list : List ℕ) (counts₀ : List ℤ) (p : proper table ≡ true) (sh : shape_of doc₀ used ≡ true) (z₀ : 0 ≡ fault_of (split_list list)) where
  abbrev room : List ℕ
  room = replicate most_tokens 0

  begin : Going table doc₀ used list counts₀ doc₀ counts₀ room (refusal 0 0 used) 0 0
  begin = going_none table doc₀ used list counts₀ (length-replicate {A = ℕ} most_tokens 0) sh z₀ refl

  some : 0 < length list
  some = (left_all list z₀).some

  pub first_within : Within list 0
  first_within = going_within table doc₀ used list counts₀ begin some

  module _ {f : First} {doc : List ℕ} {counts : List ℤ} (k : FirstOf table doc₀ used list counts₀ doc counts f) where
    pub first_refused : (f.answer.number ≡ 0 → ⊥) → listed_of (record { last = f.answer; done = 0 }) doc counts ≡ edit_list table doc₀ used list counts₀
    first_refused n = going_refused table doc₀ used list counts₀ begin some k.handed k.same n

    module _ (z : f.answer.number ≡ 0) (ed : length doc ≡ length doc₀) where
      after : Going table doc₀ used list counts₀ doc counts room f.answer (0 + 1) f.to
      after = subst (Going table doc₀ used list counts₀ doc counts room f.answer (0 + 1)) (sym k.behind) (going_next table doc₀ used list counts₀ begin some k.handed k.same z refl ed)

      pub first_only : length list ≤ f.to → listed_of (record { last = f.answer; done = 1 }) doc counts ≡ edit_list table doc₀ used list counts₀
      first_only h = going_end table doc₀ used list counts₀ after h

      module _ (h : f.to < length list) where
        rest_is : split_list (drop f.to list) ≡ edits after.ahead
        rest_is = split_rest (drop f.to list) after.ahead (omega (arith, length-drop f.to list)) after.left.splits

        pub first_begun : {new : List ℕ} → length new ≡ most_tokens → Begun table doc f.answer.used (drop f.to list) new
        first_begun places = record {
          table_good = p;
          shape = after.shape;
          sound = next_sound table doc₀ used counts₀ (request_of list k.edit) p sh k.same z;
          edits = sym (ap fault_of rest_is);
          places = places;
        }

        none_empty : after.ahead ≡ [] → ⊥
        none_empty y = not_nil (drop f.to list) (omega (arith, length-drop f.to list)) (rest_is ∙ ap edits y)
          where
            not_nil : (l : List ℕ) → 0 < length l → split_list l ≡ edits [] → ⊥
            not_nil l n k = let x = ((split_exactly l []).0 k).1 in omega (arith, x)

        pub first_more : {doc' : List ℕ} {counts' : List ℤ} {rest : Listed} → Ended table doc f.answer.used (drop f.to list) counts doc' counts' rest
            → listed_of (record { last = rest.last; done = rest.done + 1 }) doc' counts' ≡ edit_list table doc₀ used list counts₀
        unfolding edit_list
        first_more {doc'} {counts'} {rest} y =
            ap (λ n. listed_of (record { last = rest.last; done = n }) doc' counts') (add-one rest.done)
            ∙ ap one_more (y.same ∙ ap (paper.listed (next_edit table) number_of (lent_with doc f.answer.used counts)) rest_is
            ∙ sym (run_start table after.ahead 0 f.answer doc counts none_empty))
            ∙ sym (run_more (next_edit table) after.ahead 0 (outcome_of f.answer doc [] counts)) ∙ sym after.same
