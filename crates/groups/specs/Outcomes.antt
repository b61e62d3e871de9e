-- A group's answer with what it leaves, as the outcome of item 9. Assumes nothing.
use Rattle.std.specs.Prelude.{◌≡◌, refl, Bool, true, false, not, List, ◌++◌, ℕ, ◌+◌, ◌-◌, ◌≤◌, ◌<◌, max, pos, ◌-ℤ◌, length, take, drop, replicate, Ok, Err}
use Rattle.std.proofs.Common.{sym, ap, ap₂, ◌∙◌, inl, inr, arith, zero-add, drop-drop, length-take-le}
use borrow.Author.Tests.{le-leb, lt-leb, ne_eqb, not-true, not-false}
use Rattle.std.proofs.Math.Seq.{paste, drop-append-add}
use Rattle.paper.specs.Basics.{most_tokens}
use Rattle.paper.specs.Tokens.{toks}
use Rattle.paper.specs.Shape.{shape_of}
use Rattle.paper.specs.Table.{proper}
use Rattle.paper.specs.Rules.{of_table}
use Rattle.paper.specs.Judgement.{judge, whole}
use Rattle.paper.specs.Edits.{Request, written}
use Rattle.paper.specs.Lists.{Split, fault, edits, split_list, fault_of}
use Rattle.shape_laws.specs.Shaped.{shaped}
use Rattle.shape_laws.specs.Written.{written_take, written_length, written_shape}
use Rattle.paper.specs.Groups.{Work, worked, GroupOutcome, not_begun, verdict, reached_in, begun, group_by, group}
use Rattle.group_laws.specs.Worked.{shape_alone, Reached, worked_told, longest_most, shape_after}
use Rattle.group_laws.specs.Second.{grows}
use Rattle.edit_list.specs.Left.{Whole, left_all}
use Rattle.paper.specs.declared.Refusal.{Refusal}
use Rattle.paper.specs.Codes.{number_of}
use Rattle.working.specs.declared.Stopped.{Stopped}
use Rattle.working.specs.Working.{Came, some_number}
use Rattle.groups.specs.declared.Grouped.{Grouped}

-- with both buffers
abbrev pub outcome_of : Grouped → (buffer second : List ℕ) → GroupOutcome
outcome_of r b s = record { number = r.number; place = r.place; used = r.used; change = r.change; which = r.which; buffer = b; second = s }

abbrev pub refusal_of : (number place used which : ℕ) → Grouped
refusal_of number place used which = record { number = number; place = place; used = used; change = pos 0; which = which }

-- ---- the starting document, put into the second buffer

module _ (buffer : List ℕ) (used : ℕ) (second : List ℕ) (s : shape_of buffer used ≡ true) (room : length buffer ≤ length second) where
  abbrev doc : List ℕ
  doc = take used buffer

  few : used ≤ most_tokens
  few = (shaped buffer used s).few

  long : used ≤ length buffer
  long = (shaped buffer used s).long

  size : length doc ≡ used
  size = length-take-le used buffer long

  module _ {start : List ℕ} (e : start ≡ paste second 0 (drop 0 buffer) used) where
    start_is : start ≡ written second used doc
    start_is =
        let none : used - used ≡ 0 = omega arith in
        let same : max used used ≡ used = omega arith in
        e ∙ rw (zero-add used, size, none, same)

    pub start_length : length start ≡ length second
    start_length = ap length start_is ∙ written_length second used doc (omega (arith, long)) (omega (arith, size, long))

    start_holds : take used start ≡ doc
    start_holds = ap₂ take (sym size) start_is ∙ written_take second used doc

    pub start_shape : shape_of start used ≡ true
    start_shape = ap₂ shape_of start_is (sym size) ∙ written_shape second used doc (omega (arith, long)) (omega (arith, size, long)) (shape_alone buffer used s)

    -- what stands behind the documents is what stood there
    reached_over : (w : Work) → used ≤ w.longest → reached_in start w ≡ reached_in second w
    reached_over w h =
        let k : ℕ = max w.longest (length w.doc) - used in
        let there : max w.longest (length w.doc) ≡ used + k = omega arith in
        let sized : max w.longest (length w.doc) ≡ length doc + k = omega (arith, size) in
        let split : start ≡ doc ++ drop used second = e ∙ rw (zero-add used) in
        ap (λ l. w.doc ++ (replicate (w.longest - length w.doc) 0 ++ l))
        (ap₂ drop sized split ∙ drop-append-add doc (drop used second) k ∙ drop-drop k used second ∙ ap (λ j. drop j second) (sym there))

-- ---- the edits, worked

-- the edits of the list, and what they came to
pub record Ran (buffer : List ℕ) (used : ℕ) (list second : List ℕ) (n x e : ℕ) (after : List ℕ) : Type 0 where
  pub es : List Request
  pub splits : split_list list ≡ edits es
  pub number : n ≡ (worked (length buffer) 1 used (take used buffer) es).number
  pub which : x ≡ (worked (length buffer) 1 used (take used buffer) es).which
  pub ends : e ≡ length (worked (length buffer) 1 used (take used buffer) es).doc
  pub holds : after ≡ reached_in second (worked (length buffer) 1 used (take used buffer) es)

module _ (table buffer : List ℕ) (used : ℕ) (list second : List ℕ) (s : shape_of buffer used ≡ true) (room : length buffer ≤ length second) where
  module _ (es : List Request) where
    abbrev work : Work
    work = worked (length buffer) 1 used (take used buffer) es

    bounds : (length work.doc ≤ work.longest) × (work.longest ≤ length buffer)
    bounds = longest_most (length buffer) 1 used (take used buffer) es (omega (arith, size buffer used second s room)) (long buffer used second s room)

    -- the call, where the list is edits
    by_edits : split_list list ≡ edits es → begun buffer used second work (verdict (of_table table) work) ≡ group_by (of_table table) buffer used second (split_list list)
    by_edits e = rw (e, le-leb (length buffer) (length second) room) refl

    all_in_form : work.number ≡ 0 → Reached (length buffer) (take used buffer) es work
    all_in_form z = elim (worked_told (length buffer) 1 used (take used buffer) es) [ inl r ↦ r | inr r ↦ absurd (r.refused z) ]

  module _ (z : 0 ≡ fault_of (split_list list)) {start : List ℕ} (e : start ≡ paste second 0 (drop 0 buffer) used) where
    ran : {n x m : ℕ} {after : List ℕ} → ((es : List Request) → split_list list ≡ edits es → let w : Work = worked (length buffer) 1 used (take used start) es in
        (n ≡ w.number) × (x ≡ w.which) × (m ≡ length w.doc) × (after ≡ reached_in start w)) → Ran buffer used list second n x m after
    ran told =
        let l : Whole list = left_all list z in
        let held = start_holds buffer used second s room e in
        let (n, x, u, b) = rw held at (told l.all l.splits) in
        record {
          es = l.all;
          splits = l.splits;
          number = n;
          which = x;
          ends = u;
          holds = b ∙ reached_over buffer used second s room e (work l.all) (grown l.all);
        }
      where
        grown : (es : List Request) → used ≤ (work es).longest
        grown es = grows (length buffer) 1 used (take used buffer) es

    module _ {after : List ℕ} where
      pub ran_through : {m : ℕ} → Came start (length buffer) used list after (Ok m) → Ran buffer used list second 0 0 m after
      ran_through c = ran (λ es q. c.told es q)

      pub ran_into : {q : Stopped} → Came start (length buffer) used list after (Err q) → Ran buffer used list second (number_of q.refusal) q.which q.used after
      ran_into c = ran (λ es k. c.told es k)

  -- a refused edit
  pub begun_edit : (q : Refusal) {x m : ℕ} {after : List ℕ} → Ran buffer used list second (number_of q) x m after → {g : Grouped} → g ≡ refusal_of (number_of q) 0 used x
      → outcome_of g buffer after ≡ group_by (of_table table) buffer used second (split_list list)
  begun_edit q r e =
      let bad = ne_eqb (work r.es).number 0 (λ z. some_number q (r.number ∙ z)) in
      rw (e, r.number, r.which, r.holds) (rw (bad, bad) at (by_edits r.es r.splits))

  module _ {end : ℕ} {after : List ℕ} (r : Ran buffer used list second 0 0 end after) where
    end_is : Reached (length buffer) (take used buffer) r.es (work r.es)
    end_is = all_in_form r.es (sym r.number)

    last_shape : shape_of (work r.es).doc (length (work r.es).doc) ≡ true
    last_shape = rw end_is.reached (shape_after (length buffer) r.es (take used buffer) (shape_alone buffer used s) end_is.in_form)

    pub last_few : end ≤ most_tokens
    last_few = omega (arith, r.ends, (shaped (work r.es).doc (length (work r.es).doc) last_shape).few)

    pub last_room : end ≤ length buffer
    last_room = omega (arith, r.ends, bounds r.es)

    pub last_long : end ≤ length after
    last_long =
        let (x, y) = bounds r.es in
        omega (arith, r.ends, ap length r.holds, written_length second (work r.es).longest (work r.es).doc (omega arith) (omega arith))

    last_held : take end after ≡ (work r.es).doc
    last_held = ap₂ take r.ends r.holds ∙ written_take second (work r.es).longest (work r.es).doc

    judged_is : {j : ℕ × ℕ} → j ≡ judge (of_table table) whole (toks (take end after)) → verdict (of_table table) (work r.es) ≡ j
    judged_is e = rw end_is.number (ap (λ l. judge (of_table table) whole (toks l)) (sym last_held) ∙ sym e)

    pub begun_fault : (q : Refusal) {place : ℕ} → (number_of q, place) ≡ judge (of_table table) whole (toks (take end after)) → {x : Grouped} → x ≡ refusal_of (number_of q) place used 0
        → outcome_of x buffer after ≡ group_by (of_table table) buffer used second (split_list list)
    begun_fault q {place} ef e =
        ap (λ y. outcome_of y buffer after) e
        ∙ ap₂ (λ k l. outcome_of (refusal_of (number_of q) place used k) buffer l) (sym end_is.which) r.holds
        ∙ (rw (judged_is ef, ne_eqb (number_of q) 0 (some_number q)) at (by_edits r.es r.splits))

    pub begun_done : (0, 0) ≡ judge (of_table table) whole (toks (take end after)) → {x : Grouped} {new : List ℕ} → new ≡ written buffer used (take end after)
        → x ≡ record { number = 0; place = 0; used = end; change = pos end -ℤ pos used; which = 0 }
        → outcome_of x new after ≡ group_by (of_table table) buffer used second (split_list list)
    begun_done ef en e =
        rw (e, en, last_held, r.ends, r.holds) (rw (judged_is ef) at (by_edits r.es r.splits))

-- ---- the call

module _ (table buffer : List ℕ) (used : ℕ) (list second : List ℕ) {y : Bool} (ey : y ≡ proper table) where
  pub group_table : {x : Grouped} → not y ≡ true → x ≡ refusal_of 13 0 used 0 → outcome_of x buffer second ≡ group table buffer used list second
  unfolding group
  group_table h e = rw (← ey, not-true y h, e)

  module _ (h : not y ≡ false) {z : Bool} (ez : z ≡ shape_of buffer used) where
    pub group_shape : {x : Grouped} → not z ≡ true → x ≡ refusal_of 4 0 used 0 → outcome_of x buffer second ≡ group table buffer used list second
    unfolding group
    group_shape g e = rw (← ey, not-false y h, ← ez, not-true z g, e)

    module _ (g : not z ≡ false) where
      within : group table buffer used list second ≡ group_by (of_table table) buffer used second (split_list list)
      unfolding group
      within = rw (← ey, not-false y h, ← ez, not-false z g)

      module _ {n : ℕ} (en : n ≡ fault_of (split_list list)) where
        by_fault : (x : Split) → n ≡ fault_of x → (n ≡ 0 → ⊥) → not_begun buffer used second n ≡ group_by (of_table table) buffer used second x
        by_fault (fault k) e d = rw e
        by_fault (edits l) e d = absurd (d e)

        pub group_list : {x : Grouped} → (n ≡ 0 → ⊥) → x ≡ refusal_of n 0 used 0 → outcome_of x buffer second ≡ group table buffer used list second
        group_list d e = rw e (by_fault (split_list list) en d ∙ sym within)

        pub group_short : {x : Grouped} → n ≡ 0 → length second < length buffer → x ≡ refusal_of 5 0 used 0
            → outcome_of x buffer second ≡ group table buffer used list second
        group_short d l e =
            let it : Whole list = left_all list (sym d ∙ en) in
            rw e (sym (within ∙ rw (it.splits, lt-leb (length buffer) (length second) l)))

        pub group_begun : {o : GroupOutcome} → o ≡ group_by (of_table table) buffer used second (split_list list) → o ≡ group table buffer used list second
        group_begun e = e ∙ sym within

pub is_good : {y b : Bool} → y ≡ b → not y ≡ false → b ≡ true
is_good {y} {b} e h = sym e ∙ not-false y h
