-- The edits of a group, worked on a second buffer: one turn, what holds between turns, and how they end. Assumes nothing.
use Rattle.std.specs.Prelude.{◌≡◌, refl, true, List, ◌∷◌, ℕ, suc, ◌+◌, ◌-◌, ◌≤◌, ◌<◌, max, length, take, Result, Ok, Err}
use Rattle.std.proofs.Common.{sym, ap, ap₂, ◌∙◌, arith, ne_eqb, length-take, take-append-drop, length-take-le}
use Rattle.paper.specs.Basics.{most_edits}
use Rattle.paper.specs.Shape.{shape_of}
use Rattle.paper.specs.Edits.{Request, edited, form_fault, written}
use Rattle.paper.specs.Lists.{edits, split_list, fault_of}
use Rattle.shape_laws.specs.Written.{written_length, written_shape, written_take}
use Rattle.paper.specs.Groups.{Work, worked, reached_in}
use Rattle.group_laws.specs.Worked.{shape_alone, edited_fits, edited_shape}
use Rattle.group_laws.specs.Second.{written_twice}
use Rattle.edit_list.specs.declared.Edit.{Edit}
use Rattle.edit_list.specs.Places.{Within, edit_at, Handed, request_of}
use Rattle.edit_list.specs.Left.{Left, Whole, left_all, Next, left_none, left_next}
use Rattle.form.specs.declared.Form.{Form}
use Rattle.form.specs.Form.{InForm}
use Rattle.working.specs.declared.Stopped.{Stopped}
use Rattle.paper.specs.declared.Refusal.{Refusal}
use Rattle.paper.specs.declared.Refusal.TheVariants.{Broken, Schema, Ambiguous, Shape, Room, Place, Name, Attributes, Content, Root, IdTwice, NoId, Table, DtdText, Counts, NotCompared}
use Rattle.paper.specs.Codes.{number_of}

-- a refusal has a number that is not 0
pub some_number : (r : Refusal) → number_of r ≡ 0 → ⊥
some_number Broken e = cc
some_number Schema e = cc
some_number Ambiguous e = cc
some_number Shape e = cc
some_number Room e = cc
some_number Place e = cc
some_number Name e = cc
some_number Attributes e = cc
some_number Content e = cc
some_number Root e = cc
some_number IdTwice e = cc
some_number NoId e = cc
some_number Table e = cc
some_number DtdText e = cc
some_number Counts e = cc
some_number NotCompared e = cc

-- ---- one turn

-- an edit of the document in a buffer, in form: n tokens, and `after` holds them
pub record Done (room : ℕ) (q : Request) (second : List ℕ) (used : ℕ) (after : List ℕ) (n : ℕ) : Type 0 where
  pub good : form_fault room q (take used second) ≡ 0
  pub size : n ≡ length (edited q (take used second))
  pub made : after ≡ written second used (edited q (take used second))

-- .. refused, it leaves the buffer
abbrev pub Turned : ℕ → Request → List ℕ → ℕ → List ℕ → Result ℕ Refusal → Type 0
Turned room q second used after (Ok n) = Done room q second used after n
Turned room q second used after (Err r) = (number_of r ≡ form_fault room q (take used second)) × (after ≡ second)

module _ (room op place : ℕ) (piece second : List ℕ) (used : ℕ) {f : Form} {new : List ℕ}
    (its : InForm room (record { operation = op; place = place; piece = piece }) (take used second) new f) where
  pub turn_room : room ≤ length second → length (take f.used new) ≤ length second
  turn_room h = omega (arith, ap length its.tokens, edited_fits room (record { operation = op; place = place; piece = piece }) (take used second) its.none)

  pub turn_long : f.used ≤ length new
  turn_long = omega (arith, its.size, ap length its.tokens, length-take f.used new)

  pub turn_done : {after : List ℕ} → after ≡ written second used (take f.used new) → Turned room (record { operation = op; place = place; piece = piece }) second used after (Ok f.used)
  turn_done a = record { good = its.none; size = its.size; made = a ∙ ap (written second used) its.tokens }

-- ---- how they end

abbrev pub Answered : (second : List ℕ) → Work → (after : List ℕ) → Result ℕ Stopped → Type 0
Answered second w after (Ok n) = (0 ≡ w.number) × (0 ≡ w.which) × (n ≡ length w.doc) × (after ≡ reached_in second w)
Answered second w after (Err s) = (number_of s.refusal ≡ w.number) × (s.which ≡ w.which) × (s.used ≡ length w.doc) × (after ≡ reached_in second w)

-- what the edits of a list came to, and what the second buffer holds then
pub record Came (second : List ℕ) (room used : ℕ) (list after : List ℕ) (r : Result ℕ Stopped) : Type 0 where
  pub told : (es : List Request) → split_list list ≡ edits es → Answered second (worked room 1 used (take used second) es) after r

-- ---- between turns

-- a document that a buffer holds, written there again
written_held : (b : List ℕ) (used : ℕ) → used ≤ length b → b ≡ written b used (take used b)
written_held b used h =
    let l : length (take used b) ≡ used = length-take-le used b h in
    let none : used - used ≡ 0 = omega arith in
    let same : max used used ≡ used = omega arith in
    rw (l, none, same) (sym (take-append-drop used b))

module _ (start : List ℕ) (room used : ℕ) (list : List ℕ) where
  -- some edits have begun before a place of the list, and all of them were made: the rest is left, on the document that was reached
  pub record Working (at begun end : ℕ) (second : List ℕ) : Type 0 where
    pub es : List Request
    pub doc : List ℕ
    pub longest : ℕ
    pub left : Left list at begun es
    pub same : (all : List Request) → split_list list ≡ edits all → worked room 1 used (take used start) all ≡ worked room (suc begun) longest doc es
    pub now : second ≡ written start longest doc
    pub ends : end ≡ length doc
    pub most : length doc ≤ longest
    pub fits : longest ≤ room
    pub shape : shape_of doc (length doc) ≡ true

  module _ (h : room ≤ length start) (k : used ≤ room) (s : shape_of start used ≡ true) where
    pub working_none : 0 ≡ fault_of (split_list list) → Working 0 0 used start
    working_none z =
        let l : Whole list = left_all list z in
        let n : length (take used start) ≡ used = length-take-le used start (omega arith) in
        record {
          es = l.all;
          doc = take used start;
          longest = used;
          left = l.left;
          same = λ all e. let f : edits all ≡ edits l.all = sym e ∙ l.splits in let g : all ≡ l.all = cc in ap (worked room 1 used (take used start)) g;
          now = written_held start used (omega arith);
          ends = sym n;
          most = omega arith;
          fits = k;
          shape = shape_alone start used s;
        }

    module _ (at begun end : ℕ) (second : List ℕ) (w : Working at begun end second) where
      long : length second ≡ length start
      long = ap length w.now ∙ written_length start w.longest w.doc (omega (arith, w.fits)) (omega (arith, w.fits, w.most))

      -- the document in the buffer
      holds : take end second ≡ w.doc
      holds = ap₂ take w.ends w.now ∙ written_take start w.longest w.doc

      pub working_room : room ≤ length second
      working_room = omega (arith, long)

      pub working_within : end ≤ room
      working_within = omega (arith, w.ends, w.most, w.fits)

      pub working_shape : shape_of second end ≡ true
      working_shape =
          ap₂ shape_of w.now w.ends ∙ written_shape start w.longest w.doc (omega (arith, w.fits)) (omega (arith, w.fits, w.most)) w.shape

      pub working_end : length list ≤ at → Came start room used list second (Ok end)
      working_end g = record {
        told = λ all a.
            let same : worked room 1 used (take used start) all ≡ record { number = 0; which = 0; doc = w.doc; longest = w.longest } =
            w.same all a ∙ ap (worked room (suc begun) w.longest w.doc) (left_none list at begun w.es w.left g) in
            rw same (refl, refl, w.ends, w.now);
      }

      module _ (g : at < length list) where
        next : Next list at begun w.es
        next = left_next list at begun w.es w.left g

        pub working_edit : Within list at
        working_edit = next.within

        pub working_few : begun < most_edits
        working_few = omega (arith, next.left.few)

        module _ {e : Edit} (o : Handed list at e) where
          abbrev q_next : Request
          q_next = request_of list (edit_at list at)

          number_is : form_fault room (request_of list e) (take end second) ≡ form_fault room q_next w.doc
          number_is = ap₂ (λ (x : Edit) l. form_fault room (request_of list x) l) o.same holds

          made_is : edited (request_of list e) (take end second) ≡ edited q_next w.doc
          made_is = ap₂ (λ (x : Edit) l. edited (request_of list x) l) o.same holds

          worked_is : (all : List Request) → split_list list ≡ edits all → worked room 1 used (take used start) all ≡ worked room (suc begun) w.longest w.doc (q_next ∷ next.rest)
          worked_is all a = w.same all a ∙ ap (worked room (suc begun) w.longest w.doc) next.first

          pub working_refused : (r : Refusal) {after : List ℕ} → (number_of r ≡ form_fault room (request_of list e) (take end second)) × (after ≡ second)
              → Came start room used list after (Err (record { refusal = r; which = begun + 1; used = end }))
          working_refused r (d, stays) = record {
            told = λ all a.
                let n : number_of r ≡ form_fault room q_next w.doc = d ∙ number_is in
                let bad = ne_eqb (form_fault room q_next w.doc) 0 (λ z. some_number r (n ∙ z)) in
                let same : worked room 1 used (take used start) all
                ≡ record { number = form_fault room q_next w.doc; which = suc begun; doc = w.doc; longest = w.longest } = worked_is all a ∙ rw bad in
                let one : begun + 1 ≡ suc begun = omega arith in
                rw same (n, one, w.ends, stays ∙ w.now);
          }

          pub working_next : {n : ℕ} {after : List ℕ} → Done room (request_of list e) second end after n → Working e.to (begun + 1) n after
          working_next d =
              let f : form_fault room q_next w.doc ≡ 0 = sym number_is ∙ d.good in
              let new : List ℕ = edited q_next w.doc in
              let there : _ ≡ written second end new = d.made ∙ ap (written second end) made_is in
              let one : begun + 1 ≡ suc begun = omega arith in
              record {
                es = next.rest;
                doc = new;
                longest = max w.longest (length new);
                left = rw o.same next.left;
                same = λ all a. worked_is all a ∙ rw (f, one);
                now = there ∙ ap₂ (λ l n. written l n new) w.now w.ends ∙ written_twice start w.longest w.doc new ∙ longer new;
                ends = d.size ∙ ap length made_is;
                most = omega arith;
                fits = omega (arith, w.fits, edited_fits room q_next w.doc f);
                shape = edited_shape room q_next w.doc f w.shape;
              }
            where
              longer : (new : List ℕ) → written start (max w.longest (length w.doc)) new ≡ written start (max w.longest (length new)) new
              longer new =
                  let m : max w.longest (length w.doc) - length new ≡ max w.longest (length new) - length new = omega (arith, w.most) in
                  let k : max (max w.longest (length w.doc)) (length new) ≡ max (max w.longest (length new)) (length new) = omega (arith, w.most) in
                  rw (m, k)

          pub working_less : length list - e.to < length list - at
          working_less = rw o.same (omega (arith, next.within.piece))
