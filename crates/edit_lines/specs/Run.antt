-- The run of edits: a line for each, until the file ends or is broken. Assumes nothing.
use Rattle.std.specs.Prelude.{◌≡◌, refl, true, List, [], ◌∷◌, ◌++◌, ℕ, zero, suc, ◌+◌, ◌-◌, ◌*◌, ◌≤◌, ◌<◌, ℤ, length, take, drop, get_or}
use Rattle.std.proofs.Common.{sym, ap, ◌∙◌, inl, inr, append_assoc, append-nil, arith, add-one, drop_of_length-le, drop-cons}
use Rattle.std.proofs.Math.ListN.{length-replicate}
use Rattle.paper.specs.Basics.{most_tokens, most_back, most_file}
use Rattle.paper.specs.Schema.{stop, ok}
use Rattle.paper.specs.Table.{proper}
use Rattle.paper.specs.Rules.{Rules, of_table}
use Rattle.paper.specs.Edits.{Request, Edited, refused, done, Outcome, outcome, edit_by, edit}
use Rattle.paper.specs.Program.{Line, halt, line, request, second, edit_lines}
use Rattle.paper.specs.Codes.{number_of}
use Rattle.paper.specs.declared.Refusal.{Refusal}
use Rattle.paper_laws.specs.Codes.{numbered}
use Rattle.edits.specs.declared.Answer.{Answer}
use Rattle.edits.specs.Outcomes.{outcome_of}
use Rattle.edit_file.specs.declared.Edit.{Edit}
use Rattle.lines.specs.Put.{Put, put_length, put_both, put_as, put_none}
use Rattle.lines.specs.Lines.{line_of, text, text_none, text_more, line_room, Stop}
use Rattle.edit_file.specs.Request.{EditRead, EditRefused}

-- the most bytes of all lines
abbrev pub output_room : ℕ
output_room = 21847 * line_room

-- what an edit that was read asks for
abbrev pub asked : Edit → (piece : List ℕ) → Request
asked e piece = record { operation = e.operation; place = e.place; piece = take e.count piece }

-- ---- one line of the run

module _ (R : Rules) (k : ℕ) (doc : List ℕ) (used : ℕ) (counts : List ℤ) where
  run_end : (m : ℕ) → edit_lines m R k doc used counts [] ≡ []
  run_end zero = refl
  run_end (suc m) = refl

  -- an edit turns on the second buffer's length alone
  same_edit : (q : Request) (back : List ℕ) → length back ≡ most_back → edit_by R doc used q second counts ≡ edit_by R doc used q back counts
  unfolding edit_by
  same_edit q back l = rw (l, length-replicate {A = ℕ} most_back 0)

  module _ (m b : ℕ) (s : List ℕ) where
    run_stop : {n : ℕ} → request (b ∷ s) ≡ stop n → edit_lines (suc m) R k doc used counts (b ∷ s) ≡ halt n ∷ []
    run_stop e = rw (e, edit_lines)

    -- what is told of an outcome, and of the edits after it
    abbrev told : (r : List ℕ) → Outcome → List Line
    told r o = line k o.number o.place o.used ∷ edit_lines m R (suc k) o.buffer o.used o.counts r

    -- what the second buffer holds is not told
    told_same : (r first back : List ℕ) (x : Edited) → told r (outcome doc used first counts x) ≡ told r (outcome doc used back counts x)
    told_same r first back (refused n p) = refl
    told_same r first back (done m) = refl

    run_more : {q : Request} {r : List ℕ} (back : List ℕ) → request (b ∷ s) ≡ ok q r → length back ≡ most_back → (o : Outcome) → o ≡ outcome doc used back counts (edit_by R doc used q back counts)
        → edit_lines (suc m) R k doc used counts (b ∷ s) ≡ told r o
    run_more {q} {r} back e l o f =
        rw (e, edit_lines) (told_same r second back (edit_by R doc used q second counts) ∙ ap (λ x. told r (outcome doc used back counts x)) (same_edit q back l) ∙ ap (told r) (sym f))

-- ---- the loop

-- the lines of the edits before a place of the file are put; those of the others follow
pub record Going (table doc₀ : List ℕ) (used₀ : ℕ) (counts₀ : List ℤ) (file out₀ : List ℕ) (at : ℕ) (doc out piece back : List ℕ) (counts : List ℤ) (used from k to : ℕ) : Type 0 where
  pub within : from ≤ length file
  pub few : 3 * k ≤ from + 3
  pub some : 1 ≤ k
  pub room : to ≤ line_room * k
  pub long : length out ≡ length out₀
  pub held : length doc ≡ length doc₀
  pub places : length piece ≡ most_tokens
  pub second_places : length back ≡ most_back
  pub lines : List ℕ
  pub put : Put out₀ at lines to out
  pub same : text (edit_lines (length file) (of_table table) 1 doc₀ used₀ counts₀ file) ≡ lines ++ text (edit_lines (suc (length file) - k) (of_table table) k doc used counts (drop from file))

module _ (table doc₀ : List ℕ) (used₀ : ℕ) (counts₀ : List ℤ) (file out₀ : List ℕ) (at : ℕ) where
  abbrev all_lines : List ℕ
  all_lines = text (edit_lines (length file) (of_table table) 1 doc₀ used₀ counts₀ file)

  pub go_none : (piece back : List ℕ) → at ≤ line_room → length out₀ ≡ output_room → length piece ≡ most_tokens → length back ≡ most_back
      → Going table doc₀ used₀ counts₀ file out₀ at doc₀ out₀ piece back counts₀ used₀ 0 1 at
  go_none piece back h o l n =
      let e : suc (length file) - 1 ≡ length file = omega arith in
      record {
        within = omega arith;
        few = omega arith;
        some = omega arith;
        room = omega arith;
        long = refl;
        held = refl;
        places = l;
        second_places = n;
        lines = [];
        put = put_none out₀ at (omega arith);
        same = rw e;
      }

  module _ {doc out piece back : List ℕ} {counts : List ℤ} {used from k to : ℕ} (g : Going table doc₀ used₀ counts₀ file out₀ at doc out piece back counts used from k to) where
    pub go_end : length file ≤ from → Put out₀ at all_lines to out
    go_end h =
        put_as g.put
        (sym (g.same ∙ rw (drop_of_length-le file h, run_end (of_table table) k doc used counts (suc (length file) - k), text_none) (append-nil g.lines)))

    module _ (h : from < length file) where
      pub go_room : length file ≤ most_file → length out₀ ≡ output_room → (k < 100000) × (to + line_room ≤ length out)
      go_room f l = (omega (arith, g.few), omega (arith, g.few, g.room, g.long))

      next : drop from file ≡ get_or file from 0 ∷ drop (suc from) file
      next = drop-cons file from 0 h

      left : suc (length file) - k ≡ suc (length file - k)
      left = omega (arith, g.few, g.some)

      pub go_stop : {e : Refusal} {piece' : List ℕ} → EditRefused file from piece' e → {r : ℕ} {out' : List ℕ} → Put out to (line_of (halt (number_of e))) r out' → Put out₀ at all_lines r out'
      go_stop {e} a p =
          let s : request (get_or file from 0 ∷ drop (suc from) file) ≡ stop (number_of e) = rw next at a.stopped in
          let t : text (edit_lines (suc (length file) - k) (of_table table) k doc used counts (drop from file)) ≡ line_of (halt (number_of e)) =
          rw (next, left, run_stop (of_table table) k doc used counts (length file - k) (get_or file from 0) (drop (suc from) file) s, text_more, text_none)
          (append-nil (line_of (halt (number_of e)))) in
          put_as (put_both g.put p) (sym (g.same ∙ ap (λ l. g.lines ++ l) t))

      pub go_halt : {e : Refusal} {piece' : List ℕ} → EditRefused file from piece' e → Stop (number_of e)
      go_halt {e} a = elim a.stops [
        | inl f ↦ record { low = numbered e; high = omega arith; not_four = λ y. omega arith }
        | inr f ↦ record { low = numbered e; high = omega arith; not_four = λ y. omega arith }
      ]

      module _ {e : Edit} {piece' : List ℕ} (a : EditRead file from piece' e) where
        pub go_less : length file - e.next < length file - from
        go_less = omega (arith, a.on)

        module _ (ok-table : proper table ≡ true) {r : Answer} {doc' back' : List ℕ} {counts' : List ℤ}
            (o : outcome_of r doc' back' counts' ≡ edit table doc used (asked e piece') back counts) where
          by_table : outcome_of r doc' back' counts' ≡ outcome doc used back counts (edit_by (of_table table) doc used (asked e piece') back counts)
          unfolding edit
          by_table = o ∙ rw ok-table

          pub go_more : {to' : ℕ} {out' : List ℕ} → length doc' ≡ length doc → length back' ≡ length back → length piece' ≡ most_tokens → Put out to (line_of (line k r.number r.place r.used)) to' out'
              → to' ≤ to + line_room → Going table doc₀ used₀ counts₀ file out₀ at doc' out' piece' back' counts' r.used e.next (k + 1) to'
          go_more {to'} {out'} kept Kept-back l p w =
              let f : request (get_or file from 0 ∷ drop (suc from) file) ≡ ok (asked e piece') (drop e.next file) = rw next at a.reads in
              let m : suc (length file) - (k + 1) ≡ length file - k = omega arith in
              let t : text (edit_lines (suc (length file) - k) (of_table table) k doc used counts (drop from file))
              ≡ line_of (line k r.number r.place r.used) ++ text (edit_lines (suc (length file) - (k + 1)) (of_table table) (k + 1) doc' r.used counts' (drop e.next file)) =
              rw (next, left, m, add-one k, run_more (of_table table) k doc used counts (length file - k) (get_or file from 0) (drop (suc from) file) back f g.second_places (outcome_of r doc' back' counts') by_table, text_more) in
              record {
                within = a.within;
                few = omega (arith, g.few, a.on);
                some = omega arith;
                room = omega (arith, g.room);
                long = put_length p ∙ g.long;
                held = kept ∙ g.held;
                places = l;
                second_places = Kept-back ∙ g.second_places;
                lines = g.lines ++ line_of (line k r.number r.place r.used);
                put = put_both g.put p;
                same = g.same ∙ ap (λ l. g.lines ++ l) t ∙ sym (append_assoc g.lines (line_of (line k r.number r.place r.used)) (text (edit_lines (suc (length file) - (k + 1)) (of_table table) (k + 1) doc' r.used counts' (drop e.next file))));
              }
