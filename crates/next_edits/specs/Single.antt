-- One edit of a list: a single call with room for its inverse, which is not written; and the document has shape after it. Assumes nothing.
use Rattle.std.specs.Prelude.{◌≡◌, refl, Bool, not, cond, List, [], map, ℕ, zero, suc, ◌+◌, ◌-◌, ◌≤◌, eqb, ℤ, pos, length, take, drop}
use Rattle.std.proofs.Common.{sym, ap, ◌∙◌, arith}
use Rattle.std.proofs.Math.Bool.{true, false}
use Rattle.std.proofs.lemmas.List.{length-replicate}
use Rattle.paper.specs.Basics.{most_back, all}
use Rattle.paper.specs.Tokens.{toks, touched}
use Rattle.paper.specs.Counts.{moved_from, count_good}
use Rattle.paper.specs.Shape.{shape_of}
use Rattle.paper.specs.Table.{proper}
use Rattle.paper.specs.Rules.{of_table}
use Rattle.paper.specs.Judgement as judgement
use Rattle.paper.specs.Judgement.{judge}
use Rattle.paper.specs.Requests.{Request, edited, touched_by}
use Rattle.paper.specs.Back.{needs, inverse, noted}
use Rattle.paper.specs.Edits.{children_of, Edited, refused, done, Outcome, outcome, made, written, form_fault, limit_fault, answered, editing, edit_by, edit}
use Rattle.paper.specs.Lists.{alone, lent_with, next_edit}
use Rattle.paper.specs.Program.{second}
use Rattle.shape_laws.specs.EditJudged.{Asked, form_iff, asked_shape}
use Rattle.shape_laws.specs.Shaped.{shaped}
use Rattle.shape_laws.specs.Written.{written_shape}
use Rattle.back_laws.specs.Back.{needs_most, new_fits}
use Rattle.back_laws.specs.Taken.{shape_document}
use Rattle.back_laws.specs.Sizes.{size_iff}
use Rattle.count_laws.specs.Limits.{limit_iff}
use Rattle.counts.specs.Moved.{few}
use Rattle.form.specs.declared.Form.{Form}
use Rattle.form.specs.Form.{InForm}
use Rattle.paper.specs.declared.Refusal.{Refusal}
use Rattle.edits.specs.declared.Answer.{Answer}
use Rattle.paper.specs.declared.Fault.{Fault}
use Rattle.paper.specs.Codes.{number_of}
use Rattle.edits.specs.Outcomes.{outcome_of, refusal, done_with}
use Rattle.edits.proofs.Outcomes.{edit_form, edit_counts, edit_fault, edit_done}

second_long : length second ≡ most_back
second_long = length-replicate {A = ℕ} most_back 0

module _ (op place : ℕ) (piece table buf : List ℕ) (used : ℕ) (counts : List ℤ) (p : proper table ≡ true) (sh : shape_of buf used ≡ true) where
  abbrev q : Request
  q = record { operation = op; place = place; piece = piece }

  abbrev doc : List ℕ
  doc = take used buf

  -- on a document with shape, by a proper table, the edit is all that is left of the call
  whole_call : (lent : List ℕ) → outcome buf used lent counts (editing (of_table table) (length buf) (length lent) q doc counts) ≡ edit table buf used q lent counts
  unfolding edit edit_by
  whole_call lent = rw (p, sh)

  -- ---- the ways out

  abbrev next : Outcome
  next = next_edit table (lent_with buf used counts 0) q

  pub next_form : {x : Answer} (r : Refusal) → number_of r ≡ form_fault (length buf) q doc → x ≡ refusal (number_of r) 0 used → outcome_of x buf [] counts ≡ next
  next_form r er e = ap alone (edit_form op place piece buf used table second counts r er e ∙ whole_call second)

  module _ {r : Form} {after : List ℕ} (f : InForm (length buf) q doc after r) where
    -- any inverse has room
    room : needs q doc ≤ length second
    room = omega (arith, needs_most (length buf) q doc (shape_document buf used sh) f.none, second_long)

    abbrev counts_by : List ℤ
    counts_by = moved_from (toks (take (used + r.coming - r.used) (drop r.at buf))) (toks (take r.coming (drop r.at after))) (of_table table).elements 0 counts

    abbrev judgement_of : judgement.Answer
    judgement_of = judge (of_table table) (touched r.at r.coming (toks (take r.used after))) (toks (take r.used after))

    pub next_counts : {x : Answer} → all count_good counts_by ≡ false → x ≡ refusal 15 0 used → outcome_of x buf [] counts ≡ next
    next_counts h e = ap alone (edit_counts op place piece buf used table second counts f refl room sh h e ∙ whole_call second)

    module _ (moves : List ℕ) (ey : (all few moves ≡ true) × (map pos moves ≡ counts_by)) where
      pub next_fault : {x : Answer} (w : Fault) → (number_of w.refusal, w.place) ≡ judgement_of → x ≡ refusal (number_of w.refusal) w.place used → outcome_of x buf [] counts ≡ next
      next_fault w ew e = ap alone (edit_fault op place piece buf used table second counts f refl room sh moves ey w ew e ∙ whole_call second)

      pub next_done : {children : ℕ} → ((0, 0) ≡ judgement_of) × (children ≡ children_of (touched r.at r.coming (toks (take r.used after))) 0 (toks (take r.used after)))
          → {x : Answer} {after' : List ℕ} {counts' : List ℤ} → counts' ≡ map pos moves
          → after' ≡ written buf used (take r.used after) → x ≡ done_with used r.used children → outcome_of x after' [] counts' ≡ next
      next_done ew ec eb ex =
          ap alone
          (edit_done op place piece buf used table second counts f refl room sh moves ey ew {second' = noted second (inverse q doc)} refl ec eb ex
          ∙ whole_call second)

-- ---- the document after it

-- a done edit leaves a document with shape, and a refused one the document as it was
module _ (table buf : List ℕ) (used : ℕ) (q : Request) (sh : shape_of buf used ≡ true) (lent : List ℕ) (counts : List ℤ) where
  abbrev E : ℕ
  E = (of_table table).elements

  abbrev limit : ℕ
  limit = limit_fault E (length buf) (length lent) q (take used buf) counts

  abbrev Shapely : Edited → Type 0
  Shapely x = let o : Outcome = outcome buf used lent counts x in shape_of o.buffer o.used ≡ true

  new_shape : limit ≡ 0 → Shapely (done (made E q (take used buf) counts))
  new_shape e =
      let doc : List ℕ = take used buf in
      let s = shaped buf used sh in
      let f = ((size_iff (length buf) (length lent) q doc).0 ((limit_iff E (length buf) (length lent) q doc counts).0 e).0).0 in
      let a : Asked (length buf) q doc = (form_iff (length buf) q doc).0 f in
      written_shape buf used (edited q doc) s.long (new_fits (length buf) q doc (shape_document buf used sh) f) (asked_shape (of_table table) (length buf) q doc s.one a)

  answered_shape : (k : ℕ) (a : judgement.Answer) → limit ≡ k → Shapely (answered k a (made E q (take used buf) counts))
  answered_shape zero a e = go (eqb a.0 0)
    where
      go : (b : Bool) → Shapely (cond b (done (made E q (take used buf) counts)) (refused a.0 a.1))
      go true = new_shape e
      go false = sh
  answered_shape (suc k) a e = sh

  edit_keeps_shape : Shapely (cond (proper table) (edit_by (of_table table) buf used q lent counts) (refused 13 0))
  unfolding edit_by editing
  edit_keeps_shape = go (proper table)
    where
      go : (b : Bool) → Shapely (cond b (edit_by (of_table table) buf used q lent counts) (refused 13 0))
      go true = rw sh (answered_shape limit (judge (of_table table) (touched_by q (take used buf)) (toks (edited q (take used buf)))) refl)
      go false = sh

pub next_shape : (table buf : List ℕ) (used : ℕ) (counts : List ℤ) (q : Request) → shape_of buf used ≡ true → {o : Outcome}
    → o ≡ next_edit table (lent_with buf used counts 0) q → shape_of o.buffer o.used ≡ true
unfolding edit
next_shape table buf used counts q sh e = rw e (edit_keeps_shape table buf used q sh second counts)
