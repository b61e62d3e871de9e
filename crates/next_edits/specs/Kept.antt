-- After a done edit of a list: the document has no fault of 11 or 12, and what is kept is that of the document. Assumes nothing.
use Rattle.std.specs.Prelude.{◌≡◌, refl, Bool, true, false, cond, List, ℕ, zero, suc, ◌≤◌, eqb, ℤ, length, take}
use Rattle.std.proofs.Common.{sym, ap, ap₂, subst, ◌∙◌, arith, eqb-true, length-take-le}
use Rattle.paper.specs.Tokens.{toks}
use Rattle.paper.specs.Shape.{shape_of}
use Rattle.paper.specs.Table.{proper}
use Rattle.paper.specs.Rules.{Rules, of_table}
use Rattle.paper.specs.Judgement as judgement
use Rattle.paper.specs.Judgement.{root_fault, first, element_fault, place_of, before, key_fault, judge}
use Rattle.paper.specs.Requests.{Request, edited, touched_by}
use Rattle.paper.specs.Edits.{Edited, refused, done, Outcome, outcome, made, written, limit_fault, answered, editing, edit_by, edit}
use Rattle.paper.specs.Lists.{lent_with, next_edit}
use Rattle.paper.specs.Program.{second}
use Rattle.shape_laws.specs.Written.{written_take}
use Rattle.basic_laws.specs.Bools.{clash}
use Rattle.judge_laws.specs.Connectives.{else_iff}
use Rattle.edits.specs.declared.Answer.{Answer}
use Rattle.edits.specs.Outcomes.{done_with, refusal}
use Rattle.kept_keys.specs.Follow.{Keeps}

-- after a done edit the field of IDs and the counts of references are those of the document
pub record Goes (table doc field referred : List ℕ) (r : Answer) : Type 0 where
  pub keeps : r.number ≡ 0 → Keeps table field referred (toks (take r.used doc))

pub goes_refused : (table doc field referred : List ℕ) {r : Answer} {n place used : ℕ} → (n ≡ 0 → ⊥) → r ≡ refusal n place used → Goes table doc field referred r
goes_refused table doc field referred h e = record { keeps = λ z. absurd (h (sym (ap (λ (x : Answer). x.number) e) ∙ z)) }

-- what was written is the edited document
pub goes_done : (table doc : List ℕ) (used : ℕ) (new : List ℕ) {end children : ℕ} {field referred doc' : List ℕ} {r : Answer} → end ≤ length new
    → Keeps table field referred (toks (take end new)) → doc' ≡ written doc used (take end new) → r ≡ done_with used end children → Goes table doc' field referred r
goes_done table doc used new {end} {children} {field} {referred} {doc'} {r} l k ed er = record {
  keeps = λ _.
      let n : end ≡ length (take end new) = sym (length-take-le end new l) in
      let same : take r.used doc' ≡ take end new
      = ap₂ take (ap (λ (x : Answer). x.used) er ∙ n) ed ∙ written_take doc used (take end new) in
      subst (λ l. Keeps table field referred (toks l)) (sym same) k;
}

-- ---- a done edit leaves no fault of 11 or 12

module _ (table buf : List ℕ) (used : ℕ) (q : Request) (p : proper table ≡ true) (sh : shape_of buf used ≡ true) (lent : List ℕ) (counts : List ℤ) where
  abbrev R : Rules
  R = of_table table

  abbrev E : ℕ
  E = R.elements

  -- an outcome of number 0 has a document without such a fault
  abbrev Sound : Edited → Type 0
  Sound x = let o : Outcome = outcome buf used lent counts x in o.number ≡ 0 → (key_fault R (toks (take o.used o.buffer))).0 ≡ 0

  keys_of : (J : ℕ → Bool) (n : List ℕ) → (judge R J (toks n)).0 ≡ 0 → (key_fault R (toks n)).0 ≡ 0
  unfolding judge
  keys_of J n e =
      let a = root_fault R (toks n) in
      let b = first (element_fault R) (place_of R) J 0 (toks n) in
      ((else_iff b.0 b.1 (key_fault R (toks n))).0 ((else_iff a.0 a.1 (before b (key_fault R (toks n)))).0 e).1).1

  answered_sound : (k : ℕ) → Sound (answered k (judge R (touched_by q (take used buf)) (toks (edited q (take used buf)))) (made E q (take used buf) counts))
  answered_sound zero = go (eqb (judge R (touched_by q (take used buf)) (toks (edited q (take used buf)))).0 0) refl
    where
      a : judgement.Answer
      a = judge R (touched_by q (take used buf)) (toks (edited q (take used buf)))

      go : (b : Bool) → eqb (judge R (touched_by q (take used buf)) (toks (edited q (take used buf)))).0 0 ≡ b
          → Sound (cond b (done (made E q (take used buf) counts))
          (refused (judge R (touched_by q (take used buf)) (toks (edited q (take used buf)))).0 (judge R (touched_by q (take used buf)) (toks (edited q (take used buf)))).1))
      go true e = λ z.
          rw (written_take buf used (edited q (take used buf)))
          (keys_of (touched_by q (take used buf)) (edited q (take used buf)) (eqb-true (judge R (touched_by q (take used buf)) (toks (edited q (take used buf)))).0 0 e))
      go false e = λ z. clash (ap (λ n. eqb n 0) z) e
  answered_sound (suc k) = λ z. absurd (omega (arith, z))

  edit_sound : Sound (edit_by (of_table table) buf used q lent counts)
  unfolding edit_by editing
  edit_sound = rw sh (answered_sound (limit_fault E (length buf) (length lent) q (take used buf) counts))

pub next_sound : (table buf : List ℕ) (used : ℕ) (counts : List ℤ) (q : Request) → proper table ≡ true → shape_of buf used ≡ true → {o : Outcome} → o ≡ next_edit table (lent_with buf used counts 0) q
    → o.number ≡ 0 → (key_fault (of_table table) (toks (take o.used o.buffer))).0 ≡ 0
unfolding edit
next_sound table buf used counts q p sh e = rw (e, p) (edit_sound table buf used q p sh second counts)
