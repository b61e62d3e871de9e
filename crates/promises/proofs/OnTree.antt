-- A done edit, on the tree. Assumes nothing.
use Rattle.std.specs.Prelude.{◌≡◌, refl, Bool, true, false, cond, List, ℤ, length, take}
use Rattle.std.proofs.Common.{ap, ◌∙◌, arith}
use Prim.Native.Nat.{ℕ, zero, suc, ◌≤◌}
use Rattle.paper.specs.Table.{proper}
use Rattle.paper.specs.Tokens.{toks}
use Rattle.paper.specs.Shape.{shape_of}
use Rattle.paper.specs.Rules.{of_table}
use Rattle.paper.specs.Judgement.{judge}
use Rattle.paper.specs.Edits.{Request, Outcome, refused, outcome, edited, touched_by, made, form_fault, limit_fault, answered, editing, edit_by, edit}
use Rattle.paper.specs.Back.{needs}
use Rattle.shape_laws.specs.EditJudged.{form_iff}
use Rattle.edits_laws.proofs.Edited.{edited_tree}
use Rattle.back_laws.specs.Sizes.{size_iff}
use Rattle.count_laws.specs.Limits.{limit_iff}
use Rattle.promises.specs.Calls.{papers}
use Rattle.promises.specs.Right.{InForm}
use Rattle.promises.specs.Statements.{EditIsTreeEdit}
use Rattle.answer_laws.specs.ShapeParts.{shape_element}
use Rattle.shape_laws.specs.Written.{written_take}
use Rattle.promises.proofs.Always.{edit_leaves}

-- what was done had shape, was in form, and had room for its inverse
module _ (table buffer : List ℕ) (used : ℕ) (q : Request) (second : List ℕ) (counts : List ℤ) (o : Outcome) where
  abbrev Formed : Type 0
  Formed = (shape_of buffer used ≡ true) × (form_fault (length buffer) q (take used buffer) ≡ 0) × (needs q (take used buffer) ≤ length second)

  pub done_form : o ≡ edit table buffer used q second counts → o.number ≡ 0 → Formed
  unfolding edit edit_by editing
  done_form e z = by_table (proper table) e
    where
      by_form : (k : ℕ) → limit_fault (of_table table).elements (length buffer) (length second) q (take used buffer) counts ≡ k
          → o ≡ outcome buffer used second counts (answered k (judge (of_table table) (touched_by q (take used buffer)) (toks (edited q (take used buffer)))) (made (of_table table).elements q (take used buffer) counts))
          → InForm buffer used q second
      by_form zero f e = ((limit_iff (of_table table).elements (length buffer) (length second) q (take used buffer) counts).0 f).0
      by_form (suc k) f e = let n : o.number ≡ suc k = cc in absurd (omega arith)

      by_shape : (b : Bool) → shape_of buffer used ≡ b → o ≡ outcome buffer used second counts (cond b (editing (of_table table) (length buffer) (length second) q (take used buffer) counts) (refused 4 0))
          → Formed
      by_shape true s e =
          let f = by_form (limit_fault (of_table table).elements (length buffer) (length second) q (take used buffer) counts) refl e in
          let (g, r) = (size_iff (length buffer) (length second) q (take used buffer)).0 f in
          (s, g, r)
      by_shape false s e = let n : o.number ≡ 4 = cc in absurd (omega arith)

      by_table : (b : Bool) → o ≡ outcome buffer used second counts (cond b (edit_by (of_table table) buffer used q second counts) (refused 13 0)) → Formed
      by_table true e = by_shape (shape_of buffer used) refl e
      by_table false e = let n : o.number ≡ 13 = cc in absurd (omega arith)

pub edit_on_tree : EditIsTreeEdit papers
edit_on_tree table buffer used q second counts o e z =
    let (s, f, r) = done_form table buffer used q second counts o e z in
    let (p, u, c, b, k, w, m) = edit_leaves table buffer used q second counts o e z in
    let doc : List ℕ = take used buffer in
    let (old, new, was, t, is, n) = edited_tree (length buffer) q doc (shape_element buffer used s) ((form_iff (length buffer) q doc).0 f) in
    let same : take o.used o.buffer ≡ edited q doc = rw (u, b) (written_take buffer used (edited q doc)) in
    (old, new, was, t, ap toks same ∙ is, k ∙ n)
