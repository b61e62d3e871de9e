-- The children that a done edit looks at are no more than those of the parent and the piece's tokens. Assumes nothing.
use Rattle.std.specs.Prelude.{Bool, true, false, cond, List, [], ℕ, ◌+◌, ◌≤◌, eqb, length, take, drop}
use Rattle.std.proofs.Common.{arith}
use Rattle.std.proofs.lemmas.List.{length-map}
use Rattle.paper.specs.declared.Tok.{Tok}
use Rattle.paper.specs.Tokens.{toks, tok_of}
use Rattle.paper.specs.Edits.{opens, splice_at, splice_cut, coming}
use Rattle.shape_laws.specs.Depth.{count_few}
use Rattle.shape_laws.specs.EditJudged.{form_iff}
use Rattle.shape_laws.proofs.Widths.{own_is}
use Rattle.shape_laws.proofs.EditLooked.{looked_is, parent_looked, piece_comes}
use Rattle.answer_laws.specs.ShapeParts.{shape_element}
use Rattle.promises.specs.Calls.{papers}
use Rattle.promises.proofs.Always.{edit_leaves}
use Rattle.promises.proofs.OnTree.{done_form}
use Rattle.promises.specs.Cost.{EditCostBounded}

-- no more comes than the piece
coming_few : (op : ℕ) (p : List Tok) → length (coming op p) ≤ length p
coming_few op p = go (eqb op 1) (eqb op 2) (eqb op 3) (eqb op 4)
  where
    go : (a b c d : Bool) → length (cond a p (cond b [] (cond c p (cond d p [])))) ≤ length p
    go true b c d = omega arith
    go false true c d = omega arith
    go false false true d = omega arith
    go false false false true = omega arith
    go false false false false = omega arith

pub bounded : EditCostBounded papers
bounded table buffer used q second counts o e z =
    let doc : List ℕ = take used buffer in
    let (s, f, r) = done_form table buffer used q second counts o e z in
    let one = shape_element buffer used s in
    let a = (form_iff (length buffer) q doc).0 f in
    let p : List Tok = coming q.operation (toks q.piece) in
    let at : ℕ = splice_at q.operation q.place (toks q.piece) (toks doc) in
    let rest : List Tok = drop (at + splice_cut q.operation q.place (toks q.piece) (toks doc)) (toks doc) in
    omega (
      arith,
      (edit_leaves table buffer used q second counts o e z).4,
      looked_is (length buffer) q doc one a,
      parent_looked (length buffer) q doc one a,
      own_is p rest (piece_comes (length buffer) q doc one a),
      count_few opens p,
      coming_few q.operation (toks q.piece),
      length-map q.piece tok_of,
    )
