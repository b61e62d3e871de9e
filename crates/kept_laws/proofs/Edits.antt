-- IDs and references after an edit in form. Assumes nothing.
use Rattle.std.specs.Prelude.{◌≡◌, ◌↔◌, true, List, ℕ}
use Rattle.paper.specs.declared.Tok.{Tok}
use Rattle.paper.specs.Tokens.{toks}
use Rattle.paper.specs.Shape.{is_element}
use Rattle.paper.specs.Rules.{Rules}
use Rattle.paper.specs.Judgement.{key_fault}
use Rattle.paper.specs.Edits.{Request, splice_at, splice_cut, coming, edited, form_fault}
use Rattle.shape_laws.specs.EditJudged.{Asked, form_iff, allowed_by, edited_toks}
use Rattle.kept_laws.specs.Kept.{KeptBy}
use Rattle.kept_laws.proofs.Kept.{keys_kept}

pub edit_keeps_keys : (R : Rules) (room : ℕ) (q : Request) (doc : List ℕ) → is_element (toks doc) ≡ true → form_fault room q doc ≡ 0
    → (key_fault R (toks doc)).0 ≡ 0
    → let p : List Tok = toks q.piece in
    ((key_fault R (toks (edited q doc))).0 ≡ 0)
    ↔ KeptBy R (splice_at q.operation q.place p (toks doc)) (splice_cut q.operation q.place p (toks doc)) (coming q.operation p) (toks doc)
edit_keeps_keys R room q doc e f k =
    let a : Asked room q doc = (form_iff room q doc).0 f in
    rw (edited_toks q doc)
    (keys_kept R (toks doc) e (allowed_by (toks doc) (toks q.piece) e q.operation q.place a.operation a.piece a.place) k)
