-- Kinds and statuses at a place: a word, and what is read behind it. Assumes nothing.
use Rattle.std.specs.Prelude.{◌≡◌, Bool, true, false, Result, Ok, Err, List, [], ◌∷◌, ℕ, eqb, drop}
use Rattle.std.proofs.Common.{sym, ◌∙◌}
use Rattle.paper.specs.Codes.{kind_of, status_of}
use Rattle.paper.specs.Dtd.Letters.{begins, word_required, word_implied}
use Rattle.paper.specs.Dtd.Declarations.{Kind, Status, required, implied}
use Rattle.paper.specs.Dtd.Numbering.{kind_number, status_number}
use Rattle.paper.specs.Dtd.Readers.{Read, Reader, pure, if_at, ◌>>◌, literal, word_end, spelled, status}
use Rattle.dtd_words.specs.declared.Fault.{Fault}
use Rattle.dtd_words.specs.Places.{At}
use Rattle.dtd_words.specs.Words.{CameTo, Came, came_faulty, came_onwards}
use Rattle.dtd_kinds.specs.declared.Kinded.{Kinded}
use Rattle.dtd_kinds.specs.declared.Stated.{Stated}

-- what the reader of a kind came to, and that of a status: its number, and the place behind it
abbrev pub KindCame : List ℕ → Result Kinded Fault → Read Kind → Type 0
KindCame text r o = CameTo (λ v k s. At text v.at s × (kind_of v.kind ≡ kind_number k)) text r o

abbrev pub StatusCame : List ℕ → Result Stated Fault → Read Status → Type 0
StatusCame text r o = CameTo (λ v t s. At text v.at s × (status_of v.status ≡ status_number t)) text r o

-- those bytes, and no character of a name after them
abbrev pub whole_word : List ℕ → Reader (Unit {0})
whole_word l = literal l >> word_end

-- ---- a status that is refused behind the hash

module _ (text : List ℕ) (at end : ℕ) (c : Came text (Ok end) (literal (35 ∷ []) (drop at text))) (b : Bool) (q : b ≡ begins (eqb 82) (drop end text)) (e : Fault) where
  abbrev behind_hash : Reader Status
  behind_hash = if_at (eqb 82) (spelled word_required required) (spelled word_implied implied)

  abbrev Stating : Stated → Status → List ℕ → Type 0
  Stating v t s = At text v.at s × (status_of v.status ≡ status_number t)

  pub not_required : b ≡ true → Came text (Err e) (literal word_required (drop end text)) → StatusCame text (Err e) (status (drop at text))
  not_required p x =
      came_onwards Stating text (λ u. behind_hash) end (literal (35 ∷ []) (drop at text)) (Err e) c (λ u.
      rw (sym q ∙ p) (came_faulty Stating text (λ v. pure required) e (literal word_required (drop end text)) x))

  pub not_implied : b ≡ false → Came text (Err e) (literal word_implied (drop end text)) → StatusCame text (Err e) (status (drop at text))
  not_implied p x =
      came_onwards Stating text (λ u. behind_hash) end (literal (35 ∷ []) (drop at text)) (Err e) c (λ u.
      rw (sym q ∙ p) (came_faulty Stating text (λ v. pure implied) e (literal word_implied (drop end text)) x))
