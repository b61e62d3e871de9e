-- The status of an attribute, and the value behind it. Assumes nothing.
use Rattle.std.specs.Prelude.{◌≡◌, refl, Result, Ok, Err, true, false, ◌&&◌, List, ℕ, ltb, eqb, drop}
use Rattle.std.proofs.Common.{arith, eq-eqb, ne_eqb}
use Rattle.paper.specs.Basics.{most_number, most_fixed}
use Rattle.paper.specs.Schema.{stop, Reader, pure, ◌>>=◌, number, most_status, value_after}
use Rattle.paper.specs.Codes.{number_of, status_of}
use Rattle.paper.specs.declared.Refusal.{Refusal}
use Rattle.paper.specs.declared.Status.{Status}
use Rattle.numbers.specs.declared.Num.{Num}
use Rattle.reading.specs.Ended.{Went, Ended}
use Rattle.reading.specs.Number.{Value, Refused}
use Rattle.attlist.specs.declared.Stated.{Stated}

-- the status and its value
abbrev pub status_from : (kind met : ℕ) → Reader (ℕ × ℕ)
status_from kind met = do
  s ← number 0 (most_status kind met)
  v ← value_after s
  pure (s, v)

abbrev pub StatusAt : (kind met : ℕ) → List ℕ → ℕ → Result Stated Refusal → Type 0
StatusAt kind met file at = Ended (status_from kind met (drop at file)) file (λ r. r.next) (λ r p. p ≡ (status_of r.status, r.value))
