-- What a done edit writes into the buffer is read again, and has shape as it had alone. Assumes nothing.
use Rattle.std.specs.Prelude.{◌≡◌, refl, true, List, ◌++◌, ℕ, ◌-◌, ◌≤◌, max, length, take, drop, replicate}
use Rattle.std.proofs.Common.{arith, length-append, length-drop, take_at}
use borrow.Author.Tests.{le-leb}
use Rattle.std.proofs.lemmas.List.{length-replicate}
use Rattle.std.proofs.Math.Seq.{take-length}
use Rattle.paper.specs.Shape.{shape_of}
use Rattle.paper.specs.Edits.{written}

module _ (buffer : List ℕ) (used : ℕ) (new : List ℕ) where
  -- the tokens in use after it are the new document's
  pub written_take : take (length new) (written buffer used new) ≡ new
  written_take = take_at new (replicate (used - length new) 0 ++ drop (max used (length new)) buffer) (length new) refl

  module _ (h : used ≤ length buffer) (k : length new ≤ length buffer) where
    -- the buffer is as long as it was
    pub written_length : length (written buffer used new) ≡ length buffer
    written_length =
        omega (
          arith,
          length-append new (replicate (used - length new) 0 ++ drop (max used (length new)) buffer),
          length-append (replicate (used - length new) 0) (drop (max used (length new)) buffer),
          length-replicate {A = ℕ} (used - length new) 0,
          length-drop (max used (length new)) buffer,
        )

    pub written_shape : shape_of new (length new) ≡ true → shape_of (written buffer used new) (length new) ≡ true
    unfolding shape_of
    written_shape e =
        rw (written_take, le-leb (length new) (length (written buffer used new)) (omega (arith, written_length)))
        (rw (take-length new, le-leb (length new) (length new) (omega arith)) at e)
