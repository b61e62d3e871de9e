-- A document in its buffer: what a done edit writes is valid as it was alone, and what is written over it again. Assumes nothing.
use Rattle.std.specs.Prelude.{◌≡◌, refl, true, List, ◌++◌, ℕ, ◌+◌, ◌-◌, ◌≤◌, max, length, take, drop, replicate}
use Rattle.std.proofs.Common.{arith, drop_at, length-take-le}
use borrow.Author.Tests.{le-leb}
use Rattle.std.proofs.lemmas.List.{length-replicate}
use Rattle.std.proofs.Math.Seq.{take-length, drop-append-add}
use Rattle.paper.specs.Schema.{Schema}
use Rattle.paper.specs.Shape.{shape_of}
use Rattle.paper.specs.Validity.{ValidDocument}
use Rattle.paper.specs.Edits.{written}
use Rattle.shape_laws.specs.Shaped.{shaped}
use Rattle.shape_laws.specs.Written.{written_take, written_shape}

module _ (buffer : List ℕ) (used : ℕ) (new : List ℕ) where
  -- the old document written over the new one: 0 where the new one was longer, and behind both what stood there
  pub written_back : (old : List ℕ) → length old ≡ used
      → written (written buffer used new) (length new) old ≡ old ++ (replicate (length new - used) 0 ++ drop (max used (length new)) buffer)
  written_back old e =
      let z : List ℕ = replicate (used - length new) 0 in
      let t : List ℕ = drop (max used (length new)) buffer in
      let k : max (length new) (length old) ≡ length new + length z = omega (arith, length-replicate {A = ℕ} (used - length new) 0) in
      rw (k, drop-append-add new (z ++ t) (length z), drop_at z t (length z) refl, e)

  module _ (h : used ≤ length buffer) (k : length new ≤ length buffer) where
    pub written_valid : (s : Schema) → ValidDocument s new (length new) → ValidDocument s (written buffer used new) (length new)
    written_valid s v = record { shape = written_shape buffer used new h k v.shape; valid = rw (written_take buffer used new) (rw (take-length new) at v.valid) }

-- a document in its buffer is one alone
module _ (s : Schema) (buffer : List ℕ) (used : ℕ) (v : ValidDocument s buffer used) where
  pub held_long : used ≤ length buffer
  held_long = (shaped buffer used v.shape).long

  pub held_length : length (take used buffer) ≡ used
  held_length = length-take-le used buffer held_long

  alone_shape : shape_of (take used buffer) (length (take used buffer)) ≡ true
  unfolding shape_of
  alone_shape = rw (take-length (take used buffer), held_length, le-leb used used (omega arith)) (rw (le-leb used (length buffer) held_long) at v.shape)

  pub valid_alone : ValidDocument s (take used buffer) (length (take used buffer))
  valid_alone = record { shape = alone_shape; valid = rw (take-length (take used buffer)) v.valid }
