-- The second buffer: an edit as numbers, read back as it was written. Assumes nothing.
use Rattle.std.specs.Prelude.{◌≡◌, List, ℕ, ◌≤◌, length, drop}
use Rattle.std.proofs.Common.{ap, arith, length-append, length-drop}
use Rattle.std.proofs.Math.Seq.{take-append_seam}
use Rattle.paper.specs.Edits.{Request}
use Rattle.paper.specs.Back.{numbers_of, edit_in, noted}

pub read_back : (second : List ℕ) (q : Request) → edit_in (noted second q) ≡ q
read_back second q = ap (λ l. record { operation = q.operation; place = q.place; piece = l }) (take-append_seam q.piece (drop (length (numbers_of q)) second))

pub noted_length : (second : List ℕ) (q : Request) → length (numbers_of q) ≤ length second → length (noted second q) ≡ length second
noted_length second q h = omega (arith, length-append q.piece (drop (length (numbers_of q)) second), length-drop (length (numbers_of q)) second)
