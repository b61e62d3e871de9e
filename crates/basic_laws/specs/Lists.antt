-- Lists. Assumes nothing.
use Rattle.std.specs.Prelude.{◌≡◌, List, ◌∷◌, ℕ, ◌+◌, ◌<◌, length, drop, get_or}
use Rattle.std.proofs.Common.{add-one, drop-cons}

-- what stands from a place on, its first taken off
pub drop_next : (s : List ℕ) (at : ℕ) → at < length s → drop at s ≡ get_or s at 0 ∷ drop (at + 1) s
drop_next s at h = rw add-one (drop-cons s at 0 h)
