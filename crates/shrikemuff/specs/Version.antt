-- The version of the calls. Assumes nothing.
use Rattle.std.specs.Prelude.{ℕ, ◌+◌, ◌*◌}

-- Another major number: a call, a struct or a number that was there is another. Another minor number: something was added.
abbrev pub major : ℕ
major = 2

abbrev pub minor : ℕ
minor = 0

abbrev pub patch : ℕ
patch = 0

abbrev pub version : ℕ
version = major * 1000000 + (minor * 1000 + patch)
