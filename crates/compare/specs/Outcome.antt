-- What the call answers. Assumes nothing.
use Rattle.std.specs.Prelude.{List, ℕ, Option, Some, None, Result, Ok, Err}
use Rattle.paper.specs.Codes.{number_of}
use Rattle.paper.specs.declared.Refusal.{Refusal}
use Rattle.paper.specs.Inclusion as paper
use Rattle.compare.specs.declared.Compared.{Compared}

-- the answer with the buffer, as the definition has it
abbrev pub outcome_of : Compared → List ℕ → paper.Compared
outcome_of r s = record { number = r.number; takes_all = r.takes_all; len = r.length; buffer = s }

-- nothing is lost, or a sequence of so many names, or the call is refused
abbrev pub compared_of : Result (Option ℕ) Refusal → Compared
compared_of (Ok None) = record { number = 0; takes_all = 1; length = 0 }
compared_of (Ok (Some n)) = record { number = 0; takes_all = 0; length = n }
compared_of (Err r) = record { number = number_of r; takes_all = 0; length = 0 }
