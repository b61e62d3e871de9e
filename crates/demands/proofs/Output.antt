-- The edit program's output, of any outcome that the contract of `program::output` allows. Assumes nothing.
use Rattle.std.specs.Prelude.{◌≡◌, List, ℕ}
use Rattle.contracts.specs.{TakesAll, Allows, allowed}
use Rattle.promises.specs.Statements.{Determinate}
use Rattle.lines.specs.Put.{put_same}
use Rattle.demands.specs.Output.{Files, program_output, Printed}

pub takes_all : TakesAll program_output
takes_all κs given = tt

pub prints : (i : Files) (o : ℕ × List ℕ) → Allows program_output i o → Printed i o
prints = allowed program_output Printed (λ κs given result after told. told)

-- one outcome for one input
pub determinate : Determinate (Allows program_output)
determinate i o p a b = let (n, m) = put_same (prints i o a) (prints i p b) in both n m
  where
    both : {n m : ℕ} {s t : List ℕ} → n ≡ m → s ≡ t → ◌≡◌ {A = ℕ × List ℕ} (n, s) (m, t)
    both e f = rw (e, f)
