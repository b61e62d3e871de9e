-- What `step` ensures fixes its result. Assumes nothing.
use Rattle.std.specs.Prelude.{◌≡◌, refl, List, ℕ}
use Rattle.std.proofs.Common.{sym, ap, ◌∙◌}
use Rattle.std.proofs.Math.Option.{Option, none, some}
use Rattle.paper.specs.Rules.{State, start, at}
use Rattle.table.specs.Run.{state_of, Stepped}
use Rattle.table.specs.declared.Run.{Run}
use Rattle.table.specs.declared.Run.TheVariants.{Start, At, Lost}

-- runs that stand at the same place are the same
abbrev run_of : Option State → Run
run_of none = Lost
run_of (some start) = Start
run_of (some (at k)) = At k

same_run : (q r : Run) → state_of q ≡ state_of r → q ≡ r
same_run q r e = sym (back q) ∙ ap run_of e ∙ back r
  where
    back : (r : Run) → run_of (state_of r) ≡ r
    back Start = refl
    back (At k) = refl
    back Lost = refl

pub one_outcome : {b : List ℕ} {q r r' : Run} {a : ℕ} → Stepped b q a r → Stepped b q a r' → r ≡ r'
one_outcome {r = r} {r' = r'} s s' = same_run r r' (s.same ∙ sym s'.same)
