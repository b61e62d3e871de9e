-- The answer with what it leaves, as the paper's outcome. Assumes nothing.
use Rattle.std.specs.Prelude.{ℤ, pos, ◌-ℤ◌}
use mathlib.Core.List.{List}
use Prim.Native.Nat.{ℕ}
use Rattle.paper.specs.Edits.{Outcome}
use Rattle.edits.specs.declared.Answer.{Answer}

-- with both buffers and the counts
abbrev pub outcome_of : Answer → (buffer second : List ℕ) → (counts : List ℤ) → Outcome
outcome_of r b s counts = record {
  number = r.number;
  place = r.place;
  used = r.used;
  change = r.change;
  children = r.children;
  buffer = b;
  back = s;
  counts = counts;
}

abbrev pub refusal : ℕ → ℕ → ℕ → Answer
refusal number place used = record { number = number; place = place; used = used; change = pos 0; children = 0 }

abbrev pub done_with : (used end children : ℕ) → Answer
done_with used end children = record { number = 0; place = 0; used = end; change = pos end -ℤ pos used; children = children }
