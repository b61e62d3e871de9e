-- Answers of the host library, with every place of the memory lent, as the paper's outcomes. Assumes nothing.
use Rattle.std.specs.Prelude.{List, [], ℕ, ℤ}
use Rattle.paper.specs.Edits.{Outcome}
use Rattle.paper.specs.Lists as paper
use Rattle.paper.specs.Groups.{GroupOutcome}
use Rattle.paper.specs.Dtd.Imported as dtd
use Rattle.shrikemuff.specs.declared.Answer.{Answer}
use Rattle.shrikemuff.specs.declared.Listed.{Listed}
use Rattle.shrikemuff.specs.declared.Grouped.{Grouped}
use Rattle.shrikemuff.specs.declared.Spot.{Spot}

abbrev pub edited : Answer → (buffer second : List ℕ) → (counts : List ℤ) → Outcome
edited r buffer second counts = record {
  number = r.number;
  place = r.place;
  used = r.used;
  change = r.change;
  children = r.children;
  buffer = buffer;
  back = second;
  counts = counts;
}

abbrev pub listed : Listed → (buffer : List ℕ) → (counts : List ℤ) → paper.Listed Outcome
listed r buffer counts = record { last = edited r.last buffer [] counts; done = r.done }

abbrev pub grouped : Grouped → (buffer second : List ℕ) → GroupOutcome
grouped r buffer second =
    record { number = r.number; place = r.place; used = r.used; change = r.change; which = r.which; buffer = buffer; second = second }

abbrev pub spotted : Spot → dtd.Spot
spotted r = record { number = r.number; offset = r.offset }
