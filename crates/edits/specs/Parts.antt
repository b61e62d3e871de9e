-- What `carried` goes by: a table's first number, and parts of the documents that are lent. Assumes nothing.
use Rattle.std.specs.Prelude.{◌≡◌, Option, true, List, ℕ, ◌+◌, ◌-◌, ◌≤◌, ◌<◌, ℤ, length, get_or, take, drop}
use Rattle.std.proofs.Common.{ap₂, arith, length-take}
use Rattle.paper.specs.Basics.{most_tokens, most_elements}
use Rattle.paper.specs.Tokens.{toks}
use Rattle.paper.specs.Table.{proper}
use Rattle.paper.specs.Rules.{of_table}
use Rattle.table_laws.specs.Parts.{table_parts}
use Rattle.paper.specs.Counts.{moved_from}
use Rattle.counts.specs.Moved.{Numbers}
use Rattle.counts.specs.Whole.{numbers_as}

-- ---- what a proper table has

pub table_first : (t : List ℕ) → proper t ≡ true → 0 < length t
table_first t p = omega (arith, (table_parts t p).long)

pub table_few : (t : List ℕ) → proper t ≡ true → get_or t 0 0 ≤ most_elements
table_few t p = (table_parts t p).few_elements

-- ---- a part that is lent

pub part_few : (at n : ℕ) (l : List ℕ) → n ≤ most_tokens → length (take (at + n - at) (drop at l)) ≤ most_tokens
part_few at n l h = omega (arith, length-take (at + n - at) (drop at l))

pub part_moved : (table : List ℕ) (at cut come : ℕ) (doc new : List ℕ) (counts : List ℤ) (r : Option (List ℕ))
    → Numbers (moved_from (toks (take (at + cut - at) (drop at doc))) (toks (take (at + come - at) (drop at new))) (get_or table 0 0) 0 counts) r
    → Numbers (moved_from (toks (take cut (drop at doc))) (toks (take come (drop at new))) (of_table table).elements 0 counts) r
part_moved table at cut come doc new counts r m =
    let c : at + cut - at ≡ cut = omega arith in
    let d : at + come - at ≡ come = omega arith in
    numbers_as (ap₂ (λ k i. moved_from (toks (take k (drop at doc))) (toks (take i (drop at new))) (get_or table 0 0) 0 counts) c d) r m
