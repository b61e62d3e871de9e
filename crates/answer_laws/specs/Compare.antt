-- The comparison: every answer is a number of the paper. Assumes nothing.
use Rattle.std.specs.Prelude.{refl, Bool, true, false, cond, not, ◌&&◌, List, ℕ, ltb, length}
use Rattle.std.proofs.Math.Option.{Option, none, some}
use Rattle.paper.specs.Basics.{sequence_places}
use Rattle.paper.specs.Table.{proper}
use Rattle.paper.specs.Rules.{Rules, of_table}
use Rattle.paper.specs.Inclusion.{Compared, refused, answered, comparable, shortest_lost, comparing, compare}
use Rattle.paper.specs.Answers.{Answers, compare_answers}
use Rattle.paper.specs.Calls.{Compares}

abbrev Given : Compared → Type 0
Given o = Answers compare_answers o.number 0

answered_gives : (x : Option (List ℕ)) (buffer : List ℕ) → Given (answered x buffer)
answered_gives none buffer = record { one_of = tt; no_place = λ c. refl }
answered_gives (some w) buffer = record { one_of = tt; no_place = λ c. refl }

comparing_gives : (old new : Rules) (e : ℕ) (buffer : List ℕ) → Given (comparing old new e buffer)
unfolding comparing
comparing_gives old new e buffer = go (ltb e old.elements && ltb e new.elements) (comparable old e && comparable new e) (ltb (length buffer) sequence_places)
  where
    go : (a b c : Bool) → Given (cond (not a) (refused 6 buffer) (cond (not b) (refused 16 buffer) (cond c (refused 5 buffer) (answered (shortest_lost old new e) buffer))))
    go false b c = record { one_of = tt; no_place = λ c. refl }
    go true false c = record { one_of = tt; no_place = λ c. refl }
    go true true true = record { one_of = tt; no_place = λ c. refl }
    go true true false = answered_gives (shortest_lost old new e) buffer

pub compare_answers_lem : (old new : List ℕ) (e : ℕ) (buffer : List ℕ) (o : Compared) → Compares old new e buffer o → Answers compare_answers o.number 0
unfolding compare
compare_answers_lem old new e buffer o d = rw d (go (proper old) (proper new))
  where
    go : (a b : Bool) → Given (cond (not a) (refused 13 buffer) (cond (not b) (refused 13 buffer) (comparing (of_table old) (of_table new) e buffer)))
    go false b = record { one_of = tt; no_place = λ c. refl }
    go true false = record { one_of = tt; no_place = λ c. refl }
    go true true = comparing_gives (of_table old) (of_table new) e buffer
