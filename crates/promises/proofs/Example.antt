-- The small shade and its five edits: the premises of demand 3 hold of them, by computing, and so does what it promises. Assumes
-- nothing.
use Rattle.std.specs.Prelude.{◌≡◌, refl, true, List, [], ◌∷◌, ◌++◌, map, ℕ, ◌<◌, ltb, ℤ, replicate}
use Rattle.std.proofs.Math.Bool.{and-eq-true_iff}
use Rattle.std.proofs.Math.Option.{some}
use Rattle.std.proofs.Common.{ltb-true}
use Rattle.paper.specs.Basics.{all, concat}
use Rattle.paper.specs.Files.{file_of}
use Rattle.paper.specs.Expressions.{name, seq, star, plus}
use Rattle.paper.specs.Schema.{Schema, empty, text, model}
use Rattle.paper.specs.Table.{table_length, table_of}
use Rattle.paper.specs.Validity.{ValidDocument}
use Rattle.paper.specs.Back.{numbers_of}
use Rattle.paper.specs.Edits.{Request, Outcome, edit}
use Rattle.paper.specs.Calls.{Checks}
use Rattle.paper.specs.Program.{line, lines_of}
use Rattle.paper.specs.Open.{all_open}
use Rattle.paper.specs.SmallShade.{shade, small, buffer, second, counts}
use Rattle.promises.specs.Calls.{papers, papers_faithful}
use Rattle.promises.specs.Right.{TrueBeside, Step, EachRight}
use Rattle.promises.specs.Statements.{Translated, Runs}
use Rattle.promises.proofs.Theorems.{check_valid, demand_3}

-- ---- schema, document, edits

-- "shade (panel+, use*) with a title; panel (row*) with an ID; row, text; use, empty with an IDREF"
abbrev pub schema : Schema
schema = record {
  root = 0;
  elements =
      record { content = model (seq (plus (name 1)) (star (name 3))); attributes = record { number = 0; kind = 0; status = 0; value = 0 } ∷ [] }
      ∷ record { content = model (star (name 2)); attributes = record { number = 1; kind = 1; status = 0; value = 0 } ∷ [] }
      ∷ record { content = text; attributes = [] }
      ∷ record { content = empty; attributes = record { number = 2; kind = 2; status = 0; value = 0 } ∷ [] }
      ∷ [];
}

-- "Edits `2 3 0`, `1 10 4 9 12 173 2`, `3 3 4 9 12 173 2`, `2 14 0`, `2 3 0`"
abbrev pub requests : List Request
requests =
    record { operation = 2; place = 3; piece = [] }
    ∷ record { operation = 1; place = 10; piece = 9 ∷ 12 ∷ 173 ∷ 2 ∷ [] }
    ∷ record { operation = 3; place = 3; piece = 9 ∷ 12 ∷ 173 ∷ 2 ∷ [] }
    ∷ record { operation = 2; place = 14; piece = [] }
    ∷ record { operation = 2; place = 3; piece = [] }
    ∷ []

-- ---- the premises

bytes_all : (l u v : List ℕ) (b : ℕ) → all (λ b. ltb b 256) l ≡ true → l ≡ u ++ b ∷ v → b < 256
bytes_all l u v b h e = there u (rw e at h)
  where
    there : (u : List ℕ) → all (λ b. ltb b 256) (u ++ b ∷ v) ≡ true → b < 256
    there [] h = ltb-true b 256 ((and-eq-true_iff (ltb b 256) (all (λ b. ltb b 256) v)).0 h).0
    there (a ∷ u) h = there u ((and-eq-true_iff (ltb a 256) (all (λ b. ltb b 256) (u ++ b ∷ v))).0 h).1

pub translated : Translated papers schema (table_of schema)
unfolding all_open
translated = record {
  file = file_of shade;
  lent = replicate table_length 0;
  left = [];
  bytes = λ u v b. bytes_all (file_of shade) u v b refl;
  reads = refl;
  translates = refl;
}

checked : Checks (table_of schema) buffer 15 counts ((0, 0), counts)
unfolding all_open
checked = refl

pub valid : ValidDocument schema buffer 15
valid = (check_valid papers papers_faithful schema (table_of schema) translated buffer 15 counts ((0, 0), counts) checked).0 refl

-- the counts beside it are true
pub counted : TrueBeside schema buffer 15 counts
unfolding all_open
counted = refl

-- the edits, each made on what the one before left, and lent a second buffer
abbrev pub made : (table buffer : List ℕ) → (used : ℕ) → (counts : List ℤ) → List Request → List Step
made table buffer used counts [] = []
made table buffer used counts (q ∷ l) =
    let o : Outcome = edit table buffer used q second counts in
    record { asked = q; lent = second; came = o } ∷ made table o.buffer o.used o.counts l

runs : (table buffer : List ℕ) (used : ℕ) (counts : List ℤ) (l : List Request) → Runs papers table buffer used counts (made table buffer used counts l)
runs table buffer used counts [] = tt
runs table buffer used counts (q ∷ l) = let o : Outcome = edit table buffer used q second counts in (refl, runs table o.buffer o.used o.counts l)

abbrev pub run : List Step
run = made (table_of schema) buffer 15 counts requests

-- ---- what is promised

pub each_right : EachRight schema buffer 15 counts run
each_right = demand_3 papers papers_faithful schema (table_of schema) translated buffer 15 valid counts counted run (runs (table_of schema) buffer 15 counts requests)

-- number, place and used length
abbrev pub answer_of : Step → ℕ × ℕ × ℕ
answer_of x = (x.came.number, x.came.place, x.came.used)

-- "give exactly"
pub answers : map answer_of run ≡ (9, 3, 15) ∷ (0, 0, 19) ∷ (11, 9, 19) ∷ (0, 0, 15) ∷ (0, 0, 8) ∷ []
unfolding all_open
answers = refl

-- the same by the edit program: its six lines, the check's first
pub lines : lines_of (some (file_of shade)) (some (file_of small)) (some (file_of (concat (map numbers_of requests))))
    ≡ line 0 0 0 15 ∷ line 1 9 3 15 ∷ line 2 0 0 19 ∷ line 3 11 9 19 ∷ line 4 0 0 15 ∷ line 5 0 0 8 ∷ []
unfolding all_open
lines = refl
