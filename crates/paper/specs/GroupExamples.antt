-- Item 9 on the small shade, by computing: panel 20 becomes 21 together with its use, in one group; each step alone is refused. Assumes
-- nothing.
use Rattle.std.specs.Prelude.{◌≡◌, refl, List, [], ◌∷◌, ◌++◌, ℕ, pos, ◌-ℤ◌, take, replicate}
use Rattle.paper.specs.Files.{file_of}
use Rattle.paper.specs.Schema.{Schema, Parsed, stop, ok, schema_of}
use Rattle.paper.specs.Table.{table_of}
use Rattle.paper.specs.Open.{all_open}
use Rattle.paper.specs.SmallShade.{shade, small, buffer}
use Rattle.paper.specs.Groups.{GroupOutcome, group}

-- the panel's ID is set to 21, and the use's reference
abbrev panel : List ℕ
panel = 4 ∷ 3 ∷ 2 ∷ 12 ∷ 173 ∷ []

abbrev its_use : List ℕ
its_use = 4 ∷ 10 ∷ 2 ∷ 20 ∷ 173 ∷ []

-- the document with a number for the panel, and one for its use
abbrev keyed : (id ref : ℕ) → List ℕ
keyed id ref = 1 ∷ 4 ∷ 61 ∷ 9 ∷ 12 ∷ id ∷ 17 ∷ 243 ∷ 2 ∷ 2 ∷ 25 ∷ 20 ∷ ref ∷ 2 ∷ 2 ∷ []

-- a second buffer of 22 places, all of them 5: two more than the first has
abbrev lent : List ℕ
lent = replicate 22 5

abbrev ask : Parsed Schema → (list second : List ℕ) → GroupOutcome
ask (stop n) list second = group [] buffer 15 list second
ask (ok s r) list second = group (table_of s) buffer 15 list second

abbrev asked : (list second : List ℕ) → GroupOutcome
asked = ask (schema_of (file_of shade))

-- refused: number and place, which edit, and the second buffer
abbrev refused : (number place which : ℕ) → (second : List ℕ) → GroupOutcome
refused number place which second = record { number = number; place = place; used = 15; change = pos 0; which = which; buffer = buffer; second = second }

pub rename : asked (panel ++ its_use) lent
    ≡ record { number = 0; place = 0; used = 15; change = pos 0; which = 0; buffer = keyed 173 173 ++ replicate 5 7; second = keyed 173 173 ++ replicate 7 5 }
unfolding all_open
rename = refl

-- "each step alone is invalid": 12 at the use's value, whichever is made
pub panel_alone : asked panel lent ≡ refused 12 12 0 (keyed 173 165 ++ replicate 7 5)
unfolding all_open
panel_alone = refl

pub use_alone : asked its_use lent ≡ refused 12 12 0 (keyed 165 173 ++ replicate 7 5)
unfolding all_open
use_alone = refl

-- a use comes, it goes again, and the third edit is at no place: 0 up to the longest that was reached
pub third_refused : asked (1 ∷ 10 ∷ 4 ∷ 25 ∷ 20 ∷ 165 ∷ 2 ∷ 2 ∷ 10 ∷ 0 ∷ 2 ∷ 1 ∷ 0 ∷ []) lent ≡ refused 6 0 3 (small ++ (0 ∷ 0 ∷ 0 ∷ 0 ∷ 5 ∷ 5 ∷ 5 ∷ []))
unfolding all_open
third_refused = refl

-- the use goes: 0 up to the starting length, in both buffers
pub shorter : asked (2 ∷ 10 ∷ 0 ∷ []) lent
    ≡ record {
      number = 0;
      place = 0;
      used = 11;
      change = pos 11 -ℤ pos 15;
      which = 0;
      buffer = take 10 small ++ (2 ∷ 0 ∷ 0 ∷ 0 ∷ 0 ∷ replicate 5 7);
      second = take 10 small ++ (2 ∷ 0 ∷ 0 ∷ 0 ∷ 0 ∷ replicate 7 5);
    }
unfolding all_open
shorter = refl

-- a first edit that is refused has begun: the second buffer then holds the starting document
pub first_refused : asked (2 ∷ 1 ∷ 0 ∷ []) lent ≡ refused 6 0 1 (small ++ replicate 7 5)
unfolding all_open
first_refused = refl

-- the size is the first buffer's: 21 tokens would fit the second one alone
pub first_buffers : asked (1 ∷ 10 ∷ 6 ∷ 25 ∷ 20 ∷ 165 ∷ 165 ∷ 165 ∷ 2 ∷ []) lent ≡ refused 5 0 1 (small ++ replicate 7 5)
unfolding all_open
first_buffers = refl

-- before any edit: the list's own fault, and then a second buffer shorter than the first
pub not_begun_lem : asked (2 ∷ 1 ∷ []) [] ≡ refused 4 0 0 []
unfolding all_open
not_begun_lem = refl

pub second_short : asked panel (replicate 19 5) ≡ refused 5 0 0 (replicate 19 5)
unfolding all_open
second_short = refl

-- the last document is judged whole: the panel has lost its ID, which is required (8, at its start)
pub inside_judged : asked (5 ∷ 3 ∷ 1 ∷ 12 ∷ []) lent
    ≡ refused 8 3 0 (1 ∷ 4 ∷ 61 ∷ 9 ∷ 17 ∷ 243 ∷ 2 ∷ 2 ∷ 25 ∷ 20 ∷ 165 ∷ 2 ∷ 2 ∷ 0 ∷ 0 ∷ replicate 7 5)
unfolding all_open
inside_judged = refl
