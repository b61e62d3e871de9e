-- Words for lists and numbers that the other files use, and the paper's sizes, each at its one home. Assumes nothing.
use Rattle.std.specs.Prelude.{Bool, true, false, cond, not, ◌&&◌, ◌||◌, List, [], ◌∷◌, ◌++◌, ℕ, zero, suc, ◌-◌, leb, eqb, length, replicate}
use Rattle.std.proofs.Math.Option.{Option, none, some}

-- ---- sizes

-- "past 8,192": the most tokens that a document or a piece has
abbrev pub most_tokens : ℕ
most_tokens = 8192

-- Item 2: "operation, place, piece count and piece": the most numbers of an edit
abbrev pub most_back : ℕ
most_back = 8195

-- "at most 64 deep with the root at 1"
abbrev pub most_deep : ℕ
most_deep = 64

-- "the number at most 65,535"
abbrev pub most_number : ℕ
most_number = 65535

-- "a file over 65,536 bytes"
abbrev pub most_file : ℕ
most_file = 65536

-- "the number of elements E, 1 to 48"
abbrev pub most_elements : ℕ
most_elements = 48

-- "At most 64 names occur in it"
abbrev pub most_names : ℕ
most_names = 64

-- "the count of attributes, 0 to 64", numbered "0 to 63"
abbrev pub most_attributes : ℕ
most_attributes = 64

-- Item 8: "Up to 16 in a schema": fixed attributes
abbrev pub most_fixed : ℕ
most_fixed = 16

-- Item 6: "a list of 1 to 256 edits"
abbrev pub most_edits : ℕ
most_edits = 256

-- Item 12: "The sequence buffer has at least 4,290 places": 65 states of a run of the old content by 66 of one of the new
abbrev pub sequence_places : ℕ
sequence_places = 4290

-- ---- numbers

-- lo ≤ n ≤ hi
abbrev pub between : ℕ → ℕ → ℕ → Bool
between lo hi n = leb lo n && leb n hi

-- S holds of each number below n
abbrev pub every : (ℕ → Bool) → ℕ → Bool
every S zero = true
every S (suc n) = S n && every S n

-- S holds of a number below n
abbrev pub any : (ℕ → Bool) → ℕ → Bool
any S zero = false
any S (suc n) = S n || any S n

-- the largest number below n of which S holds
abbrev pub find : (ℕ → Bool) → ℕ → Option ℕ
find S zero = none
find S (suc n) = cond (S n) (some n) (find S n)

-- ---- lists

module _ {A : Type 0} where
  -- P holds of each in the list
  abbrev pub all : (A → Bool) → List A → Bool
  all P [] = true
  all P (x ∷ l) = P x && all P l

  -- P holds of one in the list
  abbrev pub some_of : (A → Bool) → List A → Bool
  some_of P [] = false
  some_of P (x ∷ l) = P x || some_of P l

  -- what f gives of the first in the list of which P holds
  abbrev pub first_with : (A → Bool) → (A → ℕ) → List A → Option ℕ
  first_with P f [] = none
  first_with P f (x ∷ l) = cond (P x) (some (f x)) (first_with P f l)

  abbrev pub null : List A → Bool
  null [] = true
  null (x ∷ l) = false

  -- x before l, if the test holds
  abbrev pub cons_if : Bool → A → List A → List A
  cons_if true x l = x ∷ l
  cons_if false x l = l

  -- the lists one after another
  abbrev pub concat : List (List A) → List A
  concat [] = []
  concat (l ∷ m) = l ++ concat m

abbrev pub elem : ℕ → List ℕ → Bool
elem n l = some_of (eqb n) l

-- no number stands twice in the list
abbrev pub distinct : List ℕ → Bool
distinct [] = true
distinct (n ∷ l) = not (elem n l) && distinct l

-- the numbers from b on, n of them
abbrev pub from : ℕ → ℕ → List ℕ
from b zero = []
from b (suc n) = b ∷ from (suc b) n

-- l, made n long with zeros
abbrev pub pad : ℕ → List ℕ → List ℕ
pad n l = l ++ replicate (n - length l) 0
