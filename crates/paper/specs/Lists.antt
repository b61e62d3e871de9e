-- Item 6, "One call for a script step": a list of numbers as edits, and what the call for a list does. Assumes nothing.
use Rattle.std.specs.Prelude.{◌≡◌, cond, List, [], ◌∷◌, ◌++◌, ℕ, zero, suc, ◌<◌, leb, eqb, ℤ, length, take, drop}
use Rattle.paper.specs.Basics.{most_edits}
use Rattle.paper.specs.Requests.{Request}
use Rattle.paper.specs.Back.{numbers_of}
use Rattle.paper.specs.Edits.{Outcome, refused, outcome, edit}
use Rattle.paper.specs.Program.{second}

-- ---- a list, split into edits

-- the edits of a list, or the list's own fault
pub data Split : Type 0 where
  fault : ℕ → Split
  edits : List Request → Split

-- an edit before those that follow it
abbrev pub before : Request → Split → Split
before q (fault n) = fault n
before q (edits l) = edits (q ∷ l)

-- "in the edit file's order of numbers but as plain 32-bit numbers": operation, place, piece count, and the piece, which begins the rest
abbrev pub asked : (op place n : ℕ) → (rest : List ℕ) → Request
asked op place n rest = record { operation = op; place = place; piece = take n rest }

-- "ends inside an edit is 4, a 257th edit begun is 5, the first met from the front": what is left of a list, where `more` edits may
-- begin. A piece count over what is left ends inside its edit.
abbrev pub split_from : (more : ℕ) → List ℕ → Split
split_from zero [] = edits []
split_from zero (x ∷ l) = fault 5
split_from (suc more) [] = edits []
split_from (suc more) (op ∷ []) = fault 4
split_from (suc more) (op ∷ place ∷ []) = fault 4
split_from (suc more) (op ∷ place ∷ n ∷ rest) = cond (leb n (length rest)) (before (asked op place n rest) (split_from more (drop n rest))) (fault 4)

-- "a list that is empty [..] is 4"
abbrev pub nonempty : List ℕ → Split → Split
nonempty [] x = fault 4
nonempty (n ∷ l) x = x

-- "One call takes a list of 1 to 256 edits"
unfoldable pub split_list : List ℕ → Split
split_list l = nonempty l (split_from most_edits l)

-- 4 or 5, or 0 where a list is edits
abbrev pub fault_of : Split → ℕ
fault_of (fault n) = n
fault_of (edits l) = 0

-- ---- the same by meaning

-- the numbers of edits, one after another
abbrev pub list_numbers : List Request → List ℕ
list_numbers [] = []
list_numbers (q ∷ l) = numbers_of q ++ list_numbers l

-- what stands behind some edits "ends inside an edit"
abbrev pub Inside : List ℕ → Type 0
Inside [] = ⊥
Inside (op ∷ []) = Unit {0}
Inside (op ∷ place ∷ []) = Unit {0}
Inside (op ∷ place ∷ n ∷ rest) = length rest < n

-- 4: "a list that [..] ends inside an edit", which may begin
abbrev pub EndsInside : (more : ℕ) → List ℕ → Type 0
EndsInside more l = (es : List Request) × (r : List ℕ) × (length es < more) × Inside r × (l ≡ list_numbers es ++ r)

-- 5: "a 257th edit begun", behind as many as there may be
abbrev pub OneMoreBegun : (more : ℕ) → List ℕ → Type 0
OneMoreBegun more l = (es : List Request) × (x : ℕ) × (r : List ℕ) × (length es ≡ more) × (l ≡ list_numbers es ++ x ∷ r)

-- ---- the edits of a list, made one after another

-- "Document, last answer and number of edits done": what the last edit that was run came to, and the number done
pub record Listed (S : Type 0) : Type 0 where
  pub last : S
  pub done : ℕ

-- S: what a single call comes to, its answer and all that was lent. `call` is the next single call on that, `number` its number.
module _ {S : Type 0} (call : S → Request → S) (number : S → ℕ) where
  -- "It ends at the first refusal; what was done before stands." The number done is without a refused one.
  abbrev pub run_list : (done : ℕ) → (o : S) → List Request → Listed S
  run_list done o [] = record { last = o; done = done }
  run_list done o (q ∷ l) = cond (eqb (number (call o q)) 0) (run_list (suc done) (call o q) l) (record { last = call o q; done = done })

  -- The list's own fault comes first, "before any edit is run". `lent` is what was lent, as it was, with a number.
  abbrev pub listed : (lent : ℕ → S) → Split → Listed S
  listed lent (fault n) = record { last = lent n; done = 0 }
  listed lent (edits l) = run_list 0 (lent 0) l

-- ---- the call

-- the document as it was, with a number; with 0 the first edit is made on it
abbrev pub lent_with : (buffer : List ℕ) → (used : ℕ) → (counts : List ℤ) → ℕ → Outcome
lent_with buffer used counts n = outcome buffer used [] counts (refused n 0)

-- "It writes no inverses": an outcome with no second buffer
abbrev pub alone : Outcome → Outcome
alone o = record {
  number = o.number;
  place = o.place;
  used = o.used;
  change = o.change;
  children = o.children;
  buffer = o.buffer;
  back = [];
  counts = o.counts;
}

-- A single call on what the one before it left, with a second buffer in which any inverse has room. Item 7: counts are "carried along by
-- edits, lists included".
abbrev pub next_edit : (table : List ℕ) → Outcome → Request → Outcome
next_edit table o q = alone (edit table o.buffer o.used q second o.counts)

abbrev pub number_of : Outcome → ℕ
number_of o = o.number

-- "Document, last answer and number of edits done are those of single calls."
unfoldable pub edit_list : (table buffer : List ℕ) → (used : ℕ) → (list : List ℕ) → (counts : List ℤ) → Listed Outcome
edit_list table buffer used list counts = listed (next_edit table) number_of (lent_with buffer used counts) (split_list list)
