-- Item 7, "How many panels?": the number of elements of each name, kept beside the document; how a check writes the counts and an edit moves
-- them, and what the question answers. Assumes nothing.
use Rattle.std.specs.Prelude.{◌≡◌, Bool, false, cond, List, [], ◌∷◌, ℕ, zero, suc, ◌+◌, leb, ltb, eqb, ℤ, pos, negsuc, ◌+ℤ◌, ◌-ℤ◌, nat_abs, get_or, take}
use Rattle.paper.specs.declared.Tok.{Tok}
use Rattle.paper.specs.declared.Tok.TheVariants.{Start, End, Text, Attr, Value, Bad}
use Rattle.paper.specs.Basics.{most_tokens, most_elements, all}
use Rattle.paper.specs.Tokens.{toks}
use Rattle.paper.specs.Trees.{Forest, nil, txt, elem}
use Rattle.paper.specs.Table.{proper}
use Rattle.paper.specs.Rules.{of_table}
use Rattle.paper.specs.Judgement.{check}
use Rattle.paper.specs.Requests.{Request, coming}
use Rattle.paper.specs.Back.{went}

-- ---- a fresh count

-- "the number of elements of each name": how many of the name e start in d
abbrev pub tally : ℕ → List Tok → ℕ
tally e [] = 0
tally e (Start n ∷ d) = cond (eqb n e) 1 0 + tally e d
tally e (End ∷ d) = tally e d
tally e (Text n ∷ d) = tally e d
tally e (Attr n ∷ d) = tally e d
tally e (Value n ∷ d) = tally e d
tally e (Bad ∷ d) = tally e d

-- .. on the tree
abbrev pub elements_in : ℕ → Forest → ℕ
elements_in e nil = 0
elements_in e (txt n f) = elements_in e f
elements_in e (elem n gs k f) = cond (eqb n e) 1 0 + (elements_in e k + elements_in e f)

-- "Names of E and above are counted nowhere"
abbrev pub counted : (E e n : ℕ) → ℕ
counted E e n = cond (ltb e E) n 0

-- the counts of k names from e on, each as f says
abbrev pub counts_by : (ℕ → ℕ) → (E e k : ℕ) → List ℤ
counts_by f E e zero = []
counts_by f E e (suc k) = pos (counted E e (f e)) ∷ counts_by f E (suc e) k

-- "an array of 48 counts", fresh from the tokens
unfoldable pub fresh : (E : ℕ) → List Tok → List ℤ
fresh E d = counts_by (λ e. tally e d) E 0 most_elements

-- counts are true if they "equal a fresh count"
abbrev pub TrueCounts : (E : ℕ) → (doc : List ℕ) → List ℤ → Type 0
TrueCounts E doc counts = counts ≡ fresh E (toks doc)

-- "written by a check that says valid": the counts after a check; one that says otherwise leaves them
unfoldable pub checked_counts : (table buffer : List ℕ) → (used : ℕ) → List ℤ → List ℤ
checked_counts table buffer used counts =
    cond (eqb (check table buffer used).0 0) (fresh (of_table table).elements (toks (take used buffer))) counts

-- ---- moved by an edit

-- the counts from the name e on, for names below E: each with what comes added and what goes taken away. Sums are exact.
abbrev pub moved_from : (goes comes : List Tok) → (E e : ℕ) → List ℤ → List ℤ
moved_from goes comes E e [] = []
moved_from goes comes E e (n ∷ l) =
    cond (ltb e E) (n +ℤ pos (tally e comes) -ℤ pos (tally e goes)) n ∷ moved_from goes comes E (suc e) l

-- "carried along by edits"
unfoldable pub moved : (E : ℕ) → Request → (doc : List ℕ) → List ℤ → List ℤ
moved E q doc counts = moved_from (toks (went q doc)) (toks (coming q.operation q.piece)) E 0 counts

-- ---- the limits (15)

-- a count is neither "below 0" nor "above 8,192"
abbrev pub count_good : ℤ → Bool
count_good (pos n) = leb n most_tokens
count_good (negsuc n) = false

-- "new 15, any of the 48 counts below 0 or above 8,192 after the edit"
abbrev pub counts_fault : (after : List ℤ) → ℕ
counts_fault after = cond (all count_good after) 0 15

-- ---- the question

-- "and answer from them": number and count. "Names of E and above [..] answer 0."
unfoldable pub elements_of : (table : List ℕ) → (counts : List ℤ) → (name : ℕ) → ℕ × ℕ
elements_of table counts name =
    cond (proper table)
    (cond (all count_good counts) (0, cond (ltb name (of_table table).elements) (nat_abs (get_or counts name (pos 0))) 0) (15, 0))
    (13, 0)
