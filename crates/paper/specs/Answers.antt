-- "Answer numbers": which of them each call can give. Assumes nothing.
--
--  0 valid, or done            5 too large, or no room      10 root
--  1 broken number             6 operation or place         11 ID twice
--  2 schema value, form, limit 7 name                       12 reference to none
--  3 ambiguous model           8 attributes                 13 table
--  4 no shape, or bad piece    9 content                    14 DTD text
--                                                           15 counts
--                                                           16 kind not compared
use Rattle.std.specs.Prelude.{List, [], ◌∷◌, ℕ, T, ◌≡◌}
use Rattle.paper.specs.Basics.{elem, between}

abbrev pub reader_answers : List ℕ
reader_answers = 0 ∷ 1 ∷ 5 ∷ []

abbrev pub writer_answers : List ℕ
writer_answers = 0 ∷ 4 ∷ 5 ∷ []

abbrev pub translator_answers : List ℕ
translator_answers = 0 ∷ 1 ∷ 2 ∷ 3 ∷ 13 ∷ []

-- "A whole check never gives 7, as 10 or the parent's 9 comes first"
abbrev pub check_answers : List ℕ
check_answers = 0 ∷ 4 ∷ 8 ∷ 9 ∷ 10 ∷ 11 ∷ 12 ∷ 13 ∷ []

-- "an edit under or at an undeclared element of an invalid document does". Item 7: "new 15"
abbrev pub edit_answers : List ℕ
edit_answers = 0 ∷ 4 ∷ 5 ∷ 6 ∷ 7 ∷ 8 ∷ 9 ∷ 10 ∷ 11 ∷ 12 ∷ 13 ∷ 15 ∷ []

-- Item 7: the question
abbrev pub elements_answers : List ℕ
elements_answers = 0 ∷ 13 ∷ 15 ∷ []

-- Item 6: those of its last edit; "a list that is empty or ends inside an edit is 4, a 257th edit begun is 5"
abbrev pub list_answers : List ℕ
list_answers = edit_answers

-- Item 9: a check's numbers, and those of an edit's form: never 7, as a check does not
abbrev pub group_answers : List ℕ
group_answers = 5 ∷ 6 ∷ check_answers

-- Item 12: "Refusals in order: 13, old table first; element not below both E is 6; new 16, [..]; buffer too short is 5."
abbrev pub compare_answers : List ℕ
compare_answers = 0 ∷ 5 ∷ 6 ∷ 13 ∷ 16 ∷ []

-- Item 4: "new 14, the text is outside this subset, [..]; 2 for document 01's limits [..]; last, 5 for no room"
abbrev pub import_answers : List ℕ
import_answers = 0 ∷ 2 ∷ 5 ∷ 14 ∷ []

-- "Its only refusals are the importer's"
abbrev pub names_answers : List ℕ
names_answers = import_answers

-- it is lent no buffer
abbrev pub spot_answers : List ℕ
spot_answers = 0 ∷ 2 ∷ 14 ∷ []

-- an answer is one of those numbers; "The place is 0 except for 7 to 12."
pub record Answers (numbers : List ℕ) (number place : ℕ) : Type 0 where
  pub one_of : T (elem number numbers)
  pub no_place : ¬ T (between 7 12 number) → place ≡ 0
