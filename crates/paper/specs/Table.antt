-- "Table": its layout, the table of a schema, and what makes a table proper. Assumes nothing.
use Rattle.std.specs.Prelude.{Bool, true, cond, not, ◌&&◌, ◌||◌, List, [], ◌∷◌, ◌++◌, map, ℕ, zero, suc, ◌+◌, ◌-◌, ◌*◌, ◌/◌, ◌%◌, ◌^◌, leb, ltb, eqb, length, take, drop, get_or, replicate}
use Rattle.std.specs.Int.Bits.{bit_or}
use Rattle.paper.specs.Basics.{most_number, most_elements, most_names, most_attributes, most_fixed, between, every, all, cons_if, concat, distinct, from, pad}
use Rattle.paper.specs.Expressions.{names, count}
use Rattle.paper.specs.Sets.{nullable, bit, when, first_word, last_word, follow_word}
use Rattle.paper.specs.Schema.{Attribute, is_fixed, Content, empty, text, model, Element, Schema, Parsed, stop, ok, schema_of}

-- ---- the layout

-- "E, root, then 48 blocks of 138: kind; the sets of attributes allowed, required, ID, IDREF, IDREFS, one bit each; the number
-- n of occurrences; 1 if no child at all matches, else 0; the sets of first and of last occurrences; 64 element names; 64
-- follow sets." Item 8: "The table grows by a count and 16 entries of element, attribute and value, to 6,675 numbers"
abbrev pub table_length : ℕ
table_length = 6675

abbrev pub block_length : ℕ
block_length = 138

-- where the parts of a block begin
abbrev pub kind_at : ℕ
kind_at = 0

abbrev pub allowed_at : ℕ
allowed_at = 1

abbrev pub required_at : ℕ
required_at = 2

abbrev pub id_at : ℕ
id_at = 3

abbrev pub idref_at : ℕ
idref_at = 4

abbrev pub idrefs_at : ℕ
idrefs_at = 5

abbrev pub count_at : ℕ
count_at = 6

abbrev pub no_child_at : ℕ
no_child_at = 7

abbrev pub first_at : ℕ
first_at = 8

abbrev pub last_at : ℕ
last_at = 9

abbrev pub names_at : ℕ
names_at = 10

abbrev pub follow_at : ℕ
follow_at = 74

-- where the blocks end, and the count of fixed attributes stands
abbrev pub fixed_at : ℕ
fixed_at = 6626

-- the block of element e, and a number of a block
unfoldable pub block : List ℕ → ℕ → List ℕ
block t e = take block_length (drop (2 + e * block_length) (take fixed_at t))

abbrev pub cell : List ℕ → ℕ → ℕ
cell b i = get_or b i 0

-- ---- fixed attributes

-- "entries of element, attribute and value"
pub record Entry : Type 0 where
  pub element : ℕ
  pub attribute : ℕ
  pub value : ℕ

abbrev pub entry_length : ℕ
entry_length = 3

-- the count and the entries, which end the table
unfoldable pub fixed_part : List ℕ → List ℕ
fixed_part t = drop fixed_at t

-- n entries, read from the front of a list
abbrev pub entries_in : ℕ → List ℕ → List Entry
entries_in zero l = []
entries_in (suc n) l = record { element = get_or l 0 0; attribute = get_or l 1 0; value = get_or l 2 0 } ∷ entries_in n (drop entry_length l)

-- those of a count and 16 entries
abbrev pub entries : List ℕ → List Entry
entries f = entries_in (get_or f 0 0) (drop 1 f)

-- ---- the table of a schema

abbrev pub kind_number : Content → ℕ
kind_number empty = 0
kind_number text = 1
kind_number (model e) = 2

-- the set of the attributes that have P
abbrev pub set_of : (Attribute → Bool) → List Attribute → ℕ
set_of P [] = 0
set_of P (a ∷ l) = bit_or (when (P a) (2 ^ a.number)) (set_of P l)

abbrev pub of_kind : ℕ → Attribute → Bool
of_kind k a = eqb a.kind k

abbrev pub is_required : Attribute → Bool
is_required a = eqb a.status 0

-- "Occurrences are numbered from 0 in reading order, bit k for occurrence k. First and last are those that can begin and end a
-- match; a follow set, those that can come directly after. For kinds 0 and 1 everything from n on is 0."
abbrev pub content_numbers : Content → List ℕ
content_numbers empty = replicate 132 0
content_numbers text = replicate 132 0
content_numbers (model e) =
    count e ∷ cond (nullable e) 1 0 ∷ first_word 0 e ∷ last_word 0 e
    ∷ pad most_names (names e) ++ pad most_names (map (follow_word 0 e) (from 0 (count e)))

abbrev pub block_of : Element → List ℕ
block_of x =
    kind_number x.content
    ∷ set_of (λ a. true) x.attributes
    ∷ set_of is_required x.attributes
    ∷ set_of (of_kind 1) x.attributes
    ∷ set_of (of_kind 2) x.attributes
    ∷ set_of (of_kind 3) x.attributes
    ∷ content_numbers x.content

-- "E, root, then 48 blocks"
abbrev pub blocks_of : Schema → List ℕ
blocks_of s = pad fixed_at (length s.elements ∷ s.root ∷ concat (map block_of s.elements))

-- the entries of the fixed attributes of element e; of elements numbered from e on
abbrev pub entries_of : ℕ → List Attribute → List Entry
entries_of e [] = []
entries_of e (y ∷ l) = cons_if (is_fixed y) (record { element = e; attribute = y.number; value = y.value }) (entries_of e l)

abbrev pub entries_from : ℕ → List Element → List Entry
entries_from e [] = []
entries_from e (x ∷ l) = entries_of e x.attributes ++ entries_from (suc e) l

-- "a count and 16 entries of element, attribute and value"
abbrev pub entry_numbers : Entry → List ℕ
entry_numbers x = x.element ∷ x.attribute ∷ x.value ∷ []

abbrev pub fixed_numbers : List Entry → List ℕ
fixed_numbers l = length l ∷ pad (most_fixed * entry_length) (concat (map entry_numbers l))

unfoldable pub table_of : Schema → List ℕ
table_of s = blocks_of s ++ fixed_numbers (entries_from 0 s.elements)

-- "Order: table buffer length (13); then the file [..]". "the translator [answers] a number": with it, the table as it is left.
abbrev pub translated : Parsed Schema → List ℕ → ℕ × List ℕ
translated (stop k) table = (k, table)
translated (ok s r) table = (0, table_of s)

unfoldable pub translate : (file table : List ℕ) → ℕ × List ℕ
translate file table = cond (eqb (length table) table_length) (translated (schema_of file) table) (13, table)

-- ---- proper

-- each bit of a is one of b; no bit is in both; one bit or none
abbrev pub within : ℕ → ℕ → Bool
within a b = every (λ k. not (bit a k) || bit b k) most_attributes

abbrev pub apart : ℕ → ℕ → Bool
apart a b = every (λ k. not (bit a k && bit b k)) most_attributes

abbrev pub single : ℕ → Bool
single a = every (λ k. not (bit a k) || every (λ j. not (bit a j)) k) most_attributes

abbrev pub zeros : List ℕ → Bool
zeros = all (eqb 0)

-- the names of the occurrences in the set w, where the first of the names has the lowest bit
abbrev pub chosen : ℕ → List ℕ → List ℕ
chosen w [] = []
chosen w (a ∷ l) = cons_if (eqb (w % 2) 1) a (chosen (w / 2) l)

-- "required and the three kinds lie in allowed; the three kinds share no bit, and ID has one bit or none"
unfoldable pub proper_sets : List ℕ → Bool
proper_sets b =
    within (cell b required_at) (cell b allowed_at)
    && within (cell b id_at) (cell b allowed_at)
    && within (cell b idref_at) (cell b allowed_at)
    && within (cell b idrefs_at) (cell b allowed_at)
    && apart (cell b id_at) (cell b idref_at)
    && apart (cell b id_at) (cell b idrefs_at)
    && apart (cell b idref_at) (cell b idrefs_at)
    && single (cell b id_at)

-- "sets use only the lowest n bits"; "[no set] holds two occurrences of one name"
abbrev pub proper_next : ℕ → List ℕ → ℕ → Bool
proper_next n names w = ltb w (2 ^ n) && distinct (chosen w names)

-- "n is 1 to 64 for kind 2; the no-child flag is 0 or 1; sets use only the lowest n bits; the first n names are below E; neither
-- the first set nor any follow set holds two occurrences of one name; unused numbers [..] are 0"
unfoldable pub proper_model : ℕ → List ℕ → Bool
proper_model E b =
    let n : ℕ = cell b count_at in
    let used : List ℕ = take n (drop names_at b) in
    between 1 most_names n
    && leb (cell b no_child_at) 1
    && proper_next n used (cell b first_at)
    && ltb (cell b last_at) (2 ^ n)
    && all (λ a. ltb a E) used
    && zeros (take (most_names - n) (drop (names_at + n) b))
    && all (proper_next n used) (take n (drop follow_at b))
    && zeros (drop (follow_at + n) b)

-- "kinds keep their ranges"; "all from n on is 0 for kinds 0 and 1"
unfoldable pub proper_block : ℕ → List ℕ → Bool
proper_block E b =
    proper_sets b
    && cond (leb (cell b kind_at) 1) (zeros (drop count_at b)) (eqb (cell b kind_at) 2 && proper_model E b)

-- Item 8: "entries rise strictly by element and then attribute": the next one is of element e and of attribute `low` or more, or of a
-- later element
abbrev pub rising_from : (e low : ℕ) → List Entry → Bool
rising_from e low [] = true
rising_from e low (x ∷ l) =
    (ltb e x.element || (eqb e x.element && leb low x.attribute)) && rising_from x.element (suc x.attribute) l

-- "[entries] name an attribute allowed, of no ID or reference kind and not required, [..] values stay at or below 65,535"
unfoldable pub proper_entry : List ℕ → Entry → Bool
proper_entry t x =
    let b : List ℕ = block t x.element in
    ltb x.element (get_or t 0 0)
    && bit (cell b allowed_at) x.attribute
    && not (bit (cell b required_at) x.attribute)
    && not (bit (cell b id_at) x.attribute)
    && not (bit (cell b idref_at) x.attribute)
    && not (bit (cell b idrefs_at) x.attribute)
    && leb x.value most_number

-- "the count is at most 16, [..] unused entries are 0"; f: the count and the entries of the table t
unfoldable pub proper_fixed : List ℕ → List ℕ → Bool
proper_fixed t f =
    leb (get_or f 0 0) most_fixed
    && rising_from 0 0 (entries f)
    && all (proper_entry t) (entries f)
    && zeros (drop (1 + get_or f 0 0 * entry_length) f)

-- "A table is proper exactly if: it has [6,675] numbers; E, root and kinds keep their ranges; [..] unused numbers, blocks from E
-- on included, are 0." Item 8: "proper now also asks [..]"
unfoldable pub proper : List ℕ → Bool
proper t =
    eqb (length t) table_length
    && between 1 most_elements (get_or t 0 0)
    && ltb (get_or t 1 0) (get_or t 0 0)
    && every (λ e. proper_block (get_or t 0 0) (block t e)) (get_or t 0 0)
    && zeros (drop (2 + get_or t 0 0 * block_length) (take fixed_at t))
    && proper_fixed t (fixed_part t)
