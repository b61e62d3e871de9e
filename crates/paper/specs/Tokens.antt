-- "Tokens and shape": tokens, and what is read off a list of them: an element's attributes, its children, its end. Assumes nothing.
use Rattle.std.specs.Prelude.{Bool, true, false, cond, ◌&&◌, ◌||◌, List, [], ◌∷◌, map, ℕ, zero, suc, ◌+◌, ◌/◌, ◌%◌, max, leb, ltb, eqb, take, drop}
use Rattle.std.proofs.Math.Option.{Option, none, some}
use Rattle.paper.specs.declared.Tok.{Tok}
use Rattle.paper.specs.declared.Tok.TheVariants.{Start, End, Text, Attr, Value, Bad}
use Rattle.paper.specs.Basics.{most_number}

-- "A token is number × 8 + sort, the number at most 65,535. Sorts: 1 start of element, 2 end (number 0), 3 text, 4 attribute,
-- 5 value." Any other number is Bad.
abbrev pub by_sort : ℕ → ℕ → Tok
by_sort s n =
    cond (eqb s 1) (Start n)
    (cond (eqb s 2) (cond (eqb n 0) End Bad)
    (cond (eqb s 3) (Text n)
    (cond (eqb s 4) (Attr n)
    (cond (eqb s 5) (Value n) Bad))))

abbrev pub tok_of : ℕ → Tok
tok_of t = cond (leb (t / 8) most_number) (by_sort (t % 8) (t / 8)) Bad

abbrev pub toks : List ℕ → List Tok
toks = map tok_of

-- ---- one element, from behind its start

-- the attributes and values that stand directly after a start
abbrev pub heads : List Tok → List Tok
heads [] = []
heads (Start n ∷ d) = []
heads (End ∷ d) = []
heads (Text n ∷ d) = []
heads (Attr n ∷ d) = Attr n ∷ heads d
heads (Value n ∷ d) = Value n ∷ heads d
heads (Bad ∷ d) = []

-- the children of the element that is open: the starts and the texts at depth 0, up to its end
abbrev pub kids : ℕ → List Tok → List Tok
kids k [] = []
kids zero (Start n ∷ d) = Start n ∷ kids 1 d
kids (suc k) (Start n ∷ d) = kids (suc (suc k)) d
kids zero (End ∷ d) = []
kids (suc k) (End ∷ d) = kids k d
kids zero (Text n ∷ d) = Text n ∷ kids zero d
kids (suc k) (Text n ∷ d) = kids (suc k) d
kids k (Attr n ∷ d) = kids k d
kids k (Value n ∷ d) = kids k d
kids k (Bad ∷ d) = kids k d

-- t, met k levels below the open element, is that element's end
abbrev pub closes_of : ℕ → Tok → Bool
closes_of k (Start n) = false
closes_of zero End = true
closes_of (suc k) End = false
closes_of k (Text n) = false
closes_of k (Attr n) = false
closes_of k (Value n) = false
closes_of k Bad = false

-- the level after t
abbrev pub level_of : ℕ → Tok → ℕ
level_of k (Start n) = suc k
level_of zero End = zero
level_of (suc k) End = k
level_of k (Text n) = k
level_of k (Attr n) = k
level_of k (Value n) = k
level_of k Bad = k

-- how many tokens stand before the end of the element that is open k levels up
abbrev pub close : ℕ → List Tok → ℕ
close k [] = zero
close k (t ∷ d) = cond (closes_of k t) zero (suc (close (level_of k t) d))

-- how many tokens stand before child j of the element that is open k levels up, or before its end if it has j children
abbrev pub child_at : (j k : ℕ) → List Tok → ℕ
child_at j k [] = 0
child_at j (suc k) (Start n ∷ d) = suc (child_at j (suc (suc k)) d)
child_at zero zero (Start n ∷ d) = 0
child_at (suc j) zero (Start n ∷ d) = suc (child_at j 1 d)
child_at j zero (End ∷ d) = 0
child_at j (suc k) (End ∷ d) = suc (child_at j k d)
child_at j (suc k) (Text n ∷ d) = suc (child_at j (suc k) d)
child_at zero zero (Text n ∷ d) = 0
child_at (suc j) zero (Text n ∷ d) = suc (child_at j zero d)
child_at j k (Attr n ∷ d) = suc (child_at j k d)
child_at j k (Value n ∷ d) = suc (child_at j k d)
child_at j k (Bad ∷ d) = suc (child_at j k d)

-- the place of the end of the element that starts at a place; the length, where it has none
unfoldable pub end_of : List Tok → ℕ → ℕ
end_of d place = suc place + close zero (drop (suc place) d)

-- the length of the text or element that begins d
abbrev pub item_size : List Tok → ℕ
item_size [] = 0
item_size (Start n ∷ d) = suc (suc (close zero d))
item_size (End ∷ d) = 0
item_size (Text n ∷ d) = 1
item_size (Attr n ∷ d) = 0
item_size (Value n ∷ d) = 0
item_size (Bad ∷ d) = 0

-- the deepest level of d, that begins at level k
abbrev pub deep : ℕ → List Tok → ℕ
deep k [] = k
deep k (t ∷ d) = max k (deep (level_of k t) d)

-- ---- the attributes of an element, as heads gives them

-- how many values begin r
abbrev pub values : List Tok → ℕ
values [] = 0
values (Value v ∷ r) = suc (values r)
values (Attr n ∷ r) = 0
values (Start n ∷ r) = 0
values (End ∷ r) = 0
values (Text n ∷ r) = 0
values (Bad ∷ r) = 0

-- how many tokens of the attributes r stand before the attribute a, or before where it would stand
abbrev pub slot : ℕ → List Tok → ℕ
slot a [] = 0
slot a (Attr n ∷ r) = cond (ltb n a) (suc (slot a r)) 0
slot a (Value v ∷ r) = suc (slot a r)
slot a (Start n ∷ r) = 0
slot a (End ∷ r) = 0
slot a (Text n ∷ r) = 0
slot a (Bad ∷ r) = 0

-- how many tokens the attribute a has, if it begins r
abbrev pub held : ℕ → List Tok → ℕ
held a [] = 0
held a (Attr n ∷ r) = cond (eqb n a) (suc (values r)) 0
held a (Value v ∷ r) = 0
held a (Start n ∷ r) = 0
held a (End ∷ r) = 0
held a (Text n ∷ r) = 0
held a (Bad ∷ r) = 0

-- ---- the parent of a place

-- the depth after d, from depth k; none where an end closes more than d opened
abbrev pub run : ℕ → List Tok → Option ℕ
run k [] = some k
run k (Start n ∷ d) = run (suc k) d
run zero (End ∷ d) = none
run (suc k) (End ∷ d) = run k d
run k (Text n ∷ d) = run k d
run k (Attr n ∷ d) = run k d
run k (Value n ∷ d) = run k d
run k (Bad ∷ d) = run k d

-- d opens as many elements as it closes, and closes none but its own
abbrev pub level : Option ℕ → Bool
level none = false
level (some zero) = true
level (some (suc k)) = false

abbrev pub balanced : List Tok → Bool
balanced d = level (run zero d)

abbrev pub starts : Tok → Bool
starts (Start n) = true
starts End = false
starts (Text n) = false
starts (Attr n) = false
starts (Value n) = false
starts Bad = false

abbrev pub is_start : List Tok → Bool
is_start [] = false
is_start (t ∷ d) = starts t

-- i is the start of the innermost element that p leaves open
abbrev pub parent : List Tok → ℕ → Bool
parent p i = is_start (drop i p) && balanced (drop (suc i) p)

-- what an edit touches, in the edited document: the parent of place at, and the n tokens of the piece there
abbrev pub touched : ℕ → ℕ → List Tok → ℕ → Bool
touched at n d i = parent (take at d) i || (leb at i && ltb i (at + n))
