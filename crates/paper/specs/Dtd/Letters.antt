-- The bytes of a DTD text: white space, names, the characters of a comment, and the words that stand in it. Assumes nothing.
use Rattle.std.specs.Prelude.{Bool, true, false, cond, not, ◌&&◌, ◌||◌, List, [], ◌∷◌, ℕ, zero, suc, leb, ltb, eqb}
use Prim.Native.Char.{code}
use Prim.Native.String.{String, len, char_at}
use Rattle.paper.specs.Basics.{between, some_of}

-- ---- white space and names

-- XML 1.0, [3]: S ::= (#x20 | #x9 | #xD | #xA)+
abbrev pub is_white : ℕ → Bool
is_white b = eqb b 32 || eqb b 9 || eqb b 13 || eqb b 10

-- Item 4: "Names are ASCII letters, digits and `- _ . :`, the first one a letter, `_` or `:`."
abbrev pub is_first : ℕ → Bool
is_first b = between 65 90 b || between 97 122 b || eqb b 95 || eqb b 58

abbrev pub is_more : ℕ → Bool
is_more b = is_first b || between 48 57 b || eqb b 45 || eqb b 46

-- a name is its bytes
abbrev pub Name : Type 0
Name = List ℕ

abbrev pub same : Name → Name → Bool
same [] [] = true
same [] (b ∷ m) = false
same (a ∷ l) [] = false
same (a ∷ l) (b ∷ m) = eqb a b && same l m

abbrev pub among : Name → List Name → Bool
among n l = some_of (same n) l

-- ---- the front of a text

-- the text begins with a byte of that sort
abbrev pub begins : (ℕ → Bool) → List ℕ → Bool
begins P [] = false
begins P (b ∷ s) = P b

-- the longest run of such bytes, and what stands after it
abbrev pub run : (ℕ → Bool) → List ℕ → List ℕ
run P [] = []
run P (b ∷ s) = cond (P b) (b ∷ run P s) []

abbrev pub past : (ℕ → Bool) → List ℕ → List ℕ
past P [] = []
past P (b ∷ s) = cond (P b) (past P s) (b ∷ s)

-- ---- characters

-- XML 1.0, [2]: Char ::= #x9 | #xA | #xD | [#x20-#xD7FF] | [#xE000-#xFFFD] | [#x10000-#x10FFFF], in UTF-8 (Unicode, table 3-7):
-- a byte alone, or a first byte with one, two or three after it
abbrev pub alone : ℕ → Bool
alone a = between 32 127 a || eqb a 9 || eqb a 10 || eqb a 13

abbrev pub first_of_two : ℕ → Bool
first_of_two a = between 194 223 a

abbrev pub first_of_three : ℕ → Bool
first_of_three a = between 224 239 a

abbrev pub first_of_four : ℕ → Bool
first_of_four a = between 240 244 a

abbrev pub later : ℕ → Bool
later b = between 128 191 b

-- the second byte after a: no longer form than needed (E0, F0), no surrogate (ED), nothing above #x10FFFF (F4)
abbrev pub second : ℕ → ℕ → Bool
second a b =
    later b
    && not (eqb a 224 && ltb b 160)
    && not (eqb a 237 && leb 160 b)
    && not (eqb a 240 && ltb b 144)
    && not (eqb a 244 && leb 144 b)

-- the third of three: not #xFFFE and #xFFFF
abbrev pub third : ℕ → ℕ → ℕ → Bool
third a b c = later c && not (eqb a 239 && eqb b 191 && leb 190 c)

-- ---- marks and words

-- the bytes of n letters of a word, from the i-th on
abbrev pub letters : String → (n i : ℕ) → List ℕ
letters s zero i = []
letters s (suc n) i = code (char_at s i) ∷ letters s n (suc i)

-- a word as its bytes, which are those of ASCII
abbrev pub ascii : String → List ℕ
ascii s = letters s (len s) 0

abbrev pub hyphen : ℕ
hyphen = 45

abbrev pub opening : ℕ
opening = 40

abbrev pub closing : ℕ
closing = 41

abbrev pub comma : ℕ
comma = 44

abbrev pub bar : ℕ
bar = 124

abbrev pub hash : ℕ
hash = 35

abbrev pub greater : ℕ
greater = 62

abbrev pub word_element : List ℕ
word_element = ascii "ELEMENT"

abbrev pub word_attlist : List ℕ
word_attlist = ascii "ATTLIST"

abbrev pub start_element : List ℕ
start_element = ascii "<!ELEMENT"

abbrev pub start_attlist : List ℕ
start_attlist = ascii "<!ATTLIST"

abbrev pub start_comment : List ℕ
start_comment = ascii "<!--"

abbrev pub end_comment : List ℕ
end_comment = ascii "-->"

abbrev pub word_empty : List ℕ
word_empty = ascii "EMPTY"

abbrev pub word_text : List ℕ
word_text = ascii "#PCDATA"

abbrev pub word_cdata : List ℕ
word_cdata = ascii "CDATA"

abbrev pub word_id : List ℕ
word_id = ascii "ID"

abbrev pub word_idref : List ℕ
word_idref = ascii "IDREF"

abbrev pub word_idrefs : List ℕ
word_idrefs = ascii "IDREFS"

abbrev pub word_required : List ℕ
word_required = ascii "REQUIRED"

abbrev pub word_implied : List ℕ
word_implied = ascii "IMPLIED"
