-- Sets of occurrences: which can begin a match, end it, and come directly after another; and the test for ambiguity by them.
-- Each takes b, the number of the expression's first occurrence. That the sets are those of the paper's words, and that the
-- test decides ambiguity, is proved in the crate `content_laws`. Assumes nothing.
use Rattle.std.specs.Prelude.{ℕ, ◌+◌, ◌/◌, ◌%◌, ◌^◌, Bool, true, false, cond, ◌&&◌, ◌||◌, eqb}
use Rattle.std.specs.Int.Bits.{bit_or}
use Rattle.paper.specs.Basics.{any}
use Rattle.paper.specs.Expressions.{Expr, name, seq, alt, opt, star, plus, count, name_at}

-- ---- sets as tests

abbrev pub Set : Type 0
Set = ℕ → Bool

-- "no child at all matches"
abbrev pub nullable : Expr → Bool
nullable (name a) = false
nullable (seq e f) = nullable e && nullable f
nullable (alt e f) = nullable e || nullable f
nullable (opt e) = true
nullable (star e) = true
nullable (plus e) = nullable e

-- "First and last are those that can begin and end a match"
abbrev pub first : ℕ → Expr → Set
first b (name a) k = eqb k b
first b (seq e f) k = first b e k || (nullable e && first (b + count e) f k)
first b (alt e f) k = first b e k || first (b + count e) f k
first b (opt e) k = first b e k
first b (star e) k = first b e k
first b (plus e) k = first b e k

abbrev pub last : ℕ → Expr → Set
last b (name a) k = eqb k b
last b (seq e f) k = last (b + count e) f k || (nullable f && last b e k)
last b (alt e f) k = last b e k || last (b + count e) f k
last b (opt e) k = last b e k
last b (star e) k = last b e k
last b (plus e) k = last b e k

-- "a follow set, those that can come directly after": after occurrence j
abbrev pub follow : ℕ → Expr → ℕ → Set
follow b (name a) j k = false
follow b (seq e f) j k = follow b e j k || follow (b + count e) f j k || (last b e j && first (b + count e) f k)
follow b (alt e f) j k = follow b e j k || follow (b + count e) f j k
follow b (opt e) j k = follow b e j k
follow b (star e) j k = follow b e j k || (last b e j && first b e k)
follow b (plus e) j k = follow b e j k || (last b e j && first b e k)

-- ---- ambiguity as a test

-- S holds an occurrence y and one before it, x, of the same name
abbrev pub clash : Expr → Set → Bool
clash e S = any (λ y. S y && any (λ x. S x && eqb (name_at e x) (name_at e y)) y) (count e)

abbrev pub ambiguous : Expr → Bool
ambiguous e = clash e (first 0 e) || any (λ k. clash e (follow 0 e k)) (count e)

-- ---- sets as words: "bit k for occurrence k"

-- k is in the word w
abbrev pub bit : ℕ → Set
bit w k = eqb (w / 2 ^ k % 2) 1

-- w if the test holds, and else the empty word
abbrev pub when : Bool → ℕ → ℕ
when c w = cond c w 0

abbrev pub first_word : ℕ → Expr → ℕ
first_word b (name a) = 2 ^ b
first_word b (seq e f) = bit_or (first_word b e) (when (nullable e) (first_word (b + count e) f))
first_word b (alt e f) = bit_or (first_word b e) (first_word (b + count e) f)
first_word b (opt e) = first_word b e
first_word b (star e) = first_word b e
first_word b (plus e) = first_word b e

abbrev pub last_word : ℕ → Expr → ℕ
last_word b (name a) = 2 ^ b
last_word b (seq e f) = bit_or (last_word (b + count e) f) (when (nullable f) (last_word b e))
last_word b (alt e f) = bit_or (last_word b e) (last_word (b + count e) f)
last_word b (opt e) = last_word b e
last_word b (star e) = last_word b e
last_word b (plus e) = last_word b e

abbrev pub follow_word : ℕ → Expr → ℕ → ℕ
follow_word b (name a) j = 0
follow_word b (seq e f) j =
    bit_or (bit_or (follow_word b e j) (follow_word (b + count e) f j)) (when (last b e j) (first_word (b + count e) f))
follow_word b (alt e f) j = bit_or (follow_word b e j) (follow_word (b + count e) f j)
follow_word b (opt e) j = follow_word b e j
follow_word b (star e) j = bit_or (follow_word b e j) (when (last b e j) (first_word b e))
follow_word b (plus e) j = bit_or (follow_word b e j) (when (last b e j) (first_word b e))
