-- Sets as words. Bit k of a word says whether k is in the set, so that `|` is union, and the sets of an expression of at most
-- 64 occurrences fit a u64. Assumes nothing.
use Rattle.std.specs.Prelude.{◌≡◌, Bool, true, false, ℕ, ◌+◌, ◌^◌, ◌≤◌, ◌<◌}
use Rattle.std.proofs.Common.{arith, pow_pos}
use Rattle.std.proofs.Math.Pow.{pow-lt}
use Rattle.std.proofs.lemmas.Nat.{or_lt}
use Rattle.paper.specs.Expressions.{Expr, name, seq, alt, opt, star, plus, count}
use Rattle.paper.specs.Sets.{nullable, first, last, follow, bit, when, first_word, last_word, follow_word}
use Rattle.paper_laws.specs.Words.{bit_of_or, bit_zero, bit_one, bit_when}

-- ---- Glushkov's sets as words

pub first_word_lem : (b : ℕ) (e : Expr) (k : ℕ) → bit (first_word b e) k ≡ first b e k
first_word_lem b (name a) k = bit_one b k
first_word_lem b (seq e f) k = simp (bit_of_or, bit_when, first_word_lem b e k, first_word_lem (b + count e) f k)
first_word_lem b (alt e f) k = simp (bit_of_or, first_word_lem b e k, first_word_lem (b + count e) f k)
first_word_lem b (opt e) k = first_word_lem b e k
first_word_lem b (star e) k = first_word_lem b e k
first_word_lem b (plus e) k = first_word_lem b e k

pub last_word_lem : (b : ℕ) (e : Expr) (k : ℕ) → bit (last_word b e) k ≡ last b e k
last_word_lem b (name a) k = bit_one b k
last_word_lem b (seq e f) k = simp (bit_of_or, bit_when, last_word_lem b e k, last_word_lem (b + count e) f k)
last_word_lem b (alt e f) k = simp (bit_of_or, last_word_lem b e k, last_word_lem (b + count e) f k)
last_word_lem b (opt e) k = last_word_lem b e k
last_word_lem b (star e) k = last_word_lem b e k
last_word_lem b (plus e) k = last_word_lem b e k

pub follow_word_lem : (b : ℕ) (e : Expr) (j k : ℕ) → bit (follow_word b e j) k ≡ follow b e j k
follow_word_lem b (name a) j k = bit_zero k
follow_word_lem b (seq e f) j k =
    simp (bit_of_or, bit_when, first_word_lem (b + count e) f k, follow_word_lem b e j k, follow_word_lem (b + count e) f j k)
follow_word_lem b (alt e f) j k = simp (bit_of_or, follow_word_lem b e j k, follow_word_lem (b + count e) f j k)
follow_word_lem b (opt e) j k = follow_word_lem b e j k
follow_word_lem b (star e) j k = simp (bit_of_or, bit_when, first_word_lem b e k, follow_word_lem b e j k)
follow_word_lem b (plus e) j k = simp (bit_of_or, bit_when, first_word_lem b e k, follow_word_lem b e j k)

-- ---- the words of n occurrences have n bits

when_fits : (c : Bool) {w : ℕ} (n : ℕ) → w < 2 ^ n → when c w < 2 ^ n
when_fits true n h = h
when_fits false n h = pow_pos n

pub first_fits : (b : ℕ) (e : Expr) (n : ℕ) → b + count e ≤ n → first_word b e < 2 ^ n
first_fits b (name a) n h = pow-lt (omega arith)
first_fits b (seq e f) n h =
    or_lt n _ _ (first_fits b e n (omega arith)) (when_fits (nullable e) n (first_fits (b + count e) f n (omega arith)))
first_fits b (alt e f) n h = or_lt n _ _ (first_fits b e n (omega arith)) (first_fits (b + count e) f n (omega arith))
first_fits b (opt e) n h = first_fits b e n h
first_fits b (star e) n h = first_fits b e n h
first_fits b (plus e) n h = first_fits b e n h

pub last_fits : (b : ℕ) (e : Expr) (n : ℕ) → b + count e ≤ n → last_word b e < 2 ^ n
last_fits b (name a) n h = pow-lt (omega arith)
last_fits b (seq e f) n h =
    or_lt n _ _ (last_fits (b + count e) f n (omega arith)) (when_fits (nullable f) n (last_fits b e n (omega arith)))
last_fits b (alt e f) n h = or_lt n _ _ (last_fits b e n (omega arith)) (last_fits (b + count e) f n (omega arith))
last_fits b (opt e) n h = last_fits b e n h
last_fits b (star e) n h = last_fits b e n h
last_fits b (plus e) n h = last_fits b e n h

pub follow_fits : (b : ℕ) (e : Expr) (j n : ℕ) → b + count e ≤ n → follow_word b e j < 2 ^ n
follow_fits b (name a) j n h = pow_pos n
follow_fits b (seq e f) j n h =
    or_lt n _ _ (or_lt n _ _ (follow_fits b e j n (omega arith)) (follow_fits (b + count e) f j n (omega arith)))
    (when_fits (last b e j) n (first_fits (b + count e) f n (omega arith)))
follow_fits b (alt e f) j n h = or_lt n _ _ (follow_fits b e j n (omega arith)) (follow_fits (b + count e) f j n (omega arith))
follow_fits b (opt e) j n h = follow_fits b e j n h
follow_fits b (star e) j n h = or_lt n _ _ (follow_fits b e j n h) (when_fits (last b e j) n (first_fits b e n h))
follow_fits b (plus e) j n h = or_lt n _ _ (follow_fits b e j n h) (when_fits (last b e j) n (first_fits b e n h))
