-- The follow sets of an expression, put into a list of words: word k is that of occurrence k. Assumes nothing.
use Rattle.std.specs.Prelude.{◌≡◌, refl, List, [], ◌∷◌, ℕ, zero, suc, ◌+◌, ◌<◌, length, get_or}
use Rattle.std.proofs.Common.{sym, ap, ap₂, ◌∙◌, arith, ext_get_or}
use Rattle.std.specs.Int.Bits.{bit_or, or_zero_r}
use Rattle.paper.specs.Expressions.{Expr, name, seq, alt, opt, count}
use Rattle.paper.specs.Sets.{when, last, first_word, last_word, follow_word}
use Rattle.content_laws.specs.Words.{last_word_lem}
use Rattle.sets.specs.Union.{or_assoc}
use Rattle.set_walks.specs.Joined.{joined, length_joined, joined_at}

-- each word with f's word for its place in it, where the first place is j
abbrev pub or_from : (ℕ → ℕ) → ℕ → List ℕ → List ℕ
or_from f j [] = []
or_from f j (w ∷ l) = bit_or w (f j) ∷ or_from f (suc j) l

-- the words with e's follow sets in them, where e's occurrences are numbered from b on
abbrev pub linked : ℕ → Expr → List ℕ → List ℕ
linked b e l = or_from (follow_word b e) 0 l

-- ---- what stands at each place

module _ (f : ℕ → ℕ) where
  length_or_from : (j : ℕ) (l : List ℕ) → length (or_from f j l) ≡ length l
  length_or_from j [] = refl
  length_or_from j (w ∷ l) = ap suc (length_or_from (suc j) l)

  or_from_at : (j : ℕ) (l : List ℕ) (k : ℕ) → k < length l → get_or (or_from f j l) k 0 ≡ bit_or (get_or l k 0) (f (j + k))
  or_from_at j [] k h = absurd (omega arith)
  or_from_at j (w ∷ l) zero h = ap (λ i. bit_or w (f i)) (omega arith)
  or_from_at j (w ∷ l) (suc k) h = or_from_at (suc j) l k (omega arith) ∙ ap (λ i. bit_or (get_or l k 0) (f i)) (omega arith)

pub length_linked : (b : ℕ) (e : Expr) (l : List ℕ) → length (linked b e l) ≡ length l
length_linked b e l = length_or_from (follow_word b e) 0 l

pub linked_at : (b : ℕ) (e : Expr) (l : List ℕ) (k : ℕ) → k < length l → get_or (linked b e l) k 0 ≡ bit_or (get_or l k 0) (follow_word b e k)
linked_at b e l k h = or_from_at (follow_word b e) 0 l k h ∙ ap (λ i. bit_or (get_or l k 0) (follow_word b e i)) (omega arith)

-- a list of the same length that holds at each place what `linked` does
linked_ext : (b : ℕ) (e : Expr) (l m : List ℕ) → length m ≡ length l → ((k : ℕ) → k < length l → get_or m k 0 ≡ bit_or (get_or l k 0) (follow_word b e k)) → m ≡ linked b e l
linked_ext b e l m n f = ext_get_or 0 m (linked b e l) (n ∙ sym (length_linked b e l)) (λ k h. let i : k < length l = omega arith in f k i ∙ sym (linked_at b e l k i))

-- ---- the links of an expression are those of its parts, and those between them

module _ (b : ℕ) (e f : Expr) (l : List ℕ) where
  abbrev mid : ℕ
  mid = b + count e

  -- e's links, then f's
  abbrev both : List ℕ
  both = linked mid f (linked b e l)

  length_both : length both ≡ length l
  length_both = length_linked mid f (linked b e l) ∙ length_linked b e l

  both_at : (k : ℕ) → k < length l → get_or both k 0 ≡ bit_or (get_or l k 0) (bit_or (follow_word b e k) (follow_word mid f k))
  both_at k h =
      linked_at mid f (linked b e l) k (omega (arith, length_linked b e l))
      ∙ ap (λ w. bit_or w (follow_word mid f k)) (linked_at b e l k h)
      ∙ or_assoc (get_or l k 0) (follow_word b e k) (follow_word mid f k)

  pub linked_alt : both ≡ linked b (alt e f) l
  linked_alt = linked_ext b (alt e f) l both length_both both_at

  pub linked_seq : joined (last_word b e) (first_word mid f) both ≡ linked b (seq e f) l
  linked_seq = linked_ext b (seq e f) l _ (length_joined (last_word b e) (first_word mid f) both ∙ length_both) λ k h.
      joined_at (last_word b e) (first_word mid f) both k (omega (arith, length_both))
      ∙ ap₂ (λ w c. bit_or w (when c (first_word mid f))) (both_at k h) (last_word_lem b e k)
      ∙ or_assoc (get_or l k 0) (bit_or (follow_word b e k) (follow_word mid f k)) (when (last b e k) (first_word mid f))

-- from the last occurrences round to the first
pub linked_round : (b : ℕ) (e d : Expr) (l : List ℕ) → ((k : ℕ) → follow_word b d k ≡ bit_or (follow_word b e k) (when (last b e k) (first_word b e)))
    → joined (last_word b e) (first_word b e) (linked b e l) ≡ linked b d l
linked_round b e d l same = linked_ext b d l _ (length_joined (last_word b e) (first_word b e) (linked b e l) ∙ length_linked b e l) λ k h.
    joined_at (last_word b e) (first_word b e) (linked b e l) k (omega (arith, length_linked b e l))
    ∙ ap₂ (λ w c. bit_or w (when c (first_word b e))) (linked_at b e l k h) (last_word_lem b e k)
    ∙ or_assoc (get_or l k 0) (follow_word b e k) (when (last b e k) (first_word b e))
    ∙ ap (bit_or (get_or l k 0)) (sym (same k))

pub linked_name : (b a : ℕ) (l : List ℕ) → l ≡ linked b (name a) l
linked_name b a l = linked_ext b (name a) l l refl (λ k h. sym (or_zero_r (get_or l k 0)))

pub linked_opt : (b : ℕ) (e : Expr) (l : List ℕ) → linked b e l ≡ linked b (opt e) l
linked_opt b e l = linked_ext b (opt e) l (linked b e l) (length_linked b e l) (linked_at b e l)
