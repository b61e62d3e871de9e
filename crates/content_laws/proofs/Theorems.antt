-- What is proved, in one place. Nothing here is new: each line cites the module that proves it. Assumes nothing.
use Rattle.std.specs.Prelude.{◌≡◌, ◌↔◌, ◌⊎◌, ℕ, ◌+◌, ◌^◌, ◌≤◌, ◌<◌, List, [], ◌∷◌, ◌++◌, map, T}
use Rattle.std.proofs.Math.Option.{IsSome}
use Rattle.paper.specs.Expressions.{Expr, count, name_at, Matches, Marked, Ambiguous}
use Rattle.content_laws.specs.Marked.{matches_marked}
use Rattle.paper.specs.Matching.{matches, begins}
use Rattle.content_laws.proofs.Matching.{matches_iff}
use Rattle.content_laws.proofs.Begins.{begins_iff}
use Rattle.paper.specs.Sets.{nullable, first, last, follow, ambiguous, bit, first_word, last_word, follow_word}
use Rattle.content_laws.specs.Within.{Within}
use Rattle.paper.specs.Rules.{start, at}
use Rattle.content_laws.specs.Walk.{Walk, Reads, after}
use Rattle.content_laws.proofs.Glushkov.{glushkov}
use Rattle.content_laws.specs.Useful.{useful}
use Rattle.content_laws.proofs.Useful.{reached, reaches, reads_iff, nullable_iff, first_iff, last_iff, follow_iff}
use Rattle.content_laws.specs.Ambiguity.{Clash}
use Rattle.content_laws.proofs.Ambiguity.{ambiguous_iff}
use Rattle.content_laws.proofs.Decide.{decides}
use Rattle.content_laws.specs.Run.{run, accepts}
use Rattle.content_laws.proofs.Run.{accepts_iff, prefix_iff}
use Rattle.content_laws.specs.Words.{first_word_lem, last_word_lem, follow_word_lem, follow_fits}

-- A word is e's exactly if it is the names of the occurrences of a marked word.
pub marking : (e : Expr) (w : List ℕ) → Matches e w ↔ ((p : List ℕ) × Marked 0 e p × (map (name_at e) p ≡ w))
marking = matches_marked

-- The test by marks that move says what e means, ambiguous or not.
pub matching : (e : Expr) (w : List ℕ) → T (matches e w) ↔ Matches e w
matching = matches_iff

-- .. and that of a beginning says whether a word of e begins so.
pub beginning : (e : Expr) (w : List ℕ) → T (begins e w) ↔ ((v : List ℕ) × Matches e (w ++ v))
beginning = begins_iff

-- A. The marked words are the walks along Glushkov's sets.
pub theorem_A : (b : ℕ) (e : Expr) (p : List ℕ) → Marked b e p ↔ Walk b e start p
theorem_A = glushkov

-- and the sets mean what their names say
pub nullable_means : (b : ℕ) (e : Expr) → T (nullable e) ↔ Marked b e []
nullable_means = nullable_iff

pub first_means : (b : ℕ) (e : Expr) (k : ℕ) → T (first b e k) ↔ ((v : List ℕ) × Marked b e (k ∷ v))
first_means = first_iff

pub last_means : (b : ℕ) (e : Expr) (k : ℕ) → T (last b e k) ↔ ((u : List ℕ) × Marked b e (u ++ k ∷ []))
last_means = last_iff

pub follow_means : (b : ℕ) (e : Expr) (j k : ℕ) → T (follow b e j k) ↔ ((u : List ℕ) × (v : List ℕ) × Marked b e (u ++ j ∷ k ∷ v))
follow_means = follow_iff

-- B. Every occurrence is useful: some marked word reads it; it is reached from the start, and reaches an end.
pub theorem_B : (b : ℕ) (e : Expr) (k : ℕ) → Within b (count e) k → (u : List ℕ) × (v : List ℕ) × Marked b e (u ++ k ∷ v)
theorem_B = useful

pub theorem_B_reached : (b : ℕ) (e : Expr) (k : ℕ) → Within b (count e) k → (p : List ℕ) × Reads b e start p × (after start p ≡ at k)
theorem_B_reached b e k = reached b e (at k)

pub theorem_B_reaches : (b : ℕ) (e : Expr) (k : ℕ) → Within b (count e) k → (p : List ℕ) × Walk b e (at k) p
theorem_B_reaches b e k = reaches b e (at k)

-- So what can be read from the start is what some marked word begins with.
pub theorem_B_continued : (b : ℕ) (e : Expr) (p : List ℕ) → Reads b e start p ↔ ((v : List ℕ) × Marked b e (p ++ v))
theorem_B_continued = reads_iff

-- C. An expression is ambiguous exactly if `first`, or the `follow` of an occurrence, holds two occurrences of one name; and
-- the test decides it.
pub theorem_C : (e : Expr) → Ambiguous e ↔ (Clash e (first 0 e) ⊎ ((k : ℕ) × Clash e (follow 0 e k)))
theorem_C = ambiguous_iff

pub theorem_C_test : (e : Expr) → T (ambiguous e) ↔ Ambiguous e
theorem_C_test = decides

-- D. The run answers what an unambiguous expression means.
pub theorem_D : (e : Expr) → ¬ Ambiguous e → (w : List ℕ) → T (accepts e w) ↔ Matches e w
theorem_D = accepts_iff

-- E. After u the run is not stuck exactly if a word of the expression begins with u.
pub theorem_E : (e : Expr) → ¬ Ambiguous e → (u : List ℕ) → IsSome (run e start u) ↔ ((v : List ℕ) × Matches e (u ++ v))
theorem_E = prefix_iff

-- The sets as words, bit k for occurrence k: of n occurrences, each word has n bits.
pub first_bits : (b : ℕ) (e : Expr) (k : ℕ) → bit (first_word b e) k ≡ first b e k
first_bits = first_word_lem

pub last_bits : (b : ℕ) (e : Expr) (k : ℕ) → bit (last_word b e) k ≡ last b e k
last_bits = last_word_lem

pub follow_bits : (b : ℕ) (e : Expr) (j k : ℕ) → bit (follow_word b e j) k ≡ follow b e j k
follow_bits = follow_word_lem

pub follow_width : (b : ℕ) (e : Expr) (j n : ℕ) → b + count e ≤ n → follow_word b e j < 2 ^ n
follow_width = follow_fits
