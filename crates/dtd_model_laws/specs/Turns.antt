-- A turn of the reader of models, with no bound to be seen: a bound above the text's length is never too small. Assumes nothing.
use Rattle.std.specs.Prelude.{◌≡◌, Bool, List, ℕ, zero, suc, ◌≤◌, ◌<◌, eqb, length}
use Rattle.std.proofs.Common.{arith}
use Rattle.paper.specs.Dtd.Letters.{Name, is_white, run, past, opening, comma, bar}
use Rattle.paper.specs.Dtd.Declarations.{Part, sequence, choice, Parts, ◌and◌}
use Rattle.paper.specs.Dtd.Readers.{ok, Reader, if_at, onward, ◌>>=◌, ◌>>◌, bounded, mark, S?}
use Rattle.paper.specs.Dtd.Reading.{named, behind, final, before, group, rest}
use Rattle.dtd_laws.specs.Leaves.{run_past, behind_less}
use Rattle.dtd_laws.specs.Comments.{onward_same, mark_less}
use Rattle.dtd_laws.specs.Models.{part_exact, group_exact}

past_less : (s : List ℕ) → length (past is_white s) ≤ length s
past_less s = behind_less (run is_white s) (past is_white s) (run_past is_white s).0

module _ (known : Name → Bool) where
  -- a part; what stands behind the first; a bracket; from a separator on. g and r read brackets and what follows a separator.
  abbrev pub part_by : Reader Part → Reader Part
  part_by g = if_at (eqb opening) g (named known)

  abbrev pub tail_by : (ℕ → Reader Parts) → Part → Reader Part
  tail_by r p =
      if_at (eqb comma) (behind known (λ ps. sequence (p and ps)) (r comma))
      (if_at (eqb bar) (behind known (choice p) (r bar)) (behind known sequence (final known p)))

  abbrev pub group_by : Reader Part → (ℕ → Reader Parts) → Reader Part
  group_by g r = do
    mark opening
    S?
    p ← part_by g
    S?
    tail_by r p

  abbrev pub rest_by : Reader Part → (ℕ → Reader Parts) → ℕ → Reader Parts
  rest_by g r j = do
    mark j
    S?
    p ← part_by g
    S?
    if_at (eqb j) (before known p (r j)) (final known p)

  -- two that agree on shorter texts
  module _ (g g' : Reader Part) (r r' : ℕ → Reader Parts) where
    -- what stands behind a part, the text from there on
    tail_same : (p : Part) (s : List ℕ) → r comma s ≡ r' comma s → r bar s ≡ r' bar s → tail_by r p s ≡ tail_by r' p s
    tail_same p s e f = rw (e, f)

    more_same : (j : ℕ) (p : Part) (s : List ℕ) → r j s ≡ r' j s
        → if_at (eqb j) (before known p (r j)) (final known p) s ≡ if_at (eqb j) (before known p (r' j)) (final known p) s
    more_same j p s e = rw e

    -- what g' reads as a part is no longer than the text
    module _ (short : (s t : List ℕ) (p : Part) → part_by g' s ≡ ok p t → length t ≤ length s) where
      parted : {B : Type 0} (f f' : Part → Reader B) (s : List ℕ) → g s ≡ g' s
          → ((p : Part) (t : List ℕ) → length t ≤ length s → f p t ≡ f' p t)
          → onward (part_by g s) (λ p t. f p (past is_white t)) ≡ onward (part_by g' s) (λ p t. f' p (past is_white t))
      parted f f' s e h =
          rw e
          (onward_same (part_by g' s) (λ p t. f p (past is_white t)) (λ p t. f' p (past is_white t))
          (λ p t q. let a = short s t p q in let b = past_less t in h p (past is_white t) (omega arith)))

      -- behind a mark
      marked : {B : Type 0} (b : ℕ) (f f' : Part → Reader B) (s : List ℕ) → ((t : List ℕ) → length t < length s → g t ≡ g' t)
          → ((p : Part) (t : List ℕ) → length t < length s → f p t ≡ f' p t)
          → onward (mark b s) (λ u t. onward (part_by g (past is_white t)) (λ p t. f p (past is_white t)))
          ≡ onward (mark b s) (λ u t. onward (part_by g' (past is_white t)) (λ p t. f' p (past is_white t)))
      marked b f f' s h k =
          onward_same (mark b s) (λ u t. onward (part_by g (past is_white t)) (λ p t. f p (past is_white t)))
          (λ u t. onward (part_by g' (past is_white t)) (λ p t. f' p (past is_white t)))
          (λ u t q.
          let a = mark_less b s q in
          let c = past_less t in
          parted f f' (past is_white t) (h (past is_white t) (omega arith)) (λ p v d. k p v (omega arith)))

      pub group_same : (s : List ℕ) → ((t : List ℕ) → length t < length s → g t ≡ g' t)
          → ((j : ℕ) (t : List ℕ) → length t < length s → r j t ≡ r' j t) → group_by g r s ≡ group_by g' r' s
      group_same s h k = marked opening (tail_by r) (tail_by r') s h (λ p t d. tail_same p t (k comma t d) (k bar t d))

      pub rest_same : (j : ℕ) (s : List ℕ) → ((t : List ℕ) → length t < length s → g t ≡ g' t)
          → ((j : ℕ) (t : List ℕ) → length t < length s → r j t ≡ r' j t) → rest_by g r j s ≡ rest_by g' r' j s
      rest_same j s h k =
          marked j (λ p. if_at (eqb j) (before known p (r j)) (final known p)) (λ p. if_at (eqb j) (before known p (r' j)) (final known p)) s h
          (λ p t d. more_same j p t (k j t d))

  part_less : (n : ℕ) (s t : List ℕ) (p : Part) → part_by (group known n) s ≡ ok p t → length t ≤ length s
  part_less n s t p e = let x = part_exact known (group_exact known n) in x.less {a = p} {s = s} {r = t} (x.gives {s = s} e)

  mutual
    group_enough : (n m : ℕ) (s : List ℕ) → length s < n → length s < m → group known n s ≡ group known m s
    group_enough zero m s h k = absurd (omega arith)
    group_enough (suc n) zero s h k = absurd (omega arith)
    group_enough (suc n) (suc m) s h k =
        group_same (group known n) (group known m) (rest known n) (rest known m) (part_less m) s
        (λ t d. group_enough n m t (omega arith) (omega arith))
        (λ j t d. rest_enough n m j t (omega arith) (omega arith))

    rest_enough : (n m j : ℕ) (s : List ℕ) → length s < n → length s < m → rest known n j s ≡ rest known m j s
    rest_enough zero m j s h k = absurd (omega arith)
    rest_enough (suc n) zero j s h k = absurd (omega arith)
    rest_enough (suc n) (suc m) j s h k =
        rest_same (group known n) (group known m) (rest known n) (rest known m) (part_less m) j s
        (λ t d. group_enough n m t (omega arith) (omega arith))
        (λ j t d. rest_enough n m j t (omega arith) (omega arith))

  -- ---- with no bound to be seen

  abbrev pub groups : Reader Part
  groups = bounded (group known)

  abbrev pub rests : ℕ → Reader Parts
  rests j = bounded (λ n. rest known n j)

  bounded_less : (s t : List ℕ) (p : Part) → part_by groups s ≡ ok p t → length t ≤ length s
  bounded_less s t p e = part_less (suc (length s)) s t p e

  pub group_turn : (s : List ℕ) → groups s ≡ group_by groups rests s
  group_turn s =
      group_same (group known (length s)) groups (rest known (length s)) rests bounded_less s
      (λ t d. group_enough (length s) (suc (length t)) t d (omega arith))
      (λ j t d. rest_enough (length s) (suc (length t)) j t d (omega arith))

  pub rest_turn : (j : ℕ) (s : List ℕ) → rests j s ≡ rest_by groups rests j s
  rest_turn j s =
      rest_same (group known (length s)) groups (rest known (length s)) rests bounded_less j s
      (λ t d. group_enough (length s) (suc (length t)) t d (omega arith))
      (λ j t d. rest_enough (length s) (suc (length t)) j t d (omega arith))
