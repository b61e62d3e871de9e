-- The sequences in order, shorter before longer and of equals the lower first, are numbered: `rank`. Assumes nothing.
use Rattle.std.specs.Prelude.{◌≡◌, refl, Bool, true, false, ◌&&◌, ◌||◌, ◌⊎◌, List, [], ◌∷◌, ◌++◌, ℕ, suc, ◌+◌, ◌*◌, ◌≤◌, ◌<◌, ltb, eqb, length}
use Rattle.std.proofs.Common.{ap₂, inl, inr, arith, mul-le-mul_right, ltb-true, lt-ltb, le-ltb, eq-eqb, eqb-true}
use Rattle.std.proofs.Math.Decide.{dec_lt, ℕ_discrete}
use Rattle.paper.specs.Inclusion.{not_above}

-- each name is below E
abbrev pub Below : ℕ → List ℕ → Type 0
Below E [] = Unit {0}
Below E (a ∷ w) = (a < E) × Below E w

-- the number of a sequence that begins with one numbered r
abbrev pub rank : ℕ → ℕ → List ℕ → ℕ
rank E r [] = r
rank E r (a ∷ w) = rank E (r * E + suc a) w

pub rank_snoc : (w : List ℕ) (E r a : ℕ) → rank E r (w ++ a ∷ []) ≡ rank E r w * E + suc a
rank_snoc [] E r a = refl
rank_snoc (b ∷ w) E r a = rank_snoc w E (r * E + suc b) a

-- what comes later stays later, whatever is appended
above : (v w : List ℕ) (E r s : ℕ) → Below E v → length v ≡ length w → r < s → rank E r v < rank E s w
above [] [] E r s p e h = h
above (b ∷ v) (a ∷ w) E r s (i, p) e h =
    let m = mul-le-mul_right E h in
    above v w E (r * E + suc b) (s * E + suc a) p (omega arith) (omega arith)
above [] (a ∷ w) E r s p e h = absurd (omega arith)
above (b ∷ v) [] E r s p e h = absurd (omega arith)

-- the longer comes later
pub longer_above : (w v : List ℕ) (E r s : ℕ) → 1 ≤ E → Below E v → length v < length w → r ≤ s → rank E r v < rank E s w
longer_above [] v E r s one p e h = absurd (omega arith)
longer_above (a ∷ w) v E r s one p e h =
    let m = mul-le-mul_right s one in
    let i : r < s * E + suc a = omega arith in
    elim (ℕ_discrete (length v) (length w)) [
      | yes c ↦ above v w E r (s * E + suc a) p c i
      | no c ↦ longer_above w v E r (s * E + suc a) one p (omega arith) (omega arith)
    ]

-- of two that are as long, the one that does not come later is not above the other
pub rank_lowest : (w v : List ℕ) (E r : ℕ) → Below E v → length v ≡ length w → rank E r w ≤ rank E r v → not_above w v ≡ true
rank_lowest [] v E r p e h = refl
rank_lowest (a ∷ w) [] E r p e h = absurd (omega arith)
rank_lowest (a ∷ w) (b ∷ v) E r (i, p) e h = elim (dec_lt a b) [
  | yes l ↦ rw (lt-ltb a b l)
  | no l ↦ elim (ℕ_discrete a b) [
    | yes c ↦ rw (c, le-ltb b b (omega arith), eq-eqb b b refl) (rank_lowest w v E (r * E + suc b) p (omega arith) (rw c at h))
    | no c ↦ let m = above v w E (r * E + suc b) (r * E + suc a) p (omega arith) (omega arith) in absurd (omega arith)
  ]
]

-- what `notAbove` says of the first names
not_above_cases : (a b : ℕ) (u v : List ℕ) → not_above (a ∷ u) (b ∷ v) ≡ true → (a < b) ⊎ ((a ≡ b) × (not_above u v ≡ true))
not_above_cases a b u v = go (ltb a b) (eqb a b) refl refl
  where
    go : (c d : Bool) → ltb a b ≡ c → eqb a b ≡ d → c || (d && not_above u v) ≡ true → (a < b) ⊎ ((a ≡ b) × (not_above u v ≡ true))
    go true d p q h = inl (ltb-true a b p)
    go false true p q h = inr (eqb-true a b q, h)
    go false false p q h = let z : ◌≡◌ {A = ℕ} 0 1 = cc in absurd (omega arith)

-- two that are as long, neither of which is above the other, are the same
pub not_above_same : (u v : List ℕ) → length u ≡ length v → not_above u v ≡ true → not_above v u ≡ true → u ≡ v
not_above_same [] [] e g h = refl
not_above_same [] (b ∷ v) e g h = absurd (omega arith)
not_above_same (a ∷ u) [] e g h = absurd (omega arith)
not_above_same (a ∷ u) (b ∷ v) e g h = go (not_above_cases a b u v g) (not_above_cases b a v u h) (not_above_same u v (omega arith))
  where
    go : (a < b) ⊎ ((a ≡ b) × (not_above u v ≡ true)) → (b < a) ⊎ ((b ≡ a) × (not_above v u ≡ true))
        → (not_above u v ≡ true → not_above v u ≡ true → u ≡ v) → a ∷ u ≡ b ∷ v
    go (inl i) (inl j) f = absurd (omega arith)
    go (inl i) (inr (c, j)) f = absurd (omega arith)
    go (inr (c, i)) (inl j) f = absurd (omega arith)
    go (inr (c, i)) (inr (d, j)) f = ap₂ ◌∷◌ c (f i j)
