-- The search through the sequences in order finds the shortest, of equals the lowest; and there is one such only. Assumes nothing.
use Rattle.std.specs.Prelude.{◌≡◌, refl, Bool, true, false, cond, List, [], ◌∷◌, ℕ, zero, suc, ◌+◌, ◌≤◌, ◌<◌, length}
use Rattle.std.proofs.Common.{sym, ◌∙◌, ap, arith, lt-ltb, le-ltb, eq-eqb}
use Rattle.std.proofs.Math.Option.{Option, none, some}
use Rattle.std.proofs.Math.Decide.{dec_lt, ℕ_discrete}
use Rattle.basic_laws.specs.Bools.{clash}
use Rattle.paper.specs.Inclusion.{not_above, ShortestOf, first_from, headed, lowest_of, shortest_of}
use Rattle.inclusion_laws.specs.Order.{Below, not_above_same}

-- ---- the first answer

-- of f b, f (b + 1), .., n of them
abbrev First : {A : Type 0} → ℕ → ℕ → (ℕ → Option A) → Option A → Type 0
First b n f none = (k : ℕ) → b ≤ k → k < b + n → f k ≡ none
First b n f (some x) = (k : ℕ) × (b ≤ k) × (k < b + n) × (f k ≡ some x) × ((j : ℕ) → b ≤ j → j < k → f j ≡ none)

module _ {A : Type 0} (f : ℕ → Option A) where
  earlier : (b n : ℕ) (o : Option A) → f b ≡ none → First (suc b) n f o → First b (suc n) f o
  earlier b n none e h = λ k i j. elim (ℕ_discrete k b) [ yes c ↦ rw c e | no c ↦ h k (omega arith) (omega arith) ]
  earlier b n (some x) e (k, i, j, g, h) =
      (k, omega arith, omega arith, g, λ l p q. elim (ℕ_discrete l b) [ yes c ↦ rw c e | no c ↦ h l (omega arith) q ])

  first_right : (b n : ℕ) → First b n f (first_from b n f)
  first_right b zero = λ k i j. absurd (omega arith)
  first_right b (suc n) = go (f b) refl (first_right (suc b) n)
    where
      go : (o : Option A) → f b ≡ o → First (suc b) n f (first_from (suc b) n f)
          → First b (suc n) f (elim o [ none ↦ first_from (suc b) n f | some x ↦ some x ])
      go none e h = earlier b n (first_from (suc b) n f) e h
      go (some x) e h = (b, omega arith, omega arith, e, λ j p q. absurd (omega arith))

-- ---- the lowest of one length

abbrev Lowest : ℕ → (List ℕ → Bool) → ℕ → Option (List ℕ) → Type 0
Lowest E L n none = (v : List ℕ) → Below E v → length v ≡ n → L v ≡ true → ⊥
Lowest E L n (some w) = (L w ≡ true) × (length w ≡ n) × ((v : List ℕ) → Below E v → length v ≡ n → L v ≡ true → not_above w v ≡ true)

lowest_zero : (E : ℕ) (L : List ℕ → Bool) (c : Bool) → L [] ≡ c → Lowest E L 0 (cond c (some []) none)
lowest_zero E L true e = (e, refl, λ v p l h. refl)
lowest_zero E L false e = elim [ [] ↦ λ p l h. clash h e | a ∷ v ↦ λ p l h. absurd (omega arith) ]

module _ (E n : ℕ) (L : List ℕ → Bool) where
  -- the lowest that begins with a
  abbrev begun : ℕ → Option (List ℕ)
  begun a = headed a (lowest_of E (λ w. L (a ∷ w)) n)

  module _ (each : (a : ℕ) → Lowest E (λ w. L (a ∷ w)) n (lowest_of E (λ w. L (a ∷ w)) n)) where
    none_begun : (a : ℕ) (v : List ℕ) → begun a ≡ none → Below E v → length v ≡ n → L (a ∷ v) ≡ true → ⊥
    none_begun a v = go (lowest_of E (λ w. L (a ∷ w)) n) (each a)
      where
        go : (o : Option (List ℕ)) → Lowest E (λ w. L (a ∷ w)) n o → headed a o ≡ none → Below E v → length v ≡ n → L (a ∷ v) ≡ true → ⊥
        go none h e = h v
        go (some w) h e = let z : ◌≡◌ {A = ℕ} 0 1 = cc in absurd (omega arith)

    some_begun : (a : ℕ) (x : List ℕ) → begun a ≡ some x → (w : List ℕ) × (x ≡ a ∷ w) × Lowest E (λ w. L (a ∷ w)) n (some w)
    some_begun a x = go (lowest_of E (λ w. L (a ∷ w)) n) (each a)
      where
        go : (o : Option (List ℕ)) → Lowest E (λ w. L (a ∷ w)) n o → headed a o ≡ some x
            → (w : List ℕ) × (x ≡ a ∷ w) × Lowest E (λ w. L (a ∷ w)) n (some w)
        go none h e = let z : ◌≡◌ {A = ℕ} 0 1 = cc in absurd (omega arith)
        go (some w) h e = (w, cc, h)

    lowest_suc : (o : Option (List ℕ)) → First 0 E begun o → Lowest E L (suc n) o
    lowest_suc none h = elim [
      | [] ↦ λ p l t. absurd (omega arith)
      | a ∷ v ↦ λ p l t. none_begun a v (h a (omega arith) (omega (arith, p.0))) p.1 (omega arith) t
    ]
    lowest_suc (some x) (k, i, j, e, h) =
        let (w, c, (t, l, low)) = some_begun k x e in
        (rw c t, rw c (ap suc l), λ v p m u. rw c (go w low v p m u))
      where
        go : (w : List ℕ) → ((v : List ℕ) → Below E v → length v ≡ n → L (k ∷ v) ≡ true → not_above w v ≡ true)
            → (v : List ℕ) → Below E v → length v ≡ suc n → L v ≡ true → not_above (k ∷ w) v ≡ true
        go w low [] p m u = absurd (omega arith)
        go w low (b ∷ v) (q, p) m u = elim (dec_lt k b) [
          | yes g ↦ rw (lt-ltb k b g)
          | no g ↦ elim (ℕ_discrete b k) [
            | yes c ↦ rw (c, le-ltb k k (omega arith), eq-eqb k k refl) (low v p (omega arith) (rw c at u))
            | no c ↦ absurd (none_begun b v (h b (omega arith) (omega arith)) p (omega arith) u)
          ]
        ]

lowest_right : (n E : ℕ) (L : List ℕ → Bool) → Lowest E L n (lowest_of E L n)
lowest_right zero E L = lowest_zero E L (L []) refl
lowest_right (suc n) E L =
    let each : (a : ℕ) → Lowest E (λ w. L (a ∷ w)) n (lowest_of E (λ w. L (a ∷ w)) n) = λ a. lowest_right n E (λ w. L (a ∷ w)) in
    lowest_suc E n L each (lowest_of E L (suc n)) (first_right (begun E n L) 0 E)

-- ---- the shortest

-- one such only
pub only_one : {L : List ℕ → Type 0} {u v : List ℕ} → ShortestOf L u → ShortestOf L v → u ≡ v
only_one {u = u} {v = v} p q =
    let i = p.shortest v q.is_one in
    let j = q.shortest u p.is_one in
    let same : length u ≡ length v = omega arith in
    not_above_same u v same (p.lowest v q.is_one (sym same)) (q.lowest u p.is_one same)

-- of a test
abbrev pub Shortest : (List ℕ → Bool) → List ℕ → Type 0
Shortest L w = ShortestOf (λ v. L v ≡ true) w

-- the answer o is right: nothing is lost, or o is the shortest, of fewer than `most` names
abbrev pub Answer : (most : ℕ) → (List ℕ → Bool) → Option (List ℕ) → Type 0
Answer most L none = (v : List ℕ) → L v ≡ true → ⊥
Answer most L (some w) = Shortest L w × (length w < most)

module _ (most E : ℕ) (L : List ℕ → Bool) (within : (v : List ℕ) → L v ≡ true → Below E v) where
  none_shorter : (k : ℕ) → lowest_of E L k ≡ none → (v : List ℕ) → L v ≡ true → length v ≡ k → ⊥
  none_shorter k e v t l = (rw e at (lowest_right k E L)) v (within v t) l t

  lowest_shortest : (k : ℕ) (w : List ℕ) → lowest_of E L k ≡ some w → ((j : ℕ) → 0 ≤ j → j < k → lowest_of E L j ≡ none) → Shortest L w × (length w ≡ k)
  lowest_shortest k w e h =
      let (t, l, low) = rw e at (lowest_right k E L) in
      let short : (v : List ℕ) → L v ≡ true → length w ≤ length v = λ v u. elim (dec_lt (length v) k) [
        | yes i ↦ absurd (none_shorter (length v) (h (length v) (omega arith) i) v u refl)
        | no i ↦ omega arith
      ] in
      (record { is_one = t; shortest = short; lowest = λ v u m. low v (within v u) (m ∙ l) u }, l)

  -- the search through the sequences gives the right answer
  pub search_is : (o : Option (List ℕ)) → Answer most L o → shortest_of most E L ≡ o
  search_is o a = go (shortest_of most E L) (first_right (lowest_of E L) 0 most) o a
    where
      go : (s : Option (List ℕ)) → First 0 most (lowest_of E L) s → (o : Option (List ℕ)) → Answer most L o → s ≡ o
      go none h none a = refl
      go none h (some w) (p, l) = absurd (none_shorter (length w) (h (length w) (omega arith) (omega arith)) w p.is_one refl)
      go (some x) (k, i, j, e, h) none a = absurd (a x (lowest_shortest k x e h).0.is_one)
      go (some x) (k, i, j, e, h) (some w) (p, l) = ap some (only_one (lowest_shortest k x e h).0 p)
