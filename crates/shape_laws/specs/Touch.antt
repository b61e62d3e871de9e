-- What is touched, as the code goes through it: the one parent, then the piece.
use Rattle.std.specs.Prelude.{◌≡◌, refl, Bool, true, false, cond, ◌&&◌, ◌||◌, List, [], ◌∷◌, ◌++◌, ℕ, zero, suc, ◌+◌, ◌≤◌, ◌<◌, leb, ltb, eqb, length, take, drop, get_or}
use Rattle.std.proofs.Common.{sym, ap, ap₂, ◌∙◌, true≢false, suc-le-suc, arith, eq-eqb, ne_eqb, length-take}
use Rattle.std.proofs.Math.Bool.{and-eq-true_iff}
use Rattle.std.proofs.lemmas.Bool.{lt-leb}
use Rattle.shape_laws.specs.Ends.{rest_next, rest_none}
use Rattle.shape_laws.specs.Local.{at_depth}
use Rattle.shape_laws.specs.Bridge.{length_toks}
use Rattle.paper.specs.Judgement.{fault_at, first, or_else}
use Rattle.paper.specs.Tokens.{balanced, level, parent, run, starts, tok_of, toks, touched}
use Rattle.paper.specs.declared.Tok.{Tok}
use Rattle.paper.specs.declared.Tok.TheVariants.{Start, End, Text, Attr, Value, Bad}
use Rattle.basic_laws.specs.Bools.{clash}

-- an open element around a balanced rest is no balanced part
pub unbalanced : (k : ℕ) (a : List Tok) (n : ℕ) (b : List Tok) → balanced b ≡ true → level (run k (a ++ (Start n ∷ b))) ≡ true → ⊥
unbalanced k [] n b h e = true≢false (sym e ∙ ap level (at_depth (suc k) b h))
unbalanced k (Start v ∷ a) n b h e = unbalanced (suc k) a n b h e
unbalanced zero (End ∷ a) n b h e = true≢false (sym e)
unbalanced (suc k) (End ∷ a) n b h e = unbalanced k a n b h e
unbalanced k (Text v ∷ a) n b h e = unbalanced k a n b h e
unbalanced k (Attr v ∷ a) n b h e = unbalanced k a n b h e
unbalanced k (Value v ∷ a) n b h e = unbalanced k a n b h e
unbalanced k (Bad ∷ a) n b h e = unbalanced k a n b h e

-- so of two starts the earlier is no parent
not_both : (a : List Tok) (j : ℕ) → parent a j ≡ true → balanced a ≡ true → ⊥
not_both a j p b = go zero a j p b
  where
    go : (k : ℕ) (a : List Tok) (j : ℕ) → parent a j ≡ true → level (run k a) ≡ true → ⊥
    go k [] zero p b = true≢false (sym p)
    go k [] (suc j) p b = true≢false (sym p)
    go k (Start n ∷ a) zero p b = unbalanced k [] n a p b
    go k (End ∷ a) zero p b = true≢false (sym p)
    go k (Text n ∷ a) zero p b = true≢false (sym p)
    go k (Attr n ∷ a) zero p b = true≢false (sym p)
    go k (Value n ∷ a) zero p b = true≢false (sym p)
    go k (Bad ∷ a) zero p b = true≢false (sym p)
    go k (Start n ∷ a) (suc j) p b = go (suc k) a j p b
    go zero (End ∷ a) (suc j) p b = true≢false (sym b)
    go (suc k) (End ∷ a) (suc j) p b = go k a j p b
    go k (Text n ∷ a) (suc j) p b = go k a j p b
    go k (Attr n ∷ a) (suc j) p b = go k a j p b
    go k (Value n ∷ a) (suc j) p b = go k a j p b
    go k (Bad ∷ a) (suc j) p b = go k a j p b

parent_one : (a : List Tok) (i j : ℕ) → parent a i ≡ true → parent a j ≡ true → i ≡ j
parent_one [] zero j p q = clash p refl
parent_one [] (suc i) j p q = clash p refl
parent_one (t ∷ a) zero zero p q = refl
parent_one (t ∷ a) zero (suc j) p q = absurd (not_both a j q ((and-eq-true_iff (starts t) (balanced a)).0 p).1)
parent_one (t ∷ a) (suc i) zero p q = absurd (not_both a i p ((and-eq-true_iff (starts t) (balanced a)).0 q).1)
parent_one (t ∷ a) (suc i) (suc j) p q = ap suc (parent_one a i j p q)

-- the places of the piece
abbrev pub inside : ℕ → ℕ → ℕ → Bool
inside at n i = leb at i && ltb i (at + n)

-- the parent's place is before the piece
parent_early : (a : List Tok) (i : ℕ) → parent a i ≡ true → i < length a
parent_early [] zero e = clash e refl
parent_early [] (suc i) e = clash e refl
parent_early (t ∷ a) zero e = omega arith
parent_early (t ∷ a) (suc i) e = suc-le-suc (parent_early a i e)

is_parent : (a : List Tok) (p i : ℕ) → parent a p ≡ true → parent a i ≡ eqb i p
is_parent a p i e = go (parent a i) refl
  where
    go : (b : Bool) → parent a i ≡ b → b ≡ eqb i p
    go true f = sym (eq-eqb i p (parent_one a i p f e))
    go false f = sym (ne_eqb i p (λ z. true≢false (sym e ∙ ap (parent a) (sym z) ∙ f)))

module _ (fault : ℕ → List Tok → List Tok → ℕ) (given : ℕ → ℕ → List Tok → ℕ) where
  first_same : (f g : ℕ → Bool) (i : ℕ) (d : List Tok) → ((x : ℕ) → i ≤ x → f x ≡ g x) → first fault given f i d ≡ first fault given g i d
  first_same f g i [] h = refl
  first_same f g i (x ∷ d) h =
      ap₂ (λ b r. or_else (cond b (fault_at fault (x ∷ d)) 0) (given (fault_at fault (x ∷ d)) i (x ∷ d)) r) (h i (omega arith)) (first_same f g (suc i) d (λ y l. h y (omega arith)))

  module _ (f : ℕ → Bool) (p : ℕ) (h : (x : ℕ) → x ≤ p → f x ≡ false) where
    abbrev with_p : ℕ → Bool
    with_p x = eqb x p || f x

    one_first : (i j : ℕ) (d : List Tok) → i + j ≡ p → first fault given with_p i d ≡ or_else (fault_at fault (drop j d)) (given (fault_at fault (drop j d)) p (drop j d)) (first fault given f i d)
    one_first i zero [] e = refl
    one_first i (suc j) [] e = refl
    one_first i zero (x ∷ d) e =
        let z : i ≡ p = omega arith in
        rw (h i (omega arith), eq-eqb i p z)
        (ap₂ (λ y r. or_else (fault_at fault (x ∷ d)) (given (fault_at fault (x ∷ d)) y (x ∷ d)) r) z (first_same with_p f (suc i) d (λ y l. ap (λ b. b || f y) (ne_eqb y p (λ w. omega arith)))))
    one_first i (suc j) (x ∷ d) e =
        rw (h i (omega arith), ne_eqb i p (λ w. omega arith)) (one_first (suc i) j d (omega arith))

  -- judging the touched places is judging the parent, and then the piece
  pub touched_is : (at n p : ℕ) (d : List Tok) → parent (take at d) p ≡ true
      → first fault given (touched at n d) 0 d ≡ or_else (fault_at fault (drop p d)) (given (fault_at fault (drop p d)) p (drop p d)) (first fault given (inside at n) 0 d)
  touched_is at n p d e =
      let l : p < at = omega (arith, parent_early (take at d) p e, length-take at d) in
      first_same (touched at n d) (with_p (inside at n) p (λ x y. rw (lt-leb at x (omega arith)))) 0 d (λ x y. ap (λ b. b || inside at n x) (is_parent (take at d) p x e))
      ∙ one_first (inside at n) p (λ x y. rw (lt-leb at x (omega arith))) 0 p d (omega arith)

-- ---- the parent, found from the place backwards

-- the place of the parent; the length, where there is none
unfoldable pub parent_of : List Tok → ℕ
parent_of [] = 0
parent_of (t ∷ a) = cond (starts t && balanced a) 0 (suc (parent_of a))

-- t, with k ends behind it that have no start yet, is the parent's start
abbrev pub opens_of : ℕ → Tok → Bool
opens_of zero (Start n) = true
opens_of (suc k) (Start n) = false
opens_of k End = false
opens_of k (Text n) = false
opens_of k (Attr n) = false
opens_of k (Value n) = false
opens_of k Bad = false

-- and how many such ends there are with t
abbrev pub back_of : ℕ → Tok → ℕ
back_of zero (Start n) = zero
back_of (suc k) (Start n) = k
back_of k End = suc k
back_of k (Text n) = k
back_of k (Attr n) = k
back_of k (Value n) = k
back_of k Bad = k

parent_found : (a : List Tok) (i : ℕ) → parent a i ≡ true → i ≡ parent_of a
unfolding parent_of
parent_found [] zero e = clash e refl
parent_found [] (suc i) e = clash e refl
parent_found (t ∷ a) zero e = rw e
parent_found (t ∷ a) (suc i) e = go (parent_found a i e) (starts t && balanced a) refl
  where
    go : i ≡ parent_of a → (b : Bool) → starts t && balanced a ≡ b → suc i ≡ cond (starts t && balanced a) 0 (suc (parent_of a))
    go ih true f = absurd (not_both a i e ((and-eq-true_iff (starts t) (balanced a)).0 f).1)
    go ih false f = rw f (ap suc ih)

-- what is balanced at some level leaves no element open
parent_missing : (k : ℕ) (a : List Tok) → level (run k a) ≡ true → length a ≡ parent_of a
unfolding parent_of
parent_missing k [] e = refl
parent_missing k (Start n ∷ a) e = go (parent_missing (suc k) a e) (balanced a) refl
  where
    go : length a ≡ parent_of a → (b : Bool) → balanced a ≡ b → suc (length a) ≡ cond (balanced a) 0 (suc (parent_of a))
    go ih true f = absurd (unbalanced k [] n a f e)
    go ih false f = rw f (ap suc ih)
parent_missing zero (End ∷ a) e = clash e refl
parent_missing (suc k) (End ∷ a) e = ap suc (parent_missing k a e)
parent_missing k (Text n ∷ a) e = ap suc (parent_missing k a e)
parent_missing k (Attr n ∷ a) e = ap suc (parent_missing k a e)
parent_missing k (Value n ∷ a) e = ap suc (parent_missing k a e)
parent_missing k (Bad ∷ a) e = ap suc (parent_missing k a e)

back_run : (k : ℕ) (t : Tok) (a : List Tok) → opens_of k t ≡ false → run (back_of k t) (t ∷ a) ≡ run k a
back_run zero (Start n) a e = clash refl e
back_run (suc k) (Start n) a e = refl
back_run k End a e = refl
back_run k (Text n) a e = refl
back_run k (Attr n) a e = refl
back_run k (Value n) a e = refl
back_run k Bad a e = refl

opens_parent : (k : ℕ) (t : Tok) (a : List Tok) → opens_of k t ≡ true → level (run k a) ≡ true → starts t && balanced a ≡ true
opens_parent zero (Start n) a e l = l
opens_parent (suc k) (Start n) a e l = clash e refl
opens_parent k End a e l = clash e refl
opens_parent k (Text n) a e l = clash e refl
opens_parent k (Attr n) a e l = clash e refl
opens_parent k (Value n) a e l = clash e refl
opens_parent k Bad a e l = clash e refl

pub back_le : (k : ℕ) (t : Tok) → back_of k t ≤ k + 1
back_le zero (Start n) = omega arith
back_le (suc k) (Start n) = omega arith
back_le k End = omega arith
back_le k (Text n) = omega arith
back_le k (Attr n) = omega arith
back_le k (Value n) = omega arith
back_le k Bad = omega arith

-- the loop's facts: of what stands from place i up to `at`, k ends have no start
abbrev pub Loose : List ℕ → ℕ → ℕ → ℕ → Type 0
Loose buf at i k = level (run k (drop i (toks (take at buf)))) ≡ true

module _ (buf : List ℕ) (at i i' k : ℕ) {t : Tok} (z : i' ≡ suc i) (h : i < at) (l : at ≤ length buf) (et : t ≡ tok_of (get_or buf i 0)) (inv' : Loose buf at i' k) where
  inv : Loose buf at (suc i) k
  inv = rw z at inv'

  pub loose_turn : opens_of k t ≡ false → Loose buf at i (back_of k t)
  loose_turn e = rw (rest_next buf at i h l, ← et, back_run k t (drop (suc i) (toks (take at buf))) e) inv

  pub loose_found : opens_of k t ≡ true → i ≡ parent_of (toks (take at buf))
  loose_found e =
      let c : drop i (toks (take at buf)) ≡ t ∷ drop (suc i) (toks (take at buf)) = rest_next buf at i h l ∙ ap (λ x. x ∷ drop (suc i) (toks (take at buf))) (sym et) in
      parent_found (toks (take at buf)) i (rw c (opens_parent k t (drop (suc i) (toks (take at buf))) e inv))

pub loose_begin : (buf : List ℕ) (at : ℕ) → Loose buf at at 0
loose_begin buf at = rw rest_none

pub loose_none : (buf : List ℕ) (at k : ℕ) → at ≤ length buf → Loose buf at 0 k → at ≡ parent_of (toks (take at buf))
loose_none buf at k l e = sym (length_toks buf at l) ∙ parent_missing k (toks (take at buf)) e
