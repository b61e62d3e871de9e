-- The children that an edit looks at: those of the parent, and with those of the piece. Assumes nothing.
use Rattle.std.specs.Prelude.{◌≡◌, refl, Bool, true, false, cond, ◌&&◌, ◌||◌, List, [], ◌∷◌, ◌++◌, ℕ, zero, suc, ◌+◌, ◌≤◌, ◌<◌, ltb, length, take}
use Rattle.std.proofs.Common.{ap, ◌∙◌, arith, add-zero, zero-add, le-leb, lt-ltb, le-ltb}
use Rattle.std.proofs.Math.Bool.{or-false}
use Rattle.std.proofs.lemmas.Bool.{lt-leb}
use Rattle.std.proofs.Math.Seq.{take-append_seam}
use Rattle.paper.specs.declared.Tok.{Tok}
use Rattle.paper.specs.Tokens.{balanced, kids, parent, starts, touched}
use Rattle.paper.specs.Edits.{children_of}
use Rattle.shape_laws.specs.Touch.{inside}
use Rattle.shape_laws.specs.Looked.{over, over_even, own}

module _ (J : ℕ → Bool) where
  -- from place i on: a is looked at where it leaves an element open
  pub children_over : (a r : List Tok) (i : ℕ) → ((j : ℕ) → j < length a → J (i + j) ≡ parent a j)
      → children_of J i (a ++ r) ≡ over a r + children_of J (i + length a) r
  children_over [] r i h = rw (add-zero i) (omega arith)
  children_over (t ∷ a) r i h = rw first (go (starts t) (balanced a) refl (children_over a r (suc i) (λ j l. ap J (omega arith) ∙ h (suc j) (omega arith))))
    where
      first : J i ≡ starts t && balanced a
      first = ap J (omega arith) ∙ h zero (omega arith)

      later : children_of J (suc i + length a) r ≡ children_of J (i + suc (length a)) r
      later = ap (λ k. children_of J k r) (omega arith)

      go : (s b : Bool) → balanced a ≡ b → children_of J (suc i) (a ++ r) ≡ over a r + children_of J (suc i + length a) r
          → cond ((s && b) && s) (length (kids zero (a ++ r))) 0 + children_of J (suc i) (a ++ r)
          ≡ cond (s && b) (length (kids zero (a ++ r))) (over a r) + children_of J (i + suc (length a)) r
      go true true f ih = omega (arith, later, over_even zero a r f)
      go true false f ih = omega (arith, later)
      go false true f ih = omega (arith, later)
      go false false f ih = omega (arith, later)

  -- p is looked at wherever an element starts
  children_all : (p r : List Tok) (i : ℕ) → ((j : ℕ) → j < length p → J (i + j) ≡ true)
      → children_of J i (p ++ r) ≡ own p r + children_of J (i + length p) r
  children_all [] r i h = rw (add-zero i) (omega arith)
  children_all (t ∷ p) r i h =
      rw first (omega (arith, later, children_all p r (suc i) (λ j l. ap J (omega arith) ∙ h (suc j) (omega arith))))
    where
      first : J i ≡ true
      first = ap J (omega arith) ∙ h zero (omega arith)

      later : children_of J (suc i + length p) r ≡ children_of J (i + suc (length p)) r
      later = ap (λ k. children_of J k r) (omega arith)

  -- nothing is looked at
  children_none : (r : List Tok) (i : ℕ) → ((j : ℕ) → i ≤ j → J j ≡ false) → children_of J i r ≡ 0
  children_none [] i h = refl
  children_none (t ∷ r) i h = rw (h i (omega arith)) (omega (arith, children_none r (suc i) (λ j l. h j (omega arith))))

parent_early : (a : List Tok) (i : ℕ) → length a ≤ i → parent a i ≡ false
parent_early [] zero h = refl
parent_early [] (suc i) h = refl
parent_early (t ∷ a) zero h = absurd (omega arith)
parent_early (t ∷ a) (suc i) h = parent_early a i (omega arith)

-- a stands before the place and r from it on: those of the parent alone, and with those of the piece p
module _ (a r : List Tok) where
  pub parent_children_lem : (at : ℕ) → at ≡ length a → children_of (parent (take at (a ++ r))) 0 (a ++ r) ≡ over a r
  parent_children_lem at e =
      rw (e, take-append_seam a r)
      (omega (
        arith,
        children_over (parent a) a r 0 (λ j l. ap (parent a) (zero-add j)),
        children_none (parent a) r (length a) (parent_early a),
        ap (λ k. children_of (parent a) k r) (zero-add (length a)),
      ))

pub touched_children : (a p r : List Tok) (at n : ℕ) → at ≡ length a → n ≡ length p
    → children_of (touched at n (a ++ (p ++ r))) 0 (a ++ (p ++ r)) ≡ over a (p ++ r) + own p r
touched_children a p r at n ea en =
    rw (ea, en) (ap (λ z. children_of (λ i. parent z i || inside (length a) (length p) i) 0 (a ++ (p ++ r))) (take-append_seam a (p ++ r)) ∙ whole)
  where
    J : ℕ → Bool
    J i = parent a i || inside (length a) (length p) i

    early : (j : ℕ) → j < length a → J (0 + j) ≡ parent a j
    early j l = ap J (zero-add j) ∙ ap (λ b. parent a j || (b && ltb j (length a + length p))) (lt-leb (length a) j l) ∙ or-false (parent a j)

    within : (j : ℕ) → j < length p → J (length a + j) ≡ true
    within j l = rw (parent_early a (length a + j) (omega arith), le-leb (length a) (length a + j) (omega arith), lt-ltb (length a + j) (length a + length p) (omega arith))

    past : (j : ℕ) → length a + length p ≤ j → J j ≡ false
    past j l = rw (parent_early a j (omega arith), le-leb (length a) j (omega arith), le-ltb j (length a + length p) l)

    whole : children_of J 0 (a ++ (p ++ r)) ≡ over a (p ++ r) + own p r
    whole =
        omega (
          arith,
          children_over J a (p ++ r) 0 early,
          ap (λ k. children_of J k (p ++ r)) (zero-add (length a)),
          children_all J p r (length a) within,
          children_none J r (length a + length p) past,
        )
