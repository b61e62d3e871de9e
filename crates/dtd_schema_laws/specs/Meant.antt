-- Brackets of any number of parts mean the same as the nested pairs that they are turned into. Assumes nothing.
use Rattle.std.specs.Prelude.{◌≡◌, refl, ◌↔◌, ◌⊎◌, List, [], ◌∷◌, ◌++◌, map, ℕ}
use Rattle.std.proofs.Common.{sym, ap, subst, ◌∙◌, inl, inr}
use Rattle.std.proofs.lemmas.List.{map-append}
use Rattle.paper.specs.Expressions.{Expr, name, seq, alt, opt, star, plus, Matches, this, then, left, right, skip, take, stop, more, some}
use Rattle.content_laws.specs.Meaning.{of_name, of_seq, of_alt, of_opt, of_star, of_plus}
use Rattle.paper.specs.Dtd.Letters.{Name}
use Rattle.paper.specs.Dtd.Declarations.{Suffix, once, maybe, many, several, Part, word, sequence, choice, Parts, only, ◌and◌}
use Rattle.paper.specs.Dtd.Numbering.{suffixed, expr_of, paired}
use Rattle.paper.specs.Dtd.Meaning.{Children, Rounds, followed, repeated, Describes, InOrder, OneOf}
use Rattle.paper.specs.Dtd.Meaning as M

module _ (f : Name → ℕ) where
  -- the numbers of the children that L allows
  abbrev Numbers : Children → List ℕ → Type 0
  Numbers L v = (w : List Name) × (map f w ≡ v) × L w

  -- e's words are the numbers of L's
  abbrev Means : Expr → Children → Type 0
  Means e L = (v : List ℕ) → Matches e v ↔ Numbers L v

  joined : (a b : List Name) {u v w : List ℕ} → w ≡ u ++ v → map f a ≡ u → map f b ≡ v → map f (a ++ b) ≡ w
  joined a b {u} {v} {w} c d k = cc (map-append f a b)

  name_means : (n : Name) → Means (name (f n)) (λ w. w ≡ n ∷ [])
  name_means n v = (λ m. (n ∷ [], sym (of_name m), refl), λ (w, p, q). rw (← p, q) this)

  alt_means : {e g : Expr} {L K : Children} → Means e L → Means g K → Means (alt e g) (λ w. L w ⊎ K w)
  alt_means {e} {g} {L} {K} x y v = (λ m. to (of_alt m), λ (w, p, q). back w p q)
    where
      to : Matches e v ⊎ Matches g v → Numbers (λ w. L w ⊎ K w) v
      to (inl m) = let (w, p, q) = (x v).0 m in (w, p, inl q)
      to (inr m) = let (w, p, q) = (y v).0 m in (w, p, inr q)

      back : (w : List Name) → map f w ≡ v → L w ⊎ K w → Matches (alt e g) v
      back w p (inl q) = left ((x v).1 (w, p, q))
      back w p (inr q) = right ((y v).1 (w, p, q))

  seq_means : {e g : Expr} {L K : Children} → Means e L → Means g K → Means (seq e g) (followed L K)
  seq_means {e} {g} {L} {K} x y v = (
    λ m.
        let (u, t, c, m₁, m₂) = of_seq m in
        let (a, p, q) = (x u).0 m₁ in
        let (b, i, j) = (y t).0 m₂ in
        (a ++ b, joined a b c p i, (a, b, refl, q, j)),
    λ (w, p, (a, b, c, q, j)). subst (Matches (seq e g)) (sym (map-append f a b) ∙ ap (map f) (sym c) ∙ p) (then ((x (map f a)).1 (a, refl, q)) ((y (map f b)).1 (b, refl, j))),
  )

  opt_means : {e : Expr} {L : Children} → Means e L → Means (opt e) (repeated maybe L)
  opt_means {e} {L} x v = (λ m. to (of_opt m), λ (w, p, q). back w p q)
    where
      to : (v ≡ []) ⊎ Matches e v → Numbers (repeated maybe L) v
      to (inl c) = ([], sym c, inl refl)
      to (inr m) = let (w, p, q) = (x v).0 m in (w, p, inr q)

      back : (w : List Name) → map f w ≡ v → (w ≡ []) ⊎ L w → Matches (opt e) v
      back w p (inl c) = subst (Matches (opt e)) (ap (map f) (sym c) ∙ p) skip
      back w p (inr q) = take ((x v).1 (w, p, q))

  star_means : {e : Expr} {L : Children} → Means e L → Means (star e) (Rounds L)
  star_means {e} {L} x v = (to, λ (w, p, q). subst (Matches (star e)) p (back w q))
    where
      to : Matches (star e) v → Numbers (Rounds L) v
      to m =
          of_star (Numbers (Rounds L)) ([], refl, M.stop)
          (λ u t m₁ h.
          let (a, p, q) = (x u).0 m₁ in
          let (b, i, j) = h in
          (a ++ b, joined a b refl p i, M.more q j)) m

      back : (w : List Name) → Rounds L w → Matches (star e) (map f w)
      back w M.stop = stop
      back w (M.more {u = a} {v = b} q r) = rw (map-append f a b) (more ((x (map f a)).1 (a, refl, q)) (back b r))

  plus_means : {e : Expr} {L : Children} → Means e L → Means (plus e) (repeated several L)
  plus_means {e} {L} x v = (
    λ m.
        let (u, t, c, m₁, m₂) = of_plus m in
        let (a, p, q) = (x u).0 m₁ in
        let (b, i, j) = (star_means x t).0 m₂ in
        (a ++ b, joined a b c p i, (a, b, refl, q, j)),
    λ (w, p, (a, b, c, q, j)). subst (Matches (plus e)) (sym (map-append f a b) ∙ ap (map f) (sym c) ∙ p) (some ((x (map f a)).1 (a, refl, q)) ((star_means x (map f b)).1 (b, refl, j))),
  )

  suffix_means : (q : Suffix) {e : Expr} {L : Children} → Means e L → Means (suffixed q e) (repeated q L)
  suffix_means once x = x
  suffix_means maybe x = opt_means x
  suffix_means many x = star_means x
  suffix_means several x = plus_means x

  -- The numbers of the children that a part of the text describes are the words of its expression.
  mutual
    pub part_means : (p : Part) → Means (expr_of p f) (Describes p)
    part_means (word n q) = suffix_means q (name_means n)
    part_means (sequence ps q) = suffix_means q (order_means ps)
    part_means (choice p ps q) = suffix_means q (alt_means (part_means p) (one_means ps))

    order_means : (ps : Parts) → Means (paired ps seq f) (InOrder ps)
    order_means (only p) = part_means p
    order_means (p and ps) = seq_means (part_means p) (order_means ps)

    one_means : (ps : Parts) → Means (paired ps alt f) (OneOf ps)
    one_means (only p) = part_means p
    one_means (p and ps) = alt_means (part_means p) (one_means ps)
