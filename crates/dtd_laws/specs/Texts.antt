-- A text is read exactly if it spells declarations that keep to the limits, one after another. Assumes nothing.
use Rattle.std.specs.Prelude.{◌≡◌, ◌↔◌, ◌⊎◌, Bool, true, false, List, [], ◌∷◌, ◌++◌, ℕ, zero, suc, ◌≤◌, ◌<◌, eqb}
use Rattle.std.proofs.Math.Path.{refl}
use Rattle.std.proofs.Common.{sym, ap, ◌∙◌, inl, inr, append_assoc, append-nil, arith}
use Rattle.std.proofs.Math.Bool.{and-eq-true_iff}
use Rattle.std.proofs.Math.ListN.{length}
use Rattle.paper.specs.Basics.{null}
use Rattle.paper.specs.Dtd.Letters.{Name, is_white, word_element, word_attlist}
use Rattle.paper.specs.Dtd.Declarations.{Declaration, element, attlist}
use Rattle.paper.specs.Dtd.Limits.{declaration_kept, kept}
use Rattle.paper.specs.Dtd.Grammar.{Spelling, ◌⨾◌, Spells, end, space, note, declare}
use Rattle.paper.specs.Dtd.Grammar as G
use Rattle.paper.specs.Dtd.Readers.{Reader, ok}
use Rattle.paper.specs.Dtd.Readers as R
use Rattle.paper.specs.Dtd.Numbering.{model_fits}
use Rattle.paper.specs.Dtd.Reading.{reading, new_element, room_for_element}
use Rattle.paper.specs.Dtd.Reading as D
use Rattle.basic_laws.specs.Bools.{clash}
use Rattle.dtd_laws.specs.Exact.{Exact, Strict, Then, chain, chain_strict, reworded, pure_exact, refuse_exact, Split, by_test, Either, by_front, bounded_exact}
use Rattle.dtd_laws.specs.Leaves.{literal_exact, S?_exact, S_strict}
use Rattle.dtd_laws.specs.Comments.{Within, inside_exact}
use Rattle.dtd_laws.specs.Contents.{Elements, element_exact}
use Rattle.dtd_laws.specs.Attributes.{Attlists, attlist_exact}

module _ (known : Name → Bool) where
  -- ---- behind `<!`

  abbrev Comments : List Declaration → Spelling
  Comments x s r = ([] ≡ x) × (G.literal (45 ∷ 45 ∷ []) ⨾ Within tt) s r

  comment_exact : {n : ℕ} → Exact n (D.comment known) Comments
  comment_exact =
      reworded (chain (literal_exact (45 ∷ 45 ∷ [])) (λ a. chain (bounded_exact R.inside (λ n. inside_exact (suc n))) (λ b. pure_exact [])))
      (λ x s r. (λ (u, t, a, (v, t2, b, (i, j))). (i, (t, a, rw (← j) b)), λ (i, (t, a, b)). (tt, t, a, (tt, r, b, (i, refl)))))

  single_exact : {n : ℕ} {m : Reader Declaration} {L : Declaration → Spelling} → Exact n m L
      → Exact n (D.single known m) (λ x s r. (d : Declaration) × (d ∷ [] ≡ x) × L d s r)
  single_exact {n} {m} {L} y =
      reworded (chain y (λ d. pure_exact (d ∷ []))) (λ x s r. (λ (d, t, a, (i, j)). (d, i, rw (← j) a), λ (d, i, a). (d, r, a, (i, refl))))

  module _ (old : List Declaration) where
    abbrev Markup : List Declaration → Spelling
    Markup x s r =
        Either (eqb 45) Comments
        (Either (eqb 65) (λ x s r. (d : Declaration) × (d ∷ [] ≡ x) × Attlists known old d s r)
        (λ x s r. (d : Declaration) × (d ∷ [] ≡ x) × Elements known model_fits (new_element old) (λ n. room_for_element old) d s r)) x s r

    abbrev Turn : List Declaration → Spelling
    Turn x s r = Either is_white (λ x s r. ([] ≡ x) × G.S? s r) (Then (λ (u : Unit {0}). G.literal (60 ∷ 33 ∷ [])) (λ u. Markup)) x s r

    markup_exact : {n : ℕ} → Exact n (D.markup known old) Markup
    markup_exact = by_front comment_exact (by_front (single_exact (attlist_exact known old)) (single_exact (element_exact known model_fits (new_element old) (λ n. room_for_element old))))

    parts_exact : {n : ℕ} → Exact n (D.turn known old) Turn
    parts_exact =
        by_front
        (reworded (chain S?_exact (λ u. pure_exact [])) (λ x s r. (λ (u, t, a, (i, j)). (i, rw (← j) a), λ (i, a). (tt, r, a, (i, refl)))))
        (chain (literal_exact (60 ∷ 33 ∷ [])) (λ u. markup_exact))

    -- white space, a comment or a declaration
    abbrev pub Piece : List Declaration → Spelling
    Piece x s r =
        (([] ≡ x) × G.S s r)
        ⊎ (([] ≡ x) × G.comment s r)
        ⊎ ((d : Declaration) × (d ∷ [] ≡ x) × G.declaration d s r × (declaration_kept known old d ≡ true))

    turn_to : (x : List Declaration) (s r : List ℕ) → Turn x s r → Piece x s r
    turn_to x s r (inl (f, (i, a))) = inl (i, (f, a))
    turn_to x s r (inr (f, (u, t, a, inl (g, (i, (t2, b, c)))))) = inr (inl (i, (t2, cc, c)))
    turn_to x s r (inr (f, (u, t, a, inr (g, inl (h, (d, i, (e, ds, j, (t2, b, c), k))))))) =
        inr (inr (attlist e ds, ap (λ z. z ∷ []) j ∙ i, (t2, cc, c), k))
    turn_to x s r (inr (f, (u, t, a, inr (g, inr (h, (d, i, (n, c, j, (t2, b, y), k))))))) =
        inr (inr (element n c, ap (λ z. z ∷ []) j ∙ i, (t2, cc, y), k))

    turn_back : (x : List Declaration) (s r : List ℕ) → Piece x s r → Turn x s r
    turn_back x s r (inl (i, (f, a))) = inl (f, (i, a))
    turn_back x s r (inr (inl (i, (t2, b, c)))) = inr (rw b refl, (tt, 45 ∷ 45 ∷ t2, b, inl (refl, (i, (t2, refl, c)))))
    turn_back x s r (inr (inr (attlist e ds, i, (t2, b, c), k))) =
        inr (rw b refl, (tt, word_attlist ++ t2, b, inr (refl, inl (refl, (attlist e ds, i, (e, ds, refl, (t2, refl, c), k))))))
    turn_back x s r (inr (inr (element n c, i, (t2, b, y), k))) =
        inr (rw b refl, (tt, word_element ++ t2, b, inr (refl, inr (refl, (element n c, i, (n, c, refl, (t2, refl, y), k))))))

    pub turn_exact : {n : ℕ} → Exact n (D.turn known old) Piece
    turn_exact = reworded parts_exact (λ x s r. (turn_to x s r, turn_back x s r))

    turn_strict : (x : List Declaration) (s r : List ℕ) → Turn x s r → length r < length s
    turn_strict x s r (inl (f, (i, a))) = S_strict tt s r (f, a)
    turn_strict x s r (inr (f, (u, t, a, m))) = let d = (markup_exact {n = 0}).less m in rw a (omega arith)

    pub piece_strict : Strict Piece
    piece_strict x s r p = turn_strict x s r (turn_back x s r p)

  -- ---- the text

  abbrev Text : List Declaration → List Declaration → Spelling
  Text old x s r = (ds : List Declaration) × (old ++ ds ≡ x) × Spells ds s × ([] ≡ r) × (kept known old ds ≡ true)

  abbrev Next : List Declaration → List Declaration → Spelling
  Next old x s r = Split null (λ x s r. (old ≡ x) × (s ≡ r)) (Then (Piece old) (λ new. Text (old ++ new))) x s r

  none_left : (s : List ℕ) → null s ≡ true → [] ≡ s
  none_left [] p = refl
  none_left (b ∷ s) p = clash p refl

  next_to : (old x : List Declaration) (s r : List ℕ) → Next old x s r → Text old x s r
  next_to old x s r (inl (f, (i, j))) = let e = none_left s f in ([], append-nil old ∙ i, rw (← e) end, e ∙ j, refl)
  next_to old x s r (inr (f, (new, t, inl (i, a), (ds, j, b, e, k)))) =
      let d : old ++ new ≡ old = ap (λ z. old ++ z) (sym i) ∙ append-nil old in
      (ds, ap (λ z. z ++ ds) (sym d) ∙ j, space a b, e, rw d at k)
  next_to old x s r (inr (f, (new, t, inr (inl (i, a)), (ds, j, b, e, k)))) =
      let d : old ++ new ≡ old = ap (λ z. old ++ z) (sym i) ∙ append-nil old in
      (ds, ap (λ z. z ++ ds) (sym d) ∙ j, note a b, e, rw d at k)
  next_to old x s r (inr (f, (new, t, inr (inr (y, i, a, l)), (ds, j, b, e, k)))) =
      let d : old ++ new ≡ old ++ y ∷ [] = ap (λ z. old ++ z) (sym i) in
      (y ∷ ds, sym (append_assoc old (y ∷ []) ds) ∙ ap (λ z. z ++ ds) (sym d) ∙ j, declare a b, e, rw (l, ← d) k)

  some_left : (s r : List ℕ) → length r < length s → null s ≡ false
  some_left [] r h = absurd (omega arith)
  some_left (b ∷ s) r h = refl

  next_back : (old x : List Declaration) (s r : List ℕ) → Text old x s r → Next old x s r
  next_back old x s r (ds, i, a, e, k) = by ds s a i k
    where
      piece : (new ds : List Declaration) (s t : List ℕ) → Piece old new s t → Spells ds t → (old ++ new) ++ ds ≡ x → kept known (old ++ new) ds ≡ true → Next old x s r
      piece new ds s t p a i k = inr (some_left s t (piece_strict old new s t p), (new, t, p, (ds, i, a, e, k)))

      by : (ds : List Declaration) (s : List ℕ) → Spells ds s → old ++ ds ≡ x → kept known old ds ≡ true → Next old x s r
      by ds s end i k = inl (refl, (sym (append-nil old) ∙ i, e))
      by ds s (space {t = t} a b) i k = piece [] ds s t (inl (refl, a)) b (ap (λ z. z ++ ds) (append-nil old) ∙ i) (rw (append-nil old) k)
      by ds s (note {t = t} a b) i k = piece [] ds s t (inr (inl (refl, a))) b (ap (λ z. z ++ ds) (append-nil old) ∙ i) (rw (append-nil old) k)
      by l s (declare {d = d} {ds = ds} {t = t} a b) i k =
          let (k1, k2) = (and-eq-true_iff (declaration_kept known old d) (kept known (old ++ d ∷ []) ds)).0 k in
          piece (d ∷ []) ds s t (inr (inr (d, refl, a, k1))) b (append_assoc old (d ∷ []) ds ∙ i) k2

  text_exact : (n : ℕ) (old : List Declaration) → Exact n (D.declarations known n old) (Text old)
  text_exact zero old = record {
    takes = λ {a} {s} {r} h p. takes a s r h (next_back old a s r p);
    gives = λ {a} {s} {r} e. gives a s r ((by_test {n = 0} null (pure_exact old) refuse_exact).gives e);
    less = λ {a} {s} {r} (ds, i, b, e, k). rw (← e) (omega arith);
  }
    where
      takes : (x : List Declaration) (s r : List ℕ) → length s ≤ 0 → Next old x s r → D.declarations known 0 old s ≡ ok x r
      takes x s r h (inl (f, (i, j))) = rw (f, i, j)
      takes x s r h (inr (f, (new, t, p, q))) = let d = piece_strict old new s t p in absurd (omega arith)

      gives : (x : List Declaration) (s r : List ℕ) → Split null (λ x s r. (old ≡ x) × (s ≡ r)) (λ x s r. ⊥) x s r → Text old x s r
      gives x s r (inl p) = next_to old x s r (inl p)
      gives x s r (inr p) = absurd p.1
  text_exact (suc n) old =
      reworded (by_test null (pure_exact old) (chain_strict (turn_exact old) (piece_strict old) (λ new. text_exact n (old ++ new))))
      (λ x s r. (next_to old x s r, next_back old x s r))

  -- ---- the laws

  -- A text is read exactly if it spells declarations that keep to the limits; nothing is left over then.
  pub reading_exactly : (s : List ℕ) (ds : List Declaration) (r : List ℕ)
      → (reading known s ≡ ok ds r) ↔ (Spells ds s × ([] ≡ r) × (kept known [] ds ≡ true))
  unfolding reading
  reading_exactly s ds r =
      let x = bounded_exact {n = length s} (λ n. D.declarations known n []) (λ n. text_exact (suc n) []) in (
        λ e. let (ds', i, a, j, k) = x.gives {s = s} e in (rw i at a, j, rw i at k),
        λ (a, j, k). x.takes (omega arith) (ds, refl, a, j, k),
      )
