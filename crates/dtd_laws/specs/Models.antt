-- Models are read exactly as they are spelled, at any nesting. Assumes nothing.
use Rattle.std.specs.Prelude.{◌≡◌, refl, Bool, true, false, List, ℕ, zero, suc, ◌≤◌, ◌<◌, eqb, length}
use Rattle.std.proofs.Common.{inl, inr, arith, eq-eqb}
use Rattle.std.proofs.Math.Bool.{and-eq-true_iff}
use Rattle.paper.specs.Dtd.Letters.{Name, opening, closing, comma, bar}
use Rattle.paper.specs.Dtd.Declarations.{Suffix, Part, word, sequence, choice, Parts, only, ◌and◌, each, each_of}
use Rattle.paper.specs.Dtd.Grammar.{Spelling, ◌⨾◌, cp, cps, bracketed}
use Rattle.paper.specs.Dtd.Grammar as G
use Rattle.paper.specs.Dtd.Readers.{Reader, outside}
use Rattle.paper.specs.Dtd.Readers as R
use Rattle.paper.specs.Dtd.Reading as D
use Rattle.basic_laws.specs.Bools.{clash}
use Rattle.dtd_laws.specs.Exact.{Exact, Strict, Then, chain, chain_strict, reworded, pure_exact, none_exact, Either, by_front, tested_exact}
use Rattle.dtd_laws.specs.Leaves.{mark_exact, S?_exact, name_exact, suffix_exact, name_strict, name_first, not_first}

-- ---- what is spelled takes bytes

S?_less : {s r : List ℕ} → G.S? s r → length r ≤ length s
S?_less p = (S?_exact {n = 0}).less {a = tt} p

suffix_less : (q : Suffix) (s r : List ℕ) → G.suffix q s r → length r ≤ length s
suffix_less q s r p = (suffix_exact {n = 0}).less {a = q} p

mark_less : (b : ℕ) {s r : List ℕ} → G.mark b s r → length r < length s
mark_less b p = rw p (omega arith)

mutual
  cp_strict : (p : Part) (s r : List ℕ) → cp p s r → length r < length s
  cp_strict (word n q) s r (t, a, b) = let i = name_strict n s t a in let j = suffix_less q t r b in omega arith
  cp_strict (sequence ps q) s r (t, a, (u, b, (v, c, (w, d, (x, e, f))))) =
      let i = mark_less opening a in
      let j = S?_less b in
      let k = cps_strict ps comma u v c in
      let l = S?_less d in
      let m = mark_less closing e in
      let o = suffix_less q x r f in
      omega arith
  cp_strict (choice p ps q) s r (t, a, (u, b, (v, c, (w, d, (x, e, (y, f, (z, g, (z', h, (z'', i, j))))))))) =
      let a' = mark_less opening a in
      let b' = S?_less b in
      let c' = cp_strict p u v c in
      let d' = S?_less d in
      let e' = mark_less bar e in
      let f' = S?_less f in
      let g' = cps_strict ps bar y z g in
      let h' = S?_less h in
      let i' = mark_less closing i in
      let j' = suffix_less q z'' r j in
      omega arith

  cps_strict : (ps : Parts) (j : ℕ) (s r : List ℕ) → cps ps j s r → length r < length s
  cps_strict (only p) j s r a = cp_strict p s r a
  cps_strict (p and ps) j s r (t, a, (u, b, (v, c, (w, d, e)))) =
      let a' = cp_strict p s t a in
      let b' = S?_less b in
      let c' = mark_less j c in
      let d' = S?_less d in
      let e' = cps_strict ps j w r e in
      omega arith

module _ (known : Name → Bool) where
  -- ---- the parts of the reader

  abbrev pub AnyPart : Part → Spelling
  AnyPart p s r = cp p s r × (each p known ≡ true)

  abbrev pub Group : Part → Spelling
  Group p s r = (bracketed p ≡ true) × cp p s r × (each p known ≡ true)

  abbrev Rest : ℕ → Parts → Spelling
  Rest j ps s r = (G.mark j ⨾ G.S? ⨾ cps ps j ⨾ G.S? ⨾ G.mark closing) s r × (each_of ps known ≡ true)

  abbrev Named : Part → Spelling
  Named p s r = Then (λ n s r. G.name n s r × (known n ≡ true)) (λ n. Then G.suffix (λ q p s r. (word n q ≡ p) × (s ≡ r))) p s r

  named_exact : {n : ℕ} → Exact n (D.named known) Named
  named_exact = chain (tested_exact outside known name_exact) (λ n. chain suffix_exact (λ q. pure_exact (word n q)))

  -- a part is a bracket or a name, by its first byte
  part_to : (p : Part) (s r : List ℕ) → Either (eqb opening) Group Named p s r → AnyPart p s r
  part_to p s r (inl (f, (b, c, k))) = (c, k)
  part_to p s r (inr (f, (n, t, (a, k), (q, u, b, (e, z))))) = rw (← e, ← z) ((t, a, b), k)

  part_back : (p : Part) (s r : List ℕ) → AnyPart p s r → Either (eqb opening) Group Named p s r
  part_back (word n q) s r ((t, a, b), k) = inr (name_first (eqb opening) (not_first opening refl) n s t a, (n, t, (a, k), (q, r, b, (refl, refl))))
  part_back (sequence ps q) s r ((t, a, b), k) = inl (rw a refl, (refl, (t, a, b), k))
  part_back (choice p ps q) s r ((t, a, b), k) = inl (rw a refl, (refl, (t, a, b), k))

  pub part_exact : {n : ℕ} → Exact n (D.group known n) Group → Exact n (R.if_at (eqb opening) (D.group known n) (D.named known)) AnyPart
  part_exact x = reworded (by_front x named_exact) (λ p s r. (part_to p s r, part_back p s r))

  -- what stands behind a separator's last part, behind another, and behind a bracket
  Final_exact : {n : ℕ} (p : Part) → Exact n (D.final known p) (λ ps s r. (only p ≡ ps) × G.mark closing s r)
  Final_exact p = reworded (chain (mark_exact closing) (λ u. pure_exact (only p)))
      (λ ps s r. (λ (u, t, a, (e, z)). (e, rw (← z) a), λ (e, a). (tt, r, a, (e, refl))))

  Before_exact : {n : ℕ} {m : Reader Parts} {M : Parts → Spelling} (p : Part) → Exact n m M
      → Exact n (D.before known p m) (λ qs s r. (ps : Parts) × (p and ps ≡ qs) × M ps s r)
  Before_exact {n} {m} {M} p x = reworded (chain x (λ ps. pure_exact (p and ps)))
      (λ qs s r. (λ (ps, t, a, (e, z)). (ps, e, rw (← z) a), λ (ps, e, a). (ps, r, a, (e, refl))))

  Behind_exact : {n : ℕ} {m : Reader Parts} {M : Parts → Spelling} (make : Parts → Suffix → Part) → Exact n m M
      → Exact n (D.behind known make m) (λ p s r. (ps : Parts) × (q : Suffix) × (make ps q ≡ p) × (M ps ⨾ G.suffix q) s r)
  Behind_exact {n} {m} {M} make x = reworded (chain x (λ ps. chain suffix_exact (λ q. pure_exact (make ps q))))
      (λ p s r. (λ (ps, t, a, (q, u, b, (e, z))). (ps, q, e, (t, a, rw (← z) b)), λ (ps, q, e, (t, a, b)). (ps, t, a, (q, r, b, (e, refl)))))

  -- ---- from a separator on

  abbrev More : ℕ → Part → Parts → Spelling
  More j p x s r = Either (eqb j) (λ x s r. (ps : Parts) × (p and ps ≡ x) × Rest j ps s r) (λ x s r. (only p ≡ x) × G.mark closing s r) x s r

  abbrev Step : ℕ → Parts → Spelling
  Step j x s r =
      Then (λ (u : Unit {0}). G.mark j)
      (λ u. Then (λ (v : Unit {0}). G.S?) (λ v. Then AnyPart (λ p. Then (λ (w : Unit {0}). G.S?) (λ w. More j p)))) x s r

  step_to : (j : ℕ) (x : Parts) (s r : List ℕ) → Step j x s r → Rest j x s r
  step_to j x s r (u, t1, a, (v, t2, b, (p, t3, (c, k), (w, t4, d, inl (f, (ps, e, ((t5, g, (t6, h, (t7, i, l))), k'))))))) =
      rw (← e) ((t1, a, (t2, b, (t7, (t3, c, (t4, d, (t5, g, (t6, h, i)))), l))), rw (k, k'))
  step_to j x s r (u, t1, a, (v, t2, b, (p, t3, (c, k), (w, t4, d, inr (f, (e, g)))))) = rw (← e) ((t1, a, (t2, b, (t3, c, (t4, d, g)))), k)

  step_back : (j : ℕ) → eqb j closing ≡ false → (x : Parts) (s r : List ℕ) → Rest j x s r → Step j x s r
  step_back j o (only p) s r ((t1, a, (t2, b, (t3, c, (t4, d, g)))), k) =
      (tt, t1, a, (tt, t2, b, (p, t3, (c, k), (tt, t4, d, inr (rw g o, (refl, g))))))
  step_back j o (p and ps) s r ((t1, a, (t2, b, (t7, (t3, c, (t4, d, (t5, g, (t6, h, i)))), l))), k) =
      let (k1, k2) = (and-eq-true_iff (each p known) (each_of ps known)).0 k in
      (tt, t1, a, (tt, t2, b, (p, t3, (c, k1), (tt, t4, d, inl (rw g (eq-eqb j j refl), (ps, refl, ((t5, g, (t6, h, (t7, i, l))), k2)))))))

  rest_strict : (j : ℕ) → Strict (Rest j)
  rest_strict j ps s r ((t1, a, (t2, b, (t3, c, (t4, d, e)))), k) =
      let a' = mark_less j a in
      let b' = S?_less b in
      let c' = cps_strict ps j t2 t3 c in
      let d' = S?_less d in
      let e' = mark_less closing e in
      omega arith

  -- ---- from a bracket on

  abbrev Tail : Part → Part → Spelling
  Tail p x s r =
      Either (eqb comma) (λ x s r. (ps : Parts) × (q : Suffix) × (sequence (p and ps) q ≡ x) × (Rest comma ps ⨾ G.suffix q) s r)
      (Either (eqb bar) (λ x s r. (ps : Parts) × (q : Suffix) × (choice p ps q ≡ x) × (Rest bar ps ⨾ G.suffix q) s r)
      (λ x s r. (ps : Parts) × (q : Suffix) × (sequence ps q ≡ x) × ((λ s r. (only p ≡ ps) × G.mark closing s r) ⨾ G.suffix q) s r)) x s r

  abbrev Whole : Part → Spelling
  Whole x s r =
      Then (λ (u : Unit {0}). G.mark opening)
      (λ u. Then (λ (v : Unit {0}). G.S?) (λ v. Then AnyPart (λ p. Then (λ (w : Unit {0}). G.S?) (λ w. Tail p)))) x s r

  whole_to : (x : Part) (s r : List ℕ) → Whole x s r → Group x s r
  whole_to x s r (u, t1, a, (v, t2, b, (p, t3, (c, k), (w, t4, d, inl (f, (ps, q, e, (t9, ((t5, g, (t6, h, (t7, i, (t8, l, m)))), k'), n))))))) =
      rw (← e) (refl, (t1, a, (t2, b, (t7, (t3, c, (t4, d, (t5, g, (t6, h, i)))), (t8, l, (t9, m, n))))), rw (k, k'))
  whole_to x s r (u, t1, a, (v, t2, b, (p, t3, (c, k), (w, t4, d, inr (f, inl (f', (ps, q, e, (t9, ((t5, g, (t6, h, (t7, i, (t8, l, m)))), k'), n)))))))) =
      rw (← e) (refl, (t1, a, (t2, b, (t3, c, (t4, d, (t5, g, (t6, h, (t7, i, (t8, l, (t9, m, n))))))))), rw (k, k'))
  whole_to x s r (u, t1, a, (v, t2, b, (p, t3, (c, k), (w, t4, d, inr (f, inr (f', (ps, q, e, (t5, (o, g), n)))))))) =
      rw (← e, ← o) (refl, (t1, a, (t2, b, (t3, c, (t4, d, (t5, g, n))))), k)

  whole_back : (x : Part) (s r : List ℕ) → Group x s r → Whole x s r
  whole_back (word n q) s r (o, a, k) = clash o refl
  whole_back (sequence ps q) s r (o, (t1, a, (t2, b, (t3, c, (t4, d, (t5, g, n))))), k) = by ps c k
    where
      by : (ps : Parts) → cps ps comma t2 t3 → each_of ps known ≡ true → Whole (sequence ps q) s r
      by (only p) c k =
          (tt, t1, a, (tt, t2, b, (p, t3, (c, k), (tt, t4, d, inr (rw g refl, inr (rw g refl, (only p, q, refl, (t5, (refl, g), n))))))))
      by (p and ps) (u3, c, (u4, d', (u5, g', (u6, h, i)))) k =
          let (k1, k2) = (and-eq-true_iff (each p known) (each_of ps known)).0 k in
          (tt, t1, a, (tt, t2, b, (p, u3, (c, k1), (tt, u4, d', inl (rw g' refl, (ps, q, refl, (t5, ((u5, g', (u6, h, (t3, i, (t4, d, g)))), k2), n)))))))
  whole_back (choice p ps q) s r (o, (t1, a, (t2, b, (t3, c, (t4, d, (t5, g, (t6, h, (t7, i, (t8, l, (t9, m, n))))))))), k) =
      let (k1, k2) = (and-eq-true_iff (each p known) (each_of ps known)).0 k in
      (tt, t1, a, (tt, t2, b, (p, t3, (c, k1), (tt, t4, d, inr (rw g refl, inl (rw g refl, (ps, q, refl, (t9, ((t5, g, (t6, h, (t7, i, (t8, l, m)))), k2), n))))))))

  group_strict : Strict Group
  group_strict p s r (o, a, k) = cp_strict p s r a

  -- ---- the reader

  mutual
    pub group_exact : (n : ℕ) → Exact n (D.group known n) Group
    group_exact zero = none_exact group_strict
    group_exact (suc n) =
        reworded
        (chain_strict (mark_exact opening) (λ u s r p. mark_less opening p) (λ u.
        chain S?_exact (λ v.
        chain (part_exact (group_exact n)) (λ p.
        chain S?_exact (λ w.
        by_front (Behind_exact (λ ps. sequence (p and ps)) (rest_exact n comma refl))
        (by_front (Behind_exact (choice p) (rest_exact n bar refl)) (Behind_exact sequence (Final_exact p))))))))
        (λ x s r. (whole_to x s r, whole_back x s r))

    rest_exact : (n : ℕ) (j : ℕ) → eqb j closing ≡ false → Exact n (D.rest known n j) (Rest j)
    rest_exact zero j o = none_exact (rest_strict j)
    rest_exact (suc n) j o =
        reworded
        (chain_strict (mark_exact j) (λ u s r p. mark_less j p) (λ u.
        chain S?_exact (λ v. chain (part_exact (group_exact n)) (λ p. chain S?_exact (λ w. by_front (Before_exact p (rest_exact n j o)) (Final_exact p))))))
        (λ x s r. (step_to j x s r, step_back j o x s r))
