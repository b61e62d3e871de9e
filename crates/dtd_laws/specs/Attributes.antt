-- Attribute definitions and ATTLIST declarations are read exactly as they are spelled. Assumes nothing.
use Rattle.std.specs.Prelude.{◌≡◌, refl, Bool, true, false, not, ◌&&◌, ◌||◌, List, [], ◌∷◌, ◌++◌, ℕ, zero, suc, ◌<◌, eqb, length}
use Rattle.std.proofs.Common.{sym, ap, ◌∙◌, inl, inr, append_assoc, append-nil, arith, eqb-true}
use Rattle.std.proofs.Math.Bool.{and-eq-true_iff}
use Rattle.paper.specs.Dtd.Letters.{Name, is_white, is_more, begins, past, greater, word_attlist}
use Rattle.paper.specs.Dtd.Declarations.{Kind, Definition, Declaration, attlist}
use Rattle.paper.specs.Dtd.Limits.{definition_kept, definitions_kept}
use Rattle.paper.specs.Dtd.Grammar.{Spelling, ◌⨾◌, kind_word, status_word}
use Rattle.paper.specs.Dtd.Grammar as G
use Rattle.paper.specs.Dtd.Readers.{Reader, outside, pure, ◌>>=◌, ◌>>◌, tested, S, name, kind, status}
use Rattle.paper.specs.Dtd.Reading.{limit, new_attribute, room_for_attribute, id_allowed}
use Rattle.paper.specs.Dtd.Reading as D
use Rattle.basic_laws.specs.Bools.{clash}
use Rattle.dtd_laws.specs.Exact.{Exact, Then, chain, chain_strict, reworded, pure_exact, none_exact, Split, by_test, tested_exact, bounded_exact}
use Rattle.dtd_laws.specs.Leaves.{literal_exact, mark_exact, S?_exact, S_exact, S_strict, name_exact, name_strict, name_first, not_first, behind_less}
use Rattle.dtd_laws.specs.Words.{kind_exact, status_exact}
use Rattle.dtd_laws.specs.Contents.{past_white}

-- ---- one definition

-- white space goes on no name
pub white_more : (s : List ℕ) → begins is_white s ≡ true → begins is_more s ≡ false
white_more [] p = refl
white_more (b ∷ s) p = by (eqb b 32) (eqb b 9) (eqb b 13) (eqb b 10) refl refl refl refl p
  where
    by : (w x y z : Bool) → eqb b 32 ≡ w → eqb b 9 ≡ x → eqb b 13 ≡ y → eqb b 10 ≡ z → (w || x || y || z) ≡ true → is_more b ≡ false
    by true x y z i j k l p = rw (eqb-true b 32 i)
    by false true y z i j k l p = rw (eqb-true b 9 j)
    by false false true z i j k l p = rw (eqb-true b 13 k)
    by false false false true i j k l p = rw (eqb-true b 10 l)
    by false false false false i j k l p = clash p refl

-- What is asked of names and kinds may be anything here.
module _ (new room : Name → Bool) (ids : Kind → Bool) where
  abbrev pub Definitions : Definition → Spelling
  Definitions d s r = G.att_def d s r × (new d.name && room d.name && ids d.kind ≡ true)

  abbrev pub definition_by : Reader Definition
  definition_by = do
    S
    a ← tested limit room (tested outside new name)
    S
    k ← tested limit ids kind
    S
    t ← status
    pure (record { name = a; kind = k; status = t })

  pub definition_exact : {n : ℕ} → Exact n definition_by Definitions
  definition_exact =
      reworded
      (chain S_exact (λ a.
      chain (tested_exact limit room (tested_exact outside new name_exact)) (λ n.
      chain S_exact (λ b.
      chain (tested_exact limit ids kind_exact) (λ k.
      chain S_exact (λ c. chain status_exact (λ t. pure_exact (record { name = n; kind = k; status = t }))))))))
      (λ d s r. (
        λ (u, t1, a, (n, t2, ((b, k1), k2), (v, t3, c, (k, t4, ((f, m), k3), (w, t5, g, (t, t6, h, (i, j))))))).
            rw (← i) ((t1, a, (t2, b, (t3, c, (t4, f, (t5, g, rw (← j) h))))), rw (k1, k2) k3),
        λ ((t1, a, (t2, b, (t3, c, (t4, f, (t5, g, h))))), k).
            let (k12, k3) = (and-eq-true_iff (new d.name && room d.name) (ids d.kind)).0 k in
            let (k1, k2) = (and-eq-true_iff (new d.name) (room d.name)).0 k12 in
            (tt, t1, a, (d.name, t2, ((b, k1), k2), (tt, t3, c, (d.kind, t4, ((f, white_more t4 g.0), k3), (tt, t5, g, (d.status, r, h, (refl, refl))))))),
      ))

module _ (known : Name → Bool) where
  -- ---- several, to behind `>`

  S_less : {s r : List ℕ} → G.S s r → length r < length s
  S_less {s} {r} p = S_strict tt s r p

  pub definition_strict : (d : Definition) (s r : List ℕ) → G.att_def d s r → length r < length s
  definition_strict d s r (t1, a, (t2, b, (t3, c, (t4, f, (t5, g, h))))) =
      let a' = S_less a in
      let b' = name_strict d.name t1 t2 b in
      let c' = S_less c in
      let f' = behind_less (kind_word d.kind) t4 f in
      let g' = S_less g in
      let h' = behind_less (status_word d.status) r h in
      omega arith

  definitions_strict : (ds : List Definition) (s r : List ℕ) → G.att_defs ds s r → length r < length s
  definitions_strict [] s r (t, a, b) = let a' = (S?_exact {n = 0}).less {a = tt} a in let b' : length t ≡ suc (length r) = rw b in omega arith
  definitions_strict (d ∷ ds) s r (t, a, b) = let a' = definition_strict d s t a in let b' = definitions_strict ds t r b in omega arith

  abbrev Several : List Declaration → Name → List Definition → List Definition → Spelling
  Several old e own x s r = (ds : List Definition) × (own ++ ds ≡ x) × G.att_defs ds s r × (definitions_kept old e own ds ≡ true)

  -- as the reader asks
  abbrev pub Kept : List Declaration → Name → Definition → Spelling
  Kept old e = Definitions (new_attribute old e) (room_for_attribute old) (id_allowed old e)

  abbrev Turn : List Declaration → Name → List Definition → List Definition → Spelling
  Turn old e own x s r =
      Split (D.due known)
      (Then (Kept (old ++ attlist e own ∷ []) e) (λ d. Several old e (own ++ d ∷ [])))
      (λ x s r. (own ≡ x) × (G.S? ⨾ G.mark greater) s r) x s r

  ended_exact : {n : ℕ} (own : List Definition) → Exact n (D.ended known own) (λ x s r. (own ≡ x) × (G.S? ⨾ G.mark greater) s r)
  ended_exact own =
      reworded (chain S?_exact (λ u. chain (mark_exact greater) (λ v. pure_exact own)))
      (λ x s r. (λ (u, t, a, (v, t2, b, (i, j))). (i, (t, a, rw (← j) b)), λ (i, (t, a, b)). (tt, t, a, (tt, r, b, (i, refl)))))

  turn_to : (old : List Declaration) (e : Name) (own x : List Definition) (s r : List ℕ) → Turn old e own x s r → Several old e own x s r
  turn_to old e own x s r (inl (f, (d, t, (a, k), (ds, i, b, l)))) = (d ∷ ds, sym (append_assoc own (d ∷ []) ds) ∙ i, (t, a, b), rw (k, l))
  turn_to old e own x s r (inr (f, (i, a))) = ([], append-nil own ∙ i, a, refl)

  and_false : (x y : Bool) → y ≡ false → x && y ≡ false
  and_false true y p = p
  and_false false y p = refl

  turn_back : (old : List Declaration) (e : Name) (own x : List Definition) (s r : List ℕ) → Several old e own x s r → Turn old e own x s r
  turn_back old e own x s r ([], i, (t, a, b), k) =
      inr (and_false (begins is_white s) (not (begins (eqb greater) (past is_white s))) (rw (past_white a, b) refl), (sym (append-nil own) ∙ i, (t, a, b)))
  turn_back old e own x s r ((d ∷ ds), i, (t, (t1, a, (t2, b, c)), f), k) =
      let (k1, k2) = (and-eq-true_iff (definition_kept (old ++ attlist e own ∷ []) e d) (definitions_kept old e (own ++ d ∷ []) ds)).0 k in
      inl (
        rw (a.0, past_white a.1, name_first (eqb greater) (not_first greater refl) d.name t1 t2 b) refl,
        (d, t, ((t1, a, (t2, b, c)), k1), (ds, append_assoc own (d ∷ []) ds ∙ i, f, k2)),
      )

  pub asked_exact : {n : ℕ} (old : List Declaration) (e : Name) → Exact n (D.att_def known old e) (Kept old e)
  asked_exact old e = definition_exact (new_attribute old e) (room_for_attribute old) (id_allowed old e)

  several_exact : (old : List Declaration) (e : Name) (n : ℕ) (own : List Definition) → Exact n (D.att_defs known old e n own) (Several old e own)
  several_exact old e zero own = none_exact (λ x s r (ds, i, a, k). definitions_strict ds s r a)
  several_exact old e (suc n) own =
      reworded
      (by_test (D.due known)
      (chain_strict (asked_exact (old ++ attlist e own ∷ []) e) (λ d s r (a, k). definition_strict d s r a) (λ d. several_exact old e n (own ++ d ∷ [])))
      (ended_exact own))
      (λ x s r. (turn_to old e own x s r, turn_back old e own x s r))

  -- ---- an ATTLIST declaration, behind `<!`

  abbrev pub Attlists : List Declaration → Declaration → Spelling
  Attlists old x s r =
      (e : Name)
      × (ds : List Definition)
      × (attlist e ds ≡ x)
      × (G.literal word_attlist ⨾ G.S ⨾ G.name e ⨾ G.att_defs ds) s r
      × (known e && definitions_kept old e [] ds ≡ true)

  pub attlist_exact : {n : ℕ} (old : List Declaration) → Exact n (D.attlist_decl known old) (Attlists old)
  attlist_exact old =
      reworded
      (chain (literal_exact word_attlist) (λ a.
      chain S_exact (λ b.
      chain (tested_exact outside known name_exact) (λ e.
      chain (bounded_exact (λ n. D.att_defs known old e n []) (λ n. several_exact old e (suc n) [])) (λ ds. pure_exact (attlist e ds))))))
      (λ x s r. (
        λ (u, t1, a, (v, t2, b, (e, t3, (c, k1), (ds, t4, (ds', i, d, k2), (f, g))))).
            (e, ds', ap (attlist e) i ∙ f, (t1, a, (t2, b, (t3, c, rw (← g) d))), rw k1 k2),
        λ (e, ds, f, (t1, a, (t2, b, (t3, c, d))), k).
            let (k1, k2) = (and-eq-true_iff (known e) (definitions_kept old e [] ds)).0 k in
            (tt, t1, a, (tt, t2, b, (e, t3, (c, k1), (ds, r, (ds, refl, d, k2), (f, refl))))),
      ))
