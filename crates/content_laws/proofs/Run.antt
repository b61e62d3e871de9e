-- The run that a reader of an unambiguous expression makes: the state is where it stands, and the next name leads to the
-- occurrence of that name that can come next. The run answers for the whole word exactly what the expression means, and it
-- gets stuck exactly where no word of the expression begins with what was read. Assumes nothing.
use Rattle.std.specs.Prelude.{◌≡◌, refl, ◌↔◌, ℕ, T, eqb}
use Rattle.std.proofs.Common.{inl, inr, arith, eqb→eq}
use Rattle.std.proofs.Math.Option.{Option, none, some, IsSome, none-ne-some}
use mathlib.Core.List.{List, [], ◌∷◌, ◌++◌, map, map-append, nil≢cons, head-eq_of_cons-eq, tail-eq_of_cons-eq}
use Rattle.std.proofs.Math.Dec.{eqb_refl}
use Rattle.paper.specs.Expressions.{Expr, count, name_at, Matches, Marked, Ambiguous}
use Rattle.content_laws.specs.Marked.{matches_marked}
use Rattle.paper.specs.Rules.{State, start, at}
use Rattle.content_laws.specs.Walk.{Reads, after, next_of}
use Rattle.content_laws.proofs.Walk.{walk_iff}
use Rattle.content_laws.proofs.Glushkov.{glushkov}
use Rattle.content_laws.proofs.Useful.{reads_iff}
use Rattle.content_laws.proofs.Ambiguity.{only_one}
use Rattle.basic_laws.specs.Tests.{and_iff, tests}
use Rattle.content_laws.specs.Below.{find_cases}
use Rattle.content_laws.specs.Run.{choices, run, answer, accepts}

-- ---- a run is a walk

-- occurrences of the names w that lead from s to t
abbrev Leads : Expr → State → List ℕ → State → Type 0
Leads e s w t = (p : List ℕ) × Reads 0 e s p × (after s p ≡ t) × (map (name_at e) p ≡ w)

run_leads : (e : Expr) (s : State) (w : List ℕ) (t : State) → run e s w ≡ some t → Leads e s w t
run_leads e s [] t c = ([], tt, cc, refl)
run_leads e s (a ∷ w) t c = elim (find_cases (choices e s a) (count e)) [
  | inl h ↦
      let (k, d, r) = h in
      let (i, same) = simp and_iff at r in
      let (p, reads, there, named) = run_leads e (at k) w t (rw (d, run) at c) in
      let c : name_at e k ≡ a = eqb→eq _ _ same in
      (k ∷ p, (i, reads), there, cc)
  | inr h ↦ absurd (none-ne-some t (rw (h.0, run) at c))
]

-- ---- a walk is a run

leads_run : (e : Expr) → ¬ Ambiguous e → (s : State) (p : List ℕ) → Reads 0 e s p → run e s (map (name_at e) p) ≡ some (after s p)
leads_run e clear s [] r = refl
leads_run e clear s (x ∷ p) (t, r) =
    elim (find_cases (choices e s (name_at e x)) (count e)) [
      | inl h ↦
          let (k, d, u) = h in
          let (i, same) = simp and_iff at u in
          let c : k ≡ x = only_one e clear s k x i t (eqb→eq _ _ same) in
          rw (d, c, run) (leads_run e clear (at x) p r)
      | inr h ↦
          let (d, no_more) = h in
          let w = next_of 0 e s x t in
          let same : T (eqb (name_at e x) (name_at e x)) = eqb_refl (name_at e x) in
          absurd (no_more x (omega arith) (search tests))
    ]

run_of : (e : Expr) → ¬ Ambiguous e → (s : State) (w : List ℕ) (t : State) → Leads e s w t → run e s w ≡ some t
run_of e clear s w t (p, reads, there, named) = rw (← named, ← there) (leads_run e clear s p reads)

-- ---- the theorems

matches_of : (e : Expr) (p : List ℕ) → Marked 0 e p → Matches e (map (name_at e) p)
matches_of e p m = (matches_marked e (map (name_at e) p)).1 (p, m, refl)

pub accepts_iff : (e : Expr) → ¬ Ambiguous e → (w : List ℕ) → T (accepts e w) ↔ Matches e w
accepts_iff e clear w = (to (run e start w) refl, of)
  where
    to : (o : Option State) → run e start w ≡ o → T (answer e o) → Matches e w
    to none c h = elim h [ ]
    to (some t) c h =
        let (p, reads, there, named) = run_leads e start w t c in
        rw named at (matches_of e p ((glushkov 0 e p).1 ((walk_iff 0 e start p).1 (reads, rw there h))))

    of : Matches e w → T (accepts e w)
    of m =
        let (p, marked, named) = (matches_marked e w).0 m in
        let (reads, end) = (walk_iff 0 e start p).0 ((glushkov 0 e p).0 marked) in
        rw (run_of e clear start w (after start p) (p, reads, refl, named)) end

-- a word that g takes to u ++ v begins with one that g takes to u
unmap : (g : ℕ → ℕ) (p u v : List ℕ) → map g p ≡ u ++ v → (q : List ℕ) × (r : List ℕ) × (p ≡ q ++ r) × (map g q ≡ u)
unmap g p [] v c = ([], p, refl, refl)
unmap g [] (a ∷ u) v c = absurd (nil≢cons c)
unmap g (x ∷ p) (a ∷ u) v c =
    let (q, r, d, k) = unmap g p u v (tail-eq_of_cons-eq c) in
    let h = head-eq_of_cons-eq c in
    (x ∷ q, r, cc, cc)

pub prefix_iff : (e : Expr) → ¬ Ambiguous e → (u : List ℕ) → IsSome (run e start u) ↔ ((v : List ℕ) × Matches e (u ++ v))
prefix_iff e clear u = (to (run e start u) refl, of)
  where
    to : (o : Option State) → run e start u ≡ o → IsSome o → (v : List ℕ) × Matches e (u ++ v)
    to none c h = elim h [ ]
    to (some t) c h =
        let (p, reads, there, named) = run_leads e start u t c in
        let (v, m) = (reads_iff 0 e p).0 reads in
        (map (name_at e) v, rw (map-append, named) at (matches_of e (p ++ v) m))

    of : (v : List ℕ) × Matches e (u ++ v) → IsSome (run e start u)
    of (v, m) =
        let (p, marked, named) = (matches_marked e (u ++ v)).0 m in
        let (q, r, d, k) = unmap (name_at e) p u v named in
        let reads = (reads_iff 0 e q).1 (r, rw d at marked) in
        rw (run_of e clear start u (after start q) (q, reads, refl, k)) tt
