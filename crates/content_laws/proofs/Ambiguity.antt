-- Ambiguity, by meaning: two marked words that agree up to a place and read there two different occurrences of one name. So
-- a reader who sees the names only, and no further than the next, cannot tell which occurrence it is at.
-- An expression is ambiguous exactly if one of Glushkov's sets, `first` or the `follow` of an occurrence, holds two such
-- occurrences. Assumes nothing.
use Rattle.std.specs.Prelude.{◌≡◌, ◌↔◌, ◌⊎◌, ℕ, ◌∷◌, T}
use Rattle.std.proofs.Common.{inl, inr}
use Rattle.std.proofs.Math.Decide.{ℕ_discrete}
use Rattle.paper.specs.Expressions.{Expr, name_at, Ambiguous}
use Rattle.paper.specs.Sets.{first, follow}
use Rattle.content_laws.specs.Within.{follow_within}
use Rattle.paper.specs.Rules.{State, start, at}
use Rattle.content_laws.specs.Walk.{next, Of, after}
use Rattle.content_laws.proofs.Useful.{reached, reads_iff, next_iff}
use Rattle.content_laws.specs.Ambiguity.{Clash}

-- ---- the theorem

abbrev InSomeSet : Expr → Type 0
InSomeSet e = (s : State) × Clash e (next 0 e s)

clash_of : (e : Expr) → Ambiguous e → InSomeSet e
clash_of e a =
    let r = (reads_iff 0 e a.u).1 (a.x ∷ a.v, a.one) in
    let tx = (next_iff 0 e a.u r a.x).1 (a.v, a.one) in
    let ty = (next_iff 0 e a.u r a.y).1 (a.v', a.other) in
    (after start a.u, (a.x, a.y, tx, ty, a.twins))

of_clash : (e : Expr) (s : State) → Of 0 e s → Clash e (next 0 e s) → Ambiguous e
of_clash e s i (x, y, t, t', tw) =
    let (p, r, c) = reached 0 e s i in
    let (v, m) = (next_iff 0 e p r x).0 (rw c t) in
    let (v', m') = (next_iff 0 e p r y).0 (rw c t') in
    record { u = p; x = x; y = y; v = v; v' = v'; one = m; other = m'; twins = tw }

by_state : (e : Expr) → InSomeSet e ↔ (Clash e (first 0 e) ⊎ ((k : ℕ) × Clash e (follow 0 e k)))
by_state e = (λ h. go h.0 h.1, elim [ inl c ↦ (start, c) | inr c ↦ (at c.0, c.1) ])
  where
    go : (s : State) → Clash e (next 0 e s) → Clash e (first 0 e) ⊎ ((k : ℕ) × Clash e (follow 0 e k))
    go start c = inl c
    go (at k) c = inr (k, c)

pub ambiguous_iff : (e : Expr) → Ambiguous e ↔ (Clash e (first 0 e) ⊎ ((k : ℕ) × Clash e (follow 0 e k)))
ambiguous_iff e = (
  λ a. (by_state e).0 (clash_of e a),
  elim [
    | inl c ↦ of_clash e start tt c
    | inr c ↦ let (k, h) = c in of_clash e (at k) (follow_within 0 e k h.0 h.2).0 h
  ],
)

-- in an unambiguous expression a state and a name leave one occurrence at most
pub only_one : (e : Expr) → ¬ Ambiguous e → (s : State) (x y : ℕ) → T (next 0 e s x) → T (next 0 e s y) → name_at e x ≡ name_at e y → x ≡ y
only_one e clear s x y t t' c = elim (ℕ_discrete x y) [
  | yes d ↦ d
  | no d ↦ absurd (clear ((ambiguous_iff e).1 ((by_state e).0 (s, (x, y, t, t', record { differ = d; same = c })))))
]
