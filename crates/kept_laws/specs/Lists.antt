-- Lists of values: members, no value twice, and what one part in place of another does to both. Assumes nothing.
use Rattle.std.specs.Prelude.{◌≡◌, refl, ◌↔◌, ◌⊎◌, Bool, true, false, not, ◌&&◌, ◌||◌, List, [], ◌∷◌, ◌++◌, ℕ, eqb}
use Rattle.std.proofs.Common.{ap, inl, inr, eqb-true, eq-eqb}
use Rattle.paper.specs.Basics.{all, elem, distinct}
use Rattle.basic_laws.specs.Bools.{clash}

-- v is in the list
abbrev pub In : ℕ → List ℕ → Type 0
In v l = elem v l ≡ true

-- the two lists have no value in common
abbrev pub Apart : List ℕ → List ℕ → Type 0
Apart l m = (v : ℕ) → In v l → In v m → ⊥

pub and_iff : (a b : Bool) → (a && b ≡ true) ↔ ((a ≡ true) × (b ≡ true))
and_iff true b = (λ e. (refl, e), λ e. e.1)
and_iff false b = (λ e. clash e refl, λ e. e.0)

pub or_iff : (a b : Bool) → (a || b ≡ true) ↔ ((a ≡ true) ⊎ (b ≡ true))
or_iff true b = (λ e. inl refl, λ e. refl)
or_iff false b = (λ e. inr e, λ e. elim e [ inl x ↦ clash x refl | inr x ↦ x ])

pub not_iff : (a : Bool) → (not a ≡ true) ↔ (a ≡ true → ⊥)
not_iff true = (λ e. clash e refl, λ f. absurd (f refl))
not_iff false = (λ e x. clash x refl, λ f. refl)

-- ---- members

pub in_append : (v : ℕ) (l m : List ℕ) → In v (l ++ m) ↔ (In v l ⊎ In v m)
in_append v [] m = (λ e. inr e, λ e. elim e [ inl x ↦ clash x refl | inr x ↦ x ])
in_append v (x ∷ l) m =
    let (to, of) = in_append v l m in
    let (t, o) = or_iff (eqb v x) (elem v (l ++ m)) in
    let (t', o') = or_iff (eqb v x) (elem v l) in (
      λ e. elim (t e) [ inl h ↦ inl (o' (inl h)) | inr h ↦ elim (to h) [ inl k ↦ inl (o' (inr k)) | inr k ↦ inr k ] ],
      λ e. elim e [ inl h ↦ elim (t' h) [ inl k ↦ o (inl k) | inr k ↦ o (inr (of (inl k))) ] | inr h ↦ o (inr (of (inr h))) ],
    )

-- each in the list passes the test
pub all_iff : (P : ℕ → Bool) (l : List ℕ) → (all P l ≡ true) ↔ ((v : ℕ) → In v l → P v ≡ true)
all_iff P [] = (λ e v h. clash h refl, λ f. refl)
all_iff P (x ∷ l) =
    let (to, of) = all_iff P l in
    let (t, o) = and_iff (P x) (all P l) in (
      λ e v h. elim ((or_iff (eqb v x) (elem v l)).0 h) [ inl k ↦ rw (eqb-true v x k) (t e).0 | inr k ↦ to (t e).1 v k ],
      λ f. o (f x ((or_iff (eqb x x) (elem x l)).1 (inl (eq-eqb x x refl))), of (λ v h. f v ((or_iff (eqb v x) (elem v l)).1 (inr h)))),
    )

-- ---- no value twice

pub distinct_append : (l m : List ℕ) → (distinct (l ++ m) ≡ true) ↔ ((distinct l ≡ true) × (distinct m ≡ true) × Apart l m)
distinct_append [] m = (λ e. (refl, e, λ v h k. clash h refl), λ e. e.1)
distinct_append (x ∷ l) m =
    let (to, of) = distinct_append l m in
    let (t, o) = and_iff (not (elem x (l ++ m))) (distinct (l ++ m)) in
    let (t', o') = and_iff (not (elem x l)) (distinct l) in (
      λ e.
          let (n, r) = t e in
          let (dl, dm, ap) = to r in
          let out = (not_iff (elem x (l ++ m))).0 n in (
            o' ((not_iff (elem x l)).1 (λ h. out ((in_append x l m).1 (inl h))), dl),
            dm,
            λ v h k. elim ((or_iff (eqb v x) (elem v l)).0 h) [ inl z ↦ out ((in_append x l m).1 (inr (rw (eqb-true v x z) at k))) | inr z ↦ ap v z k ],
          ),
      λ e.
          let (dx, dm, ap) = e in
          let (n, dl) = t' dx in
          o (
            (not_iff (elem x (l ++ m))).1 (λ h. elim ((in_append x l m).0 h) [
              | inl z ↦ (not_iff (elem x l)).0 n z
              | inr z ↦ ap x ((or_iff (eqb x x) (elem x l)).1 (inl (eq-eqb x x refl))) z
            ]),
            of (dl, dm, λ v h k. ap v ((or_iff (eqb v x) (elem v l)).1 (inr h)) k),
          ),
    )

-- ---- no value twice, walked from the front

-- none in the list passes the test S, which is that of the values met, and none stands in it twice
abbrev pub new_in : (ℕ → Bool) → List ℕ → Bool
new_in S [] = true
new_in S (v ∷ m) = not (S v) && new_in (λ u. eqb u v || S u) m

pub new_iff : (m : List ℕ) (S : ℕ → Bool) → (new_in S m ≡ true) ↔ ((distinct m ≡ true) × (all (λ v. not (S v)) m ≡ true))
new_iff [] S = (λ e. (refl, refl), λ e. refl)
new_iff (x ∷ m) S =
    let (to, of) = new_iff m (λ u. eqb u x || S u) in
    let (t, o) = and_iff (not (S x)) (new_in (λ u. eqb u x || S u) m) in
    let (t', o') = and_iff (not (elem x m)) (distinct m) in
    let (t'', o'') = and_iff (not (S x)) (all (λ v. not (S v)) m) in (
      λ e.
          let (n, r) = t e in
          let (d, a) = to r in
          let each = (all_iff (λ v. not (eqb v x || S v)) m).0 a in (
            o' ((not_iff (elem x m)).1 (λ h. (not_iff (eqb x x || S x)).0 (each x h) ((or_iff (eqb x x) (S x)).1 (inl (eq-eqb x x refl)))), d),
            o'' (n, (all_iff (λ v. not (S v)) m).1 (λ v h. (not_iff (S v)).1 (λ k. (not_iff (eqb v x || S v)).0 (each v h) ((or_iff (eqb v x) (S v)).1 (inr k))))),
          ),
      λ e.
          let (n, d) = t' e.0 in
          let (k, a) = t'' e.1 in
          o (
            k,
            of (
              d,
              (all_iff (λ v. not (eqb v x || S v)) m).1 (λ v h. (not_iff (eqb v x || S v)).1 (λ i.
                  elim ((or_iff (eqb v x) (S v)).0 i) [
                    | inl z ↦ (not_iff (elem x m)).0 n (rw (eqb-true v x z) at h)
                    | inr z ↦ (not_iff (S v)).0 ((all_iff (λ v. not (S v)) m).0 a v h) z
                  ])),
            ),
          ),
    )

-- tests that agree find the same
pub new_same : (S Z : ℕ → Bool) → ((v : ℕ) → S v ≡ Z v) → (m : List ℕ) → new_in S m ≡ new_in Z m
new_same S Z f [] = refl
new_same S Z f (v ∷ m) = rw (f v) (ap (λ b. not (Z v) && b) (new_same (λ u. eqb u v || S u) (λ u. eqb u v || Z u) (λ u. ap (λ b. eqb u v || b) (f u)) m))
