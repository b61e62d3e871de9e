-- "Where the document before has no fault of 11 or 12, the edited one has none exactly if no coming ID was there or comes twice, each
-- coming reference has an ID, and no ID that went alone is still referred to." Assumes nothing.
use Rattle.std.specs.Prelude.{◌≡◌, refl, ◌↔◌, ◌⊎◌, Bool, true, false, cond, not, ◌&&◌, ◌||◌, List, [], ◌∷◌, ◌++◌, map, ℕ}
use Rattle.std.proofs.Common.{inl, inr, arith}
use Rattle.std.proofs.Math.Logic.Iff
use Rattle.paper.specs.declared.Tok.{Tok}
use Rattle.paper.specs.Basics.{all, elem, distinct}
use Rattle.paper.specs.Rules.{Rules}
use Rattle.paper.specs.Judgement.{is_id, is_ref, ids_of, refs_of, value_in, repeated, dangling, key_fault}
use Rattle.judge_laws.specs.Connectives.{else_iff}
use Rattle.basic_laws.specs.Bools.{clash}
use Rattle.kept_laws.specs.Found.{found, found_values}
use Rattle.kept_laws.specs.Split.{ahead, goes, comes, stays}
use Rattle.kept_laws.specs.Lists.{In, in_append, all_iff, new_in, new_iff}

-- IDs: b before the place, c that go, m that come, r behind. References: b' before, m' that come, r' behind.
pub record Kept (b c m r b' m' r' : List ℕ) : Type 0 where
  -- no coming ID comes twice
  pub once : distinct m ≡ true
  -- .. or is one that stays
  pub fresh : all (λ v. not (elem v (b ++ r))) m ≡ true
  -- each coming reference has an ID
  pub known : all (λ v. elem v (b ++ (m ++ r))) m' ≡ true
  -- an ID that goes comes again, or no reference that stays has it
  pub free : all (λ v. elem v m || not (elem v (b' ++ r'))) c ≡ true

-- no ID twice, and each reference is an ID
abbrev pub Sound : List ℕ → List ℕ → Type 0
Sound ids refs = (distinct ids ≡ true) × (all (λ v. elem v ids) refs ≡ true)

-- ---- the lists

pub in_three : (v : ℕ) (b c r : List ℕ) → In v (b ++ (c ++ r)) ↔ (In v b ⊎ (In v c ⊎ In v r))
in_three v b c r =
    let (t, o) = in_append v b (c ++ r) in
    let (t', o') = in_append v c r in (
      λ h. elim (t h) [ inl x ↦ inl x | inr x ↦ inr (t' x) ],
      λ h. elim h [ inl x ↦ o (inl x) | inr x ↦ o (inr (o' x)) ],
    )

-- ---- the document

-- as the judgement walks them: no ID was met earlier
repeated_iff : (l : List (ℕ × ℕ)) (seen : List ℕ) → ((repeated seen l).0 ≡ 0) ↔ (new_in (λ v. elem v seen) (map value_in l) ≡ true)
repeated_iff [] seen = (λ e. refl, λ e. refl)
repeated_iff (p ∷ l) seen = go (elem p.1 seen) (repeated_iff l (p.1 ∷ seen))
  where
    go : (b : Bool) → ((repeated (p.1 ∷ seen) l).0 ≡ 0) ↔ (new_in (λ v. elem v (p.1 ∷ seen)) (map value_in l) ≡ true)
        → ((cond b (11, p.0) (repeated (p.1 ∷ seen) l)).0 ≡ 0) ↔ (not b && new_in (λ v. elem v (p.1 ∷ seen)) (map value_in l) ≡ true)
    go true h = (λ e. absurd (omega (arith, e)), λ e. clash e refl)
    go false h = h

-- .. and each reference is an ID
dangling_iff : (ids : List ℕ) (l : List (ℕ × ℕ)) → ((dangling ids l).0 ≡ 0) ↔ (all (λ v. elem v ids) (map value_in l) ≡ true)
dangling_iff ids [] = (λ e. refl, λ e. refl)
dangling_iff ids (p ∷ l) = go (elem p.1 ids) (dangling_iff ids l)
  where
    go : (b : Bool) → ((dangling ids l).0 ≡ 0) ↔ (all (λ v. elem v ids) (map value_in l) ≡ true)
        → ((cond b (dangling ids l) (12, p.0)).0 ≡ 0) ↔ (b && all (λ v. elem v ids) (map value_in l) ≡ true)
    go true h = h
    go false h = (λ e. absurd (omega (arith, e)), λ e. clash e refl)

distinct_iff : (m : List ℕ) → (new_in (λ v. false) m ≡ true) ↔ (distinct m ≡ true)
distinct_iff m = let (to, of) = new_iff m (λ v. false) in (λ e. (to e).0, λ e. of (e, (all_iff (λ v. true) m).1 (λ v h. refl)))

pub keys_iff : (R : Rules) (d : List Tok) → ((key_fault R d).0 ≡ 0) ↔ Sound (found (is_id R) 0 0 d) (found (is_ref R) 0 0 d)
keys_iff R d =
    let ids : List ℕ = map value_in (ids_of R d) in
    rw (← found_values (is_id R) 0 0 0 d, ← found_values (is_ref R) 0 0 0 d)
    (Iff.trans (else_iff (repeated [] (ids_of R d)).0 (repeated [] (ids_of R d)).1 (dangling ids (refs_of R d)))
    (Iff.and (Iff.trans (repeated_iff (ids_of R d) []) (distinct_iff ids)) (dangling_iff ids (refs_of R d))))

-- what an edit does to the IDs and references of d
abbrev pub KeptBy : Rules → ℕ → ℕ → List Tok → List Tok → Type 0
KeptBy R at n p d =
    Kept (ahead (is_id R) at d) (goes (is_id R) at d n) (comes (is_id R) at d p) (stays (is_id R) at d n)
    (ahead (is_ref R) at d) (comes (is_ref R) at d p) (stays (is_ref R) at d n)
