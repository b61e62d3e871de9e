-- The law as code tests it, proved. Assumes nothing.
use Rattle.std.specs.Prelude.{◌≡◌, refl, ◌↔◌, ◌⊎◌, Bool, true, false, not, ◌||◌, List, ◌++◌, ℕ, zero, suc, eqb, ltb}
use Rattle.std.proofs.Common.{sym, ap, ◌∙◌, inl, inr, arith, ltb-true, lt-ltb, eqb-true, eq-eqb}
use Rattle.std.proofs.Math.Logic.Iff
use Rattle.paper.specs.declared.Tok.{Tok}
use Rattle.paper.specs.Basics.{elem}
use Rattle.paper.specs.Shape.{is_element}
use Rattle.paper.specs.Rules.{Rules}
use Rattle.paper.specs.Judgement.{is_id, is_ref, key_fault}
use Rattle.paper.specs.Edits.{splice}
use Rattle.basic_laws.specs.Bools.{clash}
use Rattle.shape_laws.specs.Five.{Allowed}
use Rattle.kept_laws.specs.Lists.{In, Apart, or_iff, not_iff, in_append, all_iff, new_iff}
use Rattle.kept_laws.specs.Counts.{times, times_elem}
use Rattle.kept_laws.specs.Split.{ahead, goes, comes, stays}
use Rattle.kept_laws.specs.Kept.{Kept, in_three}
use Rattle.kept_laws.proofs.Kept.{keys_kept, went_apart}
use Rattle.kept_laws.specs.Walks.{Walked, WalkedBy}

-- ---- the references

none_iff : (v : ℕ) (l : List ℕ) → (eqb (times v l) 0 ≡ true) ↔ (In v l → ⊥)
none_iff v l = (
  λ e h. let z = eqb-true (times v l) 0 e in let p = ltb-true 0 (times v l) (sym (times_elem v l) ∙ h) in omega arith,
  λ f. go (times v l) refl f,
)
  where
    go : (n : ℕ) → times v l ≡ n → (In v l → ⊥) → eqb (times v l) 0 ≡ true
    go zero e f = eq-eqb (times v l) 0 e
    go (suc n) e f = absurd (f (times_elem v l ∙ ap (ltb 0) e ∙ lt-ltb 0 (suc n) (omega arith)))

module _ (b c m r b' m' r' : List ℕ) where
  abbrev ids : List ℕ
  ids = b ++ (m ++ r)

  abbrev refs : List ℕ
  refs = b' ++ (m' ++ r')

  stays_in : (v : ℕ) → In v (b' ++ r') → In v refs
  stays_in v h = (in_three v b' m' r').1 (elim ((in_append v b' r').0 h) [ inl x ↦ inl x | inr x ↦ inr (inr x) ])

  pub to_walked : Kept b c m r b' m' r' → Walked b c m r b' m' r'
  to_walked k = record {
    fresh = (new_iff m (λ v. elem v (b ++ r))).1 (k.once, k.fresh);
    settled = (all_iff (λ v. elem v ids || eqb (times v refs) 0) (c ++ m')).1 (λ v h. elim ((in_append v c m').0 h) [
      | inl x ↦ gone v x (elem v ids) refl
      | inr x ↦ (or_iff (elem v ids) (eqb (times v refs) 0)).1 (inl (known v x))
    ]);
  }
    where
      known : (v : ℕ) → In v m' → In v ids
      known = (all_iff (λ v. elem v ids) m').0 k.known

      gone : (v : ℕ) → In v c → (x : Bool) → elem v ids ≡ x → elem v ids || eqb (times v refs) 0 ≡ true
      gone v h true e = (or_iff (elem v ids) (eqb (times v refs) 0)).1 (inl e)
      gone v h false e =
          (or_iff (elem v ids) (eqb (times v refs) 0)).1
          (inr ((none_iff v refs).1 (λ i. elim ((in_three v b' m' r').0 i) [
            | inl x ↦ out v h e ((in_append v b' r').1 (inl x))
            | inr x ↦ elim x [ inl y ↦ clash (known v y) e | inr y ↦ out v h e ((in_append v b' r').1 (inr y)) ]
          ])))
        where
          out : (v : ℕ) → In v c → elem v ids ≡ false → In v (b' ++ r') → ⊥
          out v h e i = elim ((or_iff (elem v m) (not (elem v (b' ++ r')))).0 ((all_iff (λ v. elem v m || not (elem v (b' ++ r'))) c).0 k.free v h)) [
            | inl z ↦ clash ((in_three v b m r).1 (inr (inl z))) e
            | inr z ↦ (not_iff (elem v (b' ++ r'))).0 z i
          ]

  -- c is apart from what stays, as the IDs of the document before are
  pub of_walked : Apart b c → Apart c r → Walked b c m r b' m' r' → Kept b c m r b' m' r'
  of_walked bc cr w =
      let (d, f) = (new_iff m (λ v. elem v (b ++ r))).0 w.fresh in
      record {
        once = d;
        fresh = f;
        known = (all_iff (λ v. elem v ids) m').1 (λ v h. elim (each v ((in_append v c m').1 (inr h))) [
          | inl x ↦ x
          | inr x ↦ absurd ((none_iff v refs).0 x ((in_three v b' m' r').1 (inr (inl h))))
        ]);
        free = (all_iff (λ v. elem v m || not (elem v (b' ++ r'))) c).1 (λ v h. (or_iff (elem v m) (not (elem v (b' ++ r')))).1 (elim (each v ((in_append v c m').1 (inl h))) [
          | inl x ↦ elim ((in_three v b m r).0 x) [ inl y ↦ absurd (bc v y h) | inr y ↦ elim y [ inl z ↦ inl z | inr z ↦ absurd (cr v h z) ] ]
          | inr x ↦ inr ((not_iff (elem v (b' ++ r'))).1 (λ i. (none_iff v refs).0 x (stays_in v i)))
        ]));
      }
    where
      each : (v : ℕ) → In v (c ++ m') → In v ids ⊎ (eqb (times v refs) 0 ≡ true)
      each v h = (or_iff (elem v ids) (eqb (times v refs) 0)).0 ((all_iff (λ v. elem v ids || eqb (times v refs) 0) (c ++ m')).0 w.settled v h)

-- ---- the document

pub keys_walked : (R : Rules) (d : List Tok) → is_element d ≡ true → {at n : ℕ} {p : List Tok} → Allowed d at n p
    → (key_fault R d).0 ≡ 0 → ((key_fault R (splice at n p d)).0 ≡ 0) ↔ WalkedBy R at n p d
keys_walked R d e {at} {n} {p} w k =
    let b = ahead (is_id R) at d in
    let c = goes (is_id R) at d n in
    let m = comes (is_id R) at d p in
    let r = stays (is_id R) at d n in
    let b' = ahead (is_ref R) at d in
    let m' = comes (is_ref R) at d p in
    let r' = stays (is_ref R) at d n in
    let (bc, cr) = went_apart R d at n k in
    Iff.trans (keys_kept R d e w k) (to_walked b c m r b' m' r', of_walked b c m r b' m' r' bc cr)
