-- The law of kept keys, proved. Assumes nothing.
use Rattle.std.specs.Prelude.{◌≡◌, refl, ◌↔◌, ◌⊎◌, Bool, true, false, not, ◌||◌, List, ◌++◌, ℕ}
use Rattle.std.proofs.Common.{inl, inr}
use Rattle.std.proofs.Math.Logic.Iff
use Rattle.paper.specs.declared.Tok.{Tok}
use Rattle.paper.specs.Basics.{elem, distinct}
use Rattle.paper.specs.Shape.{is_element}
use Rattle.paper.specs.Rules.{Rules}
use Rattle.paper.specs.Judgement.{is_id, is_ref, key_fault}
use Rattle.paper.specs.Edits.{splice}
use Rattle.basic_laws.specs.Bools.{clash}
use Rattle.shape_laws.specs.Five.{Allowed}
use Rattle.kept_laws.specs.Split.{ahead, goes, comes, stays, old_values, new_values}
use Rattle.kept_laws.specs.Lists.{In, Apart, or_iff, not_iff, in_append, all_iff, distinct_append}
use Rattle.kept_laws.specs.Kept.{Kept, Sound, in_three, keys_iff, KeptBy}

-- three lists with no value twice
record Three (b c r : List ℕ) : Type 0 where
  one : distinct b ≡ true
  two : distinct c ≡ true
  three : distinct r ≡ true
  first_second : Apart b c
  first_third : Apart b r
  second_third : Apart c r

three_of : (b c r : List ℕ) → (distinct (b ++ (c ++ r)) ≡ true) ↔ Three b c r
three_of b c r = (
  λ e.
      let (d, s, x) = (distinct_append b (c ++ r)).0 e in
      let (f, g, y) = (distinct_append c r).0 s in
      record {
        one = d;
        two = f;
        three = g;
        first_second = λ v h k. x v h ((in_append v c r).1 (inl k));
        first_third = λ v h k. x v h ((in_append v c r).1 (inr k));
        second_third = y;
      },
  λ t.
      (distinct_append b (c ++ r)).1 (
        t.one,
        (distinct_append c r).1 (t.two, t.three, t.second_third),
        λ v h k. elim ((in_append v c r).0 k) [ inl x ↦ t.first_second v h x | inr x ↦ t.first_third v h x ],
      ),
)

module _ (b c m r b' c' m' r' : List ℕ) (old : Sound (b ++ (c ++ r)) (b' ++ (c' ++ r'))) where
  was : Three b c r
  was = (three_of b c r).0 old.0

  -- a reference that stays had an ID
  had : (v : ℕ) → In v (b' ++ r') → In v b ⊎ (In v c ⊎ In v r)
  had v h =
      (in_three v b c r).0 ((all_iff (λ v. elem v (b ++ (c ++ r))) (b' ++ (c' ++ r'))).0 old.1 v
      ((in_three v b' c' r').1 (elim ((in_append v b' r').0 h) [ inl x ↦ inl x | inr x ↦ inr (inr x) ])))

  to_kept : Sound (b ++ (m ++ r)) (b' ++ (m' ++ r')) → Kept b c m r b' m' r'
  to_kept (d, a) = record {
    once = now.two;
    fresh = (all_iff (λ v. not (elem v (b ++ r))) m).1 (λ v h. (not_iff (elem v (b ++ r))).1 (λ k. elim ((in_append v b r).0 k) [ inl x ↦ now.first_second v x h | inr x ↦ now.second_third v h x ]));
    known = (all_iff (λ v. elem v (b ++ (m ++ r))) m').1 (λ v h. each v ((in_three v b' m' r').1 (inr (inl h))));
    free = (all_iff (λ v. elem v m || not (elem v (b' ++ r'))) c).1 (λ v h. again v h (elem v m) refl);
  }
    where
      now : Three b m r
      now = (three_of b m r).0 d

      each : (v : ℕ) → In v (b' ++ (m' ++ r')) → In v (b ++ (m ++ r))
      each = (all_iff (λ v. elem v (b ++ (m ++ r))) (b' ++ (m' ++ r'))).0 a

      again : (v : ℕ) → In v c → (x : Bool) → elem v m ≡ x → elem v m || not (elem v (b' ++ r')) ≡ true
      again v h true e = (or_iff (elem v m) (not (elem v (b' ++ r')))).1 (inl e)
      again v h false e =
          (or_iff (elem v m) (not (elem v (b' ++ r')))).1
          (inr ((not_iff (elem v (b' ++ r'))).1 (λ k.
          let there : In v (b' ++ (m' ++ r')) = (in_three v b' m' r').1 (elim ((in_append v b' r').0 k) [ inl x ↦ inl x | inr x ↦ inr (inr x) ]) in
          elim ((in_three v b m r).0 (each v there)) [
            | inl x ↦ was.first_second v x h
            | inr x ↦ elim x [ inl y ↦ clash y e | inr y ↦ was.second_third v h y ]
          ])))

  of_kept : Kept b c m r b' m' r' → Sound (b ++ (m ++ r)) (b' ++ (m' ++ r'))
  of_kept k = (
    (three_of b m r).1 (record {
      one = was.one;
      two = k.once;
      three = was.three;
      first_second = λ v h x. new v x ((in_append v b r).1 (inl h));
      first_third = was.first_third;
      second_third = λ v h x. new v h ((in_append v b r).1 (inr x));
    }),
    (all_iff (λ v. elem v (b ++ (m ++ r))) (b' ++ (m' ++ r'))).1 (λ v h. elim ((in_three v b' m' r').0 h) [
      | inl x ↦ still v ((in_append v b' r').1 (inl x))
      | inr x ↦ elim x [ inl y ↦ (all_iff (λ v. elem v (b ++ (m ++ r))) m').0 k.known v y | inr y ↦ still v ((in_append v b' r').1 (inr y)) ]
    ]),
  )
    where
      new : (v : ℕ) → In v m → In v (b ++ r) → ⊥
      new v h = (not_iff (elem v (b ++ r))).0 ((all_iff (λ v. not (elem v (b ++ r))) m).0 k.fresh v h)

      still : (v : ℕ) → In v (b' ++ r') → In v (b ++ (m ++ r))
      still v h = elim (had v h) [
        | inl x ↦ (in_three v b m r).1 (inl x)
        | inr x ↦ elim x [
          | inr y ↦ (in_three v b m r).1 (inr (inr y))
          | inl y ↦ elim ((or_iff (elem v m) (not (elem v (b' ++ r')))).0 ((all_iff (λ v. elem v m || not (elem v (b' ++ r'))) c).0 k.free v y)) [
            | inl z ↦ (in_three v b m r).1 (inr (inl z))
            | inr z ↦ absurd ((not_iff (elem v (b' ++ r'))).0 z h)
          ]
        ]
      ]

pub keys_kept : (R : Rules) (d : List Tok) → is_element d ≡ true → {at n : ℕ} {p : List Tok} → Allowed d at n p
    → (key_fault R d).0 ≡ 0 → ((key_fault R (splice at n p d)).0 ≡ 0) ↔ KeptBy R at n p d
keys_kept R d e {at} {n} {p} w k =
    let old = rw (old_values (is_id R) at n d, old_values (is_ref R) at n d) at ((keys_iff R d).0 k) in
    let b = ahead (is_id R) at d in
    let c = goes (is_id R) at d n in
    let m = comes (is_id R) at d p in
    let r = stays (is_id R) at d n in
    let b' = ahead (is_ref R) at d in
    let c' = goes (is_ref R) at d n in
    let m' = comes (is_ref R) at d p in
    let r' = stays (is_ref R) at d n in
    let new = rw (new_values (is_id R) d e w, new_values (is_ref R) d e w) at (keys_iff R (splice at n p d)) in
    Iff.trans new (to_kept b c m r b' c' m' r' old, of_kept b c m r b' c' m' r' old)

-- where no ID stands twice, those that go are apart from those that stay
pub went_apart : (R : Rules) (d : List Tok) (at n : ℕ) → (key_fault R d).0 ≡ 0
    → Apart (ahead (is_id R) at d) (goes (is_id R) at d n) × Apart (goes (is_id R) at d n) (stays (is_id R) at d n)
went_apart R d at n k =
    let once = rw (old_values (is_id R) at n d) at ((keys_iff R d).0 k).0 in
    let t = (three_of (ahead (is_id R) at d) (goes (is_id R) at d n) (stays (is_id R) at d n)).0 once in
    (t.first_second, t.second_third)
