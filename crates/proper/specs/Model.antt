-- A block's model, in the parts in which it is tested. Assumes nothing.
use Rattle.std.specs.Prelude.{◌≡◌, refl, Bool, false, not, ◌&&◌, List, [], ◌∷◌, ℕ, ◌+◌, ◌-◌, ◌^◌, ◌≤◌, ◌<◌, leb, length}
use Rattle.std.proofs.Common.{sym, ap, ap₂, ◌∙◌, length-take-le, take-take}
use Rattle.std.proofs.Math.Bool.{true, and-eq-true_iff}
use native.Mathlib.Omega.{arith}
use borrow.Author.Tests.{lt-ltb, le-leb, ltb-true, not-true, not-false}
use Rattle.std.proofs.Math.Dec.{ltb}
use Rattle.std.proofs.Math.ListN.{take, drop, length-drop}
use Rattle.std.proofs.Math.Seq.{take_all}
use Rattle.std.specs.Int.Bits.{bit_or}
use Rattle.paper.specs.Basics.{all, most_names, most_elements, distinct}
use Rattle.paper.specs.Table.{cell, count_at, no_child_at, first_at, last_at, names_at, follow_at, zeros, proper_next, proper_model, block_length, chosen}
use Rattle.sets.specs.Chosen.{small}
use Rattle.basic_laws.specs.Bools.{clash, same_test, fails}
use Rattle.table_laws.specs.Parts.{model_parts}
use Rattle.ambiguity.specs.Unambiguous.{is_unambiguous, Bounded}
use Rattle.zeros.specs.Union.{union, or_lowest, union_lowest}

-- what is asked of a model of n occurrences, but for two of one name
unfoldable pub ranged : ℕ → List ℕ → ℕ → Bool
ranged E b n =
    leb (cell b no_child_at) 1
    && (ltb (cell b first_at) (2 ^ n) && ltb (cell b last_at) (2 ^ n) && all (λ w. ltb w (2 ^ n)) (take n (drop follow_at b)))
    && all (λ a. ltb a E) (take n (drop names_at b))
    && zeros (take (most_names - n) (drop (names_at + n) b))
    && zeros (drop (follow_at + n) b)

ranged_parts : (E : ℕ) (b : List ℕ) (n : ℕ) → ranged E b n ≡ true
    → (leb (cell b no_child_at) 1 ≡ true) × (ltb (cell b first_at) (2 ^ n) ≡ true) × (ltb (cell b last_at) (2 ^ n) ≡ true)
    × (all (λ w. ltb w (2 ^ n)) (take n (drop follow_at b)) ≡ true) × (all (λ a. ltb a E) (take n (drop names_at b)) ≡ true)
    × (zeros (take (most_names - n) (drop (names_at + n) b)) ≡ true) × (zeros (drop (follow_at + n) b) ≡ true)
unfolding ranged
ranged_parts E b n r =
    let follow : List ℕ = take n (drop follow_at b) in
    let names : List ℕ = take n (drop names_at b) in
    let (r, z) = (and-eq-true_iff _ (zeros (drop (follow_at + n) b))).0 r in
    let (r, y) = (and-eq-true_iff _ (zeros (take (most_names - n) (drop (names_at + n) b)))).0 r in
    let (r, x) = (and-eq-true_iff _ (all (λ a. ltb a E) names)).0 r in
    let (k, r) = (and-eq-true_iff (leb (cell b no_child_at) 1) (ltb (cell b first_at) (2 ^ n) && ltb (cell b last_at) (2 ^ n) && all (λ w. ltb w (2 ^ n)) follow)).0 r in
    let (r, a) = (and-eq-true_iff _ (all (λ w. ltb w (2 ^ n)) follow)).0 r in
    let (f, l) = (and-eq-true_iff (ltb (cell b first_at) (2 ^ n)) (ltb (cell b last_at) (2 ^ n))).0 r in
    (k, f, l, a, x, y, z)

-- as the code tests it: the sets by their union
module _ (E : ℕ) (b : List ℕ) (n : ℕ) where
  lowest : {u : ℕ} → u ≡ union (take n (drop follow_at b))
      → ltb (bit_or (bit_or (cell b first_at) (cell b last_at)) u) (2 ^ n)
      ≡ (ltb (cell b first_at) (2 ^ n) && ltb (cell b last_at) (2 ^ n) && all (λ w. ltb w (2 ^ n)) (take n (drop follow_at b)))
  lowest {u} e =
      let v : ℕ = bit_or (cell b first_at) (cell b last_at) in
      or_lowest n v u ∙ ap₂ (λ p q. p && q) (or_lowest n (cell b first_at) (cell b last_at)) (ap (λ w. ltb w (2 ^ n)) e ∙ union_lowest n (take n (drop follow_at b)))

  pub ranged_test : {u : ℕ} {low below names follow : Bool} → length b ≡ block_length → n ≤ most_names
      → u ≡ union (take (follow_at + n - follow_at) (drop follow_at b))
      → low ≡ ltb (bit_or (bit_or (cell b first_at) (cell b last_at)) u) (2 ^ n)
      → below ≡ all (λ a. ltb a E) (take (names_at + n - names_at) (drop names_at b))
      → names ≡ zeros (take (follow_at - (names_at + n)) (drop (names_at + n) b))
      → follow ≡ zeros (take (length b - (follow_at + n)) (drop (follow_at + n) b))
      → (leb (cell b no_child_at) 1 && low && below && names && follow) ≡ ranged E b n
  unfolding ranged
  ranged_test long few u low below names follow =
      let p : follow_at + n - follow_at ≡ n = omega arith in
      let q : names_at + n - names_at ≡ n = omega arith in
      let r : follow_at - (names_at + n) ≡ most_names - n = omega arith in
      let s : take (length b - (follow_at + n)) (drop (follow_at + n) b) ≡ drop (follow_at + n) b = take_all (length b - (follow_at + n)) (drop (follow_at + n) b) (simp length-drop (omega arith)) in
      rw (low ∙ lowest (rw p at u), rw q at below, rw r at names, rw s at follow)

-- ---- a model is in range, and no set holds two occurrences of one name

each_both : (P Q : ℕ → Bool) (l : List ℕ) → all (λ w. P w && Q w) l ≡ (all P l && all Q l)
each_both P Q [] = refl
each_both P Q (w ∷ l) = ap (λ r. (P w && Q w) && r) (each_both P Q l) ∙ swap (P w) (Q w) (all P l) (all Q l)
  where
    swap : (p q r s : Bool) → ((p && q) && (r && s)) ≡ ((p && r) && (q && s))
    swap true true r s = refl
    swap true false true s = refl
    swap true false false s = refl
    swap false q r s = refl

module _ (E : ℕ) (b : List ℕ) where
  abbrev n : ℕ
  n = cell b count_at

  abbrev names : List ℕ
  names = take n (drop names_at b)

  abbrev follow : List ℕ
  follow = take n (drop follow_at b)

  -- no two occurrences in the set have one name
  abbrev once : ℕ → Bool
  once w = distinct (chosen w names)

  abbrev unambiguous : Bool
  unambiguous = is_unambiguous (cell b first_at) names follow

  to_parts : proper_model E b ≡ true → (ranged E b n && unambiguous) ≡ true
  unfolding ranged
  to_parts e =
      let m = model_parts E b e in
      let (f, g) = (and-eq-true_iff (ltb (cell b first_at) (2 ^ n)) (once (cell b first_at))).0 m.first_set in
      let (a, d) = (and-eq-true_iff (all (λ w. ltb w (2 ^ n)) follow) (all once follow)).0 (sym (each_both (λ w. ltb w (2 ^ n)) once follow) ∙ m.follow_sets) in
      rw (le-leb (cell b no_child_at) 1 m.flag, f, lt-ltb (cell b last_at) (2 ^ n) m.last_set, a, m.names_below, m.names_unused, m.follow_unused, g, d)

  of_parts : 1 ≤ n → n ≤ most_names → (ranged E b n && unambiguous) ≡ true → proper_model E b ≡ true
  unfolding proper_model
  of_parts low few e =
      let (r, o) = (and-eq-true_iff (ranged E b n) unambiguous).0 e in
      let (g, d) = (and-eq-true_iff (once (cell b first_at)) (all once follow)).0 o in
      let (k, f, l, a, x, y, z) = ranged_parts E b n r in
      let c : all (proper_next n names) follow ≡ true = each_both (λ w. ltb w (2 ^ n)) once follow ∙ rw (a, d) in
      rw (le-leb 1 n low, le-leb n most_names few, k, f, g, l, x, y, c, z)

  pub model_none : n < 1 → false ≡ proper_model E b
  model_none h = sym (fails (proper_model E b) (λ e. let m = model_parts E b e in omega arith))

  pub model_many : most_names < n → false ≡ proper_model E b
  model_many h = sym (fails (proper_model E b) (λ e. let m = model_parts E b e in omega arith))

  pub model_out : {r : Bool} → r ≡ ranged E b n → not r ≡ true → false ≡ proper_model E b
  model_out {r} e t = sym (fails (proper_model E b) (λ s. clash (e ∙ ((and-eq-true_iff (ranged E b n) unambiguous).0 (to_parts s)).0) (not-true r t)))

  pub model_bounded : {r : Bool} → E ≤ most_elements → length b ≡ block_length → n ≤ most_names → r ≡ ranged E b n → not r ≡ false
      → Bounded n (take most_names (drop names_at b)) (take (length b - follow_at) (drop follow_at b))
  model_bounded {r} h long few e t =
      let (k, f, l, a, x, y, z) = ranged_parts E b n (sym e ∙ not-false r t) in
      record {
        few = few;
        names_long = length-take-le most_names (drop names_at b) (simp length-drop (omega arith));
        follow_long = length-take-le (length b - follow_at) (drop follow_at b) (simp length-drop (omega arith)) ∙ omega arith;
        low = ap small (take-take n most_names (drop names_at b) few) ∙ below names x;
      }
    where
      below : (l : List ℕ) → all (λ a. ltb a E) l ≡ true → small l ≡ true
      below [] e = refl
      below (a ∷ l) e = let (p, q) = (and-eq-true_iff (ltb a E) (all (λ a. ltb a E) l)).0 e in let i = ltb-true a E p in rw (lt-ltb a 64 (omega arith)) (below l q)

  pub model_test : {r q : Bool} → length b ≡ block_length → 1 ≤ n → n ≤ most_names → r ≡ ranged E b n → not r ≡ false
      → q ≡ is_unambiguous (cell b first_at) (take n (take most_names (drop names_at b))) (take n (take (length b - follow_at) (drop follow_at b)))
      → q ≡ proper_model E b
  model_test {r} {q} long low few e t o =
      let s : take n (take (length b - follow_at) (drop follow_at b)) ≡ follow = take-take n (length b - follow_at) (drop follow_at b) (omega arith) in
      let g : q ≡ unambiguous = rw (take-take n most_names (drop names_at b) few, s) at o in
      let f : (ranged E b n && unambiguous) ≡ unambiguous = rw (sym e ∙ not-false r t) in
      g ∙ same_test unambiguous (proper_model E b) (λ c. of_parts low few (f ∙ c)) (λ c. sym f ∙ to_parts c)
