-- The occurrences of names that stand twice, and that two occurrences of one name are looked for among them alone. Assumes nothing.
use mathlib.Core.Path.{◌≡◌, refl, sym, ap, ◌∙◌, subst}
use mathlib.Core.Bool.{Bool, true, false, not, ◌&&◌, ◌||◌, and-eq-true_iff}
use mathlib.Core.List.{List, [], ◌∷◌}
use Prim.Native.Nat.{ℕ, zero, suc, ◌+◌, ◌^◌, ◌≤◌, ◌<◌}
use native.Mathlib.Nat.{le_refl, lt_of_le_of_lt, lt_of_lt_of_le}
use native.Mathlib.Numerals.{add-one}
use native.Mathlib.Omega.{arith}
use native.Mathlib.Decide.{dec_lt}
use borrow.Author.Tests.{ltb-true, eq-eqb, not-true, not-false}
use lib.Dec.{ltb}
use lib.Pow.{pow_pos, pow-lt, pow_mono}
use lib.Seq.{drop-cons, get_or-take, length-take-le}
use lib.ListN.{length, take, drop, get_or, length-take, drop_of_length-le}
use lib.Bits.{bit_and, bit_or, and_zero_r, and_le_r, or_lt}
use Rattle.paper.specs.Basics.{all, distinct}
use Rattle.paper.specs.Sets.{bit, when}
use Rattle.paper.specs.Table.{chosen, within}
use Rattle.paper_laws.specs.Words.{bit_when, bit_zero, bit_of_or, bit_of_and, bit_one}
use Rattle.paper_laws.specs.Chosen.{Free, distinct_iff}
use Rattle.paper_laws.specs.Basics.{every_iff}
use Rattle.basic_laws.specs.Bools.{clash, same_test, both}
use Rattle.sets.specs.Chosen.{small, chosen_none, chosen_take, chosen_small}
use Rattle.ambiguity.specs.Unambiguous.{is_unambiguous, Bounded, Low, Twice, Places}

-- ---- tests

or_left : (a b : Bool) → a ≡ true → (a || b) ≡ true
or_left a b e = rw e

or_right : (a b : Bool) → b ≡ true → (a || b) ≡ true
or_right true b e = refl
or_right false b e = e

-- ---- a name below 64

all_at : (P : ℕ → Bool) (l : List ℕ) (i : ℕ) → all P l ≡ true → i < length l → P (get_or l i 0) ≡ true
all_at P [] i e h = absurd (omega arith)
all_at P (x ∷ l) zero e h = ((and-eq-true_iff (P x) (all P l)).0 e).0
all_at P (x ∷ l) (suc i) e h = all_at P l i ((and-eq-true_iff (P x) (all P l)).0 e).1 (omega arith)

pub low_name : (n i : ℕ) (names : List ℕ) → Low n names → i < n → get_or names i 0 < 64
low_name n i names l h =
    let p = all_at (λ a. ltb a 64) (take n names) i l.low (omega (arith, length-take-le n names l.long)) in
    ltb-true (get_or names i 0) 64 (ap (λ a. ltb a 64) (sym (get_or-take n names i 0 h)) ∙ p)

-- ---- the names that stand twice

pub record Repeats (n : ℕ) (names : List ℕ) (seen twice i : ℕ) : Type 0 where
  pub within : i ≤ n
  pub once : (k : ℕ) → k < i → bit seen (get_or names k 0) ≡ true
  pub again : Twice i names twice

pub none_repeats : {n : ℕ} {names : List ℕ} → Repeats n names 0 0 0
none_repeats = record { within = omega arith; once = λ k h. absurd (omega arith); again = λ j k l h. absurd (omega arith) }

module _ {n : ℕ} {names : List ℕ} {seen twice i : ℕ} (r : Repeats n names seen twice i) where
  pub all_repeats : n ≤ i → Twice n names twice
  all_repeats h j k l m = r.again j k l (omega arith)

  pub more_repeats : {name : ℕ} → i < n → name ≡ 2 ^ get_or names i 0 → Repeats n names (bit_or seen name) (bit_or twice (bit_and seen name)) (i + 1)
  more_repeats {name} h e = record { within = omega arith; once = once; again = again }
    where
      this : bit name (get_or names i 0) ≡ true
      this = ap (λ w. bit w (get_or names i 0)) e ∙ bit_one (get_or names i 0) (get_or names i 0) ∙ eq-eqb (get_or names i 0) (get_or names i 0) refl

      once : (k : ℕ) → k < i + 1 → bit (bit_or seen name) (get_or names k 0) ≡ true
      once k l = bit_of_or seen name (get_or names k 0) ∙ elim (dec_lt k i) [
        | yes m ↦ or_left (bit seen (get_or names k 0)) (bit name (get_or names k 0)) (r.once k m)
        | no m ↦ let c : k ≡ i = omega arith in or_right (bit seen (get_or names k 0)) (bit name (get_or names k 0)) (rw c this)
      ]

      again : Twice (i + 1) names (bit_or twice (bit_and seen name))
      again j k l m s = let a : ℕ = get_or names k 0 in bit_of_or twice (bit_and seen name) a ∙ elim (dec_lt k i) [
        | yes o ↦ or_left (bit twice a) (bit (bit_and seen name) a) (r.again j k l o s)
        | no o ↦
            let c : k ≡ i = omega arith in
            let b : bit seen a ≡ true = ap (bit seen) (sym s) ∙ r.once j (omega arith) in
            or_right (bit twice a) (bit (bit_and seen name) a) (bit_of_and seen name a ∙ both b (rw c this))
      ]

-- ---- their places

pub record Placed (set n : ℕ) (names : List ℕ) (found i : ℕ) : Type 0 where
  pub within : i ≤ n
  pub places : Places set i names found

pub none_placed : {set n : ℕ} {names : List ℕ} → Placed set n names 0 0
none_placed = record { within = omega arith; places = record { fits = pow_pos 0; each = λ k h. absurd (omega arith) } }

module _ {set n : ℕ} {names : List ℕ} {found i : ℕ} (p : Placed set n names found i) where
  pub all_placed : n ≤ i → Places set n names found
  all_placed h = let c : i ≡ n = (let w = p.within in omega arith) in subst (λ m. Places set m names found) c p.places

  pub more_placed : {this mark : ℕ} {b : Bool} → i < n → b ≡ bit set (get_or names i 0) → this ≡ 2 ^ i → mark ≡ when b this
      → Placed set n names (bit_or found mark) (i + 1)
  more_placed {this} {mark} {b} h e f g = record { within = omega arith; places = record { fits = rw (add-one i) fits; each = each } }
    where
      fits : bit_or found mark < 2 ^ suc i
      fits = or_lt (suc i) found mark (lt_of_lt_of_le p.places.fits (pow_mono (omega arith))) (rw (g, f) (go b))
        where
          go : (b : Bool) → when b (2 ^ i) < 2 ^ suc i
          go true = pow-lt (omega arith)
          go false = pow_pos (suc i)

      each : (k : ℕ) → k < i + 1 → bit set (get_or names k 0) ≡ true → bit (bit_or found mark) k ≡ true
      each k l m = bit_of_or found mark k ∙ elim (dec_lt k i) [
        | yes o ↦ or_left (bit found k) (bit mark k) (p.places.each k o m)
        | no o ↦ let c : k ≡ i = omega arith in or_right (bit found k) (bit mark k) (rw (g, f, e, c)
            (bit_when (bit set (get_or names i 0)) (2 ^ i) i
            ∙ both (ap (λ j. bit set (get_or names j 0)) (sym c) ∙ m) (bit_one i i ∙ eq-eqb i i refl)))
      ]

-- ---- where two occurrences of one name can be

-- r is of the first n places, and holds both of each two that have one name
pub record Sharing (n : ℕ) (names : List ℕ) (r : ℕ) : Type 0 where
  pub fits : r < 2 ^ n
  pub both : (j k : ℕ) → j < k → k < n → get_or names j 0 ≡ get_or names k 0 → (bit r j ≡ true) × (bit r k ≡ true)

sharing : {n : ℕ} {names : List ℕ} {twice r : ℕ} → Twice n names twice → Places twice n names r → Sharing n names r
sharing {names = names} {twice} t p = record {
  fits = p.fits;
  both = λ j k l h s. let m = t j k l h s in (p.each j (omega arith) (ap (λ a. bit twice a) s ∙ m), p.each k h m);
}

module _ {n : ℕ} {names : List ℕ} (b : n ≤ length names) {r : ℕ} (s : Sharing n names r) (w : ℕ) where
  walk_fits : bit_and w r < 2 ^ n
  walk_fits = lt_of_le_of_lt (and_le_r w r) s.fits

  at : (k : ℕ) → k < length (take n names) → (k < n) × (get_or (take n names) k 0 ≡ get_or names k 0)
  at k h = let i : k < n = omega (arith, length-take-le n names b) in (i, get_or-take n names k 0 i)

  to : Free (bit_and w r) (take n names) → Free w (take n names)
  to f j k l h p q e =
      let (i, d) = at k h in
      let (i', d') = at j (omega arith) in
      let (x, y) = s.both j k l i (sym d' ∙ e ∙ d) in
      f j k l h (bit_of_and w r j ∙ both p x) (bit_of_and w r k ∙ both q y) e

  of : Free w (take n names) → Free (bit_and w r) (take n names)
  of f j k l h p q e =
      f j k l h ((and-eq-true_iff (bit w j) (bit r j)).0 (sym (bit_of_and w r j) ∙ p)).0 ((and-eq-true_iff (bit w k) (bit r k)).0 (sym (bit_of_and w r k) ∙ q)).0 e

  walk_same : distinct (chosen (bit_and w r) names) ≡ distinct (chosen w (take n names))
  walk_same =
      ap distinct (sym (chosen_take n (bit_and w r) names walk_fits))
      ∙ same_test (distinct (chosen (bit_and w r) (take n names))) (distinct (chosen w (take n names)))
      (λ d. (distinct_iff w (take n names)).1 (to ((distinct_iff (bit_and w r) (take n names)).0 d)))
      (λ d. (distinct_iff (bit_and w r) (take n names)).1 (of ((distinct_iff w (take n names)).0 d)))

-- ---- a part of a set

-- a part of a set that holds no two occurrences of one name holds none
pub once_part : (names : List ℕ) (known set : ℕ) {r : Bool} → length names ≡ 64 → distinct (chosen known names) ≡ true → r ≡ within set known → r ≡ true
    → true ≡ distinct (chosen set names)
once_part names known set long d e t =
    sym ((distinct_iff set names).1 (λ j k i h p q s. (distinct_iff known names).0 d j k i h (also j (omega arith) p) (also k (omega arith) q) s))
  where
    also : (k : ℕ) → k < 64 → bit set k ≡ true → bit known k ≡ true
    also k h p = rw p at ((every_iff (λ k. not (bit set k) || bit known k) 64).0 (sym e ∙ t) k h)

-- ---- the ways out of `unambiguous`

-- the first set passes, and the follow sets of the occurrences below k, `known` the last of them: the answer is that of the others
pub record Going (n first : ℕ) (names follow : List ℕ) (known k : ℕ) : Type 0 where
  pub within : k ≤ n
  pub once : distinct (chosen known names) ≡ true
  pub rest : all (λ w. distinct (chosen w (take n names))) (drop k (take n follow)) ≡ is_unambiguous first (take n names) (take n follow)

module _ {n : ℕ} {names follow : List ℕ} (b : Bounded n names follow) where
  abbrev P : ℕ → Bool
  P w = distinct (chosen w (take n names))

  room : n ≤ length names
  room = omega (arith, b.few, b.names_long)

  all_hold : ((w : ℕ) → P w ≡ true) → (l : List ℕ) → all P l ≡ true
  all_hold h [] = refl
  all_hold h (w ∷ l) = both (h w) (all_hold h l)

  -- all names differ
  pub names_differ : (first : ℕ) {twice : ℕ} → Twice n names twice → twice ≡ 0 → true ≡ is_unambiguous first (take n names) (take n follow)
  names_differ first {twice} t z = sym (both (each first) (all_hold each (take n follow)))
    where
      none : Sharing n names 0
      none = record { fits = pow_pos n; both = λ j k l h s. clash (t j k l h s) (ap (λ w. bit w (get_or names k 0)) z ∙ bit_zero (get_or names k 0)) }

      each : (w : ℕ) → P w ≡ true
      each w = sym (walk_same room none w) ∙ rw (and_zero_r w) (ap distinct (chosen_none names))

  module _ {twice r : ℕ} (t : Twice n names twice) (p : Places twice n names r) where
    pub walk_small : (w : ℕ) → small (chosen (bit_and w r) names) ≡ true
    walk_small w = chosen_small n 64 (bit_and w r) names (walk_fits room (sharing t p) w) (le_refl 64) b.low

    walked : (w : ℕ) {d : Bool} → d ≡ distinct (chosen (bit_and w r) names) → P w ≡ d
    walked w e = sym (e ∙ walk_same room (sharing t p) w)

    module _ (first : ℕ) where
      abbrev answer : Bool
      answer = is_unambiguous first (take n names) (take n follow)

      pub first_clash : {d : Bool} → d ≡ distinct (chosen (bit_and first r) names) → not d ≡ true → false ≡ answer
      first_clash {d} e f = rw (walked first e ∙ not-true d f)

      pub first_passes : {d : Bool} → d ≡ distinct (chosen (bit_and first r) names) → not d ≡ false → Going n first names follow (bit_and first r) 0
      first_passes {d} e f = record { within = omega arith; once = sym e ∙ not-false d f; rest = rw (walked first e ∙ not-false d f) }

      module _ (known k : ℕ) (c : Going n first names follow known k) where
        pub all_pass : n ≤ k → true ≡ answer
        all_pass h = ap (all P) (sym (drop_of_length-le (take n follow) {i = k} (omega (arith, length-take n follow)))) ∙ c.rest

        module _ (h : k < n) where
          next : drop k (take n follow) ≡ get_or follow k 0 ∷ drop (k + 1) (take n follow)
          next =
              let l : k < length (take n follow) = omega (arith, length-take n follow, b.few, b.follow_long) in
              rw (add-one k) (drop-cons (take n follow) k 0 l ∙ ap (λ w. w ∷ drop (suc k) (take n follow)) (get_or-take n follow k 0 h))

          split : (P (get_or follow k 0) && all P (drop (k + 1) (take n follow))) ≡ answer
          split = ap (all P) (sym next) ∙ c.rest

          pub next_clash : {d : Bool} → d ≡ distinct (chosen (bit_and (get_or follow k 0) r) names) → not d ≡ true → false ≡ answer
          next_clash {d} e f = rw (walked (get_or follow k 0) e ∙ not-true d f) at split

          pub next_passes : {d : Bool} → d ≡ distinct (chosen (bit_and (get_or follow k 0) r) names) → not d ≡ false → Going n first names follow (bit_and (get_or follow k 0) r) (k + 1)
          next_passes {d} e f = record { within = omega arith; once = sym e ∙ not-false d f; rest = rw (walked (get_or follow k 0) e ∙ not-false d f) at split }
