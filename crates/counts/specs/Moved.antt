-- A count with what comes and what goes, as one number of the code, and the 48 of them. Assumes nothing.
use Rattle.std.specs.Prelude.{◌≡◌, refl, Option, Some, None, Bool, true, false, cond, ◌&&◌, List, [], ◌∷◌, ◌++◌, map, ℕ, zero, suc, ◌+◌, ◌≤◌, ◌<◌, leb, ℤ, pos, negsuc, ◌+ℤ◌, ◌-ℤ◌, length, get_or, set, take, drop}
use Rattle.std.proofs.Math.Path.{sym, ap}
use Rattle.std.proofs.Common.{ap₂, subst, ◌∙◌, arith, add-one, leb-true, to_z, length-set, take-suc, take-suc-set, take_all}
use Rattle.std.proofs.Math.Bool.{and-eq-true_iff, and_assoc, and-false}
use Rattle.std.specs.Int.{w32}
use Rattle.std.proofs.Math.Facts.{to_z_pos}
use Rattle.std.proofs.lemmas.List.{length-map, map-append}
use Rattle.paper.specs.Basics.{most_tokens, most_elements, all}
use Rattle.paper.specs.Counts.{count_good}
use Rattle.basic_laws.specs.Bools.{both}
use Rattle.tallies.specs.Tallies.{names_by, names_long, names_at}

-- ---- one count

-- a count if it is neither "below 0" nor "above 8,192"
abbrev pub within : ℤ → Option ℕ
within (pos n) = cond (leb n most_tokens) (Some n) None
within (negsuc n) = None

abbrev pub few : ℕ → Bool
few n = leb n most_tokens

within_some : (z : ℤ) {n : ℕ} → Some n ≡ within z → (pos n ≡ z) × (count_good z ≡ true)
within_some (pos m) {n} e = go (leb m most_tokens) e refl
  where
    go : (b : Bool) → Some n ≡ cond b (Some m) None → leb m most_tokens ≡ b → (pos n ≡ pos m) × (leb m most_tokens ≡ true)
    go true e w = (cc, w)
    go false e w = absurd (cc)
within_some (negsuc m) e = absurd (cc)

within_none : (z : ℤ) → None ≡ within z → count_good z ≡ false
within_none (pos m) e = go (leb m most_tokens) e
  where
    go : (b : Bool) → None ≡ cond b (Some m) None → b ≡ false
    go true e = absurd (cc)
    go false e = refl
within_none (negsuc m) e = refl

-- ---- all of them

-- each is at most 8,192
pub record FewEach (l : List ℕ) : Type 0 where
  pub long : length l ≡ most_elements
  pub most : (i : ℕ) → get_or l i 0 ≤ most_tokens

pub few_each : {l : List ℕ} → FewEach l → (i : ℕ) → get_or l i 0 ≤ most_tokens
few_each f = f.most

abbrev pub moved_at : (counts : List ℤ) (goes comes : List ℕ) → ℕ → ℤ
moved_at counts goes comes e = get_or counts e (pos 0) +ℤ pos (get_or comes e 0) -ℤ pos (get_or goes e 0)

unfoldable pub moved_by : (counts : List ℤ) (goes comes : List ℕ) → List ℤ
moved_by counts goes comes = names_by (moved_at counts goes comes) 0 most_elements

-- the counts as numbers; none where one is "below 0 or above 8,192"
abbrev pub Numbers : List ℤ → Option (List ℕ) → Type 0
Numbers counts (Some now) = (all few now ≡ true) × (map pos now ≡ counts)
Numbers counts None = all count_good counts ≡ false

all_few : (l : List ℕ) → all count_good (map pos l) ≡ all few l
all_few [] = refl
all_few (n ∷ l) = ap (λ b. few n && b) (all_few l)

pub numbers_good : (now : List ℕ) {counts : List ℤ} → (all few now ≡ true) × (map pos now ≡ counts) → all count_good counts ≡ true
numbers_good now {counts} n = ap (all count_good) (sym n.1) ∙ all_few now ∙ n.0

-- ---- 48 places, filled one after another

pub record Filling {A : Type 0} (target now : List A) (e : ℕ) : Type 0 where
  pub most : e ≤ most_elements
  pub long : length now ≡ most_elements
  pub front : take e now ≡ take e target

module _ {A : Type 0} (target : List A) where
  fill_begin : {now : List A} → length now ≡ most_elements → Filling target now 0
  fill_begin l = record { most = omega arith; long = l; front = refl }

  module _ (whole : length target ≡ most_elements) {now : List A} {e : ℕ} (f : Filling target now e) where
    fill_turn : (d : A) {x : A} → e < most_elements → x ≡ get_or target e d → Filling target (set now e x) (e + 1)
    fill_turn d {x} h v = record {
      most = omega arith;
      long = length-set now e x ∙ f.long;
      front = ap (λ k. take k (set now e x)) (add-one e) ∙ take-suc-set now e x (omega (arith, f.long)) ∙ ap₂ (λ l y. l ++ (y ∷ [])) f.front v
          ∙ sym (ap (λ k. take k target) (add-one e) ∙ take-suc target e d (omega (arith, whole)));
    }

    fill_end : most_elements ≤ e → now ≡ target
    fill_end h = sym (take_all e now (omega (arith, f.long))) ∙ f.front ∙ take_all e target (omega (arith, whole))

-- ---- the counts, moved

all_append : (a b : List ℤ) → all count_good (a ++ b) ≡ (all count_good a && all count_good b)
all_append [] b = refl
all_append (z ∷ a) b = ap (λ x. count_good z && x) (all_append a b) ∙ sym (and_assoc (count_good z) (all count_good a) (all count_good b))

all_not : (l : List ℤ) (i : ℕ) → i < length l → count_good (get_or l i (pos 0)) ≡ false → all count_good l ≡ false
all_not [] i h e = absurd (omega arith)
all_not (z ∷ l) zero h e = ap (λ b. b && all count_good l) e
all_not (z ∷ l) (suc i) h e = ap (λ b. count_good z && b) (all_not l i (omega arith) e) ∙ and-false (count_good z)

-- the counts before e are moved, and good
pub record Moving (counts : List ℤ) (goes comes now : List ℕ) (e : ℕ) : Type 0 where
  pub long : length now ≡ most_elements
  pub front : map pos (take e now) ≡ take e (moved_by counts goes comes)
  pub good : all count_good (take e (moved_by counts goes comes)) ≡ true

module _ (counts : List ℤ) (goes comes : List ℕ) where
  moved_long : length (moved_by counts goes comes) ≡ most_elements
  unfolding moved_by
  moved_long = names_long (moved_at counts goes comes) 0 most_elements

  moved_at_lem : (e : ℕ) → e < most_elements → moved_at counts goes comes e ≡ get_or (moved_by counts goes comes) e (pos 0)
  unfolding moved_by
  moved_at_lem e h = sym (names_at (pos 0) (moved_at counts goes comes) 0 most_elements e h ∙ ap (moved_at counts goes comes) (omega arith))

  pub moving_begin : {now : List ℕ} → length now ≡ most_elements → Moving counts goes comes now 0
  moving_begin l = record { long = l; front = refl; good = refl }

  next : (e : ℕ) → e < most_elements → take (e + 1) (moved_by counts goes comes) ≡ take e (moved_by counts goes comes) ++ (moved_at counts goes comes e ∷ [])
  next e h =
      ap (λ k. take k (moved_by counts goes comes)) (add-one e) ∙ take-suc (moved_by counts goes comes) e (pos 0) (omega (arith, moved_long))
      ∙ ap (λ z. take e (moved_by counts goes comes) ++ (z ∷ [])) (sym (moved_at_lem e h))

  pub moving_turn : {now : List ℕ} {e x : ℕ} {r : Option ℕ} → Moving counts goes comes now e → e < most_elements → r ≡ Some x
      → r ≡ within (get_or counts e (pos 0) +ℤ pos (get_or comes e 0) -ℤ pos (get_or goes e 0)) → Moving counts goes comes (set now e x) (e + 1)
  moving_turn {now} {e} {x} m h q v =
      let (is, good) = within_some (moved_at counts goes comes e) (sym q ∙ v) in
      record {
        long = length-set now e x ∙ m.long;
        front = ap (λ k. map pos (take k (set now e x))) (add-one e) ∙ ap (map pos) (take-suc-set now e x (omega (arith, m.long)))
            ∙ map-append pos (take e now) (x ∷ []) ∙ ap₂ (λ l y. l ++ (y ∷ [])) m.front is ∙ sym (next e h);
        good = ap (all count_good) (next e h) ∙ all_append (take e (moved_by counts goes comes)) (moved_at counts goes comes e ∷ [])
            ∙ both m.good (both good refl);
      }

  pub moving_stop : {e : ℕ} {r : Option ℕ} → e < most_elements → r ≡ None → r ≡ within (get_or counts e (pos 0) +ℤ pos (get_or comes e 0) -ℤ pos (get_or goes e 0))
      → all count_good (moved_by counts goes comes) ≡ false
  moving_stop {e} h q v =
      all_not (moved_by counts goes comes) e (omega (arith, moved_long)) (ap count_good (sym (moved_at_lem e h)) ∙ within_none (moved_at counts goes comes e) (sym q ∙ v))

  pub moving_end : {now : List ℕ} {e : ℕ} → Moving counts goes comes now e → most_elements ≤ e → e ≤ most_elements → (all few now ≡ true) × (map pos now ≡ moved_by counts goes comes)
  moving_end {now} {e} m h k =
      let is : e ≡ most_elements = omega arith in
      let f : map pos (take most_elements now) ≡ take most_elements (moved_by counts goes comes) = subst (λ i. map pos (take i now) ≡ take i (moved_by counts goes comes)) is m.front in
      let g : all count_good (take most_elements (moved_by counts goes comes)) ≡ true = subst (λ i. all count_good (take i (moved_by counts goes comes)) ≡ true) is m.good in
      let whole : take most_elements (moved_by counts goes comes) ≡ moved_by counts goes comes = take_all most_elements (moved_by counts goes comes) (omega (arith, moved_long)) in
      let are : map pos now ≡ moved_by counts goes comes = ap (map pos) (sym (take_all most_elements now (omega (arith, m.long)))) ∙ f ∙ whole in
      (sym (all_few now) ∙ ap (all count_good) are ∙ sym (ap (all count_good) whole) ∙ g, are)

-- ---- counts that are written

few_at : (l : List ℕ) → all few l ≡ true → (i : ℕ) → get_or l i 0 ≤ most_tokens
few_at [] h i = omega arith
few_at (n ∷ l) h zero = leb-true n most_tokens ((and-eq-true_iff (few n) (all few l)).0 h).0
few_at (n ∷ l) h (suc i) = few_at l ((and-eq-true_iff (few n) (all few l)).0 h).1 i

pub map_at : (l : List ℕ) (i : ℕ) → pos (get_or l i 0) ≡ get_or (map pos l) i (pos 0)
map_at [] i = refl
map_at (n ∷ l) zero = refl
map_at (n ∷ l) (suc i) = map_at l i

module _ (after : List ℕ) where
  pub putting_begin : {now : List ℤ} → length now ≡ most_elements → Filling (map pos after) now 0
  putting_begin = fill_begin (map pos after)

  pub put_small : all few after ≡ true → (e : ℕ) → get_or after e 0 < 2147483648
  put_small h e = omega (arith, few_at after h e)

  module _ (long : length after ≡ most_elements) {now : List ℤ} {e : ℕ} (f : Filling (map pos after) now e) where
    pub putting_turn : all few after ≡ true → e < most_elements → Filling (map pos after) (set now e (to_z w32 (get_or after e 0))) (e + 1)
    putting_turn k h =
        fill_turn (map pos after) (length-map after pos ∙ long) f (pos 0) h (to_z_pos w32 {n = get_or after e 0} (put_small k e) ∙ map_at after e)

    pub putting_end : most_elements ≤ e → now ≡ map pos after
    putting_end h = fill_end (map pos after) (length-map after pos ∙ long) f h
