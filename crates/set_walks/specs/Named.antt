-- A name among the members of a set. Assumes nothing.
use Rattle.std.specs.Prelude.{◌≡◌, refl, Bool, true, false, Option, Some, None, cond, ◌&&◌, List, [], ◌∷◌, ℕ, zero, suc, ◌/◌, ◌%◌, ◌^◌, ◌≤◌, ◌<◌, eqb, length, get_or}
use Rattle.std.proofs.Common.{sym, ap, ◌∙◌, arith, eqb-true, eq-eqb, ne_eqb}
use Rattle.std.proofs.Math.Bool.{and-eq-true_iff}
use Rattle.std.proofs.Math.Option.{Option as Maybe, none, some}
use Rattle.std.proofs.Math.Decide.{dec_lt}
use Rattle.std.specs.Int.Count.{count_trailing_zeros}
use Rattle.paper.specs.Basics.{find, distinct}
use Rattle.paper.specs.Sets.{bit}
use Rattle.paper.specs.Table.{chosen}
use Rattle.basic_laws.specs.Bools.{clash, both, fails}
use Rattle.paper_laws.specs.Words.{bit_low, bit_half, bit_below}
use Rattle.paper_laws.specs.Chosen.{distinct_iff}
use Rattle.sets.specs.Lowest.{cleared, Taken, trailing_even, trailing_odd, cleared_even, cleared_odd, lowest_ind, turn}

-- the lowest member of the set that has the name
abbrev later : Option ℕ → Option ℕ
later (Some k) = Some (suc k)
later None = None

abbrev pub next_named : ℕ → List ℕ → ℕ → Option ℕ
next_named set [] name = None
next_named set (x ∷ l) name = cond (eqb (set % 2) 1 && eqb x name) (Some 0) (later (next_named (set / 2) l name))

-- ---- the walk

next_none : (l : List ℕ) (name : ℕ) → next_named 0 l name ≡ None
next_none [] name = refl
next_none (x ∷ l) name = ap later (next_none l name)

-- the lowest member first, and then the others
abbrev Turned : ℕ → ℕ → Type 0
Turned n w = (l : List ℕ) → length l ≡ n → (name : ℕ)
    → next_named w l name ≡ cond (eqb (get_or l (count_trailing_zeros n w) 0) name) (Some (count_trailing_zeros n w)) (next_named (cleared w) l name)

next_cleared : (n w : ℕ) → w < 2 ^ n → 0 < w → Turned n w
next_cleared = lowest_ind Turned odd even
  where
    odd : (n w : ℕ) → w / 2 < 2 ^ n → w % 2 ≡ 1 → Turned (suc n) w
    odd n w h e [] g name = absurd (omega arith)
    odd n w h e (x ∷ l) g name = rw (trailing_odd n w e, (cleared_odd w e).0, (cleared_odd w e).1, e)

    even : (n w : ℕ) → 0 < w → w % 2 ≡ 0 → Turned n (w / 2) → Turned (suc n) w
    even n w p e ih [] g name = absurd (omega arith)
    even n w p e ih (x ∷ l) g name =
        let k : ℕ = count_trailing_zeros n (w / 2) in
        rw (trailing_even n w e, (cleared_even w p e).0, (cleared_even w p e).1, e, ih l (omega arith) name)
        (go (eqb (get_or l k 0) name) (Some k) (next_named (cleared (w / 2)) l name))
      where
        go : (b : Bool) (q r : Option ℕ) → later (cond b q r) ≡ cond b (later q) (later r)
        go true q r = refl
        go false q r = refl

-- what is found in `rest` is the answer
pub record Seeking (names : List ℕ) (name : ℕ) (answer : Option ℕ) (rest : ℕ) : Type 0 where
  pub fits : rest < 2 ^ 64
  pub same : next_named rest names name ≡ answer

pub none_sought : (names : List ℕ) (name set : ℕ) → set < 2 ^ 64 → Seeking names name (next_named set names name) set
none_sought names name set h = record { fits = h; same = refl }

module _ (names : List ℕ) (name : ℕ) (answer : Option ℕ) (rest : ℕ) (s : Seeking names name answer rest) where
  pub all_sought : rest ≡ 0 → None ≡ answer
  all_sought z = sym (next_none names name) ∙ ap (λ w. next_named w names name) (sym z) ∙ s.same

  module _ (long : length names ≡ 64) {k next : ℕ} (t : Taken rest k next) where
    lowest : cond (eqb (get_or names k 0) name) (Some k) (next_named next names name) ≡ answer
    lowest = let more : rest ≡ 0 → ⊥ = t.some in rw (t.lowest, t.others) (sym (next_cleared 64 rest s.fits (omega arith) names long name) ∙ s.same)

    pub found_named : get_or names k 0 ≡ name → Some k ≡ answer
    found_named e = rw (eq-eqb (get_or names k 0) name e) at lowest

    pub others_sought : (get_or names k 0 ≡ name → ⊥) → Seeking names name answer next
    others_sought f = record { fits = rw t.others (turn 64 rest s.fits t.some).fits; same = rw (ne_eqb (get_or names k 0) name f) at lowest }

-- ---- where the names of the set differ, the answer is the paper's `find`

abbrev pub place : Option ℕ → Maybe ℕ
place (Some k) = some k
place None = none

-- the answer is a member that has the name, or no member has it
abbrev Told : ℕ → List ℕ → ℕ → Option ℕ → Type 0
Told set names name (Some k) = (bit set k ≡ true) × (get_or names k 0 ≡ name)
Told set names name None = (j : ℕ) → j < length names → bit set j ≡ true → get_or names j 0 ≡ name → ⊥

told : (set : ℕ) (names : List ℕ) (name : ℕ) → Told set names name (next_named set names name)
told set [] name = λ j h m e. absurd (omega arith)
told set (x ∷ l) name = go (eqb (set % 2) 1 && eqb x name) refl (next_named (set / 2) l name) (told (set / 2) l name)
  where
    go : (b : Bool) → (eqb (set % 2) 1 && eqb x name) ≡ b → (r : Option ℕ) → Told (set / 2) l name r → Told set (x ∷ l) name (cond b (Some 0) (later r))
    go true e r t = let (p, q) = (and-eq-true_iff (eqb (set % 2) 1) (eqb x name)).0 e in (bit_low set ∙ p, eqb-true x name q)
    go false e (Some k) t = (bit_half set k ∙ t.0, t.1)
    go false e None t = none_of
      where
        none_of : (j : ℕ) → j < suc (length l) → bit set j ≡ true → get_or (x ∷ l) j 0 ≡ name → ⊥
        none_of zero h m s = clash (both (sym (bit_low set) ∙ m) (eq-eqb x name s)) e
        none_of (suc j) h m s = t j (omega arith) (sym (bit_half set j) ∙ m) s

module _ (S : ℕ → Bool) where
  find_none : (n : ℕ) → ((j : ℕ) → j < n → S j ≡ false) → none ≡ find S n
  find_none zero f = refl
  find_none (suc n) f = rw (f n (omega arith)) (find_none n (λ j i. f j (omega arith)))

  find_only : (n k : ℕ) → k < n → S k ≡ true → ((j : ℕ) → k < j → j < n → S j ≡ false) → some k ≡ find S n
  find_only zero k h e f = absurd (omega arith)
  find_only (suc n) k h e f = elim (dec_lt k n) [
    | yes l ↦ rw (f n l (omega arith)) (find_only n k l e (λ j i g. f j i (omega arith)))
    | no l ↦ let q : k ≡ n = omega arith in rw (← q, e)
  ]

module _ (set : ℕ) (names : List ℕ) (name : ℕ) where
  abbrev Of : ℕ → Bool
  Of k = bit set k && eqb (get_or names k 0) name

  off : (j : ℕ) → (bit set j ≡ true → get_or names j 0 ≡ name → ⊥) → Of j ≡ false
  off j f = fails (Of j) (λ e. let (m, s) = (and-eq-true_iff (bit set j) (eqb (get_or names j 0) name)).0 e in f m (eqb-true (get_or names j 0) name s))

  pub named_find : (n : ℕ) (r : Option ℕ) → r ≡ next_named set names name → set < 2 ^ n → n ≤ length names → distinct (chosen set names) ≡ true
      → place r ≡ find (λ k. bit set k && eqb (get_or names k 0) name) n
  named_find n r s h l d = go r (rw s (told set names name))
    where
      go : (r : Option ℕ) → Told set names name r → place r ≡ find (λ k. bit set k && eqb (get_or names k 0) name) n
      go (Some k) (m, e) =
          find_only Of n k (bit_below n set k h m) (both m (eq-eqb (get_or names k 0) name e))
          (λ j g q. off j (λ p s. (distinct_iff set names).0 d k j g (omega arith) m p (e ∙ sym s)))
      go None f = find_none Of n (λ j i. off j (f j (omega arith)))
