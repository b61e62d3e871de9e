-- The entries that a slice holds, and one more. Assumes nothing.
use Rattle.std.specs.Prelude.{◌≡◌, refl, List, [], ◌∷◌, ◌++◌, map, ℕ, zero, suc, ◌+◌, ◌-◌, ◌*◌, ◌≤◌, ◌<◌, length, drop, set, get_or, replicate}
use Rattle.std.proofs.Common.{sym, ap, ap₂, ◌∙◌, arith, add-one, length-append, length-set, take_at, drop_at, drop-drop}
use Rattle.std.proofs.Math.Numerals.{add-two}
use Rattle.std.proofs.lemmas.List.Edits.{sets, sets-eq}
use Rattle.paper.specs.Basics.{most_fixed, concat}
use Rattle.paper.specs.Table.{Entry, entry_length, entries, entry_numbers, fixed_numbers}
use Rattle.paper_laws.specs.Basics.{length_pad}
use Rattle.table_laws.specs.Entries.{entries_back, length_numbers}

-- a count, its entries, and zeros behind them
pub record Held (f : List ℕ) : Type 0 where
  pub long : length f ≡ 49
  pub few : get_or f 0 0 ≤ most_fixed
  pub count : get_or f 0 0 ≡ length (entries f)
  pub same : f ≡ fixed_numbers (entries f)

abbrev pub entry_of : (element attribute value : ℕ) → Entry
entry_of e a v = record { element = e; attribute = a; value = v }

-- what holds them, and which they are
pub held_entries : (l : List Entry) {f : List ℕ} → f ≡ fixed_numbers l → entries f ≡ l
held_entries l e = ap entries e ∙ entries_back l

pub held_of : (l : List Entry) {f : List ℕ} → length l ≤ most_fixed → f ≡ fixed_numbers l → Held f
held_of l {f} h e =
    let back = held_entries l e in
    let c : get_or f 0 0 ≡ length l = ap (λ r. get_or r 0 0) e in
    record {
      long = ap length e ∙ ap suc (length_pad (most_fixed * entry_length) (concat (map entry_numbers l)) (omega (arith, length_numbers l)));
      few = omega arith;
      count = c ∙ ap length (sym back);
      same = e ∙ ap fixed_numbers (sym back);
    }

-- ---- one more

numbers_last : (l : List Entry) (x : Entry) → concat (map entry_numbers (l ++ x ∷ [])) ≡ concat (map entry_numbers l) ++ entry_numbers x
numbers_last [] x = refl
numbers_last (y ∷ l) x = ap (λ r. entry_numbers y ++ r) (numbers_last l x)

zeros_past : (k n : ℕ) → drop {A = ℕ} k (replicate n 0) ≡ replicate (n - k) 0
zeros_past zero n = let z : n ≡ n - zero = omega arith in ap (λ m. replicate m 0) z
zeros_past (suc k) zero = let z : 0 - suc k ≡ 0 = omega arith in rw z
zeros_past (suc k) (suc n) = let z : suc n - suc k ≡ n - k = omega arith in rw z (zeros_past k n)

module _ (l : List Entry) (h : length l < most_fixed) (x : Entry) where
  abbrev N : List ℕ
  N = concat (map entry_numbers l)

  abbrev m : ℕ
  m = most_fixed * entry_length - length N

  abbrev T : List ℕ
  T = N ++ replicate m 0

  stored : sets T (length l * entry_length) (entry_numbers x) ≡ concat (map entry_numbers (l ++ x ∷ [])) ++ replicate (m - 3) 0
  stored =
      let k = length l * entry_length in
      let n : length N ≡ k = length_numbers l in
      sets-eq (entry_numbers x) T k (omega (arith, length_pad (most_fixed * entry_length) N (omega arith)))
      ∙ ap₂ (λ u v. u ++ entry_numbers x ++ v) (take_at N (replicate m 0) k n)
      (sym (drop-drop 3 k T) ∙ ap (drop 3) (drop_at N (replicate m 0) k n) ∙ zeros_past 3 m)
      ∙ ap (λ u. u ++ replicate (m - 3) 0) (sym (numbers_last l x))

  added : suc (length l) ∷ sets T (length l * entry_length) (entry_numbers x) ≡ fixed_numbers (l ++ x ∷ [])
  added =
      let n : length (concat (map entry_numbers (l ++ x ∷ []))) ≡ length N + 3 = ap length (numbers_last l x) ∙ length-append N (entry_numbers x) in
      let z : m - 3 ≡ most_fixed * entry_length - length (concat (map entry_numbers (l ++ x ∷ []))) = omega arith in
      ap₂ (λ c r. c ∷ r) (sym (length-append l (x ∷ []) ∙ add-one (length l)))
      (stored ∙ ap (λ k. concat (map entry_numbers (l ++ x ∷ [])) ++ replicate k 0) z)

entry_laid : (e a v : ℕ) (l : List Entry) → length l < most_fixed
    → set (set (set (set (fixed_numbers l) (1 + length l * entry_length) e) (1 + length l * entry_length + 1) a) (1 + length l * entry_length + 2) v) 0 (length l + 1)
    ≡ fixed_numbers (l ++ entry_of e a v ∷ [])
entry_laid e a v l h =
    let s : 1 + length l * entry_length ≡ suc (length l * entry_length) = omega arith in
    rw (s, add-one (length l), add-one (suc (length l * entry_length)), add-two (suc (length l * entry_length))) (added l h (entry_of e a v))

module _ {f : List ℕ} (held : Held f) (room : get_or f 0 0 < most_fixed) (e a v : ℕ) where
  -- its places are there
  pub second_in : 1 + get_or f 0 0 * entry_length + 1 < length (set f (1 + get_or f 0 0 * entry_length) e)
  second_in = simp length-set (omega (arith, held.long))

  pub third_in : 1 + get_or f 0 0 * entry_length + 2 < length (set (set f (1 + get_or f 0 0 * entry_length) e) (1 + get_or f 0 0 * entry_length + 1) a)
  third_in = simp length-set (omega (arith, held.long))

  pub entry-added :
      set (set (set (set f (1 + get_or f 0 0 * entry_length) e) (1 + get_or f 0 0 * entry_length + 1) a) (1 + get_or f 0 0 * entry_length + 2) v) 0 (get_or f 0 0 + 1)
      ≡ fixed_numbers (entries f ++ entry_of e a v ∷ [])
  entry-added = by (entries f) held.same held.count (omega (arith, held.count))
    where
      by : (l : List Entry) → f ≡ fixed_numbers l → get_or f 0 0 ≡ length l → length l < most_fixed
          → set (set (set (set f (1 + get_or f 0 0 * entry_length) e) (1 + get_or f 0 0 * entry_length + 1) a) (1 + get_or f 0 0 * entry_length + 2) v) 0 (get_or f 0 0 + 1)
          ≡ fixed_numbers (l ++ entry_of e a v ∷ [])
      by l s c h = rw c (ap (λ g. set (set (set (set g (1 + length l * entry_length) e) (1 + length l * entry_length + 1) a) (1 + length l * entry_length + 2) v) 0 (length l + 1)) s ∙ entry_laid e a v l h)
