-- Names at places, and looked for in a list: turns of the loop. Assumes nothing.
use Rattle.std.specs.Prelude.{◌≡◌, refl, Bool, true, false, cond, ◌||◌, Some, List, [], ◌∷◌, ℕ, suc, ◌+◌, ◌≤◌, ◌<◌, ltb, length, take, drop, get_or}
use Rattle.std.proofs.Common.{sym, ◌∙◌, arith, add-one, lt-ltb, drop_of_length-le, drop-cons, length-take-le}
use Prim.Native.Nat.compare
use Rattle.paper.specs.Dtd.Letters.{Name, same, among}
use Rattle.paper.specs.Dtd.Numbering.{number_in}
use Rattle.dtd_names.specs.Named.{name_at, names_at, known_in}
use Rattle.dtd_names.specs.Spelled.{spelled, spelled_same}

-- ---- a name in a list

pub among_number : (l : List Name) (n : Name) → among n l ≡ ltb (number_in l n) (length l)
among_number [] n = refl
among_number (m ∷ l) n = by (same n m) (among_number l n)
  where
    by : (b : Bool) → among n l ≡ ltb (number_in l n) (length l) → (b || among n l) ≡ ltb (cond b 0 (suc (number_in l n))) (suc (length l))
    by true e = sym (lt-ltb 0 (suc (length l)) (omega arith))
    by false e = e ∙ rw (compare.suc-suc (suc (number_in l n)) (length l))

-- as many names as places
pub names_length : (text : List ℕ) (l : List ℕ) → length (names_at text l) ≡ length l
names_length text [] = refl
names_length text (a ∷ l) = rw (names_length text l)

pub names_long : (text : List ℕ) (count : ℕ) (names : List ℕ) → count ≤ length names → length (names_at text (take count names)) ≡ count
names_long text count names h = names_length text (take count names) ∙ length-take-le count names h

module _ (text names : List ℕ) (at : ℕ) where
  -- the number is i or more, and goes on from there
  pub record Sought (i : ℕ) : Type 0 where
    pub within : i ≤ length names
    pub number : number_in (names_at text names) (name_at text at) ≡ i + number_in (names_at text (drop i names)) (name_at text at)

  pub sought : Sought 0
  sought = record { within = omega arith; number = omega arith }

  module _ (i : ℕ) (s : Sought i) where
    front : i < length names → drop i names ≡ get_or names i 0 ∷ drop (i + 1) names
    front k = drop-cons names i 0 k ∙ rw (add-one i) refl

    -- b: whether name i is n, the one at that place
    module _ (k : i < length names) (n : List ℕ) (e : n ≡ name_at text at) (b : Bool) (p : b ≡ spelled n (drop (get_or names i 0) text)) where
      is_same : b ≡ same (name_at text at) (name_at text (get_or names i 0))
      is_same = p ∙ rw e (spelled_same (drop at text) (drop (get_or names i 0) text))

      pub found : b ≡ true → i ≡ number_in (names_at text names) (name_at text at)
      found q = sym (s.number ∙ rw (front k, ← is_same, q) (omega arith))

      pub onward : b ≡ false → Sought (i + 1)
      onward q = record { within = omega arith; number = s.number ∙ rw (front k, ← is_same, q) (omega arith) }

    pub nowhere : length names ≤ i → length names ≡ number_in (names_at text names) (name_at text at)
    nowhere k =
        let e : drop i names ≡ [] = drop_of_length-le names {i = i} k in
        let w = s.within in
        sym (s.number ∙ rw e (omega arith))

-- r: its number
pub known : (text names : List ℕ) (at r : ℕ) → r ≡ number_in (names_at text names) (name_at text at) → ltb r (length names) ≡ known_in text (Some names) (name_at text at)
known text names at r p = rw (p, ← names_length text names) (sym (among_number (names_at text names) (name_at text at)))
