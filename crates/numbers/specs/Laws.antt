-- A number is read back from its bytes, and from nothing else. Assumes nothing.
use Rattle.std.proofs.Math.Path.{◌≡◌, refl}
use Rattle.std.proofs.Common.{sym, ap, ap₂, ◌∙◌, arith, not-suc-le-zero, le_of_suc-le-suc, ltb-true, ltb-false, lt-ltb, le-ltb, ne_eqb, leb-true}
use Rattle.std.specs.Prelude.{Bool, ℕ, zero, suc, ◌+◌, ◌-◌, ◌*◌, ◌/◌, ◌%◌, ◌≤◌, ◌<◌, leb, eqb, length, drop, get_or}
use Rattle.std.proofs.Math.Bool.{true, false, cond, and-eq-true_iff}
use mathlib.Core.List.{List, [], ◌∷◌, ◌++◌, map}
use Rattle.std.proofs.lemmas.Bool.{eqb-false}
use Rattle.std.proofs.Math.Dec.{ltb}
use Rattle.paper.specs.Basics.{all, concat}
use Rattle.paper.specs.Files.{largest, bytes_of, Front, broken, got, second, third, front, Result, refused, made, put, tokens_in}
use Rattle.paper_laws.specs.Basics.{all_parts}
use Rattle.numbers.specs.Store.{bytes_one, bytes_two, bytes_three}

-- What is written is read: the bytes of a number are read as the number, whatever follows them.
pub front_bytes : (n : ℕ) (r : List ℕ) → n ≤ largest → front (bytes_of n ++ r) ≡ got n r
unfolding bytes_of front
front_bytes n r h = go (ltb n 128) (ltb n 16384) refl refl
  where
    go : (a b : Bool) → ltb n 128 ≡ a → ltb n 16384 ≡ b → front (bytes_of n ++ r) ≡ got n r
    go true b p q = rw (p, p)
    go false true p q =
        let u : 128 ≤ n = ltb-false n 128 p in
        let v : n < 16384 = ltb-true n 16384 q in
        rw (p, q, le-ltb (128 + n % 128) 128 (omega arith), ne_eqb (n / 128) 0 (λ z. omega arith), lt-ltb (n / 128) 128 (omega arith))
        (ap (λ k. got k r) (omega arith))
    go false false p q =
        let u : 16384 ≤ n = ltb-false n 16384 q in
        rw (
          p,
          q,
          le-ltb (128 + n % 128) 128 (omega arith),
          ne_eqb (128 + n / 128 % 128) 0 (λ z. omega arith),
          le-ltb (128 + n / 128 % 128) 128 (omega arith),
          ne_eqb (n / 16384) 0 (λ z. omega arith),
          lt-ltb (n / 16384) 128 (omega arith),
        )
        (ap (λ k. got k r) (omega arith))

-- ---- the bytes of a number that was read

-- each is a byte
abbrev pub bytes : List ℕ → Bool
bytes = all (λ b. ltb b 256)

-- what stands behind a place of bytes are bytes
pub bytes_drop : (k : ℕ) (s : List ℕ) → bytes s ≡ true → bytes (drop k s) ≡ true
bytes_drop zero s h = h
bytes_drop (suc k) [] h = h
bytes_drop (suc k) (b ∷ s) h = bytes_drop k s ((and-eq-true_iff (ltb b 256) (bytes s)).0 h).1

-- the elements of a slice of u8 are bytes
pub slice_bytes : (s : List ℕ) → ((i : ℕ) → get_or s i 0 < 256) → bytes s ≡ true
slice_bytes [] h = refl
slice_bytes (b ∷ s) h = rw (lt-ltb b 256 (h 0)) (slice_bytes s (λ i. h (suc i)))

-- the value of two and of three bytes, written again
two_bytes : (a b : ℕ) → 128 ≤ a → a < 256 → b < 128 → (b ≡ 0 → ⊥) → bytes_of (a - 128 + b * 128) ≡ a ∷ b ∷ []
two_bytes a b ha ka hb nb = rw (bytes_two (a - 128 + b * 128) (omega arith) (omega arith)) (ap₂ (λ x y. x ∷ y ∷ []) (omega arith) (omega arith))

low_group : (x y n : ℕ) → x < 128 → n ≡ x + y * 128 → (n % 128 ≡ x) × (n / 128 ≡ y)
low_group x y n h e = (omega arith, omega arith)

two_groups : (x c : ℕ) → x < 16384 → (x + c * 16384) / 16384 ≡ c
two_groups x c h = omega arith

three_bytes : (a b c : ℕ) → 128 ≤ a → a < 256 → 128 ≤ b → b < 256 → c < 128 → (c ≡ 0 → ⊥)
    → bytes_of (a - 128 + (b - 128) * 128 + c * 16384) ≡ a ∷ b ∷ c ∷ []
three_bytes a b c ha ka hb kb hc nc =
    let (p, q) = low_group (a - 128) (b - 128 + c * 128) (a - 128 + (b - 128) * 128 + c * 16384) (omega arith) (omega arith) in
    let (u, v) = low_group (b - 128) c (b - 128 + c * 128) (omega arith) refl in
    let t : (a - 128 + (b - 128) * 128 + c * 16384) / 16384 ≡ c = two_groups (a - 128 + (b - 128) * 128) c (omega arith) in
    rw (bytes_three (a - 128 + (b - 128) * 128 + c * 16384) (omega arith), p, q, u, t)
    (ap₂ (λ x y. x ∷ y ∷ c ∷ []) (omega arith) (omega arith))

pub never : {A : Type 0} {n : ℕ} {r : List ℕ} → broken ≡ got n r → A
never e = let z : ◌≡◌ {A = ℕ} 0 1 = cc in absurd (omega arith)

module _ (n : ℕ) (r : List ℕ) where
  third_back : (a b : ℕ) (t : List ℕ) → 128 ≤ a → a < 256 → 128 ≤ b → b < 256 → third (a - 128 + (b - 128) * 128) t ≡ got n r → a ∷ b ∷ t ≡ bytes_of n ++ r
  third_back a b [] ha ka hb kb e = never e
  third_back a b (c ∷ t) ha ka hb kb e = go (eqb c 0) (ltb c 128) refl refl e
    where
      go : (x y : Bool) → eqb c 0 ≡ x → ltb c 128 ≡ y → cond x broken (cond y (got (a - 128 + (b - 128) * 128 + c * 16384) t) broken) ≡ got n r
          → a ∷ b ∷ c ∷ t ≡ bytes_of n ++ r
      go true y p q e = never e
      go false false p q e = never e
      go false true p q e =
          let d : a - 128 + (b - 128) * 128 + c * 16384 ≡ n = cc in
          let f : t ≡ r = cc in
          rw (← d, three_bytes a b c ha ka hb kb (ltb-true c 128 q) (eqb-false c 0 p)) (ap (λ l. a ∷ b ∷ c ∷ l) f)

  second_back : (a : ℕ) (t : List ℕ) → 128 ≤ a → a < 256 → bytes t ≡ true → second (a - 128) t ≡ got n r → a ∷ t ≡ bytes_of n ++ r
  second_back a [] ha ka h e = never e
  second_back a (b ∷ t) ha ka h e = go (eqb b 0) (ltb b 128) refl refl e
    where
      go : (x y : Bool) → eqb b 0 ≡ x → ltb b 128 ≡ y
          → cond x broken (cond y (got (a - 128 + b * 128) t) (third (a - 128 + (b - 128) * 128) t)) ≡ got n r → a ∷ b ∷ t ≡ bytes_of n ++ r
      go true y p q e = never e
      go false true p q e =
          let d : a - 128 + b * 128 ≡ n = cc in
          let f : t ≡ r = cc in
          rw (← d, two_bytes a b ha ka (ltb-true b 128 q) (eqb-false b 0 p)) (ap (λ l. a ∷ b ∷ l) f)
      go false false p q e = third_back a b t ha ka (ltb-false b 128 q) (ltb-true b 256 ((and-eq-true_iff (ltb b 256) (bytes t)).0 h).0) e

  -- What is read was written so: `front` takes a number off only where its bytes stand.
  pub bytes_front : (s : List ℕ) → bytes s ≡ true → front s ≡ got n r → s ≡ bytes_of n ++ r
  unfolding front
  bytes_front [] h e = never e
  bytes_front (a ∷ t) h e = go (ltb a 128) refl e
    where
      go : (x : Bool) → ltb a 128 ≡ x → cond x (got a t) (second (a - 128) t) ≡ got n r → a ∷ t ≡ bytes_of n ++ r
      go true p e =
          let d : a ≡ n = cc in
          let f : t ≡ r = cc in
          rw (← d, bytes_one a (ltb-true a 128 p)) (ap (λ l. a ∷ l) f)
      go false p e =
          let (k, l) = (and-eq-true_iff (ltb a 256) (bytes t)).0 h in
          second_back a t (ltb-false a 128 p) (ltb-true a 256 k) l e

-- ---- a file, a number at a time

module _ (room : ℕ) where
  pub tokens_next : (s : List ℕ) (n : ℕ) (r : List ℕ) → front s ≡ got n r → tokens_in (suc room) s ≡ put n (tokens_in room r)
  unfolding front
  tokens_next [] n r e = let z : ◌≡◌ {A = ℕ} 0 1 = cc in absurd (omega arith)
  tokens_next (b ∷ s) n r e = rw (e, tokens_in)

  pub tokens_broken : (b : ℕ) (s : List ℕ) → front (b ∷ s) ≡ broken → tokens_in room (b ∷ s) ≡ refused 1
  tokens_broken b s e = by_room room
    where
      by_room : (k : ℕ) → tokens_in k (b ∷ s) ≡ refused 1
      by_room zero = rw (e, tokens_in)
      by_room (suc k) = rw (e, tokens_in)

pub tokens_full : (b : ℕ) (s : List ℕ) (n : ℕ) (r : List ℕ) → front (b ∷ s) ≡ got n r → tokens_in 0 (b ∷ s) ≡ refused 5
tokens_full b s n r e = rw (e, tokens_in)

pub tokens_end : (room : ℕ) → tokens_in room [] ≡ made []
tokens_end zero = refl
tokens_end (suc room) = refl

-- a file of numbers that are not too large, and not too many, is read back
pub tokens_back : (l : List ℕ) (room : ℕ) → all (λ t. leb t largest) l ≡ true → length l ≤ room → tokens_in room (concat (map bytes_of l)) ≡ made l
tokens_back [] room a h = tokens_end room
tokens_back (x ∷ l) zero a h = absurd (not-suc-le-zero h)
tokens_back (x ∷ l) (suc room) a h =
    let (small, rest) = (and-eq-true_iff (leb x largest) (all (λ t. leb t largest) l)).0 a in
    tokens_next room (bytes_of x ++ concat (map bytes_of l)) x (concat (map bytes_of l)) (front_bytes x (concat (map bytes_of l)) (leb-true x largest small))
    ∙ ap (put x) (tokens_back l room rest (le_of_suc-le-suc h))

-- ---- a file that was read

-- the numbers l stand in s one after another, and nothing else does
pub data Holds : List ℕ → List ℕ → Type 0 where
  none : Holds [] []
  more : {s r l : List ℕ} {n : ℕ} → front s ≡ got n r → Holds r l → Holds s (n ∷ l)

not_refused : {A : Type 0} {k : ℕ} {l : List ℕ} → refused k ≡ made l → A
not_refused e = let z : ◌≡◌ {A = ℕ} 0 1 = cc in absurd (omega arith)

-- a number, and what is made of the bytes after it
record First (room : ℕ) (s l : List ℕ) : Type 0 where
  value : ℕ
  rest : List ℕ
  others : List ℕ
  reads : front s ≡ got value rest
  later : tokens_in room rest ≡ made others
  all_of : l ≡ value ∷ others

made_first : (room b : ℕ) (s l : List ℕ) → tokens_in (suc room) (b ∷ s) ≡ made l → First room (b ∷ s) l
made_first room b s l e = go (front (b ∷ s)) refl
  where
    by_rest : (n : ℕ) (r : List ℕ) → front (b ∷ s) ≡ got n r → (t : Result) → tokens_in room r ≡ t → put n t ≡ made l → First room (b ∷ s) l
    by_rest n r p (refused k) q e = not_refused e
    by_rest n r p (made m) q e = record { value = n; rest = r; others = m; reads = p; later = q; all_of = cc }

    go : (f : Front) → front (b ∷ s) ≡ f → First room (b ∷ s) l
    go broken p = not_refused (sym (tokens_broken (suc room) b s p) ∙ e)
    go (got n r) p = by_rest n r p (tokens_in room r) refl (sym (tokens_next room (b ∷ s) n r p) ∙ e)

-- What is read of a file is what it holds, and has a place.
pub tokens_made : (room : ℕ) (s l : List ℕ) → tokens_in room s ≡ made l → Holds s l × (length l ≤ room)
tokens_made zero [] l e = let p : l ≡ [] = cc in rw p (none, omega arith)
tokens_made zero (b ∷ s) l e = go (front (b ∷ s)) refl
  where
    go : (f : Front) → front (b ∷ s) ≡ f → Holds (b ∷ s) l × (length l ≤ 0)
    go broken p = not_refused (sym (tokens_broken 0 b s p) ∙ e)
    go (got n r) p = not_refused (sym (tokens_full b s n r p) ∙ e)
tokens_made (suc room) [] l e = let p : l ≡ [] = cc in rw p (none, omega arith)
tokens_made (suc room) (b ∷ s) l e =
    let f : First room (b ∷ s) l = made_first room b s l e in
    let (h, k) = tokens_made room f.rest f.others f.later in
    rw f.all_of (more f.reads h, omega arith)

-- what follows a number of bytes are bytes
pub bytes_rest : (s : List ℕ) {n : ℕ} {r : List ℕ} → bytes s ≡ true → front s ≡ got n r → bytes r ≡ true
bytes_rest s {n} {r} h p = (all_parts (λ b. ltb b 256) (bytes_of n) r (rw (bytes_front n r s h p) at h)).1

-- A file of bytes is the file of the numbers that it holds.
pub holds_file : {s l : List ℕ} → bytes s ≡ true → Holds s l → s ≡ concat (map bytes_of l)
holds_file h none = refl
holds_file {s} h (more {r = r} {n = n} p q) = bytes_front n r s h p ∙ ap (λ t. bytes_of n ++ t) (holds_file (bytes_rest s h p) q)

-- A list of bytes holds one list of numbers.
pub holds_one : {s l m : List ℕ} → Holds s l → Holds s m → l ≡ m
unfolding front
holds_one none none = refl
holds_one none (more p q) = never p
holds_one (more p q) none = never p
holds_one (more {r = r} {l = l} {n = n} p q) (more {r = t} {l = m} {n = k} u v) =
    let e : got n r ≡ got k t = sym p ∙ u in
    let a : n ≡ k = cc in
    let b : r ≡ t = cc in
    ap₂ (λ x y. x ∷ y) a (holds_one q (rw b v))

-- ---- a file that was refused

put_refused : (n : ℕ) (t : Result) {k : ℕ} → put n t ≡ refused k → t ≡ refused k
put_refused n (refused j) e = e
put_refused n (made l) e = not_refused (sym e)

by_front : (room b : ℕ) (s : List ℕ) (k : ℕ) → tokens_in (suc room) (b ∷ s) ≡ refused k
    → ((r : List ℕ) → tokens_in room r ≡ refused k → 1 ≤ k) → 1 ≤ k
by_front room b s k e later = go (front (b ∷ s)) refl
  where
    go : (f : Front) → front (b ∷ s) ≡ f → 1 ≤ k
    go broken p = let z : refused 1 ≡ refused k = sym (tokens_broken (suc room) b s p) ∙ e in let y : 1 ≡ k = cc in omega arith
    go (got n r) p = later r (put_refused n (tokens_in room r) (sym (tokens_next room (b ∷ s) n r p) ∙ e))

-- A refusal's number is not 0.
pub tokens_refused : (room : ℕ) (s : List ℕ) (k : ℕ) → tokens_in room s ≡ refused k → 1 ≤ k
tokens_refused zero [] k e = not_refused (sym e)
tokens_refused zero (b ∷ s) k e = go (front (b ∷ s)) refl
  where
    go : (f : Front) → front (b ∷ s) ≡ f → 1 ≤ k
    go broken p = let z : refused 1 ≡ refused k = sym (tokens_broken 0 b s p) ∙ e in let y : 1 ≡ k = cc in omega arith
    go (got n r) p = let z : refused 5 ≡ refused k = sym (tokens_full b s n r p) ∙ e in let y : 5 ≡ k = cc in omega arith
tokens_refused (suc room) [] k e = not_refused (sym e)
tokens_refused (suc room) (b ∷ s) k e = by_front room b s k e (λ r p. tokens_refused room r k p)
