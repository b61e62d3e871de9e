-- The symbols of a model: each is at most 127, and so one byte. Assumes nothing.
use Rattle.std.specs.Prelude.{◌≡◌, refl, Result, Bool, ℕ, zero, suc, ◌+◌, ◌-◌, ◌*◌, ◌≤◌, ◌<◌, eqb, ltb, length, take, drop, get_or}
use Rattle.std.proofs.Common.{ap, ap₂, ◌∙◌, arith, add-one, le-leb, length-drop, take-suc, drop-cons, get_or-drop}
use Rattle.std.proofs.Math.Bool.{true, false, cond}
use mathlib.Core.List.{List, [], ◌∷◌, ◌++◌, append-nil}
use Rattle.std.proofs.lemmas.Bool.{eqb-false}
use Rattle.paper.specs.Basics.{between, all}
use Rattle.paper.specs.Files.{Front, broken, got, second, third, front}
use Rattle.paper.specs.Schema.{stop, ok, valued, number, numbers}
use Rattle.numbers.specs.Laws.{never}
use Rattle.table_laws.specs.Readers.{never_stop, after, number_in}
use Rattle.paper.specs.Codes.{number_of}
use Rattle.paper.specs.declared.Refusal.{Refusal}
use Rattle.numbers.specs.declared.Num.{Num}
use Rattle.reading.specs.Ended.{Went, Ended, prefixed, prefixed_none, prefixed_more}
use Rattle.reading.specs.Number.{Value, Refused}

-- ---- one byte

module _ {n : ℕ} {r : List ℕ} where
  third_large : (v : ℕ) (s : List ℕ) → third v s ≡ got n r → 128 ≤ n
  third_large v [] e = never e
  third_large v (c ∷ s) e = go (eqb c 0) (ltb c 128) refl e
    where
      go : (x y : Bool) → eqb c 0 ≡ x → cond x broken (cond y (got (v + c * 16384) s) broken) ≡ got n r → 128 ≤ n
      go true y p e = never e
      go false true p e = let d : v + c * 16384 ≡ n = cc in let k = eqb-false c 0 p in omega arith
      go false false p e = never e

  second_large : (v : ℕ) (s : List ℕ) → second v s ≡ got n r → 128 ≤ n
  second_large v [] e = never e
  second_large v (b ∷ s) e = go (eqb b 0) (ltb b 128) refl e
    where
      go : (x y : Bool) → eqb b 0 ≡ x → cond x broken (cond y (got (v + b * 128) s) (third (v + (b - 128) * 128) s)) ≡ got n r → 128 ≤ n
      go true y p e = never e
      go false true p e = let d : v + b * 128 ≡ n = cc in let k = eqb-false b 0 p in omega arith
      go false false p e = third_large (v + (b - 128) * 128) s e

  -- a number below 128 is the first byte
  front_byte : (s : List ℕ) → front s ≡ got n r → n < 128 → s ≡ n ∷ r
  unfolding front
  front_byte [] e h = never e
  front_byte (a ∷ s) e h = go (ltb a 128) e
    where
      go : (x : Bool) → cond x (got a s) (second (a - 128) s) ≡ got n r → a ∷ s ≡ n ∷ r
      go true e = cc
      go false e = absurd (omega (arith, second_large (a - 128) s e))

-- a number that is in its range stands at the front
number_front : (lo hi : ℕ) (s : List ℕ) {n : ℕ} {r : List ℕ} → number lo hi s ≡ ok n r → front s ≡ got n r
unfolding number
number_front lo hi s {n} {r} e = go (front s) e
  where
    go : (x : Front) → valued lo hi x ≡ ok n r → x ≡ got n r
    go broken e = never_stop e
    go (got k t) e = by (between lo hi k) e
      where
        by : (b : Bool) → cond b (ok k t) (stop 2) ≡ ok n r → got k t ≡ got n r
        by true e = let d : k ≡ n = cc in let f : t ≡ r = cc in ap₂ got d f
        by false e = never_stop e

number_byte : (lo hi : ℕ) (s : List ℕ) {n : ℕ} {r : List ℕ} → hi < 128 → number lo hi s ≡ ok n r → s ≡ n ∷ r
number_byte lo hi s h e = let (low, high) = number_in lo hi s e in front_byte s (number_front lo hi s e) (omega arith)

-- ---- n symbols

abbrev pub SymbolsAt : List ℕ → ℕ → ℕ → ℕ → Result Unit Refusal → Type 0
SymbolsAt file at n top = Ended (numbers n 0 top (drop at file)) file (λ r. at + n) (λ r l. l ≡ take n (drop at file))

-- i symbols are read
pub record Passing (file : List ℕ) (at n top i : ℕ) : Type 0 where
  pub few : i ≤ n
  pub within : at + i ≤ length file
  pub same : numbers n 0 top (drop at file) ≡ prefixed (take i (drop at file)) (numbers (n - i) 0 top (drop (at + i) file))

module _ (file : List ℕ) (at n top : ℕ) where
  pub passed_none : at ≤ length file → Passing file at n top 0
  passed_none h =
      let a : at + 0 ≡ at = omega arith in
      let b : n - 0 ≡ n = omega arith in
      record { few = omega arith; within = omega arith; same = rw (a, b) (prefixed_none (numbers n 0 top (drop at file))) }

  module _ {i : ℕ} (p : Passing file at n top i) where
    pub passed_all : n ≤ i → Went (numbers n 0 top (drop at file)) file (at + n) (λ l. l ≡ take n (drop at file))
    passed_all h =
        let a : i ≡ n = let f = p.few in omega arith in
        let z : n - i ≡ 0 = omega arith in
        record { value = take n (drop at file); reads = p.same ∙ rw (z, a) (ap (λ l. ok l (drop (at + n) file)) (append-nil (take n (drop at file)))); within = rw a at p.within; holds = refl }

    module _ (h : i < n) where
      left : n - i ≡ suc (n - (i + 1))
      left = omega arith

      pub passed_stop : (e : Refusal) → Refused 0 top file (at + i) e → numbers n 0 top (drop at file) ≡ stop (number_of e)
      passed_stop e w = p.same ∙ rw (left, w.stopped)

      pub passed_one : {s : Num} → top < 128 → Value 0 top file (at + i) s → Passing file at n top (i + 1)
      passed_one {s} low v =
          let b : drop (at + i) file ≡ s.value ∷ drop s.next file = number_byte 0 top (drop (at + i) file) low v.reads in
          let k : at + i < length file = omega (arith, length-drop (at + i) file, ap length b) in
          let c : drop (at + i) file ≡ get_or file (at + i) 0 ∷ drop (suc (at + i)) file = drop-cons file (at + i) 0 k in
          let d : s.value ≡ get_or file (at + i) 0 = cc in
          let e : drop s.next file ≡ drop (at + (i + 1)) file = rw (← rest) (cc) in
          let f : take i (drop at file) ++ s.value ∷ [] ≡ take (i + 1) (drop at file) = one_more k d in
          record {
            few = omega arith;
            within = omega arith;
            same =
                p.same
                ∙ rw (left, v.reads) (prefixed_more (take i (drop at file)) s.value (numbers (n - (i + 1)) 0 top (drop s.next file)))
                ∙ ap₂ (λ l t. prefixed l (numbers (n - (i + 1)) 0 top t)) f e;
          }
        where
          rest : suc (at + i) ≡ at + (i + 1)
          rest = omega arith

          one_more : at + i < length file → s.value ≡ get_or file (at + i) 0 → take i (drop at file) ++ s.value ∷ [] ≡ take (i + 1) (drop at file)
          one_more k d = rw (add-one i, take-suc (drop at file) i 0 (omega (arith, length-drop at file)), get_or-drop at file i 0, d)

-- each was in its range
pub numbers_range : (n lo hi : ℕ) (s : List ℕ) {l r : List ℕ} → numbers n lo hi s ≡ ok l r → all (between lo hi) l ≡ true
numbers_range zero lo hi s {l} {r} e = let d : l ≡ [] = cc in rw d
numbers_range (suc n) lo hi s {l} {r} e =
    after (number lo hi s) _ e λ x t p f.
    after (numbers n lo hi t) _ f λ xs u g h.
    let d : l ≡ x ∷ xs = made h in
    let (low, high) = number_in lo hi s p in
    rw (d, le-leb lo x low, le-leb x hi high) (numbers_range n lo hi t g)
  where
    made : {a w : List ℕ} → ok a w ≡ ok l r → l ≡ a
    made e = cc
