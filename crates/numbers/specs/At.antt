-- A number at a place of a list of bytes. Assumes nothing.
use Rattle.std.proofs.Math.Path.{◌≡◌, refl, sym, ap}
use Rattle.std.proofs.Common.{◌∙◌, arith, drop_of_length-le, drop-drop}
use Rattle.std.specs.Prelude.{Option, Some, None, Bool, true, cond, ◌↔◌, ℕ, suc, ◌+◌, ◌-◌, ◌*◌, ◌≤◌, ◌<◌, ltb, eqb, get_or}
use Rattle.std.proofs.Math.Bool.{false, and-eq-true_iff}
use mathlib.Core.List.{List, [], ◌∷◌}
use borrow.Author.Tests.{ltb-true, lt-ltb, le-ltb, eq-eqb, ne_eqb}
use Rattle.std.proofs.Math.ListN.{length, drop, length-drop}
use Rattle.paper.specs.Files.{largest, Front, broken, got, second, third, front}
use Rattle.basic_laws.specs.Lists.{drop_next}
use Rattle.numbers.specs.Laws.{bytes, never}
use Rattle.numbers.specs.declared.Num.{Num}

-- the bytes after a number, in a list of n bytes, by the place where they begin
abbrev pub placed : ℕ → Front → Option Num
placed n broken = None
placed n (got v r) = Some (record { value = v; next = n - length r })

-- what stands at a place of s
unfoldable pub num_at : List ℕ → ℕ → Option Num
num_at s at = placed (length s) (front (drop at s))

-- ---- what an answer tells

-- r is what follows a number at the front of s
record Taken (s r : List ℕ) : Type 0 where
  size : ℕ
  some : 1 ≤ size
  within : size ≤ length s
  rest : drop size s ≡ r

taken_one : {s r : List ℕ} (b : ℕ) → s ≡ r → Taken (b ∷ s) r
taken_one b e = record { size = 1; some = omega arith; within = omega arith; rest = e }

taken_more : {s r : List ℕ} (b : ℕ) → Taken s r → Taken (b ∷ s) r
taken_more b t = record { size = suc t.size; some = omega arith; within = omega (arith, t.within); rest = t.rest }

module _ {n : ℕ} {r : List ℕ} where
  -- a number ends with a byte, or is what the bytes after it tell
  ends : {P : Type 0} (x y : Bool) {v : ℕ} {s : List ℕ} {f : Front}
      → cond x broken (cond y (got v s) f) ≡ got n r → (y ≡ true → v ≡ n → s ≡ r → P) → (y ≡ false → f ≡ got n r → P) → P
  ends true y e last more = never e
  ends false true e last more = last refl (cc) (cc)
  ends false false e last more = more refl e

  third_taken : (v : ℕ) (s : List ℕ) → third v s ≡ got n r → Taken s r
  third_taken v [] e = never e
  third_taken v (c ∷ s) e = ends (eqb c 0) (ltb c 128) e (λ y p q. taken_one c q) (λ y f. never f)

  second_taken : (v : ℕ) (s : List ℕ) → second v s ≡ got n r → Taken s r
  second_taken v [] e = never e
  second_taken v (b ∷ s) e = ends (eqb b 0) (ltb b 128) e (λ y p q. taken_one b q) (λ y f. taken_more b (third_taken (v + (b - 128) * 128) s f))

  taken : (s : List ℕ) → front s ≡ got n r → Taken s r
  unfolding front
  taken [] e = never e
  taken (a ∷ s) e = ends false (ltb a 128) e (λ y p q. taken_one a q) (λ y f. taken_more a (second_taken (a - 128) s f))

  third_small : (v : ℕ) (s : List ℕ) → v < 16384 → third v s ≡ got n r → n ≤ largest
  third_small v [] h e = never e
  third_small v (c ∷ s) h e = ends (eqb c 0) (ltb c 128) e (λ y p q. omega (arith, ltb-true c 128 y)) (λ y f. never f)

  second_small : (v : ℕ) (s : List ℕ) → v < 128 → bytes s ≡ true → second v s ≡ got n r → n ≤ largest
  second_small v [] h l e = never e
  second_small v (b ∷ s) h l e =
      let k : b < 256 = ltb-true b 256 ((and-eq-true_iff (ltb b 256) (bytes s)).0 l).0 in
      ends (eqb b 0) (ltb b 128) e (λ y p q. omega (arith, ltb-true b 128 y)) (λ y f. third_small (v + (b - 128) * 128) s (omega arith) f)

  -- The bytes of a number carry twenty-one bits.
  pub front_small : (s : List ℕ) → bytes s ≡ true → front s ≡ got n r → n ≤ largest
  unfolding front
  front_small [] l e = never e
  front_small (a ∷ s) l e =
      let (k, m) = (and-eq-true_iff (ltb a 256) (bytes s)).0 l in
      ends false (ltb a 128) e (λ y p q. omega (arith, ltb-true a 128 y)) (λ y f. second_small (a - 128) s (omega (arith, ltb-true a 256 k)) m f)

-- the number v stands at a place of s, and `next` is the place after it
pub record Stands (s : List ℕ) (at v next : ℕ) : Type 0 where
  pub reads : front (drop at s) ≡ got v (drop next s)
  pub on : at < next
  pub within : next ≤ length s

module _ (s : List ℕ) (at : ℕ) where
  -- `Some` is answered only where the number stands.
  pub at_got : (v next : ℕ) → num_at s at ≡ Some (record { value = v; next = next }) → Stands s at v next
  unfolding num_at
  at_got v next e = go (front (drop at s)) refl e
    where
      go : (f : Front) → front (drop at s) ≡ f → placed (length s) f ≡ Some (record { value = v; next = next }) → Stands s at v next
      go broken p e = let z : ◌≡◌ {A = ℕ} 0 1 = cc in absurd (omega arith)
      go (got w r) p e =
          let t : Taken (drop at s) r = taken (drop at s) p in
          let q : ◌≡◌ {A = Num} (record { value = w; next = length s - length r }) (record { value = v; next = next }) = cc in
          let k : w ≡ v = ap (λ (x : Num). x.value) q in
          let m : length s - length r ≡ next = ap (λ (x : Num). x.next) q in
          let d : drop (at + t.size) s ≡ r = sym (drop-drop t.size at s) ∙ t.rest in
          let a : at + t.size ≡ next = omega (arith, t.some, t.within, length-drop at s, length-drop (at + t.size) s, ap length d) in
          record { reads = rw (← a, d, ← k) p; on = omega (arith, t.some); within = omega (arith, t.some, t.within, length-drop at s) }

  -- `None` is answered exactly where no number stands.
  pub at_broken : (num_at s at ≡ None) ↔ (front (drop at s) ≡ broken)
  unfolding num_at
  at_broken = (λ e. go (front (drop at s)) refl e, λ e. rw e)
    where
      go : (f : Front) → front (drop at s) ≡ f → placed (length s) f ≡ None → front (drop at s) ≡ broken
      go broken p e = p
      go (got w r) p e = let z : ◌≡◌ {A = ℕ} 0 1 = cc in absurd (omega arith)
