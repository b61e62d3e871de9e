-- A whole table, and what makes it proper. Assumes nothing.
use Rattle.std.specs.Prelude.{◌≡◌, Bool, true, false, not, ◌&&◌, length, get_or}
use Rattle.std.proofs.Math.Path.{refl, sym, ap, ap₂}
use Rattle.std.proofs.Common.{◌∙◌, add-one, drop_of_length-le, drop-drop, length-take-le}
use Rattle.std.proofs.Math.Bool.{and-true, and_assoc}
use mathlib.Core.List.{List, [], ◌∷◌}
use Prim.Native.Nat.{ℕ, zero, suc, ◌+◌, ◌*◌, ◌≤◌, ◌<◌}
use native.Mathlib.Omega.{arith}
use borrow.Author.Tests.{lt-ltb, eq-eqb, le-leb, not-true, not-false}
use Rattle.std.proofs.Math.Dec.{eqb}
use Rattle.std.proofs.Math.ListN.{take, drop}
use Rattle.paper.specs.Basics.{most_elements, every}
use Rattle.paper.specs.Table.{table_length, block_length, fixed_at, block, fixed_part, zeros, proper_block, proper_fixed, proper}
use Rattle.basic_laws.specs.Bools.{clash, fails}
use Rattle.paper_laws.specs.Basics.{every_iff}
use Rattle.table_laws.specs.Parts.{table_parts}

-- ---- its blocks, one after the other

-- those of the E elements are proper
unfoldable pub proper_blocks : List ℕ → ℕ → Bool
proper_blocks t E = every (λ e. proper_block E (block t e)) E

-- those below e are
pub record Passing (t : List ℕ) (E e : ℕ) : Type 0 where
  pub within : e ≤ E
  pub passed : every (λ e. proper_block E (block t e)) e ≡ true

pub none_passed : (t : List ℕ) (E : ℕ) → Passing t E 0
none_passed t E = record { within = omega arith; passed = refl }

module _ (t : List ℕ) (E e : ℕ) (p : Passing t E e) where
  abbrev Proper : ℕ → Bool
  Proper e = proper_block E (block t e)

  module _ {r : Bool} {b : List ℕ} (h : e < E) (s : b ≡ block t e) (q : r ≡ proper_block E b) where
    pub one_passed : not r ≡ false → Passing t E (e + 1)
    one_passed n = record { within = omega arith; passed = rw (add-one, ← s, sym q ∙ not-false r n) p.passed }

    pub one_stopped : not r ≡ true → false ≡ proper_blocks t E
    unfolding proper_blocks
    one_stopped n = sym (fails (proper_blocks t E) (λ c. clash (q ∙ ap (proper_block E) s ∙ (every_iff Proper E).0 c e h) (not-true r n)))

  pub all_passed : E ≤ e → true ≡ proper_blocks t E
  unfolding proper_blocks
  all_passed h = let q : e ≡ E = omega arith in sym (rw q at p.passed)

-- ---- the blocks that are unused

-- those from e on are 0
abbrev pub rest_zero : List ℕ → ℕ → Bool
rest_zero t e = zeros (drop (2 + e * block_length) (take fixed_at t))

-- those from E up to e are
pub record Unused (t : List ℕ) (E e : ℕ) : Type 0 where
  pub few : e ≤ most_elements
  pub same : rest_zero t e ≡ rest_zero t E

pub unused_none : (t : List ℕ) (E : ℕ) → E ≤ most_elements → Unused t E E
unused_none t E h = record { few = h; same = refl }

module _ (t : List ℕ) (E e : ℕ) (p : Unused t E e) where
  pub unused_all : length t ≡ table_length → most_elements ≤ e → true ≡ rest_zero t E
  unused_all long h =
      let q : e ≡ most_elements = omega (arith, p.few) in
      let front : length (take fixed_at t) ≡ fixed_at = length-take-le fixed_at t (omega arith) in
      ap zeros (sym (drop_of_length-le (take fixed_at t) {i = 2 + e * block_length} (omega arith))) ∙ p.same

  module _ {r : Bool} {b : List ℕ} (h : e < most_elements) (s : b ≡ block t e) (q : r ≡ zeros b) where
    parts : rest_zero t e ≡ (r && rest_zero t (e + 1))
    unfolding block
    parts =
        let n : ℕ = 2 + e * block_length in
        let m : n + block_length ≡ 2 + (e + 1) * block_length = omega arith in
        let front : List ℕ = take fixed_at t in
        split block_length (drop n front) ∙ ap₂ (λ a l. a && zeros l) (sym (q ∙ ap zeros s)) (drop-drop block_length n front ∙ ap (λ k. drop k front) m)
      where
        split : (n : ℕ) (l : List ℕ) → zeros l ≡ (zeros (take n l) && zeros (drop n l))
        split zero l = refl
        split (suc n) [] = refl
        split (suc n) (x ∷ l) = ap (λ b. eqb 0 x && b) (split n l) ∙ sym (and_assoc (eqb 0 x) (zeros (take n l)) (zeros (drop n l)))

    pub unused_more : not r ≡ false → Unused t E (e + 1)
    unused_more n = record { few = omega arith; same = sym (ap (λ a. a && rest_zero t (e + 1)) (not-false r n)) ∙ sym parts ∙ p.same }

    pub unused_not : not r ≡ true → false ≡ rest_zero t E
    unused_not n = sym (ap (λ a. a && rest_zero t (e + 1)) (not-true r n)) ∙ sym parts ∙ p.same

-- ---- the test

module _ (t : List ℕ) where
  refused : (proper t ≡ true → ⊥) → false ≡ proper t
  refused f = sym (fails (proper t) f)

  pub wrong_length : (length t ≡ table_length → ⊥) → false ≡ proper t
  wrong_length h = refused (λ q. h (table_parts t q).long)

  pub no_elements : get_or t 0 0 < 1 → false ≡ proper t
  no_elements h = refused (λ q. let p = table_parts t q in omega arith)

  pub many_elements : most_elements < get_or t 0 0 → false ≡ proper t
  many_elements h = refused (λ q. let p = table_parts t q in omega arith)

  pub no_root : get_or t 0 0 ≤ get_or t 1 0 → false ≡ proper t
  no_root h = refused (λ q. let p = table_parts t q in omega arith)

  module _ {r : Bool} (long : length t ≡ table_length) (few : get_or t 0 0 ≤ most_elements) (unused : r ≡ rest_zero t (get_or t 0 0)) where
    pub not_unused : not r ≡ true → false ≡ proper t
    not_unused n = refused (λ q. clash (unused ∙ (table_parts t q).unused) (not-true r n))

    module _ {f : Bool} (fixed : f ≡ proper_fixed t (fixed_part t)) where
      pub not_fixed : not f ≡ true → false ≡ proper t
      not_fixed n = refused (λ q. clash (fixed ∙ (table_parts t q).fixed) (not-true f n))

      pub table_test : {b : Bool} → not r ≡ false → not f ≡ false → 1 ≤ get_or t 0 0 → get_or t 1 0 < get_or t 0 0 → b ≡ proper_blocks t (get_or t 0 0) → b ≡ proper t
      unfolding proper proper_blocks
      table_test {b} n m low root s =
          rw (
            eq-eqb (length t) table_length long,
            le-leb 1 (get_or t 0 0) low,
            le-leb (get_or t 0 0) most_elements few,
            lt-ltb (get_or t 1 0) (get_or t 0 0) root,
            sym unused ∙ not-false r n,
            sym fixed ∙ not-false f m,
          )
          (s ∙ sym (and-true (proper_blocks t (get_or t 0 0))) ∙ sym (and-true (proper_blocks t (get_or t 0 0) && true)))
