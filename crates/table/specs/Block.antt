-- A block of a table, where it stands. Assumes nothing.
use Rattle.std.specs.Prelude.{◌≡◌, refl, true, List, [], ◌∷◌, ℕ, zero, suc, ◌+◌, ◌-◌, ◌*◌, ◌≤◌, ◌<◌, length, take, drop, get_or}
use Rattle.std.proofs.Common.{sym, ap, ◌∙◌, arith, length-drop, length-take-le, get_or-take, get_or-drop, take-take}
use Rattle.paper.specs.Basics.{most_elements}
use Rattle.paper.specs.Table.{table_length, block_length, fixed_at, block, cell, proper}
use Rattle.table_laws.specs.Parts.{table_parts}

-- E and the root stand in the table
pub table_has : (t : List ℕ) (i : ℕ) → proper t ≡ true → i < 2 → i < length t
table_has t i p h = omega (arith, table_parts t p)

-- what stands before the end of a part stands in it
in_front : {A : Type 0} (l : List A) (at n size : ℕ) → at + size ≤ n → take size (drop at (take n l)) ≡ take size (drop at l)
in_front l zero n size h = take-take size n l (omega arith)
in_front l (suc at) zero size h = absurd (omega arith)
in_front [] (suc at) (suc n) size h = refl
in_front (x ∷ l) (suc at) (suc n) size h = in_front l at n size (omega arith)

module _ (t : List ℕ) (e : ℕ) where
  -- where it stands, of an element that a table can have
  block_is : e < most_elements → block t e ≡ take block_length (drop (2 + e * block_length) t)
  unfolding block
  block_is h = in_front t (2 + e * block_length) fixed_at block_length (omega arith)

  -- its numbers are the table's
  pub cell_at : (i : ℕ) → proper t ≡ true → e < get_or t 0 0 → i < block_length → cell (block t e) i ≡ get_or t (2 + e * block_length + i) 0
  cell_at i p b h =
      ap (λ l. cell l i) (block_is (omega (arith, table_parts t p)))
      ∙ get_or-take block_length (drop (2 + e * block_length) t) i 0 h ∙ get_or-drop (2 + e * block_length) t i 0

  pub block_part : (start : ℕ) → e < most_elements → start ≡ 2 + e * block_length → take (start + block_length - start) (drop start t) ≡ block t e
  block_part start h s = let n : start + block_length - start ≡ block_length = omega arith in rw (n, s) (sym (block_is h))

  pub block_length_lem : {b : List ℕ} → b ≡ block t e → length t ≡ table_length → e < most_elements → length b ≡ block_length
  block_length_lem s long h = ap length (s ∙ block_is h) ∙ length-take-le block_length (drop (2 + e * block_length) t) (simp length-drop (omega arith))
