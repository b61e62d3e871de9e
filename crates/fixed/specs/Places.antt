-- Where the entries of fixed attributes stand in a table. Assumes nothing.
use Rattle.std.specs.Prelude.{◌≡◌, List, ◌∷◌, ℕ, suc, ◌+◌, ◌-◌, ◌*◌, ◌<◌}
use Rattle.std.proofs.Math.Path.{sym, ap, ap₂}
use Rattle.std.proofs.Common.{◌∙◌, drop-drop}
use native.Mathlib.Omega.{arith}
use Rattle.std.proofs.Math.ListN.{drop, get_or}
use Rattle.std.proofs.Math.Seq.{get_or-drop}
use Rattle.paper.specs.Table.{fixed_at, Entry, entry_length, fixed_part, entries_in, entries}
use Rattle.entries.specs.Held.{entry_of}

-- where entry i begins
abbrev pub entry_at : ℕ → ℕ
entry_at i = fixed_at + 1 + i * entry_length

-- n entries of the table
unfoldable pub entries_at : List ℕ → ℕ → List Entry
entries_at t n = entries_in n (drop (entry_at 0) t)

-- the entries from i on: the next one, and those behind it
module _ (t : List ℕ) (n i : ℕ) (h : i < n) {x a v : ℕ} (ex : x ≡ get_or t (entry_at i) 0) (ea : a ≡ get_or t (entry_at i + 1) 0) (ev : v ≡ get_or t (entry_at i + 2) 0) where
  pub entry_next : entries_in (n - i) (drop (entry_at i) t) ≡ entry_of x a v ∷ entries_in (n - (i + 1)) (drop (entry_at (i + 1)) t)
  entry_next =
      let k : n - i ≡ suc (n - (i + 1)) = omega arith in
      let z : entry_at i + 0 ≡ entry_at i = omega arith in
      let m : entry_at i + entry_length ≡ entry_at (i + 1) = omega arith in
      rw (k, get_or-drop (entry_at i) t 0 0, get_or-drop (entry_at i) t 1 0, get_or-drop (entry_at i) t 2 0, drop-drop entry_length (entry_at i) t, z, m, ex, ea, ev)

-- what a table's end holds
module _ (t : List ℕ) where
  pub count_at : get_or (fixed_part t) 0 0 ≡ get_or t fixed_at 0
  unfolding fixed_part
  count_at = let z : fixed_at + 0 ≡ fixed_at = omega arith in get_or-drop fixed_at t 0 0 ∙ ap (λ i. get_or t i 0) z

  pub same_entries : (n : ℕ) → n ≡ get_or t fixed_at 0 → entries (fixed_part t) ≡ entries_at t n
  unfolding fixed_part entries_at
  same_entries n e =
      let z : fixed_at + 1 ≡ entry_at 0 = omega arith in
      ap₂ (λ k l. entries_in k l) (count_at ∙ sym e) (drop-drop 1 fixed_at t ∙ ap (λ k. drop k t) z)
