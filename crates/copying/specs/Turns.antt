-- The loop that copies, a turn at a time; one law for every type. Assumes nothing.
use Rattle.std.specs.Prelude.{◌≡◌, refl, List, ℕ, ◌+◌, ◌≤◌, ◌<◌, length, drop, set, get_or}
use Rattle.std.proofs.Common.{sym, ap, ap₂, ◌∙◌, arith, add-one, length-set, length-drop, get_or-drop}
use Rattle.std.proofs.Math.Seq.{paste, paste-zero, paste-suc}

-- `now` is d after j of n turns, from a place of s to a place of d
pub record Copying {A : Type 0} (d : List A) (at : ℕ) (s : List A) (from n : ℕ) (now : List A) (j : ℕ) : Type 0 where
  pub turns : j ≤ n
  pub long : length now ≡ length d
  pub left : now ≡ paste d at (drop from s) j

module _ {A : Type 0} (d : List A) (at : ℕ) (s : List A) (from n : ℕ) where
  pub copy_none : Copying d at s from n d 0
  copy_none = record { turns = omega arith; long = refl; left = paste-zero d at (drop from s) }

  module _ {now : List A} {j : ℕ} (c : Copying d at s from n now j) where
    pub copy_more : {x : A} → x ≡ get_or s (from + j) x → at + n ≤ length d → from + n ≤ length s → j < n → Copying d at s from n (set now (at + j) x) (j + 1)
    copy_more {x} e hd hs h = record {
      turns = omega arith;
      long = simp length-set c.long;
      left = ap₂ (λ l y. set l (at + j) y) c.left (e ∙ sym (get_or-drop from s j x))
          ∙ paste-suc d at (drop from s) j x (omega arith) (omega (arith, length-drop from s))
          ∙ ap (paste d at (drop from s)) (sym (add-one j));
    }

    pub copy_end : n ≤ j → now ≡ paste d at (drop from s) n
    copy_end h = let z : n ≡ j = omega (arith, c.turns) in rw z c.left
