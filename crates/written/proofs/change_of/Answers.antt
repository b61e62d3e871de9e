-- `written::change_of` meets its contract. Assumes nothing.
use mathlib.Core.Path.{◌≡◌, sym, ap₂, subst, ◌∙◌}
use mathlib.Core.Bool.{Bool, true, false, cond}
use Prim.Native.Nat.{ℕ, zero, suc, ◌+◌, ◌-◌, ◌≤◌}
use native.Mathlib.Omega.{arith}
use native.Mathlib.Nat.{le_trans}
use lib.Dec.{ltb}
use lib.IntN.{pos, negsuc, ◌-ℤ◌}
use lib.Signed.{mag}
use mir.Syntax.{w32}
use mir.Val.{SFits, to_z}
use mir.Facts.{to_z_pos, to_z-of_z}
use Rattle.paper.specs.Basics.{most_tokens}
use Rattle.written.proofs.change_of.Goals as goal

cond-mag : (t : Bool) (x y : ℕ) → mag (cond t (negsuc x) (pos y)) ≤ x + y
cond-mag true x y = omega arith
cond-mag false x y = omega arith

-- a difference of two lengths is at most the longer

mag-diff : (a b n : ℕ) → a ≤ n → b ≤ n → mag (pos a -ℤ pos b) ≤ n + n
mag-diff a zero n h l = omega arith
mag-diff a (suc b) n h l = le_trans (cond-mag (ltb a (suc b)) (suc b - suc a) (a - suc b)) (omega arith)

read : (c : goal.Start) → to_z w32 c.args.new -ℤ to_z w32 c.args.old ≡ pos c.args.new -ℤ pos c.args.old
read c = ap₂ ◌-ℤ◌ (to_z_pos w32 {n = c.args.new} (omega arith)) (to_z_pos w32 {n = c.args.old} (omega arith))

held : (c : goal.Start) → SFits w32 (pos c.args.new -ℤ pos c.args.old)
held c = let h : mag (pos c.args.new -ℤ pos c.args.old) ≤ most_tokens + most_tokens = mag-diff c.args.new c.args.old most_tokens c.requires.1 c.requires.0 in record { sfits = omega arith }

pub overflow_sub-result : goal.overflow_sub-result
overflow_sub-result c = subst (SFits w32) (sym (read c)) (held c)

pub returns : goal.returns
returns c = to_z-of_z {w = w32} (overflow_sub-result c) ∙ read c
