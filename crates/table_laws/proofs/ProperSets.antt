-- A rising list of attributes has one alone of each number. Assumes nothing.
use Rattle.std.specs.Prelude.{◌≡◌, refl, Bool, true, false, ◌&&◌, ◌||◌, List, [], ◌∷◌, ◌++◌, ℕ, suc, ◌≤◌, eqb}
use Rattle.std.proofs.Common.{arith, eq-eqb, ne_eqb}
use Rattle.std.proofs.Math.Bool.{and-false}
use Rattle.paper.specs.Schema.{Attribute}
use Rattle.table_laws.specs.Accepted.{Rising}
use Rattle.table_laws.specs.ProperSets.{At, absent}

-- what a rising list has of the number of one of its own is that one
least : (u v : List Attribute) (y : Attribute) (low : ℕ) (had : Bool) → Rising low had (u ++ y ∷ v) → low ≤ y.number
least [] v y low had r = r.0
least (x ∷ u) v y low had (a, b, r) = let h = least u v y (suc x.number) (had || eqb x.kind 1) r in omega arith

pub at_own : (P : Attribute → Bool) (u v : List Attribute) (y : Attribute) (low : ℕ) (had : Bool) → Rising low had (u ++ y ∷ v)
    → At (u ++ y ∷ v) P y.number ≡ P y
at_own P [] v y low had (a, b, r) =
    rw (eq-eqb y.number y.number refl, absent P v (suc y.number) (had || eqb y.kind 1) r y.number (omega arith)) (alone (P y))
  where
    alone : (p : Bool) → (p && true) || false ≡ p
    alone true = refl
    alone false = refl
at_own P (x ∷ u) v y low had (a, b, r) =
    let h = least u v y (suc x.number) (had || eqb x.kind 1) r in
    rw (ne_eqb y.number x.number (λ z. omega arith), and-false (P x)) (at_own P u v y (suc x.number) (had || eqb x.kind 1) r)
