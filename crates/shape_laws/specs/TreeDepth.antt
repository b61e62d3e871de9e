-- The levels of a tree's tokens are the tree's levels. Assumes nothing.
use Rattle.std.specs.Prelude.{◌≡◌, refl, List, [], ◌∷◌, ℕ, zero, suc, ◌+◌, max}
use Rattle.std.proofs.Common.{arith}
use Rattle.paper.specs.declared.Tok.{Tok}
use Rattle.paper.specs.declared.Tok.TheVariants.{End}
use Rattle.paper.specs.Tokens.{deep}
use Rattle.paper.specs.Trees.{Given, Forest, nil, txt, elem, flat_v, flat_a, flat, depth, IsTree, tree_of}
use Rattle.shape_laws.specs.Ends.{deep_ge}

deep_values : (k : ℕ) (vs : List ℕ) (r : List Tok) → deep k (flat_v vs r) ≡ deep k r
deep_values k [] r = refl
deep_values k (v ∷ vs) r = let e = deep_values k vs r in let g = deep_ge k r in omega arith

deep_given : (k : ℕ) (gs : List Given) (r : List Tok) → deep k (flat_a gs r) ≡ deep k r
deep_given k [] r = refl
deep_given k (g ∷ gs) r = let e = deep_values k g.more (flat_a gs r) in let f = deep_given k gs r in let h = deep_ge k r in omega arith

deep_flat : (k : ℕ) (f : Forest) (r : List Tok) → deep k (flat f r) ≡ max (k + depth f) (deep k r)
deep_flat k nil r = let g = deep_ge k r in omega arith
deep_flat k (txt n f) r = let e = deep_flat k f r in omega arith
deep_flat k (elem n gs c f) r =
    let a = deep_given (suc k) gs (flat c (End ∷ flat f r)) in
    let b = deep_flat (suc k) c (End ∷ flat f r) in
    let e = deep_flat k f r in
    omega arith

pub tree_deep : (d : List Tok) (t : IsTree d) → deep zero d ≡ depth (tree_of t)
tree_deep d t = rw t.tokens (let e = deep_flat zero (tree_of t) [] in omega arith)
