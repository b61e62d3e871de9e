-- The children that an edit looks at: those of the parent, and those of the piece's elements. Assumes nothing.
use Rattle.std.specs.Prelude.{◌≡◌, refl, Bool, true, false, cond, ◌&&◌, List, [], ◌∷◌, ◌++◌, ℕ, zero, suc, ◌+◌, ◌≤◌, ◌<◌, length, drop}
use Rattle.std.proofs.Common.{ap, arith}
use Rattle.paper.specs.declared.Tok.{Tok}
use Rattle.paper.specs.declared.Tok.TheVariants.{Start, End, Text, Attr, Value, Bad}
use Rattle.paper.specs.Tokens.{balanced, kids, level, run, starts}
use Rattle.basic_laws.specs.Bools.{clash}
use Rattle.shape_laws.specs.Local.{at_depth}
use Rattle.shape_laws.specs.Touch.{unbalanced, parent_of}

-- ---- the children of the parent

-- the children of the innermost element that a leaves open, where r comes after a; 0 where it leaves none open
abbrev pub over : List Tok → List Tok → ℕ
over [] r = 0
over (t ∷ a) r = cond (starts t && balanced a) (length (kids zero (a ++ r))) (over a r)

-- what is balanced leaves none open
pub over_even : (k : ℕ) (a r : List Tok) → level (run k a) ≡ true → over a r ≡ 0
over_even k [] r e = refl
over_even k (Start n ∷ a) r e = go (over_even (suc k) a r e) (balanced a) refl
  where
    go : over a r ≡ 0 → (b : Bool) → balanced a ≡ b → cond b (length (kids zero (a ++ r))) (over a r) ≡ 0
    go h true f = clash e (ap level (at_depth (suc k) a f))
    go h false f = h
over_even zero (End ∷ a) r e = clash e refl
over_even (suc k) (End ∷ a) r e = over_even k a r e
over_even k (Text n ∷ a) r e = over_even k a r e
over_even k (Attr n ∷ a) r e = over_even k a r e
over_even k (Value n ∷ a) r e = over_even k a r e
over_even k (Bad ∷ a) r e = over_even k a r e

-- a balanced part behind a start leaves that element open
pub over_start : (a : List Tok) (n : ℕ) (b r : List Tok) → balanced b ≡ true → over (a ++ (Start n ∷ b)) r ≡ length (kids zero (b ++ r))
over_start [] n b r e = rw e
over_start (t ∷ a) n b r e = go (starts t) (balanced (a ++ (Start n ∷ b))) refl (over_start a n b r e)
  where
    go : (s c : Bool) → balanced (a ++ (Start n ∷ b)) ≡ c → over (a ++ (Start n ∷ b)) r ≡ length (kids zero (b ++ r))
        → cond (s && c) (length (kids zero ((a ++ (Start n ∷ b)) ++ r))) (over (a ++ (Start n ∷ b)) r) ≡ length (kids zero (b ++ r))
    go true true f h = absurd (unbalanced zero a n b e f)
    go true false f h = h
    go false true f h = h
    go false false f h = h

-- the children of every element that starts in p, where r comes after p
abbrev pub own : List Tok → List Tok → ℕ
own [] r = 0
own (t ∷ p) r = cond (starts t) (length (kids zero (p ++ r))) 0 + own p r

-- the parent, by its place
pub over_parent : (a r : List Tok) → parent_of a < length a → over a r ≡ length (kids zero (drop (suc (parent_of a)) (a ++ r)))
unfolding parent_of
over_parent [] r h = absurd (omega arith)
over_parent (t ∷ a) r h = go (starts t && balanced a) (over_parent a r) h
  where
    go : (b : Bool) → (parent_of a < length a → over a r ≡ length (kids zero (drop (suc (parent_of a)) (a ++ r)))) → cond b 0 (suc (parent_of a)) < suc (length a)
        → cond b (length (kids zero (a ++ r))) (over a r) ≡ length (kids zero (drop (cond b 0 (suc (parent_of a))) (a ++ r)))
    go true ih h = refl
    go false ih h = ih (omega arith)

pub over_none : (a r : List Tok) → length a ≤ parent_of a → over a r ≡ 0
unfolding parent_of
over_none [] r h = refl
over_none (t ∷ a) r h = go (starts t && balanced a) (over_none a r) h
  where
    go : (b : Bool) → (length a ≤ parent_of a → over a r ≡ 0) → suc (length a) ≤ cond b 0 (suc (parent_of a))
        → cond b (length (kids zero (a ++ r))) (over a r) ≡ 0
    go true ih h = absurd (omega arith)
    go false ih h = ih (omega arith)
