-- The place of a child, or of the end: what stands there, and what stands before it; and places take no part in the order of faults.
-- Assumes nothing.
use Rattle.std.specs.Prelude.{◌≡◌, refl, Bool, cond, List, [], ◌∷◌, ℕ, zero, suc, ◌<◌, length, take, get_or}
use Rattle.std.proofs.Common.{ap, not-suc-le-zero, le_of_suc-le-suc}
use Rattle.paper.specs.declared.Tok.{Tok}
use Rattle.paper.specs.declared.Tok.TheVariants.{Start, End, Text, Attr, Value, Bad}
use Rattle.paper.specs.Tokens.{kids, close, child_at}
use Rattle.paper.specs.Judgement.{Answer, or_else, fault_at, first}

-- At the place of child j stands child j.
pub child_there : (j k : ℕ) (d : List Tok) → j < length (kids k d) → get_or d (child_at j k d) Bad ≡ get_or (kids k d) j Bad
child_there j k [] h = absurd (not-suc-le-zero h)
child_there j (suc k) (Start n ∷ d) h = child_there j (suc (suc k)) d h
child_there zero zero (Start n ∷ d) h = refl
child_there (suc j) zero (Start n ∷ d) h = child_there j 1 d (le_of_suc-le-suc h)
child_there j zero (End ∷ d) h = absurd (not-suc-le-zero h)
child_there j (suc k) (End ∷ d) h = child_there j k d h
child_there j (suc k) (Text n ∷ d) h = child_there j (suc k) d h
child_there zero zero (Text n ∷ d) h = refl
child_there (suc j) zero (Text n ∷ d) h = child_there j zero d (le_of_suc-le-suc h)
child_there j k (Attr n ∷ d) h = child_there j k d h
child_there j k (Value n ∷ d) h = child_there j k d h
child_there j k (Bad ∷ d) h = child_there j k d h

-- Before it stand the children before it.
pub children_before : (j k : ℕ) (d : List Tok) → kids k (take (child_at j k d) d) ≡ take j (kids k d)
children_before zero k [] = refl
children_before (suc j) k [] = refl
children_before j (suc k) (Start n ∷ d) = children_before j (suc (suc k)) d
children_before zero zero (Start n ∷ d) = refl
children_before (suc j) zero (Start n ∷ d) = ap (λ l. Start n ∷ l) (children_before j 1 d)
children_before zero zero (End ∷ d) = refl
children_before (suc j) zero (End ∷ d) = refl
children_before j (suc k) (End ∷ d) = children_before j k d
children_before j (suc k) (Text n ∷ d) = children_before j (suc k) d
children_before zero zero (Text n ∷ d) = refl
children_before (suc j) zero (Text n ∷ d) = ap (λ l. Text n ∷ l) (children_before j zero d)
children_before j k (Attr n ∷ d) = children_before j k d
children_before j k (Value n ∷ d) = children_before j k d
children_before j k (Bad ∷ d) = children_before j k d

-- Past the last child it is the place of the end.
pub past_last : (k : ℕ) (d : List Tok) → child_at (length (kids k d)) k d ≡ close k d
past_last k [] = refl
past_last zero (Start n ∷ d) = ap suc (past_last 1 d)
past_last (suc k) (Start n ∷ d) = ap suc (past_last (suc (suc k)) d)
past_last zero (End ∷ d) = refl
past_last (suc k) (End ∷ d) = ap suc (past_last k d)
past_last zero (Text n ∷ d) = ap suc (past_last zero d)
past_last (suc k) (Text n ∷ d) = ap suc (past_last (suc k) d)
past_last k (Attr n ∷ d) = ap suc (past_last k d)
past_last k (Value n ∷ d) = ap suc (past_last k d)
past_last k (Bad ∷ d) = ap suc (past_last k d)

-- ---- the first fault

else_number : (f i j : ℕ) (r q : Answer) → r.0 ≡ q.0 → (or_else f i r).0 ≡ (or_else f j q).0
else_number zero i j r q e = e
else_number (suc f) i j r q e = refl

-- Which fault is the first does not depend on the places that faults give: the order is that of the starts.
pub first_number : (fault : ℕ → List Tok → List Tok → ℕ) (given other : ℕ → ℕ → List Tok → ℕ) (judged : ℕ → Bool) (i : ℕ) (d : List Tok)
    → (first fault given judged i d).0 ≡ (first fault other judged i d).0
first_number fault given other judged i [] = refl
first_number fault given other judged i (x ∷ d) =
    else_number (cond (judged i) (fault_at fault (x ∷ d)) 0) _ _ _ _ (first_number fault given other judged (suc i) d)
