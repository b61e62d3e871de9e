-- Whether a list of names that an expression describes begins with some names: the test says what it means. Every mark can be continued to
-- a match. Assumes nothing.
use Rattle.std.specs.Prelude.{refl, ◌↔◌, true, false, List, [], ◌∷◌, ◌++◌, ℕ, T}
use Rattle.std.proofs.Common.{inl, inr}
use Rattle.paper.specs.Expressions.{Expr, Matches, stop}
use Rattle.paper.specs.Matching.{Reading, spot, both, either, maybe, many, some, fresh, erase, shift, goes, matches, live, live_after, begins}
use Rattle.basic_laws.specs.Tests.{or_iff, tests}
use Rattle.content_laws.specs.Useful.{some_word}
use Rattle.content_laws.specs.Matching.{Rest}
use Rattle.content_laws.proofs.Matching.{goes_iff, matches_iff}

live_rest : (r : Reading) → T (live r) → (w : List ℕ) × Rest r w
live_rest (spot m a) t = ([], (t, refl))
live_rest (both r q) t = elim ((or_iff (live r) (live q)).0 t) [
  | inl s ↦ let (u, x) = live_rest r s in let (v, m) = some_word (erase q) in (u ++ v, inl (u, v, refl, x, m))
  | inr s ↦ let (u, x) = live_rest q s in (u, inr x)
]
live_rest (either r q) t = elim ((or_iff (live r) (live q)).0 t) [
  | inl s ↦ let (u, x) = live_rest r s in (u, inl x)
  | inr s ↦ let (u, x) = live_rest q s in (u, inr x)
]
live_rest (maybe r) t = live_rest r t
live_rest (many r) t = let (u, x) = live_rest r t in (u ++ [], (u, [], refl, x, stop))
live_rest (some r) t = let (u, x) = live_rest r t in (u ++ [], (u, [], refl, x, stop))

rest_live : (r : Reading) (w : List ℕ) → Rest r w → T (live r)
rest_live (spot m a) w x = x.0
rest_live (both r q) w (inl x) = search (tests, rest_live r x.0 x.3)
rest_live (both r q) w (inr x) = search (tests, rest_live q w x)
rest_live (either r q) w (inl x) = search (tests, rest_live r w x)
rest_live (either r q) w (inr x) = search (tests, rest_live q w x)
rest_live (maybe r) w x = rest_live r w x
rest_live (many r) w x = rest_live r x.0 x.3
rest_live (some r) w x = rest_live r x.0 x.3

after_iff : (r : Reading) (w : List ℕ) → T (live_after r w) ↔ ((v : List ℕ) × T (goes r (w ++ v)))
after_iff r [] = (
  λ t. let (v, x) = live_rest r t in (v, (goes_iff r v).1 x),
  λ h. rest_live r h.0 ((goes_iff r h.0).0 h.1),
)
after_iff r (a ∷ w) = after_iff (shift false a r) w

-- The names begin a list that the expression describes exactly if the test says so.
pub begins_iff : (e : Expr) (w : List ℕ) → T (begins e w) ↔ ((v : List ℕ) × Matches e (w ++ v))
unfolding begins matches
begins_iff e [] = (λ t. some_word e, λ h. tt)
begins_iff e (a ∷ w) =
    let (to, of) = after_iff (shift true a (fresh e)) w in (
      λ t. let (v, g) = to t in (v, (matches_iff e (a ∷ w ++ v)).0 g),
      λ h. of (h.0, (matches_iff e (a ∷ w ++ h.0)).1 h.1),
    )
