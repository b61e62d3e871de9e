-- Whether an expression describes a list of names, and whether a list that it describes begins with them, as tests that need neither a
-- table nor sets: the names that can have been read last carry a mark, and each further name moves the marks. That the tests say what
-- `Matches` means, of every expression, ambiguous or not, is proved in the crate `content_laws`. Assumes nothing.
use Rattle.std.specs.Prelude.{Bool, true, false, ◌&&◌, ◌||◌, List, [], ◌∷◌, ℕ, eqb}
use Rattle.paper.specs.Expressions.{Expr, name, seq, alt, opt, star, plus}
use Rattle.paper.specs.Sets.{nullable}

-- an expression that is being read
pub data Reading : Type 0 where
  -- a name, with its mark: it can have been read last
  spot : Bool → ℕ → Reading
  both either : Reading → Reading → Reading
  maybe many some : Reading → Reading

-- nothing was read
abbrev pub fresh : Expr → Reading
fresh (name a) = spot false a
fresh (seq e f) = both (fresh e) (fresh f)
fresh (alt e f) = either (fresh e) (fresh f)
fresh (opt e) = maybe (fresh e)
fresh (star e) = many (fresh e)
fresh (plus e) = some (fresh e)

-- the expression that is being read
abbrev pub erase : Reading → Expr
erase (spot m a) = name a
erase (both r q) = seq (erase r) (erase q)
erase (either r q) = alt (erase r) (erase q)
erase (maybe r) = opt (erase r)
erase (many r) = star (erase r)
erase (some r) = plus (erase r)

-- what was read can be all
abbrev pub over : Reading → Bool
over (spot m a) = m
over (both r q) = over q || (over r && nullable (erase q))
over (either r q) = over r || over q
over (maybe r) = over r
over (many r) = over r
over (some r) = over r

-- the name a is read next. `here`: the expression can begin with it
abbrev pub shift : Bool → ℕ → Reading → Reading
shift here a (spot m b) = spot (here && eqb a b) b
shift here a (both r q) = both (shift here a r) (shift (over r || (here && nullable (erase r))) a q)
shift here a (either r q) = either (shift here a r) (shift here a q)
shift here a (maybe r) = maybe (shift here a r)
shift here a (many r) = many (shift (here || over r) a r)
shift here a (some r) = some (shift (here || over r) a r)

abbrev pub goes : Reading → List ℕ → Bool
goes r [] = over r
goes r (a ∷ w) = goes (shift false a r) w

unfoldable pub matches : Expr → List ℕ → Bool
matches e [] = nullable e
matches e (a ∷ w) = goes (shift true a (fresh e)) w

-- what was read can be continued: a name carries a mark
abbrev pub live : Reading → Bool
live (spot m a) = m
live (both r q) = live r || live q
live (either r q) = live r || live q
live (maybe r) = live r
live (many r) = live r
live (some r) = live r

abbrev pub live_after : Reading → List ℕ → Bool
live_after r [] = live r
live_after r (a ∷ w) = live_after (shift false a r) w

-- Item 3: "valid content can begin that way": a list of names that e describes begins with these
unfoldable pub begins : Expr → List ℕ → Bool
begins e [] = true
begins e (a ∷ w) = live_after (shift true a (fresh e)) w
