-- Models and their symbols, computed. Assumes nothing.
use Rattle.std.specs.Prelude.{◌≡◌, refl, false, List, [], ◌∷◌, ℕ, length}
use Prim.Native.String.{String}
use Rattle.paper.specs.Dtd.Letters.{ascii}
use Rattle.paper.specs.Dtd.Numbering.{number_in}
use Rattle.dtd_symbol_laws.specs.Machine.{at, step, sweep}

-- a is 5, b 6, c 7 and d 8
abbrev symbols : String → List ℕ
symbols s = (sweep (number_in (ascii "a" ∷ ascii "b" ∷ ascii "c" ∷ ascii "d" ∷ [])) (length (ascii s)) (ascii s) false (at 0 [] [])).done

-- "`(a,b,c)` is a and then the pair b, c"
three : symbols "(a,b,c)" ≡ 0 ∷ 5 ∷ 0 ∷ 6 ∷ 7 ∷ []
unfolding step
three = refl

left : symbols "((a,b),c)" ≡ 0 ∷ 0 ∷ 5 ∷ 6 ∷ 7 ∷ []
unfolding step
left = refl

-- a part's suffix stands behind its separator
starred : symbols "( a? , b )*" ≡ 3 ∷ 0 ∷ 2 ∷ 5 ∷ 6 ∷ []
unfolding step
starred = refl

-- "every suffix is one symbol and nothing is simplified (`((a?)?)` is `2 2 a`)"
twice : symbols "((a?)?)" ≡ 2 ∷ 2 ∷ 5 ∷ []
unfolding step
twice = refl

mixed : symbols "(a|(b,c)+|d)" ≡ 1 ∷ 5 ∷ 1 ∷ 4 ∷ 0 ∷ 6 ∷ 7 ∷ 8 ∷ []
unfolding step
mixed = refl
