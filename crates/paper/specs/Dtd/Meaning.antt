-- Which children a model of the text describes, over names and with brackets of any number of parts (XML 1.0, section 3.2.1).
-- Assumes nothing.
use Rattle.std.specs.Prelude.{◌≡◌, ◌⊎◌, List, [], ◌∷◌, ◌++◌}
use Rattle.paper.specs.Dtd.Letters.{Name}
use Rattle.paper.specs.Dtd.Declarations.{Suffix, once, maybe, many, several, Part, word, sequence, choice, Parts, only, ◌and◌}

-- a set of child sequences
abbrev pub Children : Type 1
Children = List Name → Type 0

-- one of L after another, any number of times
pub data Rounds (L : Children) : List Name → Type 0 where
  stop : Rounds L []
  more : {u v : List Name} → L u → Rounds L v → Rounds L (u ++ v)

abbrev pub followed : Children → Children → Children
followed L K w = (u : List Name) × (v : List Name) × (w ≡ u ++ v) × L u × K v

-- "?": once or not at all; "*": zero or more times; "+": one or more times
abbrev pub repeated : Suffix → Children → Children
repeated once L w = L w
repeated maybe L w = (w ≡ []) ⊎ L w
repeated many L w = Rounds L w
repeated several L w = followed L (Rounds L) w

-- "Each content particle in the sequence must appear in the order given"; "Any content particle in the choice list may appear"
abbrev mutual
  pub Describes : Part → List Name → Type 0
  Describes (word n q) = repeated q (λ w. w ≡ n ∷ [])
  Describes (sequence ps q) = repeated q (InOrder ps)
  Describes (choice p ps q) = repeated q (λ w. Describes p w ⊎ OneOf ps w)

  pub InOrder : Parts → List Name → Type 0
  InOrder (only p) = Describes p
  InOrder (p and ps) = followed (Describes p) (InOrder ps)

  pub OneOf : Parts → List Name → Type 0
  OneOf (only p) = Describes p
  OneOf (p and ps) = λ w. Describes p w ⊎ OneOf ps w
