-- Names by the places at which they begin: a name is the longest run of name characters from there on. Assumes nothing.
use Rattle.std.specs.Prelude.{Bool, true, Option, None, Some, List, map, ℕ, drop}
use Rattle.paper.specs.Dtd.Letters.{Name, is_more, run, among}

-- the name that begins at a place; those that begin at some places
abbrev pub name_at : List ℕ → ℕ → Name
name_at text a = run is_more (drop a text)

abbrev pub names_at : List ℕ → List ℕ → List Name
names_at text l = map (name_at text) l

-- which names may be mentioned: any, or those at some places
abbrev pub known_in : List ℕ → Option (List ℕ) → Name → Bool
known_in text None n = true
known_in text (Some l) n = among n (names_at text l)
