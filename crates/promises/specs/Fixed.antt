-- What item 8 promises of fixed attributes, beside what is promised of every schema, table and document. Assumes nothing.
use Rattle.std.specs.Prelude.{◌≡◌, List, ◌∷◌, ◌++◌, ℕ, ◌≤◌, T, length, take}
use Rattle.std.proofs.Math.Option.{some}
use Rattle.paper.specs.declared.Tok.{Tok}
use Rattle.paper.specs.declared.Tok.TheVariants.{Start, Attr, Value}
use Rattle.paper.specs.Basics.{most_fixed}
use Rattle.paper.specs.Schema.{Schema, ok, schema_of}
use Rattle.paper.specs.Table.{entries_from, of_kind, is_required}
use Rattle.paper.specs.Tokens.{toks, heads, values}
use Rattle.paper.specs.Rules.{element_at, has, fixed_to}
use Rattle.paper.specs.Validity.{ValidDocument}

-- "Up to 16 in a schema": a file with more of them is no schema
abbrev pub FewFixed : Type 0
FewFixed = (file : List ℕ) (s : Schema) (left : List ℕ) → schema_of file ≡ ok s left → length (entries_from 0 s.elements) ≤ most_fixed

-- "fixed, for CDATA [..]: the attribute may be absent": it is not required, and of no other kind
abbrev pub FixedMayBeAbsent : Type 0
FixedMayBeAbsent = (file : List ℕ) (s : Schema) (left : List ℕ) → schema_of file ≡ ok s left
    → (n a v : ℕ) → fixed_to (element_at s n) a ≡ some v → (¬ T (has is_required (element_at s n) a)) × ((k : ℕ) → T (has (of_kind k) (element_at s n) a) → k ≡ 0)

-- "and if present has exactly that value": in a valid document, at a start of the element n
abbrev pub FixedHasItsValue : Type 0
FixedHasItsValue = (s : Schema) (buffer : List ℕ) (used : ℕ) → ValidDocument s buffer used
    → (n a v : ℕ) → fixed_to (element_at s n) a ≡ some v
    → (u r w z : List Tok) → toks (take used buffer) ≡ u ++ Start n ∷ r → heads r ≡ w ++ Attr a ∷ z
    → (t : List Tok) × (z ≡ Value v ∷ t) × (values t ≡ 0)
