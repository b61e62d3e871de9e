-- Where the contents of declared elements stand in the text. Assumes nothing.
use Rattle.std.specs.Prelude.{◌≡◌, true, List, [], ◌∷◌, ◌++◌, ℕ, ◌≤◌, length, drop}
use Rattle.paper.specs.Dtd.Declarations.{Content, Declaration, element, attlist}
use Rattle.paper.specs.Dtd.Grammar as G
use Rattle.paper.specs.Dtd.Limits.{content_kept}
use Rattle.paper.specs.Dtd.Numbering.{model_fits}

-- the content is spelled from p to before q, and its model keeps to the limits
pub record ContentAt (text : List ℕ) (p q : ℕ) (c : Content) : Type 0 where
  pub spelled : G.contentspec c (drop p text) (drop q text)
  pub inside : q ≤ length text
  pub fits : content_kept model_fits c ≡ true

-- those of all elements, by declaration: where each begins and ends
abbrev pub Stored : List ℕ → List Declaration → (contents ends : List ℕ) → Type 0
Stored text [] [] [] = Unit {0}
Stored text [] [] (q ∷ qs) = ⊥
Stored text [] (p ∷ ps) qs = ⊥
Stored text (element n c ∷ ds) [] qs = ⊥
Stored text (element n c ∷ ds) (p ∷ ps) [] = ⊥
Stored text (element n c ∷ ds) (p ∷ ps) (q ∷ qs) = ContentAt text p q c × Stored text ds ps qs
Stored text (attlist e l ∷ ds) ps qs = Stored text ds ps qs

pub stored_append : (text : List ℕ) (ds es : List Declaration) (ps qs us vs : List ℕ) → Stored text ds ps qs → Stored text es us vs → Stored text (ds ++ es) (ps ++ us) (qs ++ vs)
stored_append text [] es [] [] us vs a b = b
stored_append text [] es [] (q ∷ qs) us vs a b = absurd a
stored_append text [] es (p ∷ ps) qs us vs a b = absurd a
stored_append text (element n c ∷ ds) es [] qs us vs a b = absurd a
stored_append text (element n c ∷ ds) es (p ∷ ps) [] us vs a b = absurd a
stored_append text (element n c ∷ ds) es (p ∷ ps) (q ∷ qs) us vs (x, a) b = (x, stored_append text ds es ps qs us vs a b)
stored_append text (attlist e l ∷ ds) es ps qs us vs a b = stored_append text ds es ps qs us vs a b
