-- Whether a definition is due, and the end of an ATTLIST. Assumes nothing.
use Rattle.std.specs.Prelude.{◌≡◌, refl, Bool, true, false, not, Result, List, [], ◌∷◌, ℕ, eqb, drop}
use Rattle.std.proofs.Common.{sym, ap, ◌∙◌}
use Rattle.paper.specs.Dtd.Letters.{is_white, begins, past}
use Rattle.paper.specs.Dtd.Readers.{literal}
use Rattle.paper.specs.Dtd.Reading.{due}
use Rattle.dtd_laws.specs.Unique.{any}
use Rattle.dtd_words.specs.declared.Fault.{Fault}
use Rattle.dtd_words.specs.Places.{At}
use Rattle.dtd_words.specs.Words.{Came}
use Rattle.dtd_attributes.specs.Adding.{greater_after}

module _ (text : List ℕ) (at : ℕ) where
  module _ (b : Bool) (q : b ≡ begins is_white (drop at text)) where
    pub due_not : b ≡ false → false ≡ due any (drop at text)
    due_not p = rw (sym q ∙ p) refl

    pub due_here : (j : ℕ) (g : Bool) → b ≡ true → At text j (past is_white (drop at text)) → g ≡ begins (eqb 62) (drop j text) → not g ≡ due any (drop at text)
    due_here j g p a e = rw (sym q ∙ p, ← a.rest) (ap not e)

  pub greater_there : (j : ℕ) (s : Result ℕ Fault) → At text j (past is_white (drop at text)) → Came text s (literal (62 ∷ []) (drop j text)) → Came text s (greater_after (drop at text))
  greater_there j s a c = rw (← a.rest) c
