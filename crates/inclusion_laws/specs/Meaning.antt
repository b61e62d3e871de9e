-- What a content takes, by the meaning of its expression. Assumes nothing.
use Rattle.std.specs.Prelude.{◌≡◌, refl, ◌↔◌, cond, ℕ, T, eqb}
use mathlib.Core.List.{List, [], ◌∷◌, cons≢nil}
use Rattle.paper.specs.Basics.{null}
use Rattle.paper.specs.Schema.{Content, empty, text, model, Schema}
use Rattle.paper.specs.Table.{kind_number}
use Rattle.paper.specs.Rules.{element_at, described_by, of_schema}
use Rattle.paper.specs.Inclusion.{takes, Takes}
use Rattle.content_laws.proofs.Theorems.{matching}

null_iff : (w : List ℕ) → T (null w) ↔ (w ≡ [])
null_iff [] = (λ t. refl, λ e. tt)
null_iff (a ∷ w) = (λ t. absurd t, λ e. absurd (cons≢nil e))

content_takes : (c : Content) (w : List ℕ) → T (cond (eqb (kind_number c) 0) (null w) (described_by c w)) ↔ Takes c w
content_takes empty w = null_iff w
content_takes text w = (λ t. t, λ t. t)
content_takes (model x) w = matching x w

pub takes_means : (s : Schema) (e : ℕ) (w : List ℕ) → T (takes (of_schema s) e w) ↔ Takes (element_at s e).content w
takes_means s e w = content_takes (element_at s e).content w
