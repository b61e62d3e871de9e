-- Each reference has an ID, as a statement. Assumes nothing.
use Rattle.std.specs.Prelude.{◌≡◌, ◌↔◌, true, ℕ}
use mathlib.Core.List.{List, map}
use Rattle.paper.specs.declared.Tok.{Tok}
use Rattle.paper.specs.Schema.{Schema}
use Rattle.paper.specs.Shape.{Body, phases, is_body}
use Rattle.paper.specs.Rules.{of_schema}
use Rattle.paper.specs.Judgement.{ids_of, refs_of, value_in, dangling}
use Rattle.paper.specs.Validity.{StandsAt, IsId, IsReference}
use Rattle.judge_laws.specs.Keys.{holds_id, holds_reference, dangling_iff, elem_iff}

module _ (s : Schema) (d : List Tok) (b : is_body (phases Body d) ≡ true) where
  pub references_iff : ((dangling (map value_in (ids_of (of_schema s) d)) (refs_of (of_schema s) d)).0 ≡ 0)
      ↔ ((i x : ℕ) → StandsAt (IsReference s) d i x → (j : ℕ) × StandsAt (IsId s) d j x)
  references_iff =
      let ids = ids_of (of_schema s) d in
      let (to, of) = dangling_iff (map value_in ids) (refs_of (of_schema s) d) in (
        λ e i x z. let (j, m) = (elem_iff x ids).0 (to e i x ((holds_reference s d b i x).1 z)) in (j, (holds_id s d b j x).0 m),
        λ f. of (λ i x m. let (j, z) = f i x ((holds_reference s d b i x).0 m) in (elem_iff x ids).1 (j, (holds_id s d b j x).1 z)),
      )
