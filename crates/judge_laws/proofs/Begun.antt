-- Where the children of an element stop, by meaning. Assumes nothing.
use Rattle.std.specs.Prelude.{◌≡◌, ◌↔◌}
use mathlib.Core.List.{List, [], ◌++◌, append_assoc, append-nil}
use Prim.Native.Nat.{ℕ, zero}
use Rattle.paper.specs.declared.Tok.{Tok}
use Rattle.paper.specs.Tokens.{kids}
use Rattle.paper.specs.Schema.{Content, Schema}
use Rattle.paper.specs.Rules.{element_at, of_schema}
use Rattle.paper.specs.Judgement.{content_begun, stop_after}
use Rattle.paper.specs.Validity.{ContentValid, StopsAt, Begun}
use Rattle.judge_laws.specs.Stops.{stops_iff}
use Rattle.judge_laws.specs.Begun.{begun_iff, some_begun}

module _ (s : Schema) (n : ℕ) (d : List Tok) where
  abbrev c : Content
  c = (element_at s n).content

  abbrev k : List Tok
  k = kids zero d

  -- The children of an element stop at i exactly if they are not valid content and i is the number that the definition gives.
  pub stops_means : (i : ℕ)
      → StopsAt (Begun (element_at s n).content) (ContentValid (element_at s n).content) (kids zero d) i
      ↔ ((¬ ContentValid (element_at s n).content (kids zero d)) × (i ≡ stop_after (content_begun (of_schema s) n) (kids zero d)))
  stops_means = stops_iff (Begun c) (ContentValid c)
      (λ u v h. (v ++ h.0, rw append_assoc at h.1)) (λ l h. ([], rw append-nil h))
      (content_begun (of_schema s) n) k (begun_iff s n d) (some_begun c)
