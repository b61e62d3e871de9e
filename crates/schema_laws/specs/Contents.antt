-- The contents that a reader takes, how they are written, and an ambiguous model in front, at which it stops with 3. Assumes nothing.
use Rattle.std.specs.Prelude.{◌≡◌, refl, Bool, true, not, ◌&&◌, List, [], ◌∷◌, ℕ, leb, length}
use Rattle.paper.specs.Expressions.{Expr}
use Rattle.paper.specs.Sets.{ambiguous}
use Rattle.paper.specs.Schema.{symbols_of, Content, empty, text, model}
use Rattle.paper.specs.SchemaWritten.{formed_model, formed_content}
use Rattle.schema_laws.specs.Written.{ahead}

-- ---- contents

-- the kind that stands first, and what follows it
abbrev pub kind_of : Content → ℕ
kind_of empty = 0
kind_of text = 1
kind_of (model e) = 2

abbrev pub body_of : Content → List ℕ
body_of empty = []
body_of text = []
body_of (model e) = length (symbols_of e) ∷ symbols_of e

pub kind_low : (c : Content) → leb (kind_of c) 2 ≡ true
kind_low empty = refl
kind_low text = refl
kind_low (model e) = refl

-- no model that is ambiguous
abbrev pub unambiguous : Content → Bool
unambiguous empty = true
unambiguous text = true
unambiguous (model e) = not (ambiguous e)

abbrev pub fit_content : ℕ → Content → Bool
fit_content E c = formed_content E c && unambiguous c

-- an ambiguous model in form stands in front, written by w
pub record Tangled (E : ℕ) (w : Expr → List ℕ) (s : List ℕ) : Type 0 where
  pub e : Expr
  pub rest : List ℕ
  pub formed : formed_model E e ≡ true
  pub tangled : ambiguous e ≡ true
  pub begins : s ≡ ahead (w e) rest
