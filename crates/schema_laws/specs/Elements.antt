-- The elements that a reader takes. Assumes nothing.
use Rattle.std.specs.Prelude.{Bool, ◌&&◌, ℕ}
use Rattle.paper.specs.Schema.{fixed_in, Element}
use Rattle.paper.specs.SchemaWritten.{formed_element}
use Rattle.schema_laws.specs.Contents.{unambiguous}

-- ---- elements

-- in form, its model not ambiguous
abbrev pub fit : ℕ → ℕ → Element → Bool
fit E met x = formed_element E met x && unambiguous x.content

-- how many of its attributes are fixed
abbrev pub fixes : Element → ℕ
fixes x = fixed_in x.attributes
