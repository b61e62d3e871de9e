-- Separators of code as those of the definitions. Assumes nothing.
use Rattle.std.specs.Prelude.{Option, None, Some}
use Rattle.dtd_model_laws.specs.Walks.{Joint, free, commas, bars}
use Rattle.dtd_brackets.specs.declared.Separator.{Separator}
use Rattle.dtd_brackets.specs.declared.Separator.TheVariants.{Comma, Bar}

-- a bracket without a separator yet, or with that one
abbrev pub joint : Option Separator → Joint
joint None = free
joint (Some Comma) = commas
joint (Some Bar) = bars
