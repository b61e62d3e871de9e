-- `lines::put_decimal` meets its contract: the fewest digits are the paper's. Assumes nothing.
use mathlib.Core.Path.{ap, ◌∙◌}
use native.Mathlib.Omega.{arith}
use lib.ListN.{length}
use Rattle.lines.specs.Lines.{shown_is}
use Rattle.lines.specs.Put.{put_as}
use Rattle.lines.proofs.put_decimal.Goals as goal

pub put_text-requires : goal.put_text-requires
put_text-requires c =
    let d = c.decimal-k in
    omega (arith, ap length (d.ensures.digits ∙ shown_is _ _ (omega arith) d.ensures.len))

pub returns : goal.returns
returns c =
    let d = c.decimal-k in
    put_as c.put_text.ensures (d.ensures.digits ∙ shown_is _ _ (omega arith) d.ensures.len)
