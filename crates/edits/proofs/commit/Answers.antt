-- `edits::commit` meets its contract. Assumes nothing.
use mathlib.Core.Path.{◌≡◌, ap, ◌∙◌}
use lib.ListN.{length}
use mir.Syntax.{w32}
use mir.Val.{to_z, of_z}
use borrow.Author.Rules.{rules}
use Rattle.edits.proofs.commit.Goals as goal

pub returns : goal.returns
returns c =
    let a = c.args in
    let t : to_z w32 (of_z w32 c.change_of.result) ≡ c.change_of.result = search rules in
    (c.write.ensures, ap (λ x. record { number = 0; place = 0; used = length a.new.now; change = x; children = a.children }) (t ∙ c.change_of.ensures))
