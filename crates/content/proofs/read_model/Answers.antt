-- `read_model` meets its contract: each way out is a lemma of proofs/Modelled.antt. Assumes nothing.
use mathlib.Core.Path.{◌≡◌, refl, ap, ◌∙◌}
use Prim.Native.Nat.{ℕ}
use lib.ListN.{length, replicate, length-replicate}
use Rattle.paper.specs.Basics.{most_names}
use Rattle.content.proofs.Modelled.{no_front, left_over, whole_model}
use Rattle.content.proofs.read_model.Goals as goal
use Rattle.content.proofs.read_model.Goals.{in_default-via-in-Some+else-whole-s, in_default-via-in_default}

pub returns-in_default : goal.returns-in_default
returns-in_default c =
    let long : length c.read.new.follow ≡ most_names = c.read.auto.follow ∙ ap length c.requires ∙ length-replicate {A = ℕ} most_names 0 in
    let zeros : c.fill.new.self ≡ replicate most_names 0 = c.fill.ensures.after (λ y e. e) ∙ ap (λ n. replicate n 0) long in
    elim c.in_default.branch [ in_default-via-in-Some+else-whole-s w ↦ left_over c.read.ensures w.in-Some.is w.if-whole-s.false zeros | in_default-via-in_default w ↦ no_front c.read.ensures w.in_default.is zeros ]

pub returns-in-Some : goal.returns-in-Some
returns-in-Some c = whole_model c.read.ensures c.in-Some.is c.if-whole-s.true c.requires refl
