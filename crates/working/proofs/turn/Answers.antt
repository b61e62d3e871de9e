-- `working::turn` meets its contract. Assumes nothing.
use Rattle.std.proofs.Common.{refl, arith}
use Rattle.shape_laws.specs.Shaped.{shape_alone}
use Rattle.working.specs.Working.{turn_room, turn_long, turn_done}
use Rattle.working.proofs.turn.Goals as goal

pub form_of-requires : goal.form_of-requires
form_of-requires c = (shape_alone c.args.second.now c.args.used c.requires.2, c.requires.3)

pub slice_bounds-write-end : goal.slice_bounds-write-end
slice_bounds-write-end c = let a = c.args in turn_long a.room a.operation a.place a.piece.now a.second.now a.used c.in_ok-f.ensures

pub write-requires : goal.write-requires
write-requires c =
    let a = c.args in
    (omega arith, turn_room a.room a.operation a.place a.piece.now a.second.now a.used c.in_ok-f.ensures c.requires.0, omega (arith, c.requires.0, c.requires.1), refl)

pub returns : goal.returns
returns c = let a = c.args in turn_done a.room a.operation a.place a.piece.now a.second.now a.used c.in_ok-f.ensures c.write.ensures
