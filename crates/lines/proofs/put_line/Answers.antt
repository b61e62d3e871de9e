-- `lines::put_line` meets its contract: each of its four numbers has room. Assumes nothing.
use native.Mathlib.Omega.{arith}
use Rattle.lines.specs.Lines.{room_1, room_2, room_3, room_4, line_room_lem, line_put}
use Rattle.lines.proofs.put_line.Goals as goal

pub put_field-a-requires : goal.put_field-a-requires
put_field-a-requires c = room_1 c.args.out.now c.args.at c.args.k 0 0 0 c.requires.1 c.requires.0 (omega arith)

pub put_field-b-requires : goal.put_field-b-requires
put_field-b-requires c = room_2 _ _ _ _ 0 0 c.requires.1 c.requires.0 (omega arith) c.put_field-a.ensures

pub put_field-c-requires : goal.put_field-c-requires
put_field-c-requires c =
    room_3 _ _ _ _ _ 0 c.requires.1 c.requires.0 (omega arith) c.put_field-a.ensures (omega arith) c.put_field-b.ensures

pub put_field-requires : goal.put_field-requires
put_field-requires c =
    room_4 _ _ _ _ _ _ c.requires.1 c.requires.0 (omega arith) c.put_field-a.ensures (omega arith) c.put_field-b.ensures (omega arith) c.put_field-c.ensures

pub returns : goal.returns
returns c =
    let f = c.put_field-a.ensures in
    let g = c.put_field-b.ensures in
    let h = c.put_field-c.ensures in
    let i = c.put_field.ensures in
    record {
      put = line_put _ _ _ _ f g h i;
      upper_bound = line_room_lem _ _ _ _ _ _ c.requires.1 c.requires.0 (omega arith) f (omega arith) g (omega arith) h i;
    }
