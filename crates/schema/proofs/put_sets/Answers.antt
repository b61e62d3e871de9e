-- `schema::put_sets` meets its contract. Assumes nothing.
use Rattle.schema.specs.Element.{fifth_in, sixth_in}
use Rattle.schema.proofs.put_sets.Goals as goal

pub bounds-block-4 : goal.bounds-block-4
bounds-block-4 c = search fifth_in

pub bounds-block-5 : goal.bounds-block-5
bounds-block-5 c = search sixth_in
