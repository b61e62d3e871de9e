-- `entries::add_entry` meets its contract. Assumes nothing.
use Rattle.entries.specs.Held.{second_in, third_in, entry-added}
use Rattle.entries.proofs.add_entry.Goals as goal

pub bounds-fixed-at-2 : goal.bounds-fixed-at-2
bounds-fixed-at-2 c = search second_in

pub bounds-fixed-at-3 : goal.bounds-fixed-at-3
bounds-fixed-at-3 c = search third_in

pub returns : goal.returns
returns c = search entry-added
