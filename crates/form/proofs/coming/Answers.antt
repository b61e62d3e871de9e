-- `form::coming` meets its contract. Assumes nothing.
use Rattle.form.specs.Size.{come_insert, come_replace, come_set}
use Rattle.form.proofs.coming.Goals as goal

pub returns-in-Insert : goal.returns-in-Insert
returns-in-Insert c = search come_insert

pub returns-in-Replace : goal.returns-in-Replace
returns-in-Replace c = search come_replace

pub returns-in-Set : goal.returns-in-Set
returns-in-Set c = search come_set
