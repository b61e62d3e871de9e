-- `contentspec::put_model` meets its contract. Assumes nothing.
use Rattle.contentspec.specs.Model.{cells_put}
use Rattle.contentspec.proofs.put_model.Goals as goal

pub returns : goal.returns
returns c = search cells_put
