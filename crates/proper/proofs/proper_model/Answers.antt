-- `proper_model` meets its contract. Assumes nothing.
use native.Mathlib.Omega.{arith}
use Rattle.proper.specs.Model.{model_none, model_many, model_out, model_bounded, model_test}
use Rattle.proper.proofs.proper_model.Goals as goal

pub returns-then-count-lt1 : goal.returns-then-count-lt1
returns-then-count-lt1 c = model_none _ _ (omega arith)

pub returns-then-count : goal.returns-then-count
returns-then-count c = model_many _ _ (omega arith)

pub returns-then-not-in_range : goal.returns-then-not-in_range
returns-then-not-in_range c = search model_out

pub unambiguous-requires : goal.unambiguous-requires
unambiguous-requires c = search model_bounded

pub returns : goal.returns
returns c = search model_test
