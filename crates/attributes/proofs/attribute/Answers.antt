-- `attributes::attribute` meets its contract. Assumes nothing.
use Rattle.attributes.specs.Attributes.{attribute_past, attribute_refused, attribute_many, attribute_one}
use Rattle.attributes.proofs.attribute.Goals as goal

pub returns-then-a-ge-MOST_ATTRIBUTES : goal.returns-then-a-ge-MOST_ATTRIBUTES
returns-then-a-ge-MOST_ATTRIBUTES c = search attribute_past

pub returns-then-not-has : goal.returns-then-not-has
returns-then-not-has c = search attribute_refused

pub returns-then-has : goal.returns-then-has
returns-then-has c = search attribute_many

pub returns : goal.returns
returns c = search attribute_one
