-- `dtd_elements::new_element` meets its contract: a new name, and room for it. Assumes nothing.
use Rattle.dtd_elements.specs.Heads.{twice, full, fresh}
use borrow.Author.Rules.{rules}
use Rattle.dtd_elements.proofs.new_element.Goals as goal

pub returns-then-find_name-elements : goal.returns-then-find_name-elements
returns-then-find_name-elements c =
    twice c.args.text.now c.args.at c.args.elements.now c.requires c.in_ok-end.end c.in_ok-end.ensures c.find_name.result c.find_name.ensures (search rules)

pub returns-then-elements-eq-MOST_ELEMENTS : goal.returns-then-elements-eq-MOST_ELEMENTS
returns-then-elements-eq-MOST_ELEMENTS c =
    full c.args.text.now c.args.at c.args.elements.now c.requires c.in_ok-end.end c.in_ok-end.ensures c.find_name.result c.find_name.ensures (search rules) (search rules)

pub returns : goal.returns
returns c =
    fresh c.args.text.now c.args.at c.args.elements.now c.requires c.in_ok-end.end c.in_ok-end.ensures c.find_name.result c.find_name.ensures (search rules) (search rules)
