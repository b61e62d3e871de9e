-- `attlist::with_attribute` meets its contract. Assumes nothing.
use Rattle.attlist.specs.Attributes.{with_made}
use Rattle.attlist.proofs.with_attribute.Goals as goal

pub returns : goal.returns
returns c =
    with_made c.args.s c.args.a c.one-alone.ensures c.when.ensures c.when-2.ensures c.when-3.ensures c.when-4.ensures
    c.eq-2.ensures c.eq.ensures c.eq-3.ensures c.eq-4.ensures c.eq-5.ensures
