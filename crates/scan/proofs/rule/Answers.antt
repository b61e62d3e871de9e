use Rattle.scan.proofs.rule.Goals as goal

pub returns : goal.returns
returns c = rw c.requires.0
