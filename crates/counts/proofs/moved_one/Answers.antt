-- `counts::moved_one` meets its contract. Assumes nothing.
use Rattle.counts.specs.Sums.{wide_fits, more_fits, sum_fits, below_out, above_out, between_cast, between_out}
use Rattle.counts.proofs.moved_one.Goals as goal

pub overflow_cast-sum : goal.overflow_cast-sum
overflow_cast-sum c = wide_fits c.ranges.n c.requires.0 c.requires.1

pub overflow_add-sum : goal.overflow_add-sum
overflow_add-sum c = more_fits c.ranges.n c.requires.0 c.requires.1

pub overflow_sub-sum : goal.overflow_sub-sum
overflow_sub-sum c = sum_fits c.ranges.n c.requires.0 c.requires.1

pub returns-then-sum-lt0 : goal.returns-then-sum-lt0
returns-then-sum-lt0 c = below_out c.ranges.n c.requires.0 c.requires.1 c.if-sum-lt0.true

pub returns-then-sum-gt8192 : goal.returns-then-sum-gt8192
returns-then-sum-gt8192 c = above_out c.ranges.n c.requires.0 c.requires.1 c.if-sum-gt8192.true

pub overflow_cast-result : goal.overflow_cast-result
overflow_cast-result c = between_cast c.ranges.n c.requires.0 c.requires.1 c.if-sum-lt0.false c.if-sum-gt8192.false

pub returns : goal.returns
returns c = between_out c.ranges.n c.requires.0 c.requires.1 c.if-sum-lt0.false c.if-sum-gt8192.false
