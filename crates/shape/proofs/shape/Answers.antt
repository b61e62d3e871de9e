use Rattle.shape.specs.Answers.{shape_low, shape_high, shape_past, shape_element}
use native.Mathlib.Omega.{arith}
use Rattle.shape.proofs.shape.Goals as goal

pub returns-then-used-lt2 : goal.returns-then-used-lt2
returns-then-used-lt2 c = search shape_low

pub returns-then-used-gt-MOST_TOKENS : goal.returns-then-used-gt-MOST_TOKENS
returns-then-used-gt-MOST_TOKENS c = shape_high _ _ (omega arith)

pub returns-then-doc-used : goal.returns-then-doc-used
returns-then-doc-used c = search shape_past

pub returns : goal.returns
returns c = search shape_element
