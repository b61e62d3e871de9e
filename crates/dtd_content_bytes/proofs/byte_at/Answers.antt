-- `dtd_content_bytes::byte_at` meets its contract. Assumes nothing.
use mathlib.Core.Path.{refl}
use Rattle.dtd_content_bytes.specs.Kinds.{no_byte, the_byte}
use Rattle.dtd_content_bytes.proofs.byte_at.Goals as goal

pub returns-then-text-at : goal.returns-then-text-at
returns-then-text-at c = no_byte c.args.text.now c.args.at c.args.b c.if-text-at.true

pub returns : goal.returns
returns c = the_byte c.args.text.now c.args.at c.args.b _ c.if-text-at.false refl
