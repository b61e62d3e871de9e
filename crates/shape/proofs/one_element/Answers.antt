use Rattle.scan.specs.Scan.{rules}
use Rattle.shape.specs.ScanTurns.{scan_none, scan_no_start, scan_begin, scan_stop, scan_turn, scan_end, stands_open, stands_shallow}
use mathlib.Core.Path.{refl}
use native.Mathlib.Omega.{arith}
use Rattle.shape.proofs.one_element.Goals as goal

pub returns-then-doc-eq0 : goal.returns-then-doc-eq0
returns-then-doc-eq0 c = search scan_none

pub returns-then-not-is_start : goal.returns-then-not-is_start
returns-then-not-is_start c = search scan_no_start

pub loop-i-init : goal.loop-i-init
loop-i-init c = search scan_begin

pub stands-requires : goal.stands-requires
unfolding rules
stands-requires c = (refl, omega arith)

pub returns-then-not-stands : goal.returns-then-not-stands
returns-then-not-stands c = search scan_stop

pub passed-s-requires : goal.passed-s-requires
unfolding rules
passed-s-requires c = (refl, omega arith, search stands_open, search stands_shallow)

pub loop-i-preserved : goal.loop-i-preserved
loop-i-preserved c = search scan_turn

pub returns : goal.returns
returns c = search scan_end
