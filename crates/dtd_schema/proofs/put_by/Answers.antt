-- `dtd_schema::put_by` meets its contract: rows, bytes, and the copy. Assumes nothing.
use native.Mathlib.Omega.{arith}
use Prim.Native.Nat.{◌≤◌}
use lib.ListN.{length}
use Rattle.dtd_schema.specs.Schema.{elements_fit, attributes_fit, rows_asked, files, fits, in_bytes, schema_no_room, schema_done}
use borrow.Author.Rules.{rules}
use Rattle.dtd_schema.proofs.put_by.Goals as goal

pub slice_bounds-names-end : goal.slice_bounds-names-end
slice_bounds-names-end c =
    let a = c.args in
    let k : a.count ≤ length a.elements.now = elements_fit a.text.now a.elements.now a.contents.now a.ends.now a.attributes.now a.heads.now a.table.now a.count a.defined a.many c.requires.holds a.rows.now a.bytes.now c.requires.ways in
    search (rules, k)

pub slice_bounds-put_rows-end : goal.slice_bounds-put_rows-end
slice_bounds-put_rows-end c =
    let a = c.args in
    let k : a.defined ≤ length a.attributes.now = attributes_fit a.text.now a.elements.now a.contents.now a.ends.now a.attributes.now a.heads.now a.table.now a.count a.defined a.many c.requires.holds a.rows.now a.bytes.now c.requires.ways in
    search (rules, k)

pub put_rows-requires : goal.put_rows-requires
put_rows-requires c =
    let a = c.args in
    rows_asked a.text.now a.elements.now a.contents.now a.ends.now a.attributes.now a.heads.now a.table.now a.count a.defined a.many c.requires.holds a.rows.now a.bytes.now c.requires.ways

pub put_file-n-requires : goal.put_file-n-requires
put_file-n-requires c =
    let a = c.args in
    let r = c.put_rows in
    files a.text.now a.elements.now a.contents.now a.ends.now a.attributes.now a.heads.now a.table.now a.count a.defined a.many c.requires.holds a.rows.now a.bytes.now c.requires.ways r.new.rows r.auto.rows r.ensures

pub returns-then-file-n : goal.returns-then-file-n
returns-then-file-n c =
    let a = c.args in
    let r = c.put_rows in
    let f = c.put_file-n in
    schema_no_room a.text.now a.elements.now a.contents.now a.ends.now a.attributes.now a.heads.now a.table.now a.count a.defined a.many c.requires.holds a.rows.now a.bytes.now c.requires.ways r.new.rows r.auto.rows r.ensures f.result f.new.out f.ensures a.file.now c.refusal.result c.if-file-n.true c.refusal.ensures

pub copy-requires : goal.copy-requires
copy-requires c =
    let a = c.args in
    let r = c.put_rows in
    let f = c.put_file-n in
    let l = c.if-file-n.false in
    (omega arith, in_bytes a.text.now a.elements.now a.contents.now a.ends.now a.attributes.now a.heads.now a.table.now a.count a.defined a.many c.requires.holds a.rows.now a.bytes.now c.requires.ways r.new.rows r.auto.rows r.ensures f.result f.new.out f.ensures a.file.now)

pub overflow_cast-done : goal.overflow_cast-done
overflow_cast-done c =
    let a = c.args in
    let r = c.put_rows in
    let f = c.put_file-n in
    let k = fits a.text.now a.elements.now a.contents.now a.ends.now a.attributes.now a.heads.now a.table.now a.count a.defined a.many c.requires.holds a.rows.now a.bytes.now c.requires.ways r.new.rows r.auto.rows r.ensures f.result f.new.out f.ensures a.file.now in
    search (rules, k)

pub returns : goal.returns
returns c =
    let a = c.args in
    let r = c.put_rows in
    let f = c.put_file-n in
    schema_done a.text.now a.elements.now a.contents.now a.ends.now a.attributes.now a.heads.now a.table.now a.count a.defined a.many c.requires.holds a.rows.now a.bytes.now c.requires.ways r.new.rows r.auto.rows r.ensures f.result f.new.out f.ensures a.file.now c.copy.new.dst c.if-file-n.false c.copy.ensures
