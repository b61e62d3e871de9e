-- The schema file of the declarations of a text, by way of two arrays. Assumes nothing.
use Rattle.std.specs.Prelude.{◌≡◌, List, ℕ, ◌+◌, ◌≤◌, ◌<◌, length, take, drop}
use Rattle.std.proofs.Common.{arith}
use Rattle.std.proofs.Math.Seq.{paste}
use Rattle.paper.specs.Dtd.Declarations.{Declaration}
use Rattle.paper.specs.Dtd.Imported.{schema_file}
use Rattle.paper.specs.SchemaWritten.{most_schema_file}
use Rattle.lines.specs.Put.{Put, put_length}
use Rattle.dtd_file.specs.Filed.{Filed, Files, FilePut}
use Rattle.dtd_schema.specs.Rows.{Asked, Rowed}
use Rattle.docfile.specs.declared.Count.{Count}
use Rattle.docfile.specs.Outcome.{answer}
use Rattle.dtd_schema.specs.Filing.{Held, Holds, asked, filed}
use Rattle.dtd_heads.specs.Heads.{most_numbers}
use Rattle.dtd_schema.specs.Roomed.{Roomed, no_place, copied}

-- the schema file of whichever declarations stand so in the text
abbrev pub SchemaPut : (text es cs qs ns hs ts : List ℕ) (count defined many : ℕ) (buffer : List ℕ) → Count → List ℕ → Type 0
SchemaPut text es cs qs ns hs ts count defined many buffer r after = (ds : List Declaration) → Held text es cs qs ns hs ts count defined many ds → Roomed (schema_file ds) buffer r after

-- the arrays by way of which it is made
pub record Ways (rows bytes : List ℕ) : Type 0 where
  pub rows_long : length rows ≡ most_numbers
  pub bytes_long : length bytes ≡ most_schema_file

module _ (text es cs qs ns hs ts : List ℕ) (count defined many : ℕ) (h : Holds text es cs qs ns hs ts count defined many) (rows bytes : List ℕ) (w : Ways rows bytes) where
  pub elements_fit : count ≤ length es
  elements_fit = omega (arith, h.held.long.elements_long, h.held.holding.few)

  pub attributes_fit : defined ≤ length ns
  attributes_fit = omega (arith, h.held.long.attributes_long, h.held.holding.few_attributes)

  pub rows_asked : Asked text (take count es) (take defined ns) hs many ts rows
  rows_asked = asked text es cs qs ns hs ts count defined many h.ds h.held rows (omega (arith, w.rows_long))

  -- rows': the rows when they are filled
  module _ (rows' : List ℕ) (k : length rows' ≡ length rows) (r : Rowed text (take count es) rows' (length (take count es))) where
    all_filed : (ds : List Declaration) → Held text es cs qs ns hs ts count defined many ds → Filed text (take count es) cs qs rows' bytes ds
    all_filed ds d = filed text es cs qs ns hs ts count defined many ds d rows' r bytes (omega (arith, k, w.rows_long)) w.bytes_long

    pub files : Files text (take count es) cs qs rows' bytes
    files = record { ds = h.ds; filed = all_filed h.ds h.held }

    -- after: the bytes when they are put
    module _ (n : ℕ) (after : List ℕ) (p : FilePut text (take count es) cs qs rows' bytes n after) (buffer : List ℕ) where
      put_some : Put bytes 0 (schema_file h.ds) n after
      put_some = p h.ds (all_filed h.ds h.held)

      pub fits : n ≤ most_schema_file
      fits = omega (arith, put_some.within, w.bytes_long)

      pub in_bytes : 0 + n ≤ length after
      in_bytes = omega (arith, put_some.within, put_length put_some)

      pub schema_no_room : (r : Count) → length buffer < n → r ≡ answer 5 0 → SchemaPut text es cs qs ns hs ts count defined many buffer r buffer
      schema_no_room r l e ds d = rw e (no_place (schema_file ds) buffer bytes after n (p ds (all_filed ds d)) l)

      pub schema_done : (now : List ℕ) → n ≤ length buffer → now ≡ paste buffer 0 (drop 0 after) n → SchemaPut text es cs qs ns hs ts count defined many buffer (answer 0 n) now
      schema_done now l e ds d = copied (schema_file ds) buffer bytes after n (p ds (all_filed ds d)) (omega (arith, w.bytes_long)) l e
