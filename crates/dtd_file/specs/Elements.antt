-- One element in the schema file: what is asked, and what stands in the buffer after it. Assumes nothing.
use Rattle.std.specs.Prelude.{◌≡◌, true, List, ◌++◌, ℕ, ◌+◌, ◌≤◌, length, drop}
use Rattle.std.proofs.Common.{arith, length-append}
use Rattle.paper.specs.Basics.{most_elements}
use Rattle.paper.specs.Dtd.Declarations.{Content}
use Rattle.paper.specs.Dtd.Grammar.{contentspec}
use Rattle.paper.specs.Dtd.Limits.{content_kept}
use Rattle.paper.specs.Dtd.Numbering.{model_fits}
use Rattle.lines.specs.Put.{Put, put_length, put_both}
use Rattle.dtd_rows.specs.declared.Row.{Row}
use Rattle.dtd_row_bytes.specs.Rows.{row_written}
use Rattle.dtd_content_bytes.specs.Contents.{content_bytes, Specified, ContentPut}

-- its content and its row
abbrev pub element_bytes : (text names : List ℕ) → Content → Row → List ℕ
element_bytes text names c row = content_bytes text names c ++ row_written row

-- A content is spelled from `from` to before `to`, within a model's limits, and there is room for it and the row from a place on.
pub record Ready (text names : List ℕ) (from to : ℕ) (row : Row) (out : List ℕ) (at : ℕ) : Type 0 where
  pub content : Content
  pub spelled : contentspec content (drop from text) (drop to text)
  pub inside : to ≤ length text
  pub few : length names ≤ most_elements
  pub fits : content_kept model_fits content ≡ true
  pub room : at + length (element_bytes text names content row) ≤ length out

-- whichever content is spelled there, it is put, and the row after it
abbrev pub ElementPut : (text names : List ℕ) (from to : ℕ) (row : Row) (before : List ℕ) (at r : ℕ) (after : List ℕ) → Type 0
ElementPut text names from to row before at r after =
    (c : Content) → contentspec c (drop from text) (drop to text) → Put before at (element_bytes text names c row) r after

module _ (text names : List ℕ) (from to : ℕ) (row : Row) (out : List ℕ) (at : ℕ) (s : Ready text names from to row out at) where
  pub content_ready : Specified text names from to out at
  content_ready = record {
    content = s.content;
    spelled = s.spelled;
    inside = s.inside;
    few = s.few;
    fits = s.fits;
    room = omega (arith, s.room, length-append (content_bytes text names s.content) (row_written row));
  }

  module _ (next : ℕ) (mid : List ℕ) (p : ContentPut text names from to out at next mid) where
    pub row_room : next + length (row_written row) ≤ length mid
    row_room =
        let q = p s.content s.spelled in
        omega (arith, s.room, length-append (content_bytes text names s.content) (row_written row), q.place, put_length q)

    pub element_put : (r : ℕ) (after : List ℕ) → Put mid next (row_written row) r after → ElementPut text names from to row out at r after
    element_put r after q c e = put_both (p c e) q
