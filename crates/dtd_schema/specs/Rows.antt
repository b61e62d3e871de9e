-- The rows of all elements of a text, one after another. Assumes nothing.
use Rattle.std.specs.Prelude.{◌≡◌, refl, Bool, true, false, List, ℕ, ◌+◌, ◌≤◌, ◌<◌, eqb, length, get_or}
use Rattle.std.proofs.Common.{◌∙◌, arith, eqb-true}
use Rattle.std.proofs.lemmas.Bool.{eqb-false}
use Rattle.paper.specs.Basics.{most_elements}
use Rattle.paper.specs.Dtd.Declarations.{defined_for, attribute_names}
use Rattle.dtd_names.specs.Named.{name_at}
use Rattle.dtd_rows.specs.Rows.{RowOf}
use Rattle.dtd_before.specs.Paths.{declared_to}
use Rattle.dtd_before.specs.Scans.{Ready}
use Rattle.dtd_heads.specs.declared.Found.{Found}
use Rattle.dtd_heads.specs.Heads.{row_at, stored, stored_length, stored_other, stored_same, most_numbers, Heads}
use Rattle.dtd_heads.specs.After.{RowFound}

pub record Asked (text elements attributes heads : List ℕ) (many : ℕ) (table rows : List ℕ) : Type 0 where
  pub ready : Ready text (length text) attributes
  pub few : length elements ≤ most_elements
  pub long : most_numbers ≤ length rows
  pub kept : Heads text (declared_to text (length text)) heads many table

-- the rows of the first elements are those of the text
abbrev pub Rowed : (text elements rows : List ℕ) (count : ℕ) → Type 0
Rowed text elements rows count =
    (i : ℕ) → i < count
    → RowOf (attribute_names (declared_to text (length text))) (defined_for (name_at text (get_or elements i 0)) (declared_to text (length text))) (row_at rows i)

-- ---- turns

module _ (text elements attributes heads : List ℕ) (many : ℕ) (table : List ℕ) (first : ℕ) where
  -- first: how long the list of rows is
  pub record Filling (rows : List ℕ) (j : ℕ) : Type 0 where
    pub same : length rows ≡ first
    pub asked : Asked text elements attributes heads many table rows
    pub done : Rowed text elements rows j

  pub begun : (rows : List ℕ) → length rows ≡ first → Asked text elements attributes heads many table rows → Filling rows 0
  begun rows e a = record { same = e; asked = a; done = λ i h. absurd (omega arith) }

  module _ (rows : List ℕ) (j : ℕ) (f : Filling rows j) where
    pub below : j < length elements → (j < most_elements) × (most_numbers ≤ length rows)
    below h = let a = f.asked.few in (omega arith, f.asked.long)

    pub next : (rows' : List ℕ) (x : Found) → j < length elements → RowFound text (length text) (get_or elements j 0) heads many x → rows' ≡ stored rows j x.row → Filling rows' (j + 1)
    next rows' x h o e = rw e (record {
      same = stored_length rows j x.row ∙ f.same;
      asked = record { ready = f.asked.ready; few = f.asked.few; long = rw (stored_length rows j x.row) f.asked.long; kept = f.asked.kept };
      done = λ i k. by i (eqb i j) refl k;
    })
      where
        by : (i : ℕ) (b : Bool) → eqb i j ≡ b → i < j + 1
            → RowOf (attribute_names (declared_to text (length text))) (defined_for (name_at text (get_or elements i 0)) (declared_to text (length text))) (row_at (stored rows j x.row) i)
        by i true q k =
            let d = eqb-true i j q in
            let m = below h in
            rw d (rw (stored_same rows j x.row (omega (arith, m.0, m.1))) o.row_of)
        by i false q k = let n = eqb-false i j q in rw (stored_other rows j x.row i n) (f.done i (omega arith))

    pub filled : length elements ≤ j → Rowed text elements rows (length elements)
    filled h i k = f.done i (omega arith)
