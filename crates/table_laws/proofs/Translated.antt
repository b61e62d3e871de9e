-- The translator's table: it is proper, and check and edit by it are check and edit by the schema's own expressions.
-- Assumes nothing.
use Rattle.std.specs.Prelude.{◌≡◌, true, List, ℕ, ℤ}
use Rattle.paper.specs.Schema.{Schema, ok, schema_of}
use Rattle.paper.specs.Table.{table_of, proper}
use Rattle.paper.specs.Rules.{of_schema, of_table}
use Rattle.paper.specs.Judgement.{checking, check}
use Rattle.paper.specs.Edits.{Request, outcome, edit_by, edit}
use Rattle.table_laws.specs.SameRules.{same_rules}
use Rattle.table_laws.proofs.Accepted.{schema_good}
use Rattle.table_laws.specs.ProperTable.{fine_all}
use Rattle.table_laws.proofs.ProperTable.{table_proper}

module _ (file : List ℕ) {s : Schema} {r : List ℕ} (e : schema_of file ≡ ok s r) where
  pub file_proper : proper (table_of s) ≡ true
  file_proper = table_proper s (schema_good file e)

  pub file_rules : of_table (table_of s) ≡ of_schema s
  file_rules = let g = schema_good file e in same_rules s (fine_all g.elements_all) g.few_elements

  pub check_by_expressions : (buffer : List ℕ) (used : ℕ) → check (table_of s) buffer used ≡ checking (of_schema s) buffer used
  unfolding check
  check_by_expressions buffer used = rw (file_proper, file_rules)

  pub edit_by_expressions : (buffer : List ℕ) (used : ℕ) (q : Request) (second : List ℕ) (counts : List ℤ)
      → edit (table_of s) buffer used q second counts ≡ outcome buffer used second counts (edit_by (of_schema s) buffer used q second counts)
  unfolding edit
  edit_by_expressions buffer used q second counts = rw (file_proper, file_rules)
