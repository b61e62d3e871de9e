-- The table of a translated schema: it is the schema's, proper, and judges as the schema's expressions do. Assumes nothing.
use Rattle.std.proofs.Math.Path.{◌≡◌, ap}
use Rattle.std.proofs.Common.{◌∙◌, arith}
use Rattle.std.specs.Prelude.{Bool, eqb, ℤ, length}
use Rattle.std.proofs.Math.Bool.{true, false, cond}
use mathlib.Core.List.{List}
use Prim.Native.Nat.{ℕ}
use Rattle.paper.specs.Schema.{Schema, schema_of}
use Rattle.paper.specs.Table.{table_length, table_of, translated, translate}
use Rattle.paper.specs.Rules.{of_schema}
use Rattle.paper.specs.Judgement.{Answer}
use Rattle.paper.specs.Edits.{Request, outcome, edit_by, edit}
use Rattle.table_laws.proofs.Translated.{file_proper, file_rules, check_by_expressions, edit_by_expressions}
use Rattle.promises.specs.Calls.{papers}
use Rattle.promises.specs.Statements.{Translated, TableProper, TableReads, CheckByExpressions}

module _ (s : Schema) (table : List ℕ) (t : Translated papers s table) where
  pub its_table : table ≡ table_of s
  unfolding translate
  its_table = go (eqb (length t.lent) table_length) t.translates
    where
      go : (b : Bool) → (0, table) ≡ cond b (translated (schema_of t.file) t.lent) (13, t.lent) → table ≡ table_of s
      go true e = ap (λ (x : ℕ × List ℕ). x.1) (e ∙ ap (λ p. translated p t.lent) t.reads)
      go false e = let z : ◌≡◌ {A = ℕ} 0 13 = ap (λ (x : ℕ × List ℕ). x.0) e in absurd (omega arith)

  pub edit_judged : (buffer : List ℕ) (used : ℕ) (q : Request) (second : List ℕ) (counts : List ℤ)
      → edit table buffer used q second counts ≡ outcome buffer used second counts (edit_by (of_schema s) buffer used q second counts)
  edit_judged buffer used q second counts = rw its_table (edit_by_expressions t.file t.reads buffer used q second counts)

pub table_proper : TableProper papers
table_proper s table t = rw (its_table s table t) (file_proper t.file t.reads)

pub table_reads : TableReads papers
table_reads s table t = rw (its_table s table t) (file_rules t.file t.reads)

pub check_judged : CheckByExpressions papers
check_judged s table t buffer used counts o e = ap (λ (x : Answer × List ℤ). x.0) e ∙ rw (its_table s table t) (check_by_expressions t.file t.reads buffer used)
