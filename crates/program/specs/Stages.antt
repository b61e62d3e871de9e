-- Schema, document and check, in turn. Assumes nothing.
use Rattle.std.specs.Prelude.{◌≡◌, Bool, true, false, not, ◌&&◌, ◌||◌, ℕ, ◌≤◌, min, T, eqb, leb, ℤ, length, take}
use Rattle.std.proofs.Math.Path.{refl, sym, ap}
use Rattle.std.proofs.Common.{◌∙◌, arith}
use Rattle.std.proofs.Math.Bool.{cond}
use Rattle.std.proofs.Math.Option.{Option, none, some}
use mathlib.Core.List.{List, [], ◌∷◌, append-nil}
use borrow.Author.Tests.{eqb-true, eq-eqb, ne_eqb, leb-true, not-true, not-false}
use Rattle.paper.specs.Basics.{most_tokens, most_file, elem}
use Rattle.paper.specs.Files.{Result, refused, made, Counted, counted, reading, read}
use Rattle.paper.specs.Schema.{Schema, Parsed, stop, ok, schema_of}
use Rattle.paper.specs.Table.{table_length, table_of, proper, translated, translate}
use Rattle.paper.specs.Rules.{of_table, of_schema}
use Rattle.paper.specs.Tokens.{toks}
use Rattle.paper.specs.Judgement.{Answer, checking, check}
use Rattle.paper.specs.Counts.{fresh, checked_counts}
use Rattle.paper.specs.Calls.{Checks}
use Rattle.paper.specs.Program.{Line, halt, line, edit_lines, check_lines, document_lines, schema_lines, places, opened, lines_of, printed}
use Rattle.numbers.specs.Laws.{tokens_refused}
use Rattle.docfile.specs.declared.Count.{Count}
use Rattle.docfile.specs.Outcome.{outcome, answer}
use Rattle.paper.specs.Codes.{number_of}
use Rattle.paper.specs.declared.Refusal.{Refusal}
use Rattle.paper.specs.declared.Refusal.TheVariants.{Broken, Schema as schema_fault, Ambiguous, Shape, Room, Place, Name, Attributes, Content, Root, IdTwice, NoId, Table, DtdText, Counts, NotCompared}
use Rattle.table_laws.proofs.Translated.{file_proper, file_rules}
use Rattle.answer_laws.specs.ReaderWriter.{read_answers}
use Rattle.answer_laws.specs.Translator.{Stops}
use Rattle.answer_laws.proofs.Translator.{schema_stops}
use Rattle.lines.specs.Put.{Put, put_both, put_as}
use Rattle.lines.specs.Lines.{line_of, text, text_none, text_more, Stop}

-- a file that was opened, or not
abbrev pub given : Bool → List ℕ → Option (List ℕ)
given opened file = cond opened (some file) none

-- one line alone
line_alone : (l : Line) → line_of l ≡ text (l ∷ [])
line_alone l = sym (text_more l [] ∙ rw text_none (append-nil (line_of l)))

-- ---- the check

module _ (table doc : List ℕ) (used : ℕ) (file : List ℕ) (fine : proper table ≡ true) (lent : List ℤ) {n p : ℕ} {counts : List ℤ}
    (e : Checks table doc used lent ((n, p), counts)) where
  abbrev after_check : List ℕ
  after_check = text (check_lines (of_table table) doc used (checking (of_table table) doc used) file)

  answer_is : (n, p) ≡ check table doc used
  answer_is = ap (λ (o : Answer × List ℤ). o.0) e

  checked : (n, p) ≡ checking (of_table table) doc used
  unfolding check
  checked = answer_is ∙ rw fine

  -- the counts that a check leaves which says valid
  counts_are : n ≡ 0 → counts ≡ fresh (of_table table).elements (toks (take used doc))
  unfolding checked_counts
  counts_are z =
      ap (λ (o : Answer × List ℤ). o.1) e
      ∙ ap (λ k. cond (eqb k 0) (fresh (of_table table).elements (toks (take used doc))) lent) (sym (ap (λ (a : Answer). a.0) answer_is) ∙ z)

  module _ {out after : List ℕ} {next : ℕ} (l : Put out 0 (line_of (line 0 n p used)) next after) where
    pub check_ends : (n ≡ 0 → ⊥) → Put out 0 after_check next after
    check_ends z = put_as l (line_alone (line 0 n p used) ∙ ap text (rw (← checked, ne_eqb n 0 z)))

    pub check_goes : {r : ℕ} {last : List ℕ} → n ≡ 0 → Put after next (text (edit_lines (length file) (of_table table) 1 doc used counts file)) r last → Put out 0 after_check r last
    check_goes z q =
        put_as (put_both l q)
        (sym (text_more (line 0 n p used) (edit_lines (length file) (of_table table) 1 doc used counts file))
        ∙ ap (λ c. text (line 0 n p used ∷ edit_lines (length file) (of_table table) 1 doc used c file)) (counts_are z)
        ∙ ap text (rw (← checked, eq-eqb n 0 z)))

-- ---- the document

-- a refusal's number is not 0
pub refusal_some : (e : Refusal) → number_of e ≡ 0 → ⊥
refusal_some Broken z = absurd (omega arith)
refusal_some schema_fault z = absurd (omega arith)
refusal_some Ambiguous z = absurd (omega arith)
refusal_some Shape z = absurd (omega arith)
refusal_some Room z = absurd (omega arith)
refusal_some Place z = absurd (omega arith)
refusal_some Name z = absurd (omega arith)
refusal_some Attributes z = absurd (omega arith)
refusal_some Content z = absurd (omega arith)
refusal_some Root z = absurd (omega arith)
refusal_some IdTwice z = absurd (omega arith)
refusal_some NoId z = absurd (omega arith)
refusal_some Table z = absurd (omega arith)
refusal_some DtdText z = absurd (omega arith)
refusal_some Counts z = absurd (omega arith)
refusal_some NotCompared z = absurd (omega arith)

reader_stop : (n : ℕ) → T (elem n (0 ∷ 1 ∷ 5 ∷ [])) → (n ≡ 0 → ⊥) → Stop n
reader_stop n t z = go (eqb n 0) (eqb n 1) (eqb n 5) refl refl refl t
  where
    go : (a b c : Bool) → eqb n 0 ≡ a → eqb n 1 ≡ b → eqb n 5 ≡ c → T (a || (b || (c || false))) → Stop n
    go true b c p q r t = absurd (z (eqb-true n 0 p))
    go false true c p q r t = let e : n ≡ 1 = eqb-true n 1 q in record { low = omega arith; high = omega arith; not_four = λ y. omega arith }
    go false false true p q r t = let e : n ≡ 5 = eqb-true n 5 r in record { low = omega arith; high = omega arith; not_four = λ y. omega arith }
    go false false false p q r t = absurd t

module _ (table file edits : List ℕ) {c : Count} {tokens : List ℕ} (e : outcome c tokens ≡ read file places) where
  abbrev after_document : List ℕ
  after_document = text (document_lines (of_table table) (reading file places) edits)

  pub document_stop : (c.number ≡ 0 → ⊥) → Stop c.number
  document_stop z = reader_stop c.number (read_answers file places (outcome c tokens) e).one_of z

  document_ends : {out after : List ℕ} {next : ℕ} → (c.number ≡ 0 → ⊥) → Put out 0 (line_of (halt c.number)) next after → Put out 0 after_document next after
  unfolding read
  document_ends {out} {after} {next} z p = put_as p (line_alone (halt c.number) ∙ ap text (go (reading file places) e))
    where
      go : (r : Result) → outcome c tokens ≡ counted r places → halt c.number ∷ [] ≡ document_lines (of_table table) r edits
      go (refused k) f = let d : c.number ≡ k = ap (λ (o : Counted). o.number) f in rw d
      go (made l) f = absurd (z (ap (λ (o : Counted). o.number) f))

  document_goes : {out after : List ℕ} {next : ℕ} → c.number ≡ 0
      → Put out 0 (text (check_lines (of_table table) tokens c.count (checking (of_table table) tokens c.count) edits)) next after → Put out 0 after_document next after
  unfolding read reading
  document_goes {out} {after} {next} z p = put_as p (ap text (go (reading file places) refl e))
    where
      go : (r : Result) → reading file places ≡ r → outcome c tokens ≡ counted r places
          → check_lines (of_table table) tokens c.count (checking (of_table table) tokens c.count) edits ≡ document_lines (of_table table) r edits
      go (refused k) s f =
          let d : c.number ≡ k = ap (λ (o : Counted). o.number) f in
          absurd (omega (arith, tokens_refused (min (length places) most_tokens) file k s))
      go (made l) s f = ap (λ (o : Counted). check_lines (of_table table) o.buffer o.count (checking (of_table table) o.buffer o.count) edits) f

pub document_halts : (table file edits : List ℕ) {tokens : List ℕ} (e : Refusal) → outcome (answer (number_of e) 0) tokens ≡ read file places → Stop (number_of e)
document_halts table file edits {tokens} e f = document_stop table file edits {c = answer (number_of e) 0} {tokens = tokens} f (refusal_some e)

module _ (table file edits : List ℕ) {tokens out after : List ℕ} {next : ℕ} where
  pub document_fault : (e : Refusal) → outcome (answer (number_of e) 0) tokens ≡ read file places → Put out 0 (line_of (halt (number_of e))) next after
      → Put out 0 (text (document_lines (of_table table) (reading file places) edits)) next after
  document_fault e f p = document_ends table file edits {c = answer (number_of e) 0} {tokens = tokens} f (refusal_some e) p

  pub document_read : (n : ℕ) → outcome (answer 0 n) tokens ≡ read file places
      → Put out 0 (text (check_lines (of_table table) tokens n (checking (of_table table) tokens n) edits)) next after
      → Put out 0 (text (document_lines (of_table table) (reading file places) edits)) next after
  document_read n f p = document_goes table file edits {c = answer 0 n} {tokens = tokens} f refl p

-- ---- the schema

translator_stop : (n : ℕ) → T (elem n (1 ∷ 2 ∷ 3 ∷ [])) → Stop n
translator_stop n t = go (eqb n 1) (eqb n 2) (eqb n 3) refl refl refl t
  where
    go : (a b c : Bool) → eqb n 1 ≡ a → eqb n 2 ≡ b → eqb n 3 ≡ c → T (a || (b || (c || false))) → Stop n
    go true b c p q r t = let e : n ≡ 1 = eqb-true n 1 p in record { low = omega arith; high = omega arith; not_four = λ y. omega arith }
    go false true c p q r t = let e : n ≡ 2 = eqb-true n 2 q in record { low = omega arith; high = omega arith; not_four = λ y. omega arith }
    go false false true p q r t = let e : n ≡ 3 = eqb-true n 3 r in record { low = omega arith; high = omega arith; not_four = λ y. omega arith }
    go false false false p q r t = absurd t

-- what comes of a table of the right length
module _ (file lent : List ℕ) (long : length lent ≡ table_length) {n : ℕ} {table : List ℕ} (e : (n, table) ≡ translate file lent) where
  made_of : (n, table) ≡ translated (schema_of file) lent
  unfolding translate
  made_of = e ∙ rw (eq-eqb (length lent) table_length long)

  module _ (z : n ≡ 0 → ⊥) where
    stopped : schema_of file ≡ stop n
    stopped = go (schema_of file) made_of
      where
        go : (o : Parsed Schema) → (n, table) ≡ translated o lent → o ≡ stop n
        go (stop k) f = ap stop (sym (ap (λ (x : ℕ × List ℕ). x.0) f))
        go (ok s r) f = absurd (z (ap (λ (x : ℕ × List ℕ). x.0) f))

    pub schema_stop : Stop n
    schema_stop = go (schema_of file) stopped (schema_stops file)
      where
        go : (o : Parsed Schema) → o ≡ stop n → Stops o → Stop n
        go (stop k) f t = let d : k ≡ n = cc in rw d at (translator_stop k t)
        go (ok s r) f t = let y : ◌≡◌ {A = ℕ} 0 1 = cc in absurd (omega arith)

    pub schema_ends : (doc edits : List ℕ) {out after : List ℕ} {next : ℕ} → Put out 0 (line_of (halt n)) next after → Put out 0 (text (schema_lines (schema_of file) doc edits)) next after
    schema_ends doc edits p = put_as p (line_alone (halt n) ∙ ap text (rw stopped))

  module _ (z : n ≡ 0) where
    -- the schema of the file
    record Read : Type 0 where
      schema : Schema
      rest : List ℕ
      reads : schema_of file ≡ ok schema rest
      table_is : table ≡ table_of schema

    taken : Read
    taken = go (schema_of file) refl made_of (schema_stops file)
      where
        go : (o : Parsed Schema) → schema_of file ≡ o → (n, table) ≡ translated o lent → Stops o → Read
        go (stop k) s f t =
            let d : n ≡ k = ap (λ (x : ℕ × List ℕ). x.0) f in
            let l = translator_stop k t in
            absurd (omega (arith, l.low))
        go (ok a r) s f t = record { schema = a; rest = r; reads = s; table_is = ap (λ (x : ℕ × List ℕ). x.1) f }

    pub schema_proper : proper table ≡ true
    schema_proper = ap proper taken.table_is ∙ file_proper file taken.reads

    pub schema_goes : (doc edits : List ℕ) {out after : List ℕ} {next : ℕ} → Put out 0 (text (document_lines (of_table table) (reading doc places) edits)) next after
        → Put out 0 (text (schema_lines (schema_of file) doc edits)) next after
    schema_goes doc edits p =
        let r : of_table table ≡ of_schema taken.schema = ap of_table taken.table_is ∙ file_rules file taken.reads in
        put_as p
        (ap text (ap (λ R. document_lines R (reading doc places) edits) r ∙ sym (ap (λ o. schema_lines o doc edits) taken.reads)))

-- ---- the three files

module _ (o : Bool) (schema doc edits : List ℕ) where
  module _ {out after : List ℕ} {next : ℕ} where
    pub not_opened : not o ≡ true → Put out 0 (line_of (halt 5)) next after → Put out 0 (printed (given o schema) (given o doc) (given o edits)) next after
    unfolding printed lines_of text
    not_opened f p = put_as p (line_alone (halt 5) ∙ rw (not-true o f))

  module _ (b : Bool) (t : not o ≡ false) (e : b ≡ opened (some schema) && opened (some doc) && opened (some edits)) where
    module _ {out after : List ℕ} {next : ℕ} where
      pub too_long : not b ≡ true → Put out 0 (line_of (halt 5)) next after → Put out 0 (printed (given o schema) (given o doc) (given o edits)) next after
      unfolding printed lines_of text
      too_long f p = put_as p (line_alone (halt 5) ∙ rw (not-false o t, sym e ∙ not-true b f))

      pub all_read : not b ≡ false → Put out 0 (text (schema_lines (schema_of schema) doc edits)) next after
          → Put out 0 (printed (given o schema) (given o doc) (given o edits)) next after
      unfolding printed lines_of text
      all_read f p = put_as p (rw (not-false o t, sym e ∙ not-false b f))

    pub edits_short : not b ≡ false → length edits ≤ most_file
    edits_short f = go (leb (length schema) most_file) (leb (length doc) most_file) (leb (length edits) most_file) refl (sym e ∙ not-false b f)
      where
        go : (x y z : Bool) → leb (length edits) most_file ≡ z → x && y && z ≡ true → length edits ≤ most_file
        go true true true p q = leb-true (length edits) most_file p
        go true true false p q = let w : ◌≡◌ {A = ℕ} 0 1 = cc in absurd (omega arith)
        go true false z p q = let w : ◌≡◌ {A = ℕ} 0 1 = cc in absurd (omega arith)
        go false y z p q = let w : ◌≡◌ {A = ℕ} 0 1 = cc in absurd (omega arith)
