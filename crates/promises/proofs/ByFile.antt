-- What the translator answers, told from the file and the length of the table. Assumes nothing.
use Rattle.std.specs.Prelude.{◌≡◌, refl, ◌↔◌, ◌≢◌, ◌⊎◌, Bool, true, false, cond, List, [], ◌∷◌, ℕ, ◌≤◌, eqb, length}
use Rattle.std.proofs.Common.{◌∙◌, inl, inr, arith, eqb-true, eq-eqb}
use Rattle.std.proofs.Math.Decide.{ℕ_discrete}
use Rattle.std.proofs.lemmas.Bool.{eqb-false}
use Rattle.paper.specs.Schema.{Schema, Parsed, stop, ok, schema_of}
use Rattle.paper.specs.SchemaWritten.{MeetsAmbiguous}
use Rattle.paper.specs.Table.{table_length, table_of, translated, translate}
use Rattle.answer_laws.proofs.Translator.{schema_stops}
use Rattle.answer_laws.specs.Judged.{each}
use Rattle.schema_laws.specs.Written.{bytes_of_lem}
use Rattle.schema_laws.proofs.Taken.{taken_exactly, ambiguous_exactly}
use Rattle.promises.specs.Calls.{papers}
use Rattle.promises.specs.Statements.{FileOf, TakenExactly, AmbiguousExactly, TranslateLength, TranslateDone, TranslateAmbiguous, TranslateElse}

pub taken : TakenExactly
taken file s b = taken_exactly file s (bytes_of_lem file b)

pub ambiguous : AmbiguousExactly
ambiguous file b = ambiguous_exactly file (bytes_of_lem file b)

-- a file that is refused is refused with 1, 2 or 3
abbrev Refusal : ℕ → Type 0
Refusal k = (1 ≤ k) × (k ≤ 3)

refused : (file : List ℕ) (k : ℕ) → schema_of file ≡ stop k → Refusal k
refused file k e =
    let s = schema_stops file in
    each Refusal (1 ∷ 2 ∷ 3 ∷ []) ((omega arith, omega arith), ((omega arith, omega arith), ((omega arith, omega arith), tt))) k (rw e at s)

module _ (file table : List ℕ) (o : ℕ × List ℕ) (e : o ≡ translate file table) where
  by_length : (b : Bool) → eqb (length table) table_length ≡ b → o ≡ cond b (translated (schema_of file) table) (13, table)
  unfolding translate
  by_length b p = e ∙ rw p

  module _ (l : length table ≡ table_length) where
    came : (p : Parsed Schema) → schema_of file ≡ p → o ≡ translated p table
    came p q = by_length true (eq-eqb (length table) table_length l) ∙ rw q

    -- the file is refused with a number, or is that of a schema
    data Comes : Type 0 where
      refuses : (k : ℕ) → schema_of file ≡ stop k → Refusal k → o.0 ≡ k → Comes
      takes : (s : Schema) (r : List ℕ) → schema_of file ≡ ok s r → o.0 ≡ 0 → o.1 ≡ table_of s → Comes

    comes : (p : Parsed Schema) → schema_of file ≡ p → Comes
    comes (stop k) q = let e = came (stop k) q in refuses k q (refused file k q) (rw e)
    comes (ok s r) q = let e = came (ok s r) q in takes s r q (rw e) (rw e)

pub translate_length : TranslateLength papers
translate_length file table o e = go (eqb (length table) table_length) refl
  where
    not_13 : (l : length table ≡ table_length) → Comes file table o e l → o.0 ≢ 13
    not_13 l (refuses k q r n) z = absurd (omega arith)
    not_13 l (takes s r q n t) z = absurd (omega arith)

    go : (b : Bool) → eqb (length table) table_length ≡ b → (o.0 ≡ 13) ↔ (length table ≢ table_length)
    go true p = let l = eqb-true (length table) table_length p in (λ z. absurd (not_13 l (comes file table o e l (schema_of file) refl) z), λ n. absurd (n l))
    go false p = let f = by_length file table o e false p in (λ z. eqb-false (length table) table_length p, λ n. rw f)

pub translate_done : TranslateDone papers
translate_done file table o e b l = (done (comes file table o e l (schema_of file) refl), λ x. back x.0 x.1)
  where
    done : Comes file table o e l → o.0 ≡ 0 → (s : Schema) × FileOf file s × (o.1 ≡ table_of s)
    done (refuses k q r n) z = absurd (omega arith)
    done (takes s r q n t) z = (s, (taken file s b).0 (r, q), t)

    back : (s : Schema) → FileOf file s → o.0 ≡ 0
    back s f = let (r, q) = (taken file s b).1 f in let e = came file table o e l (ok s r) q in rw e

pub translate_ambiguous : TranslateAmbiguous papers
translate_ambiguous file table o e b l = (met (comes file table o e l (schema_of file) refl), back)
  where
    met : Comes file table o e l → o.0 ≡ 3 → MeetsAmbiguous file
    met (refuses k q r n) z = let y : k ≡ 3 = omega arith in (ambiguous file b).0 (rw y at q)
    met (takes s r q n t) z = absurd (omega arith)

    back : MeetsAmbiguous file → o.0 ≡ 3
    back m = let e = came file table o e l (stop 3) ((ambiguous file b).1 m) in rw e

pub translate_else : TranslateElse papers
translate_else file table o e b l no-schema no_model_lem = go (comes file table o e l (schema_of file) refl)
  where
    one_or_two : (k : ℕ) → Refusal k → k ≢ 3 → (k ≡ 1) ⊎ (k ≡ 2)
    one_or_two k r n = elim (ℕ_discrete k 1) [ yes z ↦ inl z | no m ↦ inr (omega arith) ]

    go : Comes file table o e l → (o.0 ≡ 1) ⊎ (o.0 ≡ 2)
    go (refuses k q r n) = rw n (one_or_two k r (λ z. no_model_lem ((ambiguous file b).0 (rw z at q))))
    go (takes s r q n t) = absurd (no-schema s ((taken file s b).0 (r, q)))
