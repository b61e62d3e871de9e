-- Which files are taken, and which are refused with 3: a file is taken exactly if it is the file of a schema within the limits, none
-- of whose models is ambiguous; it is refused with 3 exactly if it begins so, up to a model that is ambiguous. Assumes nothing.
use Rattle.std.specs.Prelude.{◌≡◌, refl, ◌↔◌, true, ◌&&◌, List, [], ◌∷◌, ◌++◌, map, ℕ, ◌-◌, ltb, length}
use Rattle.std.proofs.Common.{ap, ◌∙◌, arith, leb-true, le-leb, lt-ltb, ltb-true}
use Rattle.std.proofs.Math.Bool.{and-eq-true_iff}
use Rattle.paper.specs.Basics.{most_elements, between, concat}
use Rattle.paper.specs.Files.{file_of}
use Rattle.paper.specs.Expressions.{Expr}
use Rattle.paper.specs.Schema.{model, Element, Schema, stop, ok, number, finished, schema_of}
use Rattle.paper.specs.SchemaWritten.{content_written, element_written, schema_written, formed_elements, formed, Unambiguous, MeetsAmbiguous}
use Rattle.numbers.specs.Laws.{bytes}
use Rattle.schema_laws.specs.Written.{ahead, ahead_file, file_ahead, ahead_join, Ends, took, failed, Exact, Nowhere, took_form, met_there}
use Rattle.schema_laws.specs.Written.{then_takes, then_stops, then_ends, same, reworded}
use Rattle.schema_laws.specs.Rows.{in_range, number_exact, upto_exact, Amid}
use Rattle.schema_laws.specs.Contents.{Tangled}
use Rattle.schema_laws.specs.Elements.{fit, fixes}
use Rattle.schema_laws.proofs.Elements.{elements_exact}
use Rattle.schema_laws.specs.Unambiguous.{ambiguous_true, fit_all}

-- ---- what is written

-- the root, below E
root_exact : (E : ℕ) → between 1 most_elements E ≡ true → Exact (number 0 (E - 1)) (λ n. ltb n E ≡ true) (λ n. n ∷ []) Nowhere
root_exact E p =
    let (a, b) = in_range 1 most_elements E p in
    reworded (upto_exact (E - 1) (omega arith)) (λ n. refl)
    (λ n. (λ q. let c = leb-true n (E - 1) q in lt-ltb n E (omega arith), λ q. let c = ltb-true n E q in le-leb n (E - 1) (omega arith))) (λ s. same)

-- the file up to the model
written : (E root : ℕ) (before : List Element) (e : Expr) (rest : List ℕ)
    → file_of (E ∷ root ∷ concat (map element_written before) ++ content_written (model e)) ++ rest
    ≡ ahead (E ∷ root ∷ []) (ahead (concat (map element_written before)) (ahead (content_written (model e)) rest))
written E root before e rest =
    ahead_file (E ∷ root ∷ concat (map element_written before) ++ content_written (model e)) rest
    ∙ ap (ahead (E ∷ root ∷ [])) (ahead_join (concat (map element_written before)) (content_written (model e)) rest)

-- the file of a schema within the limits is taken
taken_of : (s : Schema) → formed s ≡ true → Unambiguous s.elements → schema_of (ahead (schema_written s) []) ≡ ok s []
unfolding schema_of
taken_of s p h =
    let E = length s.elements in
    let (q, forms) = (and-eq-true_iff (between 1 most_elements E && ltb s.root E) (formed_elements E 0 s.elements)).0 p in
    let (good, low) = (and-eq-true_iff (between 1 most_elements E) (ltb s.root E)).0 q in
    then_takes (number_exact 1 most_elements (omega arith)) _ E _ good
    ∙ then_takes (root_exact E good) _ s.root _ low
    ∙ then_takes (elements_exact E (in_range 1 most_elements E good).1 E 0) _ s.elements [] (refl, (fit_all E s.elements 0).1 (forms, h))

-- a file that meets an ambiguous model is refused with 3
met_of : (file : List ℕ) → MeetsAmbiguous file → schema_of file ≡ stop 3
unfolding schema_of
met_of file m =
    let E = m.E in
    let good = m.some_elements in
    rw (m.begins, written E m.root m.before m.e m.rest)
    (then_takes (number_exact 1 most_elements (omega arith)) _ E _ good
    ∙ then_takes (root_exact E good) _ m.root _ (lt-ltb m.root E m.root_below)
    ∙ then_stops (elements_exact E (in_range 1 most_elements E good).1 E 0) _ _ amid)
  where
    amid : Amid (fit m.E) fixes 0 element_written (Tangled m.E (λ e. content_written (model e))) m.E
        (ahead (concat (map element_written m.before)) (ahead (content_written (model m.e)) m.rest))
    amid = record {
      before = m.before;
      rest = ahead (content_written (model m.e)) m.rest;
      few = m.room;
      good = (fit_all m.E m.before 0).1 (m.before_formed, m.before_clear);
      here = record { e = m.e; rest = m.rest; formed = m.model_formed; tangled = (ambiguous_true m.e).1 m.ambiguous; begins = refl };
      begins = refl;
    }

-- ---- what is read

-- the file is that of s, which is within the limits
abbrev Whole : List ℕ → Schema → Type 0
Whole file s = (file ≡ ahead (schema_written s) []) × (formed s ≡ true) × Unambiguous s.elements

-- what stops the reader of the elements, behind E and the root
met_at : (file : List ℕ) (E root : ℕ) (u : List ℕ) → between 1 most_elements E ≡ true → ltb root E ≡ true → file ≡ ahead (E ∷ root ∷ []) u
    → Amid (fit E) fixes 0 element_written (Tangled E (λ e. content_written (model e))) E u → MeetsAmbiguous file
met_at file E root u good low p m =
    let (forms, models) = (fit_all E m.before 0).0 m.good in
    record {
      E = E;
      root = root;
      before = m.before;
      e = m.here.e;
      rest = m.here.rest;
      some_elements = good;
      root_below = ltb-true root E low;
      room = m.few;
      before_formed = forms;
      before_clear = models;
      model_formed = m.here.formed;
      ambiguous = (ambiguous_true m.here.e).0 m.here.tangled;
      begins = rw (written E root m.before m.here.e m.here.rest) (cc (m.begins, m.here.begins));
    }

-- every file is the one or the other, or refused with another number
schema_ends : (file : List ℕ) → bytes file ≡ true → Ends (Whole file) schema_written MeetsAmbiguous file (schema_of file)
unfolding schema_of
schema_ends file b =
    then_ends (number_exact 1 most_elements (omega arith)) _ file b (λ z. absurd z) λ E t p good c.
    then_ends (root_exact E good) _ t c (λ z. absurd z) λ root u q low d.
    then_ends (elements_exact E (in_range 1 most_elements E good).1 E 0) _ u d (λ m. met_at file E root u good low (cc) m) λ l v i fine j.
    let (forms, models) = (fit_all E l 0).0 fine.1 in
    end (record { root = root; elements = l }) v (rw fine.0 (cc)) (rw (fine.0, good, low) forms) models
  where
    end : (s : Schema) (v : List ℕ) → file ≡ ahead (schema_written s) v → formed s ≡ true → Unambiguous s.elements
        → Ends (Whole file) schema_written MeetsAmbiguous file (finished s v)
    end s [] p f h = took s [] p (p, f, h)
    end s (b ∷ v) p f h = failed 2 (λ z. omega arith)

-- ---- the laws

pub taken_exactly : (file : List ℕ) (s : Schema) → bytes file ≡ true
    → ((left : List ℕ) × (schema_of file ≡ ok s left)) ↔ ((file ≡ file_of (schema_written s)) × (formed s ≡ true) × Unambiguous s.elements)
taken_exactly file s b = rw (file_ahead (schema_written s)) (λ (left, e). took_form (schema_ends file b) e, λ (p, f, h). ([], rw p (taken_of s f h)))

-- the file of such a schema is taken whole: nothing is left over
pub taken_whole : (s : Schema) → formed s ≡ true → Unambiguous s.elements → schema_of (file_of (schema_written s)) ≡ ok s []
taken_whole s f h = ap schema_of (file_ahead (schema_written s)) ∙ taken_of s f h

pub ambiguous_exactly : (file : List ℕ) → bytes file ≡ true → (schema_of file ≡ stop 3) ↔ MeetsAmbiguous file
ambiguous_exactly file b = (met_there (schema_ends file b), met_of file)
