-- The file of a text that is taken is refused by the translator exactly when a model of the text is ambiguous, and then with 3.
-- Assumes nothing.
use Rattle.std.specs.Prelude.{◌≡◌, refl, ◌↔◌, ◌⊎◌, List, [], ◌∷◌, ◌++◌, ℕ, length}
use Rattle.std.proofs.Common.{sym, ap, ◌∙◌, inl, inr, arith, eq-eqb}
use Rattle.paper.specs.Expressions.{Expr, Ambiguous}
use Rattle.paper.specs.Schema.{Element, stop, ok, schema_of}
use Rattle.paper.specs.Schema as schema
use Rattle.paper.specs.SchemaWritten.{Unambiguous}
use Rattle.paper.specs.Table.{table_length, table_of, translate}
use Rattle.paper.specs.Dtd.Letters.{Name}
use Rattle.paper.specs.Dtd.Declarations.{Part, Content, empty, text, model, Declaration, element, attlist, element_names, defined_for, attribute_names}
use Rattle.paper.specs.Dtd.Numbering.{expr_of, number_in, content_of, attributes_from, elements_from, schema_for}
use Rattle.paper.specs.Dtd.Imported.{schema_file}
use Rattle.dtd_laws.specs.Taken.{Taken}
use Rattle.dtd_schema_laws.specs.Formed.{schema_formed}
use Rattle.dtd_schema_laws.specs.Translated.{Tangle, Comes, reads, refuses, file_comes}

-- A model of the text, as an expression of the elements' numbers, is ambiguous.
pub record AmbiguousModel (ds : List Declaration) : Type 0 where
  pub before : List Declaration
  pub behind : List Declaration
  pub name : Name
  pub part : Part
  pub declared : ds ≡ before ++ element name (model part) ∷ behind
  pub ambiguous : Ambiguous (expr_of part (number_in (element_names ds)))

-- ---- elements of the schema, and of the text

-- the element that a declaration makes
abbrev pub made : List Declaration → Name → Content → Element
made ds n c = record { content = content_of (number_in (element_names ds)) c; attributes = attributes_from 0 (attribute_names ds) (defined_for n ds) }

module _ (all : List Declaration) where
  elements_join : (u v : List Declaration) → elements_from all (u ++ v) ≡ elements_from all u ++ elements_from all v
  elements_join [] v = refl
  elements_join (element n c ∷ u) v = ap (λ t. made all n c ∷ t) (elements_join u v)
  elements_join (attlist n l ∷ u) v = elements_join u v

  -- one of the schema's elements is declared in the text
  record Source (x : Element) (l : List Declaration) : Type 0 where
    pub before : List Declaration
    pub behind : List Declaration
    pub name : Name
    pub content : Content
    pub declared : l ≡ before ++ element name content ∷ behind
    pub same : x.content ≡ content_of (number_in (element_names all)) content

  later : (x : Element) (d : Declaration) (l : List Declaration) → Source x l → Source x (d ∷ l)
  later x d l r = record {
    before = d ∷ r.before;
    behind = r.behind;
    name = r.name;
    content = r.content;
    declared = ap (λ t. d ∷ t) r.declared;
    same = r.same;
  }

  source : (l : List Declaration) (u v : List Element) (x : Element) → elements_from all l ≡ u ++ x ∷ v → Source x l
  source [] [] v x e = let z : ◌≡◌ {A = ℕ} 0 1 = cc in absurd (omega arith)
  source [] (y ∷ u) v x e = let z : ◌≡◌ {A = ℕ} 0 1 = cc in absurd (omega arith)
  source (attlist n d ∷ l) u v x e = later x (attlist n d) l (source l u v x e)
  source (element n c ∷ l) [] v x e = record { before = []; behind = l; name = n; content = c; declared = refl; same = cc }
  source (element n c ∷ l) (y ∷ u) v x e = later x (element n c) l (source l u v x (cc))

-- the model of the text that a model of the schema comes from
model_source : (f : Name → ℕ) (c : Content) (e : Expr) → content_of f c ≡ schema.model e → (p : Part) × (c ≡ model p) × (expr_of p f ≡ e)
model_source f empty e q = let z : ◌≡◌ {A = ℕ} 0 1 = cc in absurd (omega arith)
model_source f text e q = let z : ◌≡◌ {A = ℕ} 0 1 = cc in absurd (omega arith)
model_source f (model p) e q = (p, refl, cc)

-- ---- the laws

module _ (s : List ℕ) (ds : List Declaration) (taken : Taken s ds) where
  from_tangle : Tangle (schema_for ds) → AmbiguousModel ds
  from_tangle t =
      let r = source ds ds t.before t.behind t.x t.split in
      let (p, e, f) = model_source (number_in (element_names ds)) r.content t.e (sym r.same ∙ t.here) in
      record {
        before = r.before;
        behind = r.behind;
        name = r.name;
        part = p;
        declared = r.declared ∙ ap (λ c. r.before ++ element r.name c ∷ r.behind) e;
        ambiguous = rw f t.tangled;
      }

  comes : Comes (schema_for ds)
  comes = file_comes (schema_for ds) (schema_formed s ds taken)

  -- an ambiguous model of the text is one of the schema
  not_clear : AmbiguousModel ds → ¬ Unambiguous (elements_from ds ds)
  not_clear m h =
      h (elements_from ds m.before) (elements_from ds m.behind) _ (expr_of m.part (number_in (element_names ds)))
      (ap (elements_from ds) m.declared ∙ elements_join ds m.before (element m.name (model m.part) ∷ m.behind)) refl m.ambiguous

  -- The file is refused with 3 exactly if a model of the text is ambiguous ..
  pub ambiguous_exactly : (schema_of (schema_file ds) ≡ stop 3) ↔ AmbiguousModel ds
  ambiguous_exactly = (to comes, back comes)
    where
      to : Comes (schema_for ds) → schema_of (schema_file ds) ≡ stop 3 → AmbiguousModel ds
      to (reads h q) e = let z : ◌≡◌ {A = ℕ} 0 1 = cc in absurd (omega arith)
      to (refuses t q) e = from_tangle t

      back : Comes (schema_for ds) → AmbiguousModel ds → schema_of (schema_file ds) ≡ stop 3
      back (reads h q) m = absurd (not_clear m h)
      back (refuses t q) m = q

  -- .. and else it is read as the schema, with nothing left over.
  pub else_read : ¬ AmbiguousModel ds → schema_of (schema_file ds) ≡ ok (schema_for ds) []
  else_read n = by comes
    where
      by : Comes (schema_for ds) → schema_of (schema_file ds) ≡ ok (schema_for ds) []
      by (reads h q) = q
      by (refuses t q) = absurd (n (from_tangle t))

  -- One or the other is so.
  pub ambiguous_or : AmbiguousModel ds ⊎ ¬ AmbiguousModel ds
  ambiguous_or = by comes
    where
      by : Comes (schema_for ds) → AmbiguousModel ds ⊎ ¬ AmbiguousModel ds
      by (reads h q) = inr (λ m. not_clear m h)
      by (refuses t q) = inl (from_tangle t)

  -- The same of the translator: its answer, and the table that it leaves.
  module _ (table : List ℕ) (long : length table ≡ table_length) where
    pub translate_ambiguous : AmbiguousModel ds → translate (schema_file ds) table ≡ (3, table)
    unfolding translate
    translate_ambiguous m = rw (eq-eqb (length table) table_length long, ambiguous_exactly.1 m)

    pub translate_else : ¬ AmbiguousModel ds → translate (schema_file ds) table ≡ (0, table_of (schema_for ds))
    unfolding translate
    translate_else n = rw (eq-eqb (length table) table_length long, else_read n)
