-- The file of a schema within the limits is refused by the translator's reader for nothing but an ambiguous model. Assumes nothing.
use Rattle.std.specs.Prelude.{◌≡◌, refl, ◌⊎◌, Bool, true, false, ◌&&◌, List, [], ◌∷◌, ◌++◌, map, ℕ, ◌+◌, leb, ltb, length}
use Rattle.std.proofs.Common.{sym, ap, ◌∙◌, inl, inr, true≢false, append_assoc, arith, ltb-true, length-append}
use Rattle.std.proofs.Math.Bool.{and-eq-true_iff}
use Rattle.std.proofs.lemmas.List.{map-append}
use Rattle.std.proofs.lemmas.Bool.{not-false}
use Rattle.paper.specs.Basics.{most_elements, most_attributes, between, concat}
use Rattle.paper.specs.Files.{bytes_of, file_of}
use Rattle.paper.specs.Expressions.{Expr, Ambiguous}
use Rattle.paper.specs.Sets.{ambiguous}
use Rattle.paper.specs.Schema.{Content, empty, text, model, Element, Schema, stop, ok, schema_of}
use Rattle.paper.specs.SchemaWritten.{attribute_written, content_written, element_written, schema_written, formed_model, formed_content, formed_attributes, formed_element, formed_elements, formed, Unambiguous, MeetsAmbiguous}
use Rattle.schema_laws.specs.Contents.{unambiguous}
use Rattle.schema_laws.specs.Rows.{all_from}
use Rattle.schema_laws.specs.Elements.{fit, fixes}
use Rattle.schema_laws.specs.Unambiguous.{ambiguous_true, fit_all}
use Rattle.schema_laws.proofs.Taken.{taken_whole, ambiguous_exactly}
use Rattle.dtd_schema_laws.specs.Bytes.{file_bytes}

-- ---- the first ambiguous model, if there is one

module _ (E : ℕ) where
  -- behind `met` fixed attributes
  record First (met : ℕ) (l : List Element) : Type 0 where
    pub before : List Element
    pub x : Element
    pub behind : List Element
    pub e : Expr
    pub split : l ≡ before ++ x ∷ behind
    pub good : all_from (fit E) fixes met before ≡ true
    pub here : x.content ≡ model e
    pub tangled : ambiguous e ≡ true

  tangled_model : (c : Content) → unambiguous c ≡ false → (e : Expr) × (c ≡ model e) × (ambiguous e ≡ true)
  tangled_model empty p = let z : true ≡ false = p in absurd (true≢false z)
  tangled_model text p = let z : true ≡ false = p in absurd (true≢false z)
  tangled_model (model e) p = (e, refl, not-false (ambiguous e) p)

  abbrev Fits : ℕ → List Element → Type 0
  Fits met l = (all_from (fit E) fixes met l ≡ true) ⊎ First met l

  find : (l : List Element) (met : ℕ) → formed_elements E met l ≡ true → Fits met l
  find [] met k = inl refl
  find (x ∷ l) met k =
      let (a, b) = (and-eq-true_iff (formed_element E met x) (formed_elements E (met + fixes x) l)).0 k in
      by (unambiguous x.content) refl a (find l (met + fixes x) b)
    where
      by : (y : Bool) → unambiguous x.content ≡ y → formed_element E met x ≡ true → Fits (met + fixes x) l → Fits met (x ∷ l)
      by true p f (inl q) = inl (rw (f, p, q))
      by true p f (inr r) = inr (record {
        before = x ∷ r.before;
        x = r.x;
        behind = r.behind;
        e = r.e;
        split = ap (λ t. x ∷ t) r.split;
        good = rw (f, p, r.good);
        here = r.here;
        tangled = r.tangled;
      })
      by false p f r =
          let (e, i, j) = tangled_model x.content p in
          inr (record { before = []; x = x; behind = l; e = e; split = refl; good = refl; here = i; tangled = j })

-- the model of an element within the limits
content_part : (E met : ℕ) (u v : List Element) (x : Element) (e : Expr) → x.content ≡ model e → formed_elements E met (u ++ x ∷ v) ≡ true → formed_model E e ≡ true
content_part E met [] v x e p f =
    let own = ((and-eq-true_iff (formed_element E met x) (formed_elements E (met + fixes x) v)).0 f).0 in
    let (a, b) = (and-eq-true_iff (formed_content E x.content && leb (length x.attributes) most_attributes) (formed_attributes 0 false met x.attributes)).0 own in
    rw p at ((and-eq-true_iff (formed_content E x.content) (leb (length x.attributes) most_attributes)).0 a).0
content_part E met (y ∷ u) v x e p f =
    content_part E (met + fixes y) u v x e p ((and-eq-true_iff (formed_element E met y) (formed_elements E (met + fixes y) (u ++ x ∷ v))).0 f).1

-- ---- the file up to it

concat_append : (u v : List (List ℕ)) → concat (u ++ v) ≡ concat u ++ concat v
concat_append [] v = refl
concat_append (l ∷ u) v = ap (λ t. l ++ t) (concat_append u v) ∙ sym (append_assoc l (concat u) (concat v))

file_append : (l m : List ℕ) → file_of (l ++ m) ≡ file_of l ++ file_of m
file_append l m = ap concat (map-append bytes_of l m) ∙ concat_append (map bytes_of l) (map bytes_of m)

-- the numbers behind the model
abbrev behind_it : Element → List Element → List ℕ
behind_it x v = (length x.attributes ∷ concat (map attribute_written x.attributes)) ++ concat (map element_written v)

written_split : (u v : List Element) (x : Element) (e : Expr) → x.content ≡ model e
    → concat (map element_written (u ++ x ∷ v)) ≡ (concat (map element_written u) ++ content_written (model e)) ++ behind_it x v
written_split u v x e p =
    ap concat (map-append element_written u (x ∷ v))
    ∙ concat_append (map element_written u) (map element_written (x ∷ v))
    ∙ ap (λ t. concat (map element_written u) ++ t)
    (append_assoc (content_written x.content) (length x.attributes ∷ concat (map attribute_written x.attributes)) (concat (map element_written v))
    ∙ ap (λ c. content_written c ++ behind_it x v) p)
    ∙ sym (append_assoc (concat (map element_written u)) (content_written (model e)) (behind_it x v))

meets : (s : Schema) → formed s ≡ true → First (length s.elements) 0 s.elements → MeetsAmbiguous (file_of (schema_written s))
meets s f r =
    let E : ℕ = length s.elements in
    let (q, forms) = (and-eq-true_iff (between 1 most_elements E && ltb s.root E) (formed_elements E 0 s.elements)).0 f in
    let (some, low) = (and-eq-true_iff (between 1 most_elements E) (ltb s.root E)).0 q in
    let (good, clear) = (fit_all E r.before 0).0 r.good in
    record {
      E = E;
      root = s.root;
      before = r.before;
      e = r.e;
      rest = file_of (behind_it r.x r.behind);
      some_elements = some;
      root_below = ltb-true s.root E low;
      room = let l = ap length r.split ∙ length-append r.before (r.x ∷ r.behind) in omega arith;
      before_formed = good;
      before_clear = clear;
      model_formed = content_part E 0 r.before r.behind r.x r.e r.here (rw (← r.split) forms);
      ambiguous = (ambiguous_true r.e).0 r.tangled;
      begins =
          ap (λ t. file_of (E ∷ s.root ∷ t))
          (ap (λ l. concat (map element_written l)) r.split ∙ written_split r.before r.behind r.x r.e r.here)
          ∙ file_append (E ∷ s.root ∷ concat (map element_written r.before) ++ content_written (model r.e)) (behind_it r.x r.behind);
    }

-- ---- the law

-- one of the schema's models is ambiguous
pub record Tangle (s : Schema) : Type 0 where
  pub before : List Element
  pub x : Element
  pub behind : List Element
  pub e : Expr
  pub split : s.elements ≡ before ++ x ∷ behind
  pub here : x.content ≡ model e
  pub tangled : Ambiguous e

-- None of the models is ambiguous and the file of the schema is read as it, or one is and the file is refused with 3.
pub data Comes (s : Schema) : Type 0 where
  reads : Unambiguous s.elements → schema_of (file_of (schema_written s)) ≡ ok s [] → Comes s
  refuses : Tangle s → schema_of (file_of (schema_written s)) ≡ stop 3 → Comes s

pub file_comes : (s : Schema) → formed s ≡ true → Comes s
file_comes s f = by (find (length s.elements) s.elements 0 forms)
  where
    forms : formed_elements (length s.elements) 0 s.elements ≡ true
    forms = ((and-eq-true_iff (between 1 most_elements (length s.elements) && ltb s.root (length s.elements)) (formed_elements (length s.elements) 0 s.elements)).0 f).1

    by : Fits (length s.elements) 0 s.elements → Comes s
    by (inl p) = let (_, h) = (fit_all (length s.elements) s.elements 0).0 p in reads h (taken_whole s f h)
    by (inr r) =
        refuses
        (record { before = r.before; x = r.x; behind = r.behind; e = r.e; split = r.split; here = r.here; tangled = (ambiguous_true r.e).0 r.tangled })
        ((ambiguous_exactly (file_of (schema_written s)) (file_bytes s f)).1 (meets s f r))
