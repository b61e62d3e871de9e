-- Which texts are taken: exactly those that spell declarations with an element among them, which keep to the limits and name none but
-- declared elements. Assumes nothing.
use Rattle.std.specs.Prelude.{◌≡◌, refl, ◌↔◌, Bool, true, false, cond, ◌&&◌, List, [], ◌∷◌, ◌++◌, ℕ}
use Rattle.std.proofs.Math.Bool.{and-eq-true_iff}
use Rattle.paper.specs.Basics.{null}
use Rattle.paper.specs.Dtd.Letters.{Name, among}
use Rattle.paper.specs.Dtd.Declarations.{each, Content, empty, text, model, Declaration, element, attlist, element_names}
use Rattle.paper.specs.Dtd.Numbering.{model_fits}
use Rattle.paper.specs.Dtd.Grammar.{Spells}
use Rattle.paper.specs.Dtd.Readers.{Read, stop, ok}
use Rattle.paper.specs.Dtd.Reading.{reading, new_element, room_for_element}
use Rattle.paper.specs.Dtd.Limits.{content_kept, model_kept, definitions_kept, declaration_kept, kept}
use Rattle.paper.specs.Dtd.Imported.{completed, declared}
use Rattle.dtd_laws.specs.Exact.{never}
use Rattle.dtd_laws.specs.Texts.{reading_exactly}
use Rattle.dtd_laws.specs.Unique.{any, each_any, unique}

-- ---- what is kept while every name is known, is kept while all are

module _ (known : Name → Bool) where
  content_loose : (c : Content) → content_kept (model_kept known) c ≡ true → content_kept (model_kept any) c ≡ true
  content_loose empty k = refl
  content_loose text k = refl
  content_loose (model p) k = rw (each_any p) ((and-eq-true_iff (each p known) (model_fits p)).0 k).1

  declaration_loose : (old : List Declaration) (d : Declaration) → declaration_kept known old d ≡ true → declaration_kept any old d ≡ true
  declaration_loose old (element n c) k =
      let (a, b) = (and-eq-true_iff (new_element old n && room_for_element old) (content_kept (model_kept known) c)).0 k in
      rw (a, content_loose c b)
  declaration_loose old (attlist e ds) k = ((and-eq-true_iff (known e) (definitions_kept old e [] ds)).0 k).1

  kept_loose : (old ds : List Declaration) → kept known old ds ≡ true → kept any old ds ≡ true
  kept_loose old [] k = refl
  kept_loose old (d ∷ ds) k =
      let (a, b) = (and-eq-true_iff (declaration_kept known old d) (kept known (old ++ d ∷ []) ds)).0 k in
      rw (declaration_loose old d a) (kept_loose (old ++ d ∷ []) ds b)

-- ---- the law

-- the elements that are declared
abbrev pub is_declared : List Declaration → Name → Bool
is_declared ds n = among n (element_names ds)

pub record Taken (s : List ℕ) (ds : List Declaration) : Type 0 where
  pub spells : Spells ds s
  pub some_element : null (element_names ds) ≡ false
  pub keeps : kept (is_declared ds) [] ds ≡ true

-- nothing is left over of a text that is taken
pub taken_whole : (s : List ℕ) (ds : List Declaration) → Taken s ds → declared s ≡ ok ds []
unfolding declared
taken_whole s ds t =
    rw ((reading_exactly any s ds []).1 (t.spells, refl, kept_loose (is_declared ds) [] ds t.keeps), t.some_element)
    ((reading_exactly (is_declared ds) s ds []).1 (t.spells, refl, t.keeps))

completed_from : (s : List ℕ) (ds : List Declaration) (r : List ℕ) → declared s ≡ ok ds r → Taken s ds × ([] ≡ r)
unfolding declared
completed_from s ds r e = by (reading any s) refl e
  where
    end : (es : List Declaration) (t : List ℕ) (b : Bool) → Spells es s → null (element_names es) ≡ b
        → cond b (stop 14 t) (reading (is_declared es) s) ≡ ok ds r → Taken s ds × ([] ≡ r)
    end es t true a p e = never e
    end es t false a p e =
        let (b, j, k) = (reading_exactly (is_declared es) s ds r).0 e in
        let i : es ≡ ds = unique a b in
        (record { spells = b; some_element = rw i at p; keeps = rw i at k }, j)

    by : (o : Read (List Declaration)) → reading any s ≡ o → completed s o ≡ ok ds r → Taken s ds × ([] ≡ r)
    by (stop k t) p e = never e
    by (ok es t) p e = end es t (null (element_names es)) ((reading_exactly any s es t).0 p).0 refl e

-- A text is taken exactly if it spells declarations with an element among them, which keep to the limits; nothing is left over then.
pub taken_exactly : (s : List ℕ) (ds : List Declaration) → ((r : List ℕ) × (declared s ≡ ok ds r)) ↔ Taken s ds
taken_exactly s ds = (λ (r, e). (completed_from s ds r e).0, λ t. ([], taken_whole s ds t))
