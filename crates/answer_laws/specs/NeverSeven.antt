-- "A whole check never gives 7, as 10 or the parent's 9 comes first": an element whose content is good has declared children, and the
-- root is declared. Told along the tree that the document is. Assumes nothing.
use Rattle.std.proofs.Math.Path.{◌≡◌, refl}
use Rattle.std.proofs.Common.{ap, ◌∙◌, arith, eqb-true, ltb-true, lt-ltb}
use Rattle.std.specs.Prelude.{◌≢◌, Bool, ◌&&◌, List, [], ◌∷◌, map, ltb, get_or}
use Rattle.std.proofs.Math.Bool.{true, false, cond, and-eq-true_iff}
use Rattle.std.proofs.Math.Option.{Option, none, some}
use Prim.Native.Nat.{ℕ, zero, suc, ◌+◌, ◌<◌}
use Rattle.std.proofs.lemmas.Bool.{eqb-false}
use Rattle.std.proofs.Math.Dec.{eqb}
use Rattle.paper.specs.declared.Tok.{Tok}
use Rattle.paper.specs.declared.Tok.TheVariants.{Start, End, Text}
use Rattle.paper.specs.Basics.{all, null, elem as elem_of}
use Rattle.paper.specs.Table.{block, cell, kind_at, count_at, names_at, proper}
use Rattle.paper.specs.Tokens.{heads, kids}
use Rattle.paper.specs.Shape.{is_element}
use Rattle.paper.specs.Trees.{Given, Forest, nil, txt, elem, flat_v, flat_a, flat}
use Rattle.paper.specs.Sets.{bit}
use Rattle.paper.specs.Rules.{Rules, State, start, at, set_at, move, run_from, ended, of_table}
use Rattle.paper.specs.Judgement.{Answer, none_found, or_else, before, attributes_good, content_good, no_text, text_or_none, named, element_fault, first, place_of, root_fault, ids_of, refs_of, value_in, repeated, dangling, key_fault, judge, whole}
use Rattle.paper_laws.specs.Basics.{find_some}
use Rattle.table_laws.specs.Parts.{table_parts, block_parts, name_below}
use Rattle.shape_laws.specs.Tree.{shape_tree}
use Rattle.shape_laws.specs.Widths.{kids_given, kids_deeper}

-- ---- the children of an element, along the tree

abbrev tops : Forest → List Tok
tops nil = []
tops (txt n f) = Text n ∷ tops f
tops (elem n gs k f) = Start n ∷ tops f

kids_tops : (f : Forest) (r : List Tok) → kids zero (flat f (End ∷ r)) ≡ tops f
kids_tops nil r = refl
kids_tops (txt n f) r = ap (λ l. Text n ∷ l) (kids_tops f r)
kids_tops (elem n gs k f) r =
    ap (λ l. Start n ∷ l) (kids_given 1 gs (flat k (End ∷ flat f (End ∷ r))) ∙ kids_deeper 0 k (End ∷ flat f (End ∷ r)) ∙ kids_tops f r)

-- ---- rules that describe declared children only

pub record Sound (R : Rules) : Type 0 where
  pub root_declared : R.root < R.elements
  pub children_declared : (e : ℕ) (w : List ℕ) → e < R.elements → eqb (R.kind e) 0 ≡ false → eqb (R.kind e) 1 ≡ false → R.describes e w ≡ true → all (λ a. ltb a R.elements) w ≡ true

module _ (R : Rules) (sound : Sound R) where
  -- each element of the row is declared
  abbrev DeclaredTops : Forest → Type 0
  DeclaredTops nil = Unit {0}
  DeclaredTops (txt n f) = DeclaredTops f
  DeclaredTops (elem n gs k f) = (n < R.elements) × DeclaredTops f

  -- no child at all; one text or none; names that are declared
  none_declared : (f : Forest) → null (tops f) ≡ true → DeclaredTops f
  none_declared nil e = tt
  none_declared (txt n f) e = let z : ◌≡◌ {A = ℕ} 0 1 = cc in absurd (omega arith)
  none_declared (elem n gs k f) e = let z : ◌≡◌ {A = ℕ} 0 1 = cc in absurd (omega arith)

  text_declared : (f : Forest) → text_or_none (tops f) ≡ true → DeclaredTops f
  text_declared nil e = tt
  text_declared (txt n f) e = none_declared f e
  text_declared (elem n gs k f) e = let z : ◌≡◌ {A = ℕ} 0 1 = cc in absurd (omega arith)

  names_declared : (f : Forest) → all (λ a. ltb a R.elements) (named (tops f)) ≡ true → DeclaredTops f
  names_declared nil e = tt
  names_declared (txt n f) e = names_declared f e
  names_declared (elem n gs k f) e =
      let (a, b) = (and-eq-true_iff (ltb n R.elements) (all (λ a. ltb a R.elements) (named (tops f)))).0 e in
      (ltb-true n R.elements a, names_declared f b)

  content_declared : (n : ℕ) → n < R.elements → (f : Forest) → content_good R n (tops f) ≡ true → DeclaredTops f
  unfolding content_good
  content_declared n d f e = go (eqb (R.kind n) 0) (eqb (R.kind n) 1) refl refl e
    where
      go : (a b : Bool) → eqb (R.kind n) 0 ≡ a → eqb (R.kind n) 1 ≡ b
          → cond a (null (tops f)) (cond b (text_or_none (tops f)) (no_text (tops f) && R.describes n (named (tops f)))) ≡ true → DeclaredTops f
      go true b p q e = none_declared f e
      go false true p q e = text_declared f e
      go false false p q e =
          names_declared f (sound.children_declared n (named (tops f)) d p q ((and-eq-true_iff (no_text (tops f)) (R.describes n (named (tops f)))).0 e).1)

  -- ---- the first fault is not 7

  abbrev Not7 : List Tok → Type 0
  Not7 d = (i : ℕ) → (first (element_fault R) (place_of R) whole i d).0 ≢ 7

  values_not7 : (vs : List ℕ) (r : List Tok) → Not7 r → Not7 (flat_v vs r)
  values_not7 [] r h = h
  values_not7 (v ∷ vs) r h = λ i. values_not7 vs r h (suc i)

  given_not7 : (gs : List Given) (r : List Tok) → Not7 r → Not7 (flat_a gs r)
  given_not7 [] r h = h
  given_not7 (g ∷ gs) r h = λ i. values_not7 g.more (flat_a gs r) (given_not7 gs r h) (suc (suc i))

  -- a declared element: its own fault is 8 or 9, or its content is good
  start_not7 : (n : ℕ) → n < R.elements → (r : List Tok) → (content_good R n (kids zero r) ≡ true → Not7 r) → Not7 (Start n ∷ r)
  unfolding element_fault
  start_not7 n d r h i = go (ltb n R.elements) (attributes_good R n (heads r)) (content_good R n (kids zero r)) (lt-ltb n R.elements d) refl
    where
      go : (a b c : Bool) → a ≡ true → content_good R n (kids zero r) ≡ c
          → (or_else (cond a (cond b (cond c 0 9) 8) 7) (place_of R (cond a (cond b (cond c 0 9) 8) 7) i (Start n ∷ r)) (first (element_fault R) (place_of R) whole (suc i) r)).0 ≢ 7
      go true true true p q = h q (suc i)
      go true true false p q = λ z. absurd (omega arith)
      go true false c p q = λ z. absurd (omega arith)
      go false b c p q = let z : ◌≡◌ {A = ℕ} 0 1 = cc in absurd (omega arith)

  forest_not7 : (f : Forest) (r : List Tok) → DeclaredTops f → Not7 r → Not7 (flat f r)
  forest_not7 nil r d h = h
  forest_not7 (txt n f) r d h = λ i. forest_not7 f r d h (suc i)
  forest_not7 (elem n gs k f) r (d, ds) h =
      let after : Not7 (End ∷ flat f r) = λ i. forest_not7 f r ds h (suc i) in
      let same : kids zero (flat_a gs (flat k (End ∷ flat f r))) ≡ tops k = kids_given 0 gs (flat k (End ∷ flat f r)) ∙ kids_tops k (flat f r) in
      start_not7 n d (flat_a gs (flat k (End ∷ flat f r)))
      (λ good. given_not7 gs (flat k (End ∷ flat f r)) (forest_not7 k (End ∷ flat f r) (content_declared n d k (rw same at good)) after))

-- ---- a proper table

-- the names of a block's occurrences are below E
module _ (E : ℕ) (b : List ℕ) (below : (k : ℕ) → k < cell b count_at → cell b (names_at + k) < E) where
  moved_below : (s : State) (a k : ℕ) → move b s a ≡ some k → a < E
  moved_below s a k e =
      let (i, t) = find_some _ (cell b count_at) k e in
      let same = eqb-true (cell b (names_at + k)) a ((and-eq-true_iff (bit (set_at b s) k) (eqb (cell b (names_at + k)) a)).0 t).1 in
      let h = below k i in
      rw same at h

  run_below : (w : List ℕ) (s : State) → ended b (run_from b s w) ≡ true → all (λ a. ltb a E) w ≡ true
  run_below [] s e = refl
  run_below (a ∷ w) s e = go (move b s a) refl e (λ k. run_below w (at k))
    where
      go : (o : Option ℕ) → move b s a ≡ o → ended b (elim o [ none ↦ none | some k ↦ run_from b (at k) w ]) ≡ true
          → ((k : ℕ) → ended b (run_from b (at k) w) ≡ true → all (λ a. ltb a E) w ≡ true) → all (λ a. ltb a E) (a ∷ w) ≡ true
      go none p e h = let z : ◌≡◌ {A = ℕ} 0 1 = cc in absurd (omega arith)
      go (some k) p e h = rw (lt-ltb a E (moved_below s a k p), h k e)

pub table_sound : (t : List ℕ) → proper t ≡ true → Sound (of_table t)
table_sound t p =
    let parts = table_parts t p in
    record {
      root_declared = parts.root_below;
      children_declared = λ e w d not0 not1 r.
          let b : List ℕ = block t e in
          let block_is = block_parts (get_or t 0 0) b (parts.blocks e d) in
          let k0 = eqb-false (cell b kind_at) 0 not0 in
          let k1 = eqb-false (cell b kind_at) 1 not1 in
          let m = (block_is.modelled (omega arith)).1 in
          run_below (get_or t 0 0) b (name_below (get_or t 0 0) b parts.some_elements m) w start r;
    }

-- ---- the judgement of a document with shape

before_never : (k : ℕ) (a r : Answer) → a.0 ≢ k → r.0 ≢ k → (before a r).0 ≢ k
before_never k a r n m = go a.0 n
  where
    go : (f : ℕ) → f ≢ k → (or_else f a.1 r).0 ≢ k
    go zero n = m
    go (suc f) n = n

-- IDs and references give 0, 11 and 12 alone
module _ (k : ℕ) (none : 0 ≢ k) where
  repeated_never : 11 ≢ k → (seen : List ℕ) (l : List (ℕ × ℕ)) → (repeated seen l).0 ≢ k
  repeated_never m seen [] = none
  repeated_never m seen (p ∷ l) = go (elem_of p.1 seen) (repeated_never m (p.1 ∷ seen) l)
    where
      go : (b : Bool) → (repeated (p.1 ∷ seen) l).0 ≢ k → (cond b (11, p.0) (repeated (p.1 ∷ seen) l)).0 ≢ k
      go true h = m
      go false h = h

  dangling_never : 12 ≢ k → (ids : List ℕ) (l : List (ℕ × ℕ)) → (dangling ids l).0 ≢ k
  dangling_never m ids [] = none
  dangling_never m ids (p ∷ l) = go (elem_of p.1 ids) (dangling_never m ids l)
    where
      go : (b : Bool) → (dangling ids l).0 ≢ k → (cond b (dangling ids l) (12, p.0)).0 ≢ k
      go true h = h
      go false h = m

  pub keys_never : 11 ≢ k → 12 ≢ k → (R : Rules) (d : List Tok) → (key_fault R d).0 ≢ k
  keys_never m n R d =
      before_never k (repeated [] (ids_of R d)) (dangling (map value_in (ids_of R d)) (refs_of R d)) (repeated_never m [] (ids_of R d))
      (dangling_never n (map value_in (ids_of R d)) (refs_of R d))

pub document_not7 : (R : Rules) → Sound R → (d : List Tok) → is_element d ≡ true → (judge R whole d).0 ≢ 7
unfolding judge
document_not7 R sound d e =
    let t = shape_tree d e in
    rw t.tokens (by_root t.name (flat_a t.attributes (flat t.content (End ∷ []))) (λ h. forest_not7 R sound (elem t.name t.attributes t.content nil) [] (h, tt) (λ i z. absurd (omega arith)) 0))
  where
    by_root : (n : ℕ) (r : List Tok) → (n < R.elements → (first (element_fault R) (place_of R) whole 0 (Start n ∷ r)).0 ≢ 7)
        → (before (root_fault R (Start n ∷ r)) (before (first (element_fault R) (place_of R) whole 0 (Start n ∷ r)) (key_fault R (Start n ∷ r)))).0 ≢ 7
    by_root n r h = go (eqb n R.root) refl
      where
        go : (b : Bool) → eqb n R.root ≡ b
            → (before (cond b none_found (10, 0)) (before (first (element_fault R) (place_of R) whole 0 (Start n ∷ r)) (key_fault R (Start n ∷ r)))).0 ≢ 7
        go false p = λ z. absurd (omega arith)
        go true p =
            let same = eqb-true n R.root p in
            let below = sound.root_declared in
            before_never 7 (first (element_fault R) (place_of R) whole 0 (Start n ∷ r)) (key_fault R (Start n ∷ r)) (h (rw same below))
            (keys_never 7 (λ z. omega arith) (λ z. omega arith) (λ z. omega arith) R (Start n ∷ r))
