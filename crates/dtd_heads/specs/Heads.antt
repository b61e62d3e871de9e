-- The rows of the elements that ATTLISTs named, kept in a table: the place of each one's name, and its row. Assumes nothing.
use Rattle.std.specs.Prelude.{◌≡◌, refl, ◌≢◌, false, List, [], ◌∷◌, ◌++◌, ℕ, ◌+◌, ◌*◌, ◌≤◌, ◌<◌, length, take, set, get_or}
use Rattle.std.proofs.Common.{ap, ◌∙◌, append-nil, arith, length-set, get_or-set_same, get_or-set_other}
use Rattle.paper.specs.Basics.{most_elements}
use Rattle.paper.specs.Dtd.Letters.{Name, same, among}
use Rattle.paper.specs.Dtd.Declarations.{Content, Declaration, element, defined_for, firsts_after, attribute_names}
use Rattle.dtd_laws.specs.Kept.{words, words_append, for_append}
use Rattle.dtd_names.specs.Named.{name_at, names_at}
use Rattle.dtd_rows.specs.declared.Row.{Row}
use Rattle.dtd_rows.specs.Rows.{RowOf}

-- ---- rows in a list of numbers, five to each

abbrev pub row_at : List ℕ → ℕ → Row
row_at rows i = record {
  allowed = get_or rows (5 * i) 0;
  required = get_or rows (5 * i + 1) 0;
  id = get_or rows (5 * i + 2) 0;
  idref = get_or rows (5 * i + 3) 0;
  idrefs = get_or rows (5 * i + 4) 0;
}

abbrev pub stored : List ℕ → ℕ → Row → List ℕ
stored rows i r =
    set (set (set (set (set rows (5 * i) r.allowed) (5 * i + 1) r.required) (5 * i + 2) r.id) (5 * i + 3) r.idref) (5 * i + 4) r.idrefs

-- the numbers for as many rows as there can be elements
abbrev pub most_numbers : ℕ
most_numbers = 240

-- each number of a row has its place
module _ (rows : List ℕ) (i : ℕ) (k : i < most_elements) (h : most_numbers ≤ length rows) (a b c d : ℕ) where
  pub second_inside : 5 * i + 1 < length (set rows (5 * i) a)
  second_inside = omega (arith, length-set rows (5 * i) a)

  pub third_inside : 5 * i + 2 < length (set (set rows (5 * i) a) (5 * i + 1) b)
  third_inside = omega (arith, length-set rows (5 * i) a, length-set (set rows (5 * i) a) (5 * i + 1) b)

  pub fourth_inside : 5 * i + 3 < length (set (set (set rows (5 * i) a) (5 * i + 1) b) (5 * i + 2) c)
  fourth_inside = let l = length-set (set (set rows (5 * i) a) (5 * i + 1) b) (5 * i + 2) c in let m = third_inside in omega (arith, length-set rows (5 * i) a, length-set (set rows (5 * i) a) (5 * i + 1) b)

  pub fifth_inside : 5 * i + 4 < length (set (set (set (set rows (5 * i) a) (5 * i + 1) b) (5 * i + 2) c) (5 * i + 3) d)
  fifth_inside =
      let l = length-set (set (set (set rows (5 * i) a) (5 * i + 1) b) (5 * i + 2) c) (5 * i + 3) d in
      let m = length-set (set (set rows (5 * i) a) (5 * i + 1) b) (5 * i + 2) c in
      omega (arith, length-set rows (5 * i) a, length-set (set rows (5 * i) a) (5 * i + 1) b)

module _ (rows : List ℕ) (i : ℕ) (r : Row) where
  abbrev one : List ℕ
  one = set rows (5 * i) r.allowed

  abbrev two : List ℕ
  two = set one (5 * i + 1) r.required

  abbrev three : List ℕ
  three = set two (5 * i + 2) r.id

  abbrev four : List ℕ
  four = set three (5 * i + 3) r.idref

  long : (length one ≡ length rows) × (length two ≡ length rows) × (length three ≡ length rows) × (length four ≡ length rows)
  long =
      let a = length-set rows (5 * i) r.allowed in
      let b = length-set one (5 * i + 1) r.required ∙ a in
      let c = length-set two (5 * i + 2) r.id ∙ b in
      (a, b, c, length-set three (5 * i + 3) r.idref ∙ c)

  pub stored_length : length (stored rows i r) ≡ length rows
  stored_length = length-set four (5 * i + 4) r.idrefs ∙ long.3

  -- what is not stored stays
  kept_at : (j : ℕ) → j ≢ 5 * i → j ≢ 5 * i + 1 → j ≢ 5 * i + 2 → j ≢ 5 * i + 3 → j ≢ 5 * i + 4 → get_or (stored rows i r) j 0 ≡ get_or rows j 0
  kept_at j a b c d e =
      get_or-set_other four (5 * i + 4) j r.idrefs 0 e
      ∙ get_or-set_other three (5 * i + 3) j r.idref 0 d
      ∙ get_or-set_other two (5 * i + 2) j r.id 0 c
      ∙ get_or-set_other one (5 * i + 1) j r.required 0 b
      ∙ get_or-set_other rows (5 * i) j r.allowed 0 a

  pub stored_other : (j : ℕ) → j ≢ i → row_at (stored rows i r) j ≡ row_at rows j
  stored_other j h =
      rw (
        kept_at (5 * j) (λ e. h (omega arith)) (λ e. h (omega arith)) (λ e. h (omega arith)) (λ e. h (omega arith)) (λ e. h (omega arith)),
        kept_at (5 * j + 1) (λ e. h (omega arith)) (λ e. h (omega arith)) (λ e. h (omega arith)) (λ e. h (omega arith)) (λ e. h (omega arith)),
        kept_at (5 * j + 2) (λ e. h (omega arith)) (λ e. h (omega arith)) (λ e. h (omega arith)) (λ e. h (omega arith)) (λ e. h (omega arith)),
        kept_at (5 * j + 3) (λ e. h (omega arith)) (λ e. h (omega arith)) (λ e. h (omega arith)) (λ e. h (omega arith)) (λ e. h (omega arith)),
        kept_at (5 * j + 4) (λ e. h (omega arith)) (λ e. h (omega arith)) (λ e. h (omega arith)) (λ e. h (omega arith)) (λ e. h (omega arith)),
      )
      refl

  pub stored_same : 5 * i + 4 < length rows → row_at (stored rows i r) i ≡ r
  stored_same h =
      let (l1, l2, l3, l4) = long in
      rw (
        get_or-set_other four (5 * i + 4) (5 * i) r.idrefs 0 (λ e. omega arith)
            ∙ get_or-set_other three (5 * i + 3) (5 * i) r.idref 0 (λ e. omega arith)
            ∙ get_or-set_other two (5 * i + 2) (5 * i) r.id 0 (λ e. omega arith)
            ∙ get_or-set_other one (5 * i + 1) (5 * i) r.required 0 (λ e. omega arith)
            ∙ get_or-set_same rows (5 * i) r.allowed 0 (omega arith),
        get_or-set_other four (5 * i + 4) (5 * i + 1) r.idrefs 0 (λ e. omega arith)
            ∙ get_or-set_other three (5 * i + 3) (5 * i + 1) r.idref 0 (λ e. omega arith)
            ∙ get_or-set_other two (5 * i + 2) (5 * i + 1) r.id 0 (λ e. omega arith)
            ∙ get_or-set_same one (5 * i + 1) r.required 0 (omega arith),
        get_or-set_other four (5 * i + 4) (5 * i + 2) r.idrefs 0 (λ e. omega arith)
            ∙ get_or-set_other three (5 * i + 3) (5 * i + 2) r.idref 0 (λ e. omega arith)
            ∙ get_or-set_same two (5 * i + 2) r.id 0 (omega arith),
        get_or-set_other four (5 * i + 4) (5 * i + 3) r.idrefs 0 (λ e. omega arith) ∙ get_or-set_same three (5 * i + 3) r.idref 0 (omega arith),
        get_or-set_same four (5 * i + 4) r.idrefs 0 (omega arith),
      )
      refl

-- ---- the table

-- many: how many elements stand in the table. Where there is room, those that do not have no attributes.
pub record Heads (text : List ℕ) (old : List Declaration) (heads : List ℕ) (many : ℕ) (rows : List ℕ) : Type 0 where
  pub fits : many ≤ most_elements
  pub long : most_elements ≤ length heads
  pub wide : most_numbers ≤ length rows
  pub apart : (i j : ℕ) → i < many → j < many → i ≢ j → same (name_at text (get_or heads i 0)) (name_at text (get_or heads j 0)) ≡ false
  pub each : (i : ℕ) → i < many → RowOf (attribute_names old) (defined_for (name_at text (get_or heads i 0)) old) (row_at rows i)
  pub others : many < most_elements → (n : Name) → among n (names_at text (take many heads)) ≡ false → defined_for n old ≡ []

module _ (text heads rows : List ℕ) where
  pub heads_begun : most_elements ≤ length heads → most_numbers ≤ length rows → Heads text [] heads 0 rows
  heads_begun h k = record { fits = omega arith; long = h; wide = k; apart = λ i j h k d. absurd (omega arith); each = λ i l. absurd (omega arith); others = λ l n p. refl }

  -- an element that is declared changes nothing
  pub heads_element : (old : List Declaration) (many : ℕ) (n : Name) (c : Content) → Heads text old heads many rows → Heads text (old ++ element n c ∷ []) heads many rows
  heads_element old many n c t =
      let e : attribute_names (old ++ element n c ∷ []) ≡ attribute_names old = ap (firsts_after []) (words_append old (element n c ∷ []) ∙ append-nil (words old)) in
      let f : (m : Name) → defined_for m (old ++ element n c ∷ []) ≡ defined_for m old = λ m. for_append m old (element n c ∷ []) ∙ append-nil (defined_for m old) in
      record {
        fits = t.fits;
        long = t.long;
        wide = t.wide;
        apart = t.apart;
        each = λ i l. rw (e, f (name_at text (get_or heads i 0))) (t.each i l);
        others = λ l m p. f m ∙ t.others l m p;
      }
