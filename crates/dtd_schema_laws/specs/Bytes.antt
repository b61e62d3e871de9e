-- The file of a schema within the limits is a list of bytes: its numbers are small. Assumes nothing.
use Rattle.std.specs.Prelude.{◌≡◌, refl, Bool, true, false, cond, not, ◌&&◌, ◌||◌, List, [], ◌∷◌, ◌++◌, map, ℕ, suc, ◌+◌, ◌-◌, ◌/◌, ◌%◌, ◌≤◌, ◌<◌, leb, ltb, eqb, length}
use Rattle.std.proofs.Common.{subst, arith, leb-true, le-leb, ltb-true, ltb-false, lt-ltb}
use Rattle.std.proofs.Math.Bool.{and-eq-true_iff}
use Rattle.paper.specs.Basics.{most_number, most_elements, most_names, most_attributes, most_fixed, between, all, cons_if, concat}
use Rattle.paper.specs.Files.{bytes_of, file_of}
use Rattle.paper.specs.Expressions.{names, count}
use Rattle.paper.specs.Schema.{symbols_of, most_symbols, Attribute, is_fixed, fixed_in, Content, empty, text, model, Element, Schema, most_status, most_value}
use Rattle.paper.specs.SchemaWritten.{attribute_written, content_written, element_written, schema_written, formed_attributes, formed_content, formed_element, formed_elements, formed}
use Rattle.basic_laws.specs.Bools.{both}
use Rattle.paper_laws.specs.Basics.{all_append, all_parts}
use Rattle.content_laws.specs.Symbols.{range_names}
use Rattle.numbers.specs.Store.{bytes_one, bytes_two, bytes_three}
use Rattle.numbers.specs.Laws.{bytes}

-- ---- small numbers

abbrev low : ℕ → Bool
low n = leb n most_number

number_bytes : (n : ℕ) → low n ≡ true → bytes (bytes_of n) ≡ true
number_bytes n p = go (ltb n 128) refl
  where
    h : n ≤ most_number
    h = leb-true n most_number p

    long : (b : Bool) → ltb n 16384 ≡ b → 128 ≤ n → bytes (bytes_of n) ≡ true
    long true q k =
        let j = ltb-true n 16384 q in
        rw (bytes_two n k j, lt-ltb (128 + n % 128) 256 (omega arith), lt-ltb (n / 128) 256 (omega arith))
    long false q k =
        let i = h in
        let j = ltb-false n 16384 q in
        rw (bytes_three n j, lt-ltb (128 + n % 128) 256 (omega arith), lt-ltb (128 + n / 128 % 128) 256 (omega arith), lt-ltb (n / 16384) 256 (omega arith))

    go : (b : Bool) → ltb n 128 ≡ b → bytes (bytes_of n) ≡ true
    go true q = let k = ltb-true n 128 q in rw (bytes_one n k, lt-ltb n 256 (omega arith))
    go false q = long (ltb n 16384) refl (ltb-false n 128 q)

low_bytes : (l : List ℕ) → all low l ≡ true → bytes (file_of l) ≡ true
low_bytes [] p = refl
low_bytes (n ∷ l) p =
    let (a, b) = (and-eq-true_iff (low n) (all low l)).0 p in
    rw (all_append (λ b. ltb b 256) (bytes_of n) (file_of l)) (both (number_bytes n a) (low_bytes l b))

low_join : (l m : List ℕ) → all low l ≡ true → all low m ≡ true → all low (l ++ m) ≡ true
low_join l m p q = rw (all_append low l m) (both p q)

-- ---- the numbers of a schema within the limits

attribute_low : (y : Attribute) → y.number ≤ most_number → y.kind ≤ most_number → y.status ≤ most_number → y.value ≤ most_number
    → all low (attribute_written y) ≡ true
attribute_low y p q r s =
    rw (le-leb y.number most_number p, le-leb y.kind most_number q, le-leb y.status most_number r) (last (is_fixed y))
  where
    last : (b : Bool) → all low (cons_if b y.value []) ≡ true
    last true = rw (le-leb y.value most_number s)
    last false = refl

-- the largest status and value are small
status_most : (k met : ℕ) → most_status k met ≤ 2
status_most k met = go (eqb k 0 && ltb met most_fixed)
  where
    go : (b : Bool) → cond b 2 1 ≤ 2
    go true = omega arith
    go false = omega arith

value_most : (s : ℕ) → most_value s ≤ most_number
value_most s = go (eqb s 2)
  where
    go : (b : Bool) → cond b most_number 0 ≤ most_number
    go true = omega arith
    go false = omega arith

attributes_low : (l : List Attribute) (least : ℕ) (had : Bool) (met : ℕ) → formed_attributes least had met l ≡ true
    → all low (concat (map attribute_written l)) ≡ true
attributes_low [] least had met f = refl
attributes_low (y ∷ l) least had met f =
    let kind : Bool = leb y.kind 3 in
    let second : Bool = not (had && eqb y.kind 1) in
    let number : Bool = between least (most_attributes - 1) y.number in
    let status : Bool = leb y.status (most_status y.kind met) in
    let value : Bool = leb y.value (most_value y.status) in
    let left : ℕ = met + cond (is_fixed y) 1 0 in
    let (n, b) = (and-eq-true_iff (number && kind && second && status && value) (formed_attributes (suc y.number) (had || eqb y.kind 1) left l)).0 f in
    let (a, v) = (and-eq-true_iff (number && kind && second && status) value).0 n in
    let (c, d) = (and-eq-true_iff (number && kind && second) status).0 a in
    let (e, g) = (and-eq-true_iff (number && kind) second).0 c in
    let (h, i) = (and-eq-true_iff number kind).0 e in
    let j = leb-true y.number (most_attributes - 1) ((and-eq-true_iff (leb least y.number) (leb y.number (most_attributes - 1))).0 h).1 in
    let k = leb-true y.kind 3 i in
    let m = leb-true y.status (most_status y.kind met) d in
    let o = status_most y.kind met in
    let q = leb-true y.value (most_value y.status) v in
    let r = value_most y.status in
    low_join (attribute_written y) (concat (map attribute_written l))
    (attribute_low y (omega arith) (omega arith) (omega arith) (omega arith)) (attributes_low l (suc y.number) (had || eqb y.kind 1) left b)

module _ (E : ℕ) (few : E ≤ 48) where
  symbols_low : (l : List ℕ) → all (between 0 (4 + E)) l ≡ true → all low l ≡ true
  symbols_low [] p = refl
  symbols_low (x ∷ l) p =
      let (a, b) = (and-eq-true_iff (between 0 (4 + E) x) (all (between 0 (4 + E)) l)).0 p in
      let c = leb-true x (4 + E) ((and-eq-true_iff (leb 0 x) (leb x (4 + E))).0 a).1 in
      both (le-leb x most_number (omega arith)) (symbols_low l b)

  content_low : (c : Content) → formed_content E c ≡ true → all low (content_written c) ≡ true
  content_low empty f = refl
  content_low text f = refl
  content_low (model e) f =
      let (a, b) = (and-eq-true_iff (leb (length (symbols_of e)) most_symbols && all (λ a. ltb a E) (names e)) (leb (count e) most_names)).0 f in
      let (c, d) = (and-eq-true_iff (leb (length (symbols_of e)) most_symbols) (all (λ a. ltb a E) (names e))).0 a in
      let h = leb-true (length (symbols_of e)) most_symbols c in
      both (le-leb (length (symbols_of e)) most_number (omega arith)) (symbols_low (symbols_of e) (rw (range_names E e) d))

  element_low : (met : ℕ) (x : Element) → formed_element E met x ≡ true → all low (element_written x) ≡ true
  element_low met x f =
      let (a, b) = (and-eq-true_iff (formed_content E x.content && leb (length x.attributes) most_attributes) (formed_attributes 0 false met x.attributes)).0 f in
      let (c, d) = (and-eq-true_iff (formed_content E x.content) (leb (length x.attributes) most_attributes)).0 a in
      let h = leb-true (length x.attributes) most_attributes d in
      low_join (content_written x.content) (length x.attributes ∷ concat (map attribute_written x.attributes))
      (content_low x.content c) (both (le-leb (length x.attributes) most_number (omega arith)) (attributes_low x.attributes 0 false met b))

  elements_low : (met : ℕ) (l : List Element) → formed_elements E met l ≡ true → all low (concat (map element_written l)) ≡ true
  elements_low met [] f = refl
  elements_low met (x ∷ l) f =
      let (a, b) = (and-eq-true_iff (formed_element E met x) (formed_elements E (met + fixed_in x.attributes) l)).0 f in
      low_join (element_written x) (concat (map element_written l)) (element_low met x a) (elements_low (met + fixed_in x.attributes) l b)

-- The file of a schema within the limits is a list of bytes.
pub file_bytes : (s : Schema) → formed s ≡ true → bytes (file_of (schema_written s)) ≡ true
file_bytes s f =
    let E : ℕ = length s.elements in
    let (q, forms) = (and-eq-true_iff (between 1 most_elements E && ltb s.root E) (formed_elements E 0 s.elements)).0 f in
    let (some, below) = (and-eq-true_iff (between 1 most_elements E) (ltb s.root E)).0 q in
    let few = leb-true E most_elements ((and-eq-true_iff (leb 1 E) (leb E most_elements)).0 some).1 in
    let root = ltb-true s.root E below in
    low_bytes (schema_written s)
    (both (le-leb E most_number (omega arith)) (both (le-leb s.root most_number (omega arith)) (elements_low E few 0 s.elements forms)))

-- .. told byte by byte
pub file_byte : (s : Schema) → formed s ≡ true → (u v : List ℕ) (b : ℕ) → file_of (schema_written s) ≡ u ++ b ∷ v → b < 256
file_byte s f u v b e =
    let (_, p) = all_parts (λ b. ltb b 256) u (b ∷ v) (subst (λ l. bytes l ≡ true) e (file_bytes s f)) in
    ltb-true b 256 ((and-eq-true_iff (ltb b 256) (bytes v)).0 p).0
