-- The fault of one element, and the first fault among elements. Assumes nothing.
use Rattle.std.specs.Prelude.{◌≡◌, refl, Result, Ok, Err, Bool, true, false, cond, not, ◌&&◌, List, [], ◌∷◌, ℕ, zero, suc, ◌+◌, ◌/◌, ◌≤◌, ◌<◌, leb, ltb, length, drop, get_or}
use Rattle.std.proofs.Common.{sym, ap, ◌∙◌, add-zero, zero-add, add-suc, suc-add, add-one, arith}
use Rattle.std.proofs.Math.Option.{Option, none, some}
use Rattle.std.proofs.lemmas.List.{length-map}
use borrow.Author.Tests.{le-leb, lt-leb, lt-ltb, le-ltb, not-true, not-false}
use Rattle.paper.specs.declared.Tok.{Tok}
use Rattle.paper.specs.declared.Tok.TheVariants.{Start, End, Text, Attr, Value, Bad}
use Rattle.paper.specs.Tokens.{tok_of, toks, heads, kids, child_at, starts}
use Rattle.paper.specs.Rules.{of_table}
use Rattle.paper.specs.declared.Fault.{Fault}
use Rattle.paper.specs.Codes.{number_of}
use Rattle.paper_laws.specs.Codes.{refused}
use Rattle.paper.specs.Judgement.{Answer, none_found, or_else, attributes_good, content_good, content_begun, stop_after, element_fault, fault_at, first, place_of, whole}
use Rattle.basic_laws.specs.Bools.{clash}
use Rattle.shape_laws.specs.Ends.{rest_at, rest_past}
use Rattle.attributes.specs.Attributes.{Behind}
use Rattle.tokens.specs.Theorems.{start_iff}
use Rattle.stops.specs.Stop.{stopped, content_stop, walked, walked_ok, walked_err}

-- ---- one element

-- the number for an element by its name, where its attributes begin at a place of the document
abbrev pub number_from : (table : List ℕ) (e : ℕ) (doc : List ℕ) (at : ℕ) → ℕ
number_from table e doc at = element_fault (of_table table) e (heads (drop at (toks doc))) (kids zero (drop at (toks doc)))

-- its number and place, where it starts at place i; 0 at 0 for no fault
abbrev pub fault_from : (table : List ℕ) (e : ℕ) (doc : List ℕ) (i : ℕ) → Answer
fault_from table e doc i =
    let number : ℕ = number_from table e doc (i + 1) in
    or_else number (place_of (of_table table) number i (Start e ∷ drop (i + 1) (toks doc))) none_found

-- the number of its children
abbrev pub kids_from : (doc : List ℕ) (i : ℕ) → ℕ
kids_from doc i = length (kids zero (drop (i + 1) (toks doc)))

-- what is seen of an element tells its fault; where it has none, its n children
abbrev pub Told : (answer : Answer) (n : ℕ) → Result ℕ Fault → Type 0
Told answer n (Ok children) = ((0, 0) ≡ answer) × (children ≡ n)
Told answer n (Err f) = (number_of f.refusal, f.place) ≡ answer

pub told_as : {a b : Answer} {m n : ℕ} → a ≡ b → m ≡ n → (r : Result ℕ Fault) → Told a m r → Told b n r
told_as ea em (Ok children) t = (t.0 ∙ ea, t.1 ∙ em)
told_as ea em (Err f) t = t ∙ ea

module _ (table : List ℕ) (e : ℕ) (doc : List ℕ) (i : ℕ) where
  pub fault_name : get_or table 0 0 ≤ e → (7, i) ≡ fault_from table e doc i
  unfolding element_fault
  fault_name h = rw (le-ltb e (get_or table 0 0) h)

  module _ (h : e < get_or table 0 0) where
    pub fault_attributes : false ≡ attributes_good (of_table table) e (heads (drop (i + 1) (toks doc))) → (8, i) ≡ fault_from table e doc i
    unfolding element_fault
    fault_attributes b = rw (lt-ltb e (get_or table 0 0) h, ← b)

    module _ {after : ℕ} (j : (true ≡ attributes_good (of_table table) e (heads (drop (i + 1) (toks doc)))) × Behind doc (i + 1) after) where
      -- behind the attributes stand the children of the element
      content_is : content_stop (of_table table) e after (drop after (toks doc)) ≡ content_stop (of_table table) e (i + 1) (drop (i + 1) (toks doc))
      content_is =
          let R = of_table table in
          let d = toks doc in
          let k = kids zero (drop (i + 1) d) in
          ap (λ k. stopped (content_good R e k) (after + child_at (stop_after (content_begun R e) k) zero (drop after d))) j.1.same
          ∙ ap (stopped (content_good R e k)) (j.1.places (stop_after (content_begun R e) k))

      walked_is : walked (content_stop (of_table table) e after (drop after (toks doc))) (drop after (toks doc))
          ≡ walked (content_stop (of_table table) e (i + 1) (drop (i + 1) (toks doc))) (drop (i + 1) (toks doc))
      walked_is = ap (λ o. walked o (drop after (toks doc))) content_is ∙ same_kids (content_stop (of_table table) e (i + 1) (drop (i + 1) (toks doc)))
        where
          same_kids : (o : Option ℕ) → walked o (drop after (toks doc)) ≡ walked o (drop (i + 1) (toks doc))
          same_kids none = ap (λ k. Ok (length k)) j.1.same
          same_kids (some place) = refl

      by_content : (c : Bool) → content_good (of_table table) e (kids zero (drop (i + 1) (toks doc))) ≡ c → number_from table e doc (i + 1) ≡ cond c 0 9
      unfolding element_fault
      by_content c ec = rw (lt-ltb e (get_or table 0 0) h, ← j.0, ec)

      pub fault_none : {children : ℕ} → Ok children ≡ walked (content_stop (of_table table) e after (drop after (toks doc))) (drop after (toks doc))
          → ((0, 0) ≡ fault_from table e doc i) × (children ≡ kids_from doc i)
      fault_none n =
          let (good, children_are) = walked_ok _ _ (drop (i + 1) (toks doc)) (n ∙ walked_is) in
          (rw (by_content true good), children_are)

      pub fault_content : {place : ℕ} → Err place ≡ walked (content_stop (of_table table) e after (drop after (toks doc))) (drop after (toks doc))
          → (9, place) ≡ fault_from table e doc i
      fault_content {place} n =
          let (c, p) = walked_err _ _ (drop (i + 1) (toks doc)) (n ∙ walked_is) in
          rw (by_content false c) (ap (λ x. (9, x)) (p ∙ rw add-one))

-- the number for the element that starts at place i
abbrev pub number_at : (table doc : List ℕ) (i : ℕ) → ℕ
number_at table doc i = fault_at (element_fault (of_table table)) (drop i (toks doc))

-- with its place; 0 at 0 for no fault
abbrev pub fault_of : (table doc : List ℕ) (i : ℕ) → Answer
fault_of table doc i =
    let number : ℕ = number_at table doc i in
    or_else number (place_of (of_table table) number i (drop i (toks doc))) none_found

-- the children of the element that begins d; 0 where none does
abbrev pub kids_at : List Tok → ℕ
kids_at [] = 0
kids_at (t ∷ d) = cond (starts t) (length (kids zero d)) 0

abbrev pub kids_of : (doc : List ℕ) (i : ℕ) → ℕ
kids_of doc i = kids_at (drop i (toks doc))

module _ (table doc : List ℕ) (i : ℕ) where
  abbrev of : List Tok → Answer
  of d = let number : ℕ = fault_at (element_fault (of_table table)) d in or_else number (place_of (of_table table) number i d) none_found

  pub fault_past : length doc ≤ i → ((0, 0) ≡ fault_of table doc i) × (0 ≡ kids_of doc i)
  fault_past h =
      let z : drop i (toks doc) ≡ [] = rest_past doc i h in
      (sym (ap of z), sym (ap kids_at z))

  module _ (h : i < length doc) {y : Bool} (ey : y ≡ starts (tok_of (get_or doc i 0))) where
    next : drop i (toks doc) ≡ tok_of (get_or doc i 0) ∷ drop (suc i) (toks doc)
    next = rest_at doc i h

    pub fault_start : {e : ℕ} → not y ≡ false → e ≡ get_or doc i 0 / 8 → (r : Result ℕ Fault) → Told (fault_from table e doc i) (kids_from doc i) r
        → Told (fault_of table doc i) (kids_of doc i) r
    fault_start {e} n ee =
        let is : drop i (toks doc) ≡ Start e ∷ drop (suc i) (toks doc)
        = next ∙ ap (λ x. x ∷ drop (suc i) (toks doc)) ((start_iff (get_or doc i 0)).0 (sym ey ∙ not-false y n) ∙ ap Start (sym ee)) in
        told_as (ap (λ k. or_else (element_fault (of_table table) e (heads (drop k (toks doc))) (kids zero (drop k (toks doc)))) (place_of (of_table table) (element_fault (of_table table) e (heads (drop k (toks doc))) (kids zero (drop k (toks doc)))) i (Start e ∷ drop k (toks doc))) none_found) (add-one i) ∙ sym (ap of is))
        (ap (λ k. length (kids zero (drop k (toks doc)))) (add-one i) ∙ sym (ap kids_at is))

    none_starts : (x : Tok) → starts x ≡ false → (of (x ∷ drop (suc i) (toks doc)) ≡ (0, 0)) × (kids_at (x ∷ drop (suc i) (toks doc)) ≡ 0)
    none_starts (Start n) s = clash refl s
    none_starts End s = (refl, refl)
    none_starts (Text n) s = (refl, refl)
    none_starts (Attr n) s = (refl, refl)
    none_starts (Value n) s = (refl, refl)
    none_starts Bad s = (refl, refl)

    pub fault_other : not y ≡ true → ((0, 0) ≡ fault_of table doc i) × (0 ≡ kids_of doc i)
    fault_other n =
        let z = none_starts (tok_of (get_or doc i 0)) (sym ey ∙ not-true y n) in
        (sym (ap of next ∙ z.0), sym (ap kids_at next ∙ z.1))

-- ---- the first fault

-- the places from `low` up to `high`, that one not included
abbrev pub span : ℕ → ℕ → ℕ → Bool
span low high i = leb low i && ltb i high

module _ (fault : ℕ → List Tok → List Tok → ℕ) (given : ℕ → ℕ → List Tok → ℕ) (judged : ℕ → Bool) where
  -- places that are not judged are passed over
  first_skip : (n i : ℕ) (d : List Tok) → ((j : ℕ) → j < n → judged (i + j) ≡ false) → first fault given judged i d ≡ first fault given judged (i + n) (drop n d)
  first_skip zero i d f = rw add-zero
  first_skip (suc n) i [] f = refl
  first_skip (suc n) i (x ∷ d) f =
      rw (rw add-zero at (f zero (omega arith)), add-suc i n, ← suc-add i n)
      (first_skip n (suc i) d (λ j h. rw suc-add (rw add-suc at (f (suc j) (omega arith)))))

  pub first_none : (i : ℕ) (d : List Tok) → ((j : ℕ) → judged (i + j) ≡ false) → first fault given judged i d ≡ none_found
  first_none i [] f = refl
  first_none i (x ∷ d) f = rw (rw add-zero at (f zero)) (first_none (suc i) d (λ j. rw suc-add (rw add-suc at (f (suc j)))))

  -- it depends on no other places than those of the document
  pub first_same : (other : ℕ → Bool) (i : ℕ) (d : List Tok) → ((j : ℕ) → j < length d → judged (i + j) ≡ other (i + j))
      → first fault given judged i d ≡ first fault given other i d
  first_same other i [] f = refl
  first_same other i (x ∷ d) f =
      rw (
        rw add-zero at (f zero (omega arith)),
        first_same other (suc i) d (λ j h. rw suc-add (rw add-suc at (f (suc j) (omega arith)))),
      )

-- a fault comes before what follows it
pub found : (k i : ℕ) (r : Answer) → (k ≡ 0 → ⊥) → (k, i) ≡ or_else k i r
found zero i r f = absurd (f refl)
found (suc k) i r f = refl

-- one that was looked for by itself
pub found_first : (k i : ℕ) (r : Answer) {a : Answer} → a ≡ or_else k i none_found → (a.0 ≡ 0 → ⊥) → a ≡ or_else k i r
found_first zero i r e f = absurd (f (ap (λ (x : Answer). x.0) e))
found_first (suc k) i r e f = e

pub found_none : (k i : ℕ) {a : Answer} → a ≡ or_else k i none_found → a.0 ≡ 0 → k ≡ 0
found_none zero i e z = refl
found_none (suc k) i e z = sym (ap (λ (x : Answer). x.0) e) ∙ z

-- among the elements that start in a span of places
abbrev pub first_in : (table doc : List ℕ) (low high : ℕ) → Answer
first_in table doc low high = first (element_fault (of_table table)) (place_of (of_table table)) (span low high) 0 (toks doc)

-- the whole document is one span
pub first_whole : (table doc : List ℕ)
    → first_in table doc 0 (length doc) ≡ first (element_fault (of_table table)) (place_of (of_table table)) whole 0 (toks doc)
first_whole table doc = first_same (element_fault (of_table table)) (place_of (of_table table)) (span 0 (length doc)) whole 0 (toks doc)
    (λ j h. rw (zero-add, le-leb 0 j (omega arith), lt-ltb j (length doc) (omega (arith, length-map doc tok_of))))

-- no element that starts before place i has a fault
pub record Looking (table doc : List ℕ) (low high i : ℕ) : Type 0 where
  pub from : low ≤ i
  pub left : first_in table doc low high ≡ first (element_fault (of_table table)) (place_of (of_table table)) (span low high) i (drop i (toks doc))

module _ (table doc : List ℕ) (low high : ℕ) where
  pub looking_begin : Looking table doc low high low
  looking_begin = record {
    from = omega arith;
    left = rw zero-add at (first_skip (element_fault (of_table table)) (place_of (of_table table)) (span low high) low 0 (toks doc) (λ j h. rw (zero-add, lt-leb low j h)));
  }

  module _ {i : ℕ} (c : Looking table doc low high i) where
    pub looking_none : high ≤ i → (0, 0) ≡ first_in table doc low high
    looking_none h = sym (c.left ∙ first_none (element_fault (of_table table)) (place_of (of_table table)) (span low high) i (drop i (toks doc))
        (λ j. rw (le-leb low (i + j) (let z = c.from in omega arith), le-ltb (i + j) high (omega arith))))

    module _ {a : Answer} (h : i < high) (g : high ≤ length doc) (ea : a ≡ fault_of table doc i) where
      abbrev number : ℕ
      number = number_at table doc i

      abbrev place : ℕ
      place = place_of (of_table table) number i (drop i (toks doc))

      abbrev later : Answer
      later = first (element_fault (of_table table)) (place_of (of_table table)) (span low high) (suc i) (drop (suc i) (toks doc))

      here : first_in table doc low high ≡ or_else number place later
      here =
          c.left
          ∙ ap (first (element_fault (of_table table)) (place_of (of_table table)) (span low high) i) (rest_at doc i (omega arith))
          ∙ ap (λ b. or_else (cond b (fault_at (element_fault (of_table table)) rest) 0) (place_of (of_table table) (fault_at (element_fault (of_table table)) rest) i rest) later) judged
          ∙ ap (λ d. or_else (fault_at (element_fault (of_table table)) d) (place_of (of_table table) (fault_at (element_fault (of_table table)) d) i d) later)
          (sym (rest_at doc i (omega arith)))
        where
          rest : List Tok
          rest = tok_of (get_or doc i 0) ∷ drop (suc i) (toks doc)

          judged : span low high i ≡ true
          judged = rw (le-leb low i c.from, lt-ltb i high h)

      on : a.0 ≡ 0 → Looking table doc low high (i + 1)
      on z = record { from = let y = c.from in omega arith; left = rw add-one (here ∙ ap (λ k. or_else k place later) (found_none number place ea z)) }

      first_is : (a.0 ≡ 0 → ⊥) → a ≡ first_in table doc low high
      first_is f = found_first number place later ea f ∙ sym here

    -- no element starts at the place
    pub looking_other : {y : Bool} → i < high → high ≤ length doc → y ≡ starts (tok_of (get_or doc i 0)) → not y ≡ true → Looking table doc low high (i + 1)
    looking_other h g ey n = on h g (fault_other table doc i (omega arith) ey n).0 refl

    pub looking_on : i < high → high ≤ length doc → (0, 0) ≡ fault_of table doc i → Looking table doc low high (i + 1)
    looking_on h g e = on h g e refl

    pub looking_found : i < high → high ≤ length doc → (f : Fault) → (number_of f.refusal, f.place) ≡ fault_of table doc i
        → (number_of f.refusal, f.place) ≡ first_in table doc low high
    looking_found h g f e = first_is h g e (refused f.refusal)
