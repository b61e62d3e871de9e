-- The pass over the attributes and values of one element. Assumes nothing.
use Rattle.std.specs.Prelude.{◌≡◌, Result, Ok, Err, IsErrAnd, cond, ◌&&◌, ◌||◌, List, [], ◌∷◌, ℕ, zero, suc, ◌+◌, ◌/◌, ◌^◌, ◌≤◌, ◌<◌, leb, eqb, length, drop, get_or}
use Rattle.std.proofs.Math.Path.{refl, ap}
use Rattle.std.proofs.Common.{sym, ap₂, ◌∙◌, add-one, arith, le-leb, eq-eqb, ne_eqb}
use Rattle.std.proofs.Math.Bool.{Bool, true, false, not, and-true, and-false, and_assoc, or-false, or_assoc}
use Rattle.std.proofs.lemmas.Bool.{not-true, not-false}
use Rattle.std.proofs.Math.Dec.{eqb-suc-zero, eqb-suc-suc}
use Rattle.std.specs.Int.Bits.{bit_or}
use Rattle.paper.specs.declared.Tok.{Tok}
use Rattle.paper.specs.declared.Tok.TheVariants.{Start, End, Text, Attr, Value, Bad}
use Rattle.paper.specs.Basics.{every}
use Rattle.paper.specs.Sets.{bit}
use Rattle.paper.specs.Tokens.{tok_of, toks, heads, kids, child_at, values}
use Rattle.paper.specs.Table.{fixed_at, block, cell, allowed_at, required_at, idrefs_at, within}
use Rattle.paper.specs.Rules.{Rules, of_table}
use Rattle.paper.specs.Judgement.{present, each_attr, attributes_good}
use Rattle.basic_laws.specs.Bools.{clash}
use Rattle.basic_laws.specs.Numbers.{eqb_sym}
use Rattle.paper_laws.specs.Words.{bit_of_or, bit_one, bit_zero, bit_past}
use Rattle.shape_laws.specs.Ends.{rest_at, rest_past}
use Rattle.tokens.specs.Sorts.{attr_tok, value_tok}
use Rattle.tokens.specs.Theorems.{attr_iff, value_iff}
use Rattle.fixed_values.specs.Kept.{fixed_kept, kept_none}
use Rattle.attributes.specs.declared.Met.{Met}

-- ---- the steps, as the code takes them

-- a fault was met
abbrev pub faulty : Met → Met
faulty m = record { set = m.set; takes = 2; good = false }

abbrev pub attribute_of : (allowed idrefs : ℕ) → Met → ℕ → Met
attribute_of allowed idrefs m a =
    cond (bit allowed a)
    (record { set = bit_or m.set (2 ^ a); takes = cond (bit idrefs a) 2 1; good = m.good && not (eqb m.takes 1) })
    (faulty m)

abbrev pub value_of : Met → Met
value_of m = record { set = m.set; takes = cond (eqb m.takes 1) 0 m.takes; good = m.good && not (eqb m.takes 0) }

abbrev pub finish : (required : ℕ) → Met → Bool
finish required m = m.good && not (eqb m.takes 1) && within required m.set

abbrev pub finished : (required : ℕ) → Met → (place : ℕ) → Result ℕ ℕ
finished required m place = cond (finish required m) (Ok place) (Err place)

-- ---- what the steps answer

module _ (allowed idrefs : ℕ) (m : Met) (a : ℕ) where
  pub attribute_past : allowed < 2 ^ 64 → 64 ≤ a → faulty m ≡ attribute_of allowed idrefs m a
  attribute_past h l = rw (bit_past 64 allowed a h l)

  module _ {y : Bool} (ey : y ≡ bit allowed a) where
    pub attribute_refused : not y ≡ true → faulty m ≡ attribute_of allowed idrefs m a
    attribute_refused h = rw (← ey, not-true y h)

    module _ (h : not y ≡ false) {set : ℕ} (es : set ≡ bit_or m.set (2 ^ a)) {z : Bool} (ez : z ≡ bit idrefs a) where
      pub attribute_many : z ≡ true → record { set = set; takes = 2; good = m.good && not (eqb m.takes 1) } ≡ attribute_of allowed idrefs m a
      attribute_many e = rw (← ey, not-false y h, ← ez, e, es)

      pub attribute_one : z ≡ false → record { set = set; takes = 1; good = m.good && not (eqb m.takes 1) } ≡ attribute_of allowed idrefs m a
      attribute_one e = rw (← ey, not-false y h, ← ez, e, es)

module _ (m : Met) where
  pub value_last : m.takes ≡ 1 → record { set = m.set; takes = 0; good = m.good && not (eqb m.takes 0) } ≡ value_of m
  value_last e = rw (eq-eqb m.takes 1 e)

  pub value_other : (m.takes ≡ 1 → ⊥) → record { set = m.set; takes = m.takes; good = m.good && not (eqb m.takes 0) } ≡ value_of m
  value_other f = rw (ne_eqb m.takes 1 f)

  module _ (required place : ℕ) {y : Bool} (ey : y ≡ within required m.set) where
    pub finished_ok : (m.good && not (eqb m.takes 1) && y) ≡ true → Ok place ≡ finished required m place
    finished_ok e = sym (ap (λ b. cond b (Ok place) (Err place)) (ap (λ w. m.good && not (eqb m.takes 1) && w) (sym ey) ∙ e))

    pub finished_err : (m.good && not (eqb m.takes 1) && y) ≡ false → Err place ≡ finished required m place
    finished_err e = sym (ap (λ b. cond b (Ok place) (Err place)) (ap (λ w. m.good && not (eqb m.takes 1) && w) (sym ey) ∙ e))

-- "each one allowed, all required present, one value each unless IDREFS"
unfoldable pub listed_good : Rules → ℕ → List Tok → Bool
listed_good R e h =
    each_attr (λ a r. R.allowed e a) h
    && every (λ a. not (R.required e a) || present a h) 64
    && each_attr (λ a r. R.idrefs e a || eqb (values r) 1) h

-- a place behind the attributes, where the same children stand at the same places
pub record Behind (doc : List ℕ) (at after : ℕ) : Type 0 where
  pub within : after ≤ length doc
  pub same : kids zero (drop after (toks doc)) ≡ kids zero (drop at (toks doc))
  pub places : (j : ℕ) → after + child_at j zero (drop after (toks doc)) ≡ at + child_at j zero (drop at (toks doc))

-- the answer of the pass: that place, and whether the attributes are good so far
abbrev pub Listed : (table : List ℕ) (e : ℕ) (doc : List ℕ) (at : ℕ) → Result ℕ ℕ → Type 0
Listed table e doc at (Ok after) = (true ≡ listed_good (of_table table) e (heads (drop at (toks doc)))) × Behind doc at after
Listed table e doc at (Err after) = (false ≡ listed_good (of_table table) e (heads (drop at (toks doc)))) × Behind doc at after

-- the whole answer
abbrev pub Judged : (table : List ℕ) (e : ℕ) (doc : List ℕ) (at : ℕ) → Result ℕ ℕ → Type 0
Judged table e doc at (Ok after) = (true ≡ attributes_good (of_table table) e (heads (drop at (toks doc)))) × Behind doc at after
Judged table e doc at (Err after) = (false ≡ attributes_good (of_table table) e (heads (drop at (toks doc)))) × Behind doc at after

-- both tests are those of the judgement
good_parts : (table : List ℕ) (e : ℕ) (h : List Tok) → attributes_good (of_table table) e h ≡ listed_good (of_table table) e h && fixed_kept table e h
unfolding attributes_good listed_good fixed_kept
good_parts table e h = refl

module _ (table : List ℕ) (e : ℕ) (doc : List ℕ) (at : ℕ) where
  abbrev h : List Tok
  h = heads (drop at (toks doc))

  pub not_listed : false ≡ listed_good (of_table table) e h → false ≡ attributes_good (of_table table) e h
  not_listed n = sym (good_parts table e h ∙ ap (λ b. b && fixed_kept table e h) (sym n))

  -- the pass's Err is handed on
  pub not_judged : {after : ℕ} → (false ≡ listed_good (of_table table) e h) × Behind doc at after → (r : Result ℕ ℕ) → IsErrAnd r (λ x. x ≡ after) → Judged table e doc at r
  not_judged c (Ok x) i = absurd i
  not_judged c (Err x) i = rw i (not_listed c.0, c.1)

  module _ {after : ℕ} (c : (true ≡ listed_good (of_table table) e h) × Behind doc at after) where
    with_fixed : {k : Bool} → k ≡ fixed_kept table e h → k ≡ attributes_good (of_table table) e h
    with_fixed {k} q = sym (good_parts table e h ∙ ap₂ (λ a b. a && b) (sym c.0) (sym q))

    pub none_fixed : get_or table fixed_at 0 ≡ 0 → Judged table e doc at (Ok after)
    none_fixed z = (with_fixed (sym (kept_none table e z h)), c.1)

    pub fixed_all : {k : Bool} → k ≡ fixed_kept table e h → k ≡ true → Judged table e doc at (Ok after)
    fixed_all {k} q n = (sym n ∙ with_fixed q, c.1)

    pub fixed_not : {k : Bool} → k ≡ fixed_kept table e h → k ≡ false → Judged table e doc at (Err after)
    fixed_not {k} q n = (sym n ∙ with_fixed q, c.1)

-- ---- what is left to show, of the heads h behind what was passed

-- the values that begin h are as many as the last attribute still takes, and those of each attribute in h as they must be
abbrev pub counted : (idrefs takes : ℕ) → List Tok → Bool
counted idrefs takes h = (leb 2 takes || eqb (values h) takes) && each_attr (λ a r. bit idrefs a || eqb (values r) 1) h

-- all went well so far, each attribute in h is allowed, each that is required was met or is in h, and the values are as many as they must be
unfoldable pub shows : (required allowed idrefs : ℕ) → Met → List Tok → Bool
shows required allowed idrefs m h =
    m.good
    && (each_attr (λ a r. bit allowed a) h
    && (every (λ a. not (bit required a) || (bit m.set a || present a h)) 64
    && counted idrefs m.takes h))

-- ---- laws of tests

every_same : (S P : ℕ → Bool) (n : ℕ) → ((k : ℕ) → S k ≡ P k) → every S n ≡ every P n
every_same S P zero f = refl
every_same S P (suc n) f = rw (f n, every_same S P n f)

-- the fourth test goes to the first
to_front : (g a v n c : Bool) → g && (a && (v && (n && c))) ≡ (g && n) && (a && (v && c))
to_front true true true n c = refl
to_front true true false true c = refl
to_front true true false false c = refl
to_front true false v true c = refl
to_front true false v false c = refl
to_front false a v n c = refl

-- ---- the turns

none_due : (takes : ℕ) → leb 2 takes || eqb 0 takes ≡ not (eqb takes 1)
none_due zero = refl
none_due (suc zero) = refl
none_due (suc (suc k)) = rw (le-leb 2 (suc (suc k)) (omega arith), ne_eqb (suc (suc k)) 1 (λ e. omega arith))

new_due : (many : Bool) (n : ℕ) → leb 2 (cond many 2 1) || eqb n (cond many 2 1) ≡ many || eqb n 1
new_due true n = refl
new_due false n = refl

one_due : (takes n : ℕ)
    → leb 2 takes || eqb (suc n) takes ≡ not (eqb takes 0) && (leb 2 (cond (eqb takes 1) 0 takes) || eqb n (cond (eqb takes 1) 0 takes))
one_due zero n = eqb-suc-zero n
one_due (suc zero) n = eqb-suc-suc n 0
one_due (suc (suc k)) n =
    rw (ne_eqb (suc (suc k)) 0 (λ e. omega arith), ne_eqb (suc (suc k)) 1 (λ e. omega arith), le-leb 2 (suc (suc k)) (omega arith))

module _ (required allowed idrefs : ℕ) (m : Met) where
  -- an attribute that was met is one less to come
  met_more : (a : ℕ) (h : List Tok)
      → every (λ k. not (bit required k) || (bit m.set k || present k (Attr a ∷ h))) 64
      ≡ every (λ k. not (bit required k) || (bit (bit_or m.set (2 ^ a)) k || present k h)) 64
  met_more a h = every_same _ _ 64 (λ k. ap (λ b. not (bit required k) || b) (more k))
    where
      more : (k : ℕ) → bit m.set k || (eqb a k || present k h) ≡ bit (bit_or m.set (2 ^ a)) k || present k h
      more k = sym (or_assoc (bit m.set k) (eqb a k) (present k h))
          ∙ ap (λ b. b || present k h) (ap (λ b. bit m.set k || b) (eqb_sym a k ∙ sym (bit_one a k)) ∙ sym (bit_of_or m.set (2 ^ a) k))

  shows_attribute : (a : ℕ) (h : List Tok) → shows required allowed idrefs m (Attr a ∷ h) ≡ shows required allowed idrefs (attribute_of allowed idrefs m a) h
  unfolding shows
  shows_attribute a h = go (bit allowed a) refl
    where
      met : Bool
      met = every (λ k. not (bit required k) || (bit (bit_or m.set (2 ^ a)) k || present k h)) 64

      go : (b : Bool) → bit allowed a ≡ b → shows required allowed idrefs m (Attr a ∷ h) ≡ shows required allowed idrefs (attribute_of allowed idrefs m a) h
      go true e = rw (e, met_more a h, none_due m.takes, new_due (bit idrefs a) (values h))
          (to_front m.good (each_attr (λ a r. bit allowed a) h) met (not (eqb m.takes 1))
          ((bit idrefs a || eqb (values h) 1) && each_attr (λ a r. bit idrefs a || eqb (values r) 1) h))
      go false e = rw e (and-false m.good)

  shows_value : (v : ℕ) (h : List Tok) → shows required allowed idrefs m (Value v ∷ h) ≡ shows required allowed idrefs (value_of m) h
  unfolding shows
  shows_value v h = rw (one_due m.takes (values h), and_assoc (not (eqb m.takes 0)))
      (to_front m.good (each_attr (λ a r. bit allowed a) h) (every (λ a. not (bit required a) || (bit m.set a || present a h)) 64)
      (not (eqb m.takes 0)) (counted idrefs (cond (eqb m.takes 1) 0 m.takes) h))

  shows_end : finish required m ≡ shows required allowed idrefs m []
  unfolding shows
  shows_end =
      rw (none_due m.takes, and-true (not (eqb m.takes 1)))
      (swap m.good (not (eqb m.takes 1)) (within required m.set)
      ∙ ap (λ v. m.good && (v && not (eqb m.takes 1)))
      (every_same _ _ 64 (λ k. ap (λ b. not (bit required k) || b) (sym (or-false (bit m.set k))))))
    where
      swap : (g n v : Bool) → (g && n) && v ≡ g && (v && n)
      swap true true true = refl
      swap true true false = refl
      swap true false true = refl
      swap true false false = refl
      swap false n v = refl

abbrev pub begins : Met
begins = record { set = 0; takes = 2; good = true }

shows_begin : (table : List ℕ) (e : ℕ) (h : List Tok) → listed_good (of_table table) e h
    ≡ shows (cell (block table e) required_at) (cell (block table e) allowed_at) (cell (block table e) idrefs_at) begins h
unfolding listed_good shows
shows_begin table e h =
    and_assoc (each_attr (λ a r. bit (cell (block table e) allowed_at) a) h) _ _
    ∙ ap (λ v. each_attr (λ a r. bit (cell (block table e) allowed_at) a) h && (v && counted (cell (block table e) idrefs_at) 2 h))
    (every_same _ _ 64 (λ k. ap (λ b. not (bit (cell (block table e) required_at) k) || (b || present k h)) (sym (bit_zero k))))

-- ---- the loop

-- up to place i: what the attributes from place `at` on must show is what those from place i on must
pub record Passing (table : List ℕ) (e : ℕ) (doc : List ℕ) (at required allowed idrefs : ℕ) (m : Met) (i : ℕ) : Type 0 where
  pub behind : Behind doc at i
  pub left : listed_good (of_table table) e (heads (drop at (toks doc))) ≡ shows required allowed idrefs m (heads (drop i (toks doc)))

module _ (table : List ℕ) (e : ℕ) (doc : List ℕ) (at : ℕ) where
  abbrev d : List Tok
  d = toks doc

  pub passing_begin : {required allowed idrefs : ℕ} → at ≤ length doc → required ≡ cell (block table e) required_at → allowed ≡ cell (block table e) allowed_at
      → idrefs ≡ cell (block table e) idrefs_at → Passing table e doc at required allowed idrefs begins at
  passing_begin h r a i = record { behind = record { within = h; same = refl; places = λ j. refl }; left = rw (r, a, i) (shows_begin table e (heads (drop at d))) }

  module _ {required allowed idrefs : ℕ} {m : Met} {i : ℕ} (c : Passing table e doc at required allowed idrefs m i) where
    module _ (h : i < length doc) where
      next : {x : Tok} → tok_of (get_or doc i 0) ≡ x → drop i d ≡ x ∷ drop (suc i) d
      next e = rest_at doc i h ∙ ap (λ x. x ∷ drop (suc i) d) e

      pub passing_attribute : {a : ℕ} {y : Bool} {n : Met} → y ≡ attr_tok (tok_of (get_or doc i 0)) → y ≡ true → a ≡ get_or doc i 0 / 8
          → n ≡ attribute_of allowed idrefs m a → Passing table e doc at required allowed idrefs n (i + 1)
      passing_attribute {a = a} ey t ea en =
          let q : drop i d ≡ Attr a ∷ drop (suc i) d = next ((attr_iff (get_or doc i 0)).0 (sym ey ∙ t) ∙ ap Attr (sym ea)) in
          rw en (record {
            behind = record {
              within = omega arith;
              same = rw add-one (rw q at c.behind.same);
              places = λ j. let p = rw q at (c.behind.places j) in rw add-one (omega arith);
            };
            left = rw add-one (rw (q, shows_attribute _ _ _ m a (heads (drop (suc i) d))) at c.left);
          })

      pub passing_value : {y : Bool} {n : Met} → y ≡ value_tok (tok_of (get_or doc i 0)) → y ≡ true → n ≡ value_of m
          → Passing table e doc at required allowed idrefs n (i + 1)
      passing_value ey t en =
          let q : drop i d ≡ Value (get_or doc i 0 / 8) ∷ drop (suc i) d = next ((value_iff (get_or doc i 0)).0 (sym ey ∙ t)) in
          rw en (record {
            behind = record {
              within = omega arith;
              same = rw add-one (rw q at c.behind.same);
              places = λ j. let p = rw q at (c.behind.places j) in rw add-one (omega arith);
            };
            left = rw add-one (rw (q, shows_value _ _ _ m (get_or doc i 0 / 8) (heads (drop (suc i) d))) at c.left);
          })

    ended : {r : Result ℕ ℕ} → heads (drop i d) ≡ [] → r ≡ finished required m i → Listed table e doc at r
    ended {r} z er = rw er (go (finish required m) (shows_end _ _ _ m ∙ sym (rw z at c.left)))
      where
        go : (b : Bool) → b ≡ listed_good (of_table table) e (heads (drop at d)) → Listed table e doc at (cond b (Ok i) (Err i))
        go true g = (g, c.behind)
        go false g = (g, c.behind)

    pub passing_other : {x y : Bool} {r : Result ℕ ℕ} → i < length doc → x ≡ attr_tok (tok_of (get_or doc i 0)) → x ≡ false
        → y ≡ value_tok (tok_of (get_or doc i 0)) → y ≡ false → r ≡ finished required m i → Listed table e doc at r
    passing_other h ex f ey g er = ended (rw (rest_at doc i h) (no_head (tok_of (get_or doc i 0)) (sym ex ∙ f) (sym ey ∙ g))) er
      where
        no_head : (t : Tok) → attr_tok t ≡ false → value_tok t ≡ false → heads (t ∷ drop (suc i) d) ≡ []
        no_head (Attr a) f g = clash refl f
        no_head (Value v) f g = clash refl g
        no_head (Start n) f g = refl
        no_head End f g = refl
        no_head (Text n) f g = refl
        no_head Bad f g = refl

    pub passing_out : {r : Result ℕ ℕ} → length doc ≤ i → r ≡ finished required m (length doc) → Listed table e doc at r
    passing_out h er = let z : length doc ≡ i = omega (arith, c.behind.within) in ended (rw (rest_past doc i h)) (er ∙ ap (finished required m) z)
