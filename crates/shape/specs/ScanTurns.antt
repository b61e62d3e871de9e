-- The scan's turns: the numbers it keeps tell the phase and the level, and what is left of the tokens decides. Assumes nothing.
use Rattle.std.specs.Prelude.{◌≡◌, refl, Bool, false, not, ◌&&◌, List, [], ◌∷◌, leb, ltb, eqb, length, drop}
use Rattle.std.proofs.Math.Path.{sym}
use Rattle.std.proofs.Common.{ap, ◌∙◌, add-one, arith}
use Rattle.std.proofs.Math.Bool.{true, and-eq-true_iff}
use Prim.Native.Nat.{ℕ, zero, suc, ◌+◌, ◌-◌, ◌*◌, ◌/◌, ◌%◌, ◌≤◌, ◌<◌}
use borrow.Author.Tests.{le-leb, leb-true, leb-false, ltb-true, not-true, not-false}
use Rattle.std.proofs.Math.ListN.{get_or}
use Rattle.paper.specs.declared.Tok.{Tok}
use Rattle.paper.specs.Basics.{most_deep, most_number}
use Rattle.paper.specs.Tokens.{tok_of, toks, starts}
use Rattle.paper.specs.Shape.{Phase, Head, Fail, phase_of, is_element}
use Rattle.shape_laws.specs.Ends.{rest_at, rest_past}
use Rattle.tokens.specs.Sorts.{token}
use Rattle.tokens.specs.Theorems.{start_iff}
use Rattle.scan.specs.declared.Scan.{Scan}
use Rattle.scan.specs.Scan.{follow, numbers, rise, is_attribute, is_value, holds, stands, passed}
use Rattle.shape_laws.specs.Phases.{bad_fails}
use Rattle.scan.specs.PhaseTurns.{next_of, least_of, Told, reads, no_token, level_tok, leads, stays_small}
use Rattle.scan.proofs.PhaseTurns.{turn}
use Rattle.shape.specs.Left.{rest, rest_turn, rest_deep, rest_fails, rest_end, element, element_rest, no_element}

-- ---- a turn that stands, and one that does not

module _ (p : Phase) (sort n : ℕ) (h : sort < 8) where
  abbrev may : Bool
  may = ltb n (numbers sort) && (holds (next_of p) sort && leb (least_of p * is_attribute sort) n)

  may_not : may ≡ false → phase_of p (token sort n) ≡ Fail
  may_not e = go (ltb n (numbers sort)) refl
    where
      go : (b : Bool) → ltb n (numbers sort) ≡ b → phase_of p (token sort n) ≡ Fail
      go true f = rw (rw f at e) at (turn p sort n h f)
      go false f = rw (no_token n sort h f) (bad_fails p)

  module _ (e : may ≡ true) where
    has_number : ltb n (numbers sort) ≡ true
    has_number = ((and-eq-true_iff (ltb n (numbers sort)) (holds (next_of p) sort && leb (least_of p * is_attribute sort) n)).0 e).0

    may_stand : Told true (phase_of p (token sort n)) (follow sort) (least_of p * is_value sort + (n + 1) * is_attribute sort)
    may_stand = rw (rw has_number at e) at (turn p sort n h has_number)

    no_fail : phase_of p (token sort n) ≡ Fail → ⊥
    no_fail f = leads n sort h (ltb-true n (numbers sort) has_number) (may_stand.0 ∙ ap next_of f)

    rest_passed : (level : ℕ) (r : List Tok) → 1 ≤ level → level ≤ most_deep
        → rest p level (token sort n ∷ r) ≡ rest (phase_of p (token sort n)) (level + rise sort - 1) r
    rest_passed zero r a b = absurd (omega arith)
    rest_passed (suc k) r a b =
        rest_turn p k (token sort n) r b no_fail
        ∙ ap (λ (l : ℕ). rest (phase_of p (token sort n)) l r) (rw (reads n sort h has_number).0 at (level_tok k (token sort n)))

  rest_stopped : (level : ℕ) (r : List Tok) → leb 1 level && (leb level most_deep && may) ≡ false → rest p level (token sort n ∷ r) ≡ false
  rest_stopped zero r e = refl
  rest_stopped (suc k) r e = go (leb (suc k) most_deep) refl
    where
      go : (b : Bool) → leb (suc k) most_deep ≡ b → rest p (suc k) (token sort n ∷ r) ≡ false
      go true f = rest_fails p (suc k) (token sort n) r (may_not (rw (le-leb 1 (suc k) (omega arith), f) at e))
      go false f = rest_deep p (suc k) (token sort n ∷ r) (leb-false (suc k) most_deep f)

-- ---- the loop

-- before place i: a phase that the scan's numbers tell, and in it what is left decides
pub record Scanning (doc : List ℕ) (i : ℕ) (s : Scan) : Type 0 where
  pub place : i ≤ length doc
  pub phase : Phase
  pub next : s.next ≡ next_of phase
  pub least : s.least ≡ least_of phase
  pub small : s.least ≤ most_number + 1
  pub left : element (toks doc) ≡ rest phase s.level (drop i (toks doc))

pub scan_none : (doc : List ℕ) → length doc ≡ 0 → false ≡ element (toks doc)
unfolding is_element
scan_none [] e = refl
scan_none (x ∷ doc) e = absurd (omega arith)

module _ (doc : List ℕ) (a : length doc ≡ 0 → ⊥) {y : Bool} (ey : y ≡ starts (tok_of (get_or doc 0 0))) where
  whole : toks doc ≡ tok_of (get_or doc 0 0) ∷ drop 1 (toks doc)
  whole = rest_at doc 0 (omega arith)

  pub scan_no_start : not y ≡ true → false ≡ element (toks doc)
  scan_no_start n = sym (no_element (toks doc) (rw whole (sym ey ∙ not-true y n)))

  pub scan_begin : not y ≡ false → Scanning doc 1 (record { next = 30; least = 0; level = 1 })
  scan_begin n = record {
    place = omega arith;
    phase = Head;
    next = refl;
    least = refl;
    small = omega arith;
    left = ap element (whole ∙ ap (λ t. t ∷ drop 1 (toks doc)) ((start_iff (get_or doc 0 0)).0 (sym ey ∙ not-false y n))) ∙ element_rest _ _;
  }

module _ (s : Scan) (sort n : ℕ) {y : Bool} (ey : y ≡ stands s sort n) (e : not y ≡ false) where
  may_here : Bool
  may_here = ltb n (numbers sort) && (holds s.next sort && leb (s.least * is_attribute sort) n)

  level_tests : (leb 1 s.level ≡ true) × (leb s.level most_deep && may_here ≡ true)
  unfolding stands may_here
  level_tests = (and-eq-true_iff (leb 1 s.level) (leb s.level most_deep && may_here)).0 (sym ey ∙ not-false y e)

  pub stands_open : 1 ≤ s.level
  stands_open = leb-true 1 s.level level_tests.0

  pub stands_shallow : s.level ≤ most_deep
  stands_shallow = leb-true s.level most_deep ((and-eq-true_iff (leb s.level most_deep) may_here).0 level_tests.1).0

module _ (doc : List ℕ) (i : ℕ) (s : Scan) (c : Scanning doc i s) where
  pub scan_end : length doc ≤ i → eqb s.level 0 ≡ element (toks doc)
  scan_end h =
      sym (c.left ∙ rw (rest_past doc i h) (rest_end c.phase s.level))

  module _ (h : i < length doc) {y : Bool} (ey : y ≡ stands s (get_or doc i 0 % 8) (get_or doc i 0 / 8)) where
    sort : get_or doc i 0 % 8 < 8
    sort = omega arith

    pub scan_stop : not y ≡ true → false ≡ element (toks doc)
    unfolding stands
    scan_stop e =
        sym (c.left ∙ rw (rest_at doc i h)
        (rest_stopped c.phase (get_or doc i 0 % 8) (get_or doc i 0 / 8) sort s.level (drop (suc i) (toks doc))
        (rw (c.next, c.least) at (sym ey ∙ not-true y e))))

    pub scan_turn : not y ≡ false → {s' : Scan} → s' ≡ passed s (get_or doc i 0 % 8) (get_or doc i 0 / 8) → Scanning doc (i + 1) s'
    unfolding stands passed
    scan_turn e es =
        let t : ℕ = get_or doc i 0 in
        let p : Phase = c.phase in
        let low : 1 ≤ s.level = stands_open s (t % 8) (t / 8) ey e in
        let high : s.level ≤ most_deep = stands_shallow s (t % 8) (t / 8) ey e in
        let ok : may p (t % 8) (t / 8) sort ≡ true
        = rw (le-leb 1 s.level low, le-leb s.level most_deep high, c.next, c.least) at (sym ey ∙ not-false y e) in
        let told : Told true (phase_of p (tok_of t)) (follow (t % 8)) (least_of p * is_value (t % 8) + (t / 8 + 1) * is_attribute (t % 8))
        = may_stand p (t % 8) (t / 8) sort ok in
        rw es
        (record {
          place = omega arith;
          phase = phase_of p (tok_of t);
          next = told.0;
          least = rw c.least told.1;
          small = stays_small s.least (t / 8) (t % 8) sort c.small (ltb-true (t / 8) (numbers (t % 8)) (has_number p (t % 8) (t / 8) sort ok));
          left = c.left ∙ rw (rest_at doc i h, add-one)
              (rest_passed p (t % 8) (t / 8) sort ok s.level (drop (suc i) (toks doc)) low high);
        })
