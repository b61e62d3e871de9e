-- The loops over the tokens that go and those that come. Assumes nothing.
use Rattle.std.specs.Prelude.{◌≡◌, refl, Bool, true, false, ◌&&◌, List, [], ◌++◌, map, ℕ, ◌+◌, ◌/◌, ◌≤◌, ◌<◌, length, drop, get_or}
use Rattle.std.proofs.Common.{sym, ap, subst, ◌∙◌, arith}
use Rattle.std.proofs.Math.Bool.{and-true}
use Rattle.paper.specs.Basics.{cons_if}
use Rattle.paper.specs.Tokens.{tok_of, toks}
use Rattle.paper.specs.Rules.{of_table}
use Rattle.paper.specs.Judgement.{is_id, is_ref, value_in}
use Rattle.key_walk.specs.declared.Walk.{Walk}
use Rattle.key_walk.specs.Walk.{behind, left, value_of, left_step, left_none}
use Rattle.kept_laws.specs.Found.{found, found_values}
use Rattle.kept_laws.specs.Counts.{times, times_append}
use Rattle.key_moves.specs.Moves.{Gone, gone_none, gone_both, Come, come_none, come_both, value_here, Long, Enough, Room}

-- ---- the values from a walk up to an end

abbrev pub passing : (ℕ → ℕ → Bool) → (doc : List ℕ) → Walk → List ℕ
passing is doc w = found is w.element w.attribute (drop w.place (toks doc))

if_front : (b : Bool) (i v : ℕ) (l : List (ℕ × ℕ)) → map value_in (cons_if b (i, v) l) ≡ cons_if b v [] ++ map value_in l
if_front true i v l = refl
if_front false i v l = refl

module _ (is : ℕ → ℕ → Bool) (doc : List ℕ) (w : Walk) where
  as_left : (to : Walk) → passing is doc to ≡ map value_in (left is (toks doc) to)
  as_left to = sym (found_values is to.place to.element to.attribute (drop to.place (toks doc)))

  pub passing_step : {to : Walk} → w.place < length doc → to ≡ behind w (tok_of (get_or doc w.place 0))
      → passing is doc w ≡ value_here is w (get_or doc w.place 0) ++ passing is doc to
  passing_step {to} h e =
      as_left w ∙ ap (map value_in) (left_step is doc w h)
      ∙ if_front (value_of is w (tok_of (get_or doc w.place 0))) w.place (get_or doc w.place 0 / 8) (left is (toks doc) (behind w (tok_of (get_or doc w.place 0))))
      ∙ ap (λ z. value_here is w (get_or doc w.place 0) ++ z) (sym (as_left (behind w (tok_of (get_or doc w.place 0)))) ∙ ap (passing is doc) (sym e))

  pub passing_none : length doc ≤ w.place → passing is doc w ≡ []
  passing_none h = as_left w ∙ ap (map value_in) (left_none is doc w h)

abbrev pub ids_in : (table doc : List ℕ) → Walk → List ℕ
ids_in table doc w = passing (is_id (of_table table)) doc w

abbrev pub refs_in : (table doc : List ℕ) → Walk → List ℕ
refs_in table doc w = passing (is_ref (of_table table)) doc w

-- ---- what goes

-- what is left to go, takes with it what was to go from the beginning
pub record Leaving (table doc : List ℕ) (from : Walk) (old told : List ℕ) (at : Walk) (field counts : List ℕ) : Type 0 where
  pub long : Long field counts
  pub enough : Enough counts (refs_in table doc at)
  pub rest : (field' counts' : List ℕ) → Gone field counts (ids_in table doc at) (refs_in table doc at) field' counts'
      → Gone old told (ids_in table doc from) (refs_in table doc from) field' counts'

pub leaving_begin : (table doc : List ℕ) (from : Walk) {field counts : List ℕ} → Long field counts → Enough counts (refs_in table doc from)
    → Leaving table doc from field counts from field counts
leaving_begin table doc from l e = record { long = l; enough = e; rest = λ f c g. g }

module _ (table doc : List ℕ) (from : Walk) {old told : List ℕ} {at : Walk} {field counts : List ℕ}
    (v : Leaving table doc from old told at field counts) where
  pub leaving_end : length doc ≤ at.place → Gone old told (ids_in table doc from) (refs_in table doc from) field counts
  leaving_end h =
      v.rest field counts (rw (passing_none (is_id (of_table table)) doc at h, passing_none (is_ref (of_table table)) doc at h) (gone_none field counts))

  module _ (h : at.place < length doc) {t : ℕ} (et : t ≡ get_or doc at.place 0) where
    front : (is : ℕ → ℕ → Bool) → passing is doc at ≡ value_here is at t ++ passing is doc (behind at (tok_of t))
    front is = rw et (passing_step is doc at h refl)

    all_there : (u : ℕ) → times u (value_here (is_ref (of_table table)) at t) + times u (refs_in table doc (behind at (tok_of t))) ≤ get_or counts u 0
    all_there u =
        omega (arith, v.enough.each u, ap (times u) (front (is_ref (of_table table))), times_append u (value_here (is_ref (of_table table)) at t) (refs_in table doc (behind at (tok_of t))))

    pub leaving_enough : Enough counts (value_here (is_ref (of_table table)) at t)
    leaving_enough = record { each = λ u. omega (arith, all_there u) }

    pub leaving_more : {to : Walk} {field' counts' : List ℕ}
        → Gone field counts (value_here (is_id (of_table table)) at t) (value_here (is_ref (of_table table)) at t) field' counts'
        → length field' ≡ length field → length counts' ≡ length counts → to ≡ behind at (tok_of t)
        → Leaving table doc from old told to field' counts'
    leaving_more {to} {field'} {counts'} g kf kc e = rw e (record {
      long = record { words = kf ∙ v.long.words; values = kc ∙ v.long.values };
      enough = record { each = λ u. omega (arith, all_there u, g.tells u) };
      rest = λ f c k. v.rest f c (rw (front (is_id (of_table table)), front (is_ref (of_table table)))
          (gone_both (ids_in table doc (behind at (tok_of t))) (refs_in table doc (behind at (tok_of t))) g k));
    })

-- ---- what comes

pub record Entering (table doc : List ℕ) (from : Walk) (old told : List ℕ) (at : Walk) (fresh : Bool) (field counts : List ℕ) : Type 0 where
  pub long : Long field counts
  pub room : Room counts (refs_in table doc at)
  pub rest : (field' counts' : List ℕ) (r : Bool) → Come field counts (ids_in table doc at) (refs_in table doc at) field' counts' r
      → Come old told (ids_in table doc from) (refs_in table doc from) field' counts' (fresh && r)

pub entering_begin : (table doc : List ℕ) (from : Walk) {field counts : List ℕ} → Long field counts → Room counts (refs_in table doc from)
    → Entering table doc from field counts from true field counts
entering_begin table doc from l e = record { long = l; room = e; rest = λ f c r g. g }

module _ (table doc : List ℕ) (from : Walk) {old told : List ℕ} {at : Walk} {fresh : Bool} {field counts : List ℕ}
    (v : Entering table doc from old told at fresh field counts) where
  pub entering_end : length doc ≤ at.place → Come old told (ids_in table doc from) (refs_in table doc from) field counts fresh
  entering_end h =
      subst (Come old told (ids_in table doc from) (refs_in table doc from) field counts) (and-true fresh)
      (v.rest field counts true (rw (passing_none (is_id (of_table table)) doc at h, passing_none (is_ref (of_table table)) doc at h) (come_none field counts)))

  module _ (h : at.place < length doc) {t : ℕ} (et : t ≡ get_or doc at.place 0) where
    first : (is : ℕ → ℕ → Bool) → passing is doc at ≡ value_here is at t ++ passing is doc (behind at (tok_of t))
    first is = rw et (passing_step is doc at h refl)

    all_fit : (u : ℕ) → get_or counts u 0 + (times u (value_here (is_ref (of_table table)) at t) + times u (refs_in table doc (behind at (tok_of t)))) < 65536
    all_fit u =
        omega (arith, v.room.each u, ap (times u) (first (is_ref (of_table table))), times_append u (value_here (is_ref (of_table table)) at t) (refs_in table doc (behind at (tok_of t))))

    pub entering_room : Room counts (value_here (is_ref (of_table table)) at t)
    entering_room = record { each = λ u. omega (arith, all_fit u) }

    pub entering_more : {to : Walk} {field' counts' : List ℕ} {r : Bool}
        → Come field counts (value_here (is_id (of_table table)) at t) (value_here (is_ref (of_table table)) at t) field' counts' r
        → length field' ≡ length field → length counts' ≡ length counts → to ≡ behind at (tok_of t)
        → Entering table doc from old told to (fresh && r) field' counts'
    entering_more {to} {field'} {counts'} {r} g kf kc e = rw e (record {
      long = record { words = kf ∙ v.long.words; values = kc ∙ v.long.values };
      room = record { each = λ u. omega (arith, all_fit u, g.tells u) };
      rest = λ f c z k. subst (Come old told (ids_in table doc from) (refs_in table doc from) f c) (part fresh r z)
          (v.rest f c (r && z) (rw (first (is_id (of_table table)), first (is_ref (of_table table)))
          (come_both (ids_in table doc (behind at (tok_of t))) (refs_in table doc (behind at (tok_of t))) g k)));
    })
      where
        part : (a b c : Bool) → (a && (b && c)) ≡ ((a && b) && c)
        part true b c = refl
        part false b c = refl
