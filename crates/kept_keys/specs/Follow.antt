-- What is kept of a document's IDs and references; an edit of a document without a fault in them takes it along, and tells whether the
-- edited document has one. Assumes nothing.
use Rattle.std.specs.Prelude.{◌≡◌, refl, Bool, true, false, not, ◌&&◌, ◌||◌, List, [], ◌∷◌, ◌++◌, ◌↔◌, ℕ, zero, suc, ◌+◌, ◌-◌, ◌^◌, ◌≤◌, ◌<◌, eqb, length, take, drop, get_or}
use Rattle.std.proofs.Common.{sym, ap, ap₂, ◌∙◌, zero-add, suc-add, arith, eqb-true, eq-eqb, length-append, length-drop, take_at, length-take-le}
use Rattle.std.proofs.Math.Bool.{and-eq-true_iff}
use Rattle.std.proofs.lemmas.Bool.{not-true, not-false}
use Rattle.std.proofs.lemmas.List.{length-map}
use Rattle.std.proofs.Math.Seq.{take-nil}
use Rattle.basic_laws.specs.Bools.{clash, both, same_test}
use Rattle.paper.specs.Basics.{most_tokens, all, elem, distinct}
use Rattle.paper.specs.declared.Tok.{Tok}
use Rattle.paper.specs.Tokens.{tok_of, toks}
use Rattle.paper.specs.Shape.{is_element}
use Rattle.paper.specs.Rules.{Rules, of_table}
use Rattle.paper.specs.Judgement.{is_id, is_ref, key_fault}
use Rattle.paper.specs.Edits.{splice}
use Rattle.shape_laws.specs.Bridge.{toks_take}
use Rattle.shape_laws.specs.Five.{Allowed, allowed_within}
use Rattle.back_laws.specs.Splices.{splice_drop}
use Rattle.paper_laws.specs.Basics.{all_append}
use Rattle.field.specs.Field.{marked}
use Rattle.key_walk.specs.declared.Walk.{Walk}
use Rattle.kept_laws.specs.Found.{found, found_few}
use Rattle.kept_laws.specs.Lists.{new_in, new_same}
use Rattle.kept_laws.specs.Counts.{times, times_few, times_stays, in_stays}
use Rattle.kept_laws.specs.Split.{ahead, goes, comes, stays, old_values, new_values}
use Rattle.kept_laws.specs.Kept.{keys_iff}
use Rattle.kept_laws.specs.Read.{Reads}
use Rattle.kept_laws.specs.Walks.{WalkedBy}
use Rattle.kept_laws.proofs.Walks.{keys_walked}
use Rattle.key_moves.specs.Moves.{elem_append, Long, Enough, Fits, Exchanged}
use Rattle.key_moves.specs.Turns.{ids_in, refs_in}
use Rattle.kept_keys.specs.Settled.{settled, both_settled}

-- "Keep the field of IDs, and how many references each value has": the field marks exactly the IDs of d, and the counts are how many
-- references of d have each value.
pub record Keeps (table field counts : List ℕ) (d : List Tok) : Type 0 where
  pub long : Long field counts
  pub ids : (v : ℕ) → marked field v ≡ elem v (found (is_id (of_table table)) 0 0 d)
  pub refs : (v : ℕ) → get_or counts v 0 ≡ times v (found (is_ref (of_table table)) 0 0 d)

-- so many tokens go where doc becomes new, and so many come
abbrev pub cut_of : (doc new : List ℕ) → (coming : ℕ) → ℕ
cut_of doc new coming = length doc + coming - length new

-- An edit of a document without a fault of 11 or 12: at a place tokens go, and a piece comes. Read from the element's name on, what goes
-- and what comes has the values that it has in the documents.
pub record Change (R : Rules) (doc new : List ℕ) (at coming element : ℕ) : Type 0 where
  pub piece : List Tok
  pub one : is_element (toks doc) ≡ true
  pub sound : (key_fault R (toks doc)).0 ≡ 0
  pub allowed : Allowed (toks doc) at (cut_of doc new coming) piece
  pub after : toks new ≡ splice at (cut_of doc new coming) piece (toks doc)
  pub comes_so : length piece ≡ coming
  pub old : length doc ≤ most_tokens
  pub few : length new ≤ most_tokens
  pub ids : Reads (is_id R) (toks doc) element at (cut_of doc new coming) piece
  pub refs : Reads (is_ref R) (toks doc) element at (cut_of doc new coming) piece

abbrev pub from_name : (at element : ℕ) → Walk
from_name at element = record { place = at; element = element; attribute = 0 }

-- what the code comes to: the state of the edited document, and whether that has no fault of 11 or 12
pub record Followed (table new field counts : List ℕ) (r : Bool) : Type 0 where
  pub keeps : Keeps table field counts (toks new)
  pub told : r ≡ eqb (key_fault (of_table table) (toks new)).0 0

-- ---- lists

drop_take : {A : Type 0} (k n : ℕ) (l : List A) → drop k (take (k + n) l) ≡ take n (drop k l)
drop_take zero n l = ap (λ i. take i l) (zero-add n)
drop_take (suc k) n [] = rw (suc-add k n) (sym (take-nil n))
drop_take (suc k) n (t ∷ l) = rw (suc-add k n) (drop_take k n l)

all_same : (P Q : ℕ → Bool) → ((v : ℕ) → P v ≡ Q v) → (l : List ℕ) → all P l ≡ all Q l
all_same P Q f [] = refl
all_same P Q f (x ∷ l) = ap₂ ◌&&◌ (f x) (all_same P Q f l)

-- ---- the edit

module _ (table doc new : List ℕ) (at coming element : ℕ) (c : Change (of_table table) doc new at coming element) where
  abbrev R : Rules
  R = of_table table

  abbrev d : List Tok
  d = toks doc

  abbrev cut : ℕ
  cut = cut_of doc new coming

  abbrev from : Walk
  from = from_name at element

  abbrev p : List Tok
  p = c.piece

  pub gone_within : at + cut ≤ length doc
  gone_within = omega (arith, allowed_within d c.one c.allowed, length-map doc tok_of)

  piece_is : take coming (drop at (toks new)) ≡ p
  piece_is =
      ap (λ l. take coming (drop at l)) c.after
      ∙ ap (take coming) (splice_drop at cut p d (omega (arith, allowed_within d c.one c.allowed)))
      ∙ take_at p (drop (at + cut) d) coming c.comes_so

  pub come_within : at + coming ≤ length new
  come_within = omega (arith, gone_within)

  -- the sums that the code makes
  pub sum_fits : length doc + coming < 2 ^ 64
  sum_fits = omega (arith, come_within, c.old, c.few)

  pub new_less : length new ≤ length doc + coming
  new_less = omega (
    arith,
    gone_within,
    ap length c.after,
    length-map new tok_of,
    length-map doc tok_of,
    length-append (take at d) (p ++ drop (at + cut) d),
    length-append p (drop (at + cut) d),
    length-drop (at + cut) d,
    length-take-le at d (omega (arith, gone_within, length-map doc tok_of)),
    c.comes_so,
  )

  pub gone_fits : at + (length doc + coming - length new) < 2 ^ 64
  gone_fits = omega (arith, gone_within, c.old)

  pub come_fits : at + coming < 2 ^ 64
  come_fits = omega (arith, come_within, c.few)

  went : (is : ℕ → ℕ → Bool) → Reads is d element at cut p → found is element 0 (drop at (toks (take (at + cut) doc))) ≡ goes is at d cut
  went is k = ap (found is element 0) (ap (drop at) (toks_take (at + cut) doc) ∙ drop_take at cut d) ∙ sym k.went

  came : (is : ℕ → ℕ → Bool) → Reads is d element at cut p → found is element 0 (drop at (toks (take (at + coming) new))) ≡ comes is at d p
  came is k = ap (found is element 0) (ap (drop at) (toks_take (at + coming) new) ∙ drop_take at coming (toks new) ∙ piece_is) ∙ sym k.came

  -- IDs and references: before the place, that go, that come, and behind
  abbrev b : List ℕ
  b = ahead (is_id R) at d

  abbrev g : List ℕ
  g = goes (is_id R) at d cut

  abbrev m : List ℕ
  m = comes (is_id R) at d p

  abbrev r : List ℕ
  r = stays (is_id R) at d cut

  abbrev b' : List ℕ
  b' = ahead (is_ref R) at d

  abbrev g' : List ℕ
  g' = goes (is_ref R) at d cut

  abbrev m' : List ℕ
  m' = comes (is_ref R) at d p

  abbrev r' : List ℕ
  r' = stays (is_ref R) at d cut

  ids_after : found (is_id R) 0 0 (toks new) ≡ b ++ (m ++ r)
  ids_after = ap (found (is_id R) 0 0) c.after ∙ new_values (is_id R) d c.one c.allowed

  refs_after : found (is_ref R) 0 0 (toks new) ≡ b' ++ (m' ++ r')
  refs_after = ap (found (is_ref R) 0 0) c.after ∙ new_values (is_ref R) d c.one c.allowed

  once : distinct (b ++ (g ++ r)) ≡ true
  once = rw (old_values (is_id R) at cut d) at ((keys_iff R d).0 c.sound).0

  module _ {field counts : List ℕ} (k : Keeps table field counts d) where
    refs_were : (v : ℕ) → get_or counts v 0 ≡ times v (b' ++ r') + times v g'
    refs_were v = k.refs v ∙ ap (times v) (old_values (is_ref R) at cut d) ∙ times_stays v b' g' r'

    pub follow_enough : Enough counts (refs_in table (take (at + cut) doc) from)
    follow_enough = record { each = λ v. omega (arith, ap (times v) (went (is_ref R) c.refs), refs_were v) }

    -- the references of the edited document are those that were, less those that went and more those that came
    refs_now : (v : ℕ) → times v (found (is_ref R) 0 0 (toks new)) + times v (refs_in table (take (at + cut) doc) from) ≡ get_or counts v 0 + times v (refs_in table (take (at + coming) new) from)
    refs_now v =
        omega (arith, ap (times v) refs_after, times_stays v b' m' r', refs_were v, ap (times v) (went (is_ref R) c.refs), ap (times v) (came (is_ref R) c.refs))

    pub follow_fits : Fits counts (refs_in table (take (at + cut) doc) from) (refs_in table (take (at + coming) new) from)
    follow_fits = record {
      each = λ v. omega (arith, refs_now v, times_few v (found (is_ref R) 0 0 (toks new)), found_few (is_ref R) 0 0 (toks new), length-map new tok_of, c.few);
    }

    module _ {field₂ counts₂ : List ℕ} {y : Bool}
        (x : Exchanged field counts (ids_in table (take (at + cut) doc) from) (refs_in table (take (at + cut) doc) from) (ids_in table (take (at + coming) new) from) (refs_in table (take (at + coming) new) from) field₂ counts₂ y) where
      ids_stay : (v : ℕ) → marked x.field_between v ≡ elem v (b ++ r)
      ids_stay v = x.gone.marks v ∙ ap₂ (λ x y. not x && y) (ap (elem v) (went (is_id R) c.ids)) (k.ids v ∙ ap (elem v) (old_values (is_id R) at cut d))
          ∙ left_out (elem v g) (elem v (b ++ (g ++ r))) (elem v (b ++ r)) (in_stays v b g r once).0 (in_stays v b g r once).1
        where
          left_out : (x y z : Bool) → (z ≡ true → (y ≡ true) × (x ≡ true → ⊥)) → ((y ≡ true) × (x ≡ true → ⊥) → z ≡ true) → (not x && y) ≡ z
          left_out true y true f h = absurd ((f refl).1 refl)
          left_out true y false f h = refl
          left_out false true z f h = sym (h (refl, λ e. clash e refl))
          left_out false false true f h = (f refl).0
          left_out false false false f h = refl

      refs_told : (v : ℕ) → get_or counts₂ v 0 ≡ times v (found (is_ref R) 0 0 (toks new))
      refs_told v = omega (arith, x.gone.tells v, x.come.tells v, refs_now v)

      ids_now : (v : ℕ) → marked field₂ v ≡ elem v (b ++ (m ++ r))
      ids_now v =
          x.come.marks v ∙ ap₂ ◌||◌ (ap (elem v) (came (is_id R) c.ids)) (ids_stay v ∙ elem_append v b r)
          ∙ turn (elem v m) (elem v b) (elem v r) ∙ ap (λ z. elem v b || z) (sym (elem_append v m r)) ∙ sym (elem_append v b (m ++ r))
        where
          turn : (x y z : Bool) → (x || (y || z)) ≡ (y || (x || z))
          turn true true z = refl
          turn true false z = refl
          turn false true z = refl
          turn false false z = refl

      follow_keeps : Long field₂ counts₂ → Keeps table field₂ counts₂ (toks new)
      follow_keeps l = record { long = l; ids = λ v. ids_now v ∙ ap (elem v) (sym ids_after); refs = refs_told }

      fresh_is : y ≡ new_in (λ v. elem v (b ++ r)) m
      fresh_is = x.come.told ∙ new_same (marked x.field_between) (λ v. elem v (b ++ r)) ids_stay (ids_in table (take (at + coming) new) from) ∙ ap (new_in (λ v. elem v (b ++ r))) (came (is_id R) c.ids)

      abbrev known : ℕ → Bool
      known v = elem v (b ++ (m ++ r)) || eqb (times v (b' ++ (m' ++ r'))) 0

      known_is : (v : ℕ) → settled field₂ counts₂ v ≡ known v
      known_is v = ap₂ (λ i z. i || eqb z 0) (ids_now v) (refs_told v ∙ ap (times v) refs_after)

      module _ {z : Bool} (ez : z ≡ both_settled table (take (at + cut) doc) (take (at + coming) new) from field₂ counts₂) where
        settled_is : z ≡ all known (g ++ m')
        settled_is =
            ez ∙ ap₂ ◌&&◌ (all_same (settled field₂ counts₂) known known_is (ids_in table (take (at + cut) doc) from) ∙ ap (all known) (went (is_id R) c.ids))
            (all_same (settled field₂ counts₂) known known_is (refs_in table (take (at + coming) new) from) ∙ ap (all known) (came (is_ref R) c.refs))
            ∙ sym (all_append known g m')

        follow_told : (y && z) ≡ eqb (key_fault R (toks new)).0 0
        follow_told = same_test (y && z) (eqb (key_fault R (toks new)).0 0) to of
          where
            exactly : ((key_fault R (splice at cut p d)).0 ≡ 0) ↔ WalkedBy R at cut p d
            exactly = keys_walked R d c.one c.allowed c.sound

            to : y && z ≡ true → eqb (key_fault R (toks new)).0 0 ≡ true
            to w =
                let (u, s) = (and-eq-true_iff y z).0 w in
                let k : WalkedBy R at cut p d = record { fresh = sym fresh_is ∙ u; settled = sym settled_is ∙ s } in
                eq-eqb (key_fault R (toks new)).0 0 (ap (λ l. (key_fault R l).0) c.after ∙ exactly.1 k)

            of : eqb (key_fault R (toks new)).0 0 ≡ true → y && z ≡ true
            of w =
                let k : WalkedBy R at cut p d = exactly.0 (ap (λ l. (key_fault R l).0) (sym c.after) ∙ eqb-true (key_fault R (toks new)).0 0 w) in
                both (fresh_is ∙ k.fresh) (settled_is ∙ k.settled)

      -- an ID came that was there or came twice; else the IDs that went and the references that came say it
      module _ (kf : length field₂ ≡ length field) (kc : length counts₂ ≡ length counts) where
        followed : {z : Bool} → z ≡ eqb (key_fault R (toks new)).0 0 → Followed table new field₂ counts₂ z
        followed h = record { keeps = follow_keeps (record { words = kf ∙ k.long.words; values = kc ∙ k.long.values }); told = h }

        pub follow_twice : not y ≡ true → Followed table new field₂ counts₂ false
        follow_twice n = followed (sym (ap (λ w. w && both_settled table (take (at + cut) doc) (take (at + coming) new) from field₂ counts₂) (not-true y n)) ∙ follow_told refl)

        pub follow_rest : not y ≡ false → {z : Bool} → z ≡ both_settled table (take (at + cut) doc) (take (at + coming) new) from field₂ counts₂ → Followed table new field₂ counts₂ z
        follow_rest n {z} e = followed (sym (ap (λ w. w && z) (not-false y n)) ∙ follow_told e)
