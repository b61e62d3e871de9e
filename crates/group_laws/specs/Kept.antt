-- Every group, whatever is given: a refused one leaves the first buffer, and before an edit has begun the second one too; both
-- buffers keep their lengths. Assumes nothing.
use Rattle.std.specs.Prelude.{◌≡◌, ◌≢◌, Bool, cond, ℕ, ◌≤◌, eqb, pos, length, take}
use Rattle.std.proofs.Math.Path.{refl}
use Rattle.std.proofs.Common.{inl, inr, arith, length-take-le}
use Rattle.std.proofs.Math.Bool.{true, false}
use mathlib.Core.List.{List}
use borrow.Author.Tests.{leb-true}
use Rattle.std.proofs.Math.Dec.{leb}
use Rattle.paper.specs.Shape.{shape_of}
use Rattle.paper.specs.Table.{proper}
use Rattle.paper.specs.Rules.{of_table}
use Rattle.paper.specs.Judgement.{Answer}
use Rattle.paper.specs.Edits.{Request, written}
use Rattle.shape_laws.specs.Shaped.{shaped}
use Rattle.shape_laws.specs.Written.{written_length}
use Rattle.paper.specs.Lists.{Split, fault, edits, split_list}
use Rattle.list_laws.specs.Exactly.{four_or_five}
use Rattle.paper.specs.Groups.{Work, worked, GroupOutcome, not_begun, verdict, copied, stopped, begun, group_by, group}
use Rattle.group_laws.specs.Worked.{longest_most}

-- ---- by the cases of the definition

-- what a group is worked on, once an edit has begun: a proper table, a document with shape, a second buffer that is long enough
pub record Begins (table buffer : List ℕ) (used : ℕ) (second : List ℕ) : Type 0 where
  pub table_good : proper table ≡ true
  pub shape : shape_of buffer used ≡ true
  pub room : length buffer ≤ length second

-- what holds of each way out holds of the group: refused with 4, 5 or 13 before any edit; or begun
module _ (P : GroupOutcome → Type 0) (table buffer : List ℕ) (used : ℕ) (second : List ℕ)
    (four : P (not_begun buffer used second 4)) (five : P (not_begun buffer used second 5)) (thirteen : P (not_begun buffer used second 13)) where
  pub by_ways : (list : List ℕ)
      → (Begins table buffer used second → (es : List Request) (w : Work) → w ≡ worked (length buffer) 1 used (take used buffer) es → P (begun buffer used second w (verdict (of_table table) w)))
      → P (group table buffer used list second)
  unfolding group
  by_ways list f = by_table (proper table) refl
    where
      by_room : (es : List Request) (b : Bool) → leb (length buffer) (length second) ≡ b → proper table ≡ true → shape_of buffer used ≡ true
          → let w : Work = worked (length buffer) 1 used (take used buffer) es in P (cond b (begun buffer used second w (verdict (of_table table) w)) (not_begun buffer used second 5))
      by_room es true e t h =
          f (record { table_good = t; shape = h; room = leb-true (length buffer) (length second) e }) es (worked (length buffer) 1 used (take used buffer) es) refl
      by_room es false e t h = five

      by_split : (x : Split) → split_list list ≡ x → proper table ≡ true → shape_of buffer used ≡ true → P (group_by (of_table table) buffer used second x)
      by_split (fault n) e t h = elim (four_or_five list n e) [ inl z ↦ rw z four | inr z ↦ rw z five ]
      by_split (edits es) e t h = by_room es (leb (length buffer) (length second)) refl t h

      by_shape : (b : Bool) → shape_of buffer used ≡ b → proper table ≡ true
          → P (cond b (group_by (of_table table) buffer used second (split_list list)) (not_begun buffer used second 4))
      by_shape true h t = by_split (split_list list) refl t h
      by_shape false h t = four

      by_table : (b : Bool) → proper table ≡ b
          → P (cond b (cond (shape_of buffer used) (group_by (of_table table) buffer used second (split_list list)) (not_begun buffer used second 4)) (not_begun buffer used second 13))
      by_table true t = by_shape (shape_of buffer used) refl t
      by_table false t = thirteen

-- ---- the first buffer

-- the first buffer, its used length, and no change
abbrev Kept : (buffer : List ℕ) → (used : ℕ) → GroupOutcome → Type 0
Kept buffer used o = (o.used ≡ used) × (o.change ≡ pos 0) × (o.buffer ≡ buffer)

-- "or nothing in the first buffer changes": a refused group leaves it
pub group_keeps : (table buffer : List ℕ) (used : ℕ) (list second : List ℕ) (o : GroupOutcome) → o ≡ group table buffer used list second
    → o.number ≢ 0 → (o.used ≡ used) × (o.change ≡ pos 0) × (o.buffer ≡ buffer)
group_keeps table buffer used list second o e =
    rw e (by_ways (λ o. o.number ≢ 0 → Kept buffer used o) table buffer used second (λ k. (refl, refl, refl)) (λ k. (refl, refl, refl)) (λ k. (refl, refl, refl)) list
    (λ h es w f. ends w (verdict (of_table table) w) (eqb (verdict (of_table table) w).0 0)))
  where
    ends : (w : Work) (a : Answer) (b : Bool) → let o : GroupOutcome = cond b (copied buffer used second w) (stopped buffer used second w a) in
        o.number ≢ 0 → Kept buffer used o
    ends w a true k = absurd (k refl)
    ends w a false k = (refl, refl, refl)

-- ---- lengths

-- both buffers keep their lengths
pub group_lengths : (table buffer : List ℕ) (used : ℕ) (list second : List ℕ)
    → let o : GroupOutcome = group table buffer used list second in (length o.buffer ≡ length buffer) × (length o.second ≡ length second)
group_lengths table buffer used list second =
    by_ways (λ o. (length o.buffer ≡ length buffer) × (length o.second ≡ length second)) table buffer used second (refl, refl) (refl, refl) (refl, refl) list
    (λ h es w f.
    let long : used ≤ length buffer = (shaped buffer used h.shape).long in
    let (x, y) = rw (← f) at (longest_most (length buffer) 1 used (take used buffer) es (omega (arith, length-take-le used buffer long)) long) in
    ends w (verdict (of_table table) w) (eqb (verdict (of_table table) w).0 0)
    (written_length buffer used w.doc long (omega arith)) (written_length second w.longest w.doc (omega (arith, h.room)) (omega (arith, h.room))))
  where
    ends : (w : Work) (a : Answer) (b : Bool) → length (written buffer used w.doc) ≡ length buffer → length (written second w.longest w.doc) ≡ length second
        → let o : GroupOutcome = cond b (copied buffer used second w) (stopped buffer used second w a) in (length o.buffer ≡ length buffer) × (length o.second ≡ length second)
    ends w a true x y = (x, y)
    ends w a false x y = (refl, y)
