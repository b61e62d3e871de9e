-- The number of an edit before it is judged: that of its form and of the room, then of the counts. Assumes nothing.
use Rattle.std.specs.Prelude.{◌≡◌, ◌↔◌, Bool, cond, ◌&&◌, List, leb, ℤ, length}
use Rattle.std.proofs.Math.Path.{refl}
use Rattle.std.proofs.Math.Bool.{true, false, and-eq-true_iff}
use Prim.Native.Nat.{ℕ, zero, suc, ◌≤◌}
use Rattle.std.proofs.Common.{arith, leb-true}
use Rattle.paper.specs.Basics.{most_tokens, all}
use Rattle.paper.specs.Tokens.{toks}
use Rattle.paper.specs.Shape.{shallow}
use Rattle.paper.specs.Requests.{Request, edited}
use Rattle.paper.specs.Counts.{TrueCounts, moved, count_good}
use Rattle.paper.specs.Edits.{or_next, size_fault, limit_fault}
use Rattle.shape_laws.specs.EditJudged.{form_iff}
use Rattle.back_laws.specs.Sizes.{size_iff}
use Rattle.count_laws.specs.Laws.{moved_true, fresh_good}

module _ (E room second : ℕ) (q : Request) (doc : List ℕ) (counts : List ℤ) where
  -- "directly after 5": another number stands
  pub limit_size : (size_fault room second q doc ≡ 0 → ⊥) → limit_fault E room second q doc counts ≡ size_fault room second q doc
  unfolding limit_fault
  limit_size h = go (size_fault room second q doc) h
    where
      go : (k : ℕ) → (k ≡ 0 → ⊥) → or_next k (cond (all count_good (moved E q doc counts)) 0 15) ≡ k
      go zero h = absurd (h refl)
      go (suc k) h = refl

  -- "new 15, any of the 48 counts below 0 or above 8,192 after the edit"
  pub limit_counts : size_fault room second q doc ≡ 0 → all count_good (moved E q doc counts) ≡ false → limit_fault E room second q doc counts ≡ 15
  unfolding limit_fault
  limit_counts z g = rw (z, g)

  pub limit_iff : (limit_fault E room second q doc counts ≡ 0) ↔ ((size_fault room second q doc ≡ 0) × (all count_good (moved E q doc counts) ≡ true))
  unfolding limit_fault
  limit_iff = (go (size_fault room second q doc) (all count_good (moved E q doc counts)) refl refl, λ h. rw (h.0, h.1))
    where
      go : (k : ℕ) (b : Bool) → size_fault room second q doc ≡ k → all count_good (moved E q doc counts) ≡ b → or_next k (cond b 0 15) ≡ 0
          → (size_fault room second q doc ≡ 0) × (all count_good (moved E q doc counts) ≡ true)
      go zero true f g e = (f, g)
      go zero false f g e = absurd (omega arith)
      go (suc k) b f g e = absurd (omega arith)

-- an edit within the limits makes no document over 8,192 tokens
pub edited_few : (room second : ℕ) (q : Request) (doc : List ℕ) → size_fault room second q doc ≡ 0 → length (edited q doc) ≤ most_tokens
edited_few room second q doc z =
    let new : List ℕ = edited q doc in
    let a = (form_iff room q doc).0 ((size_iff room second q doc).0 z).0 in
    let (most, _) = (and-eq-true_iff (leb (length new) most_tokens && shallow (toks new)) (leb (length new) room)).0 a.size in
    leb-true (length new) most_tokens ((and-eq-true_iff (leb (length new) most_tokens) (shallow (toks new))).0 most).0

module _ (E room second : ℕ) (q : Request) (doc : List ℕ) (counts : List ℤ) where
  -- "true counts never meet it": the number is that without counts
  pub never_met : TrueCounts E doc counts → limit_fault E room second q doc counts ≡ size_fault room second q doc
  unfolding limit_fault
  never_met c = go (size_fault room second q doc) refl
    where
      go : (k : ℕ) → size_fault room second q doc ≡ k → or_next k (cond (all count_good (moved E q doc counts)) 0 15) ≡ k
      go zero z = rw (moved_true E q doc counts c, fresh_good E (edited q doc) (edited_few room second q doc z))
      go (suc k) z = refl
