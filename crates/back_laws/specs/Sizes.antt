-- The number of an edit before it is judged: that of its form, then the second buffer's room. Assumes nothing.
use Rattle.std.specs.Prelude.{◌≡◌, ◌↔◌, Bool, cond, List}
use Rattle.std.proofs.Math.Path.{refl}
use Rattle.std.proofs.Math.Bool.{true, false}
use Prim.Native.Nat.{ℕ, zero, suc, ◌≤◌, ◌<◌}
use Rattle.std.proofs.Common.{arith}
use borrow.Author.Tests.{le-leb, lt-leb, leb-true}
use Rattle.std.proofs.Math.Dec.{leb}
use Rattle.paper.specs.Requests.{Request}
use Rattle.paper.specs.Back.{needs}
use Rattle.paper.specs.Edits.{form_fault, or_next, size_fault}

module _ (room second : ℕ) (q : Request) (doc : List ℕ) where
  -- another number of form stands
  pub size_form : (form_fault room q doc ≡ 0 → ⊥) → size_fault room second q doc ≡ form_fault room q doc
  unfolding size_fault
  size_form h = go (form_fault room q doc) h
    where
      go : (k : ℕ) → (k ≡ 0 → ⊥) → or_next k (cond (leb (needs q doc) second) 0 5) ≡ k
      go zero h = absurd (h refl)
      go (suc k) h = refl

  -- in form, too little room is 5
  pub size_short : form_fault room q doc ≡ 0 → second < needs q doc → size_fault room second q doc ≡ 5
  unfolding size_fault
  size_short f h = rw (f, lt-leb (needs q doc) second h)

  pub size_iff : (size_fault room second q doc ≡ 0) ↔ ((form_fault room q doc ≡ 0) × (needs q doc ≤ second))
  unfolding size_fault
  size_iff = (go (form_fault room q doc) (leb (needs q doc) second) refl refl, λ h. rw (h.0, le-leb (needs q doc) second h.1))
    where
      go : (k : ℕ) (b : Bool) → form_fault room q doc ≡ k → leb (needs q doc) second ≡ b → or_next k (cond b 0 5) ≡ 0 → (form_fault room q doc ≡ 0) × (needs q doc ≤ second)
      go zero true f g e = (f, leb-true (needs q doc) second g)
      go zero false f g e = absurd (omega arith)
      go (suc k) b f g e = absurd (omega arith)
