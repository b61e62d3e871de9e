-- Where content stops is one place, and there is one exactly if the content is not good. Told of any notion of beginning that a shorter
-- beginning inherits and that good content has. Assumes nothing.
use Rattle.std.specs.Prelude.{◌≡◌, refl, ◌↔◌, Bool, true, false, List, [], ◌∷◌, ◌++◌, ℕ, suc, ◌≤◌, ◌<◌, T, length, take, drop}
use Rattle.std.proofs.Common.{arith, take-append-drop, take-take}
use Rattle.std.proofs.Math.Decide.{dec_lt}
use Rattle.std.proofs.Math.Seq.{take-length}
use Rattle.paper.specs.declared.Tok.{Tok}
use Rattle.paper.specs.Judgement.{stop_after}
use Rattle.paper.specs.Validity.{StopsAt}

-- the children before the place begin well, and with the child there they do not
record First (f : List Tok → Bool) (k : List Tok) (i : ℕ) : Type 0 where
  within : i ≤ length k
  before : T (f (take i k))
  here : i < length k → ¬ T (f (take (suc i) k))

stop_first : (f : List Tok → Bool) (k : List Tok) → T (f []) → First f k (stop_after f k)
stop_first f [] t = record { within = omega arith; before = t; here = λ h. absurd (omega arith) }
stop_first f (x ∷ k) t = go (f (x ∷ [])) refl (stop_first (λ l. f (x ∷ l)) k)
  where
    go : (b : Bool) → f (x ∷ []) ≡ b → (T (f (x ∷ [])) → First (λ l. f (x ∷ l)) k (stop_after (λ l. f (x ∷ l)) k))
        → First f (x ∷ k) (stop_after f (x ∷ k))
    go true e next =
        let r = next (rw e tt) in
        rw e (record { within = let h = r.within in omega arith; before = r.before; here = λ h. r.here (omega arith) })
    go false e next = rw e (record { within = omega arith; before = t; here = λ h s. rw e at s })

module _ (Begins Good : List Tok → Type 0) (begun : (u v : List Tok) → Begins (u ++ v) → Begins u) (whole : (k : List Tok) → Good k → Begins k) where
  shorter : (k : List Tok) (i j : ℕ) → i ≤ j → Begins (take j k) → Begins (take i k)
  shorter k i j h p = begun (take i k) (drop i (take j k)) (rw (← take-take i j k h, take-append-drop) p)

  -- two stops are one
  not_before : (k : List Tok) (i j : ℕ) → StopsAt Begins Good k i → StopsAt Begins Good k j → ¬ (i < j)
  not_before k i j p q h =
      let w = q.within in
      p.here (omega arith) (shorter k (suc i) j (omega arith) q.before)

  only_stop : (k : List Tok) (i j : ℕ) → StopsAt Begins Good k i → StopsAt Begins Good k j → i ≡ j
  only_stop k i j p q = let a = not_before k i j p q in let b = not_before k j i q p in omega arith

  -- good content stops nowhere
  never_stops : (k : List Tok) (i : ℕ) → StopsAt Begins Good k i → ¬ Good k
  never_stops k i p g = elim (dec_lt i (length k)) [
    | yes h ↦ p.here h (shorter k (suc i) (length k) (omega arith) (rw take-length (whole k g)))
    | no h ↦ let w = p.within in p.ending (omega arith) g
  ]

  -- Content stops at i exactly if it is not good and i is the number that the definition gives.
  pub stops_iff : (f : List Tok → Bool) (k : List Tok) → ((i : ℕ) → T (f (take i k)) ↔ Begins (take i k)) → Begins []
      → (i : ℕ) → StopsAt Begins Good k i ↔ ((¬ Good k) × (i ≡ stop_after f k))
  stops_iff f k same nil i = (
    λ p. (never_stops k i p, only_stop k i (stop_after f k) p (there (never_stops k i p))),
    λ h. rw h.1 (there h.0),
  )
    where
      there : ¬ Good k → StopsAt Begins Good k (stop_after f k)
      there b =
          let r = stop_first f k ((same 0).1 nil) in
          record {
            within = r.within;
            before = (same (stop_after f k)).0 r.before;
            here = λ h p. r.here h ((same (suc (stop_after f k))).1 p);
            ending = λ e. b;
          }
