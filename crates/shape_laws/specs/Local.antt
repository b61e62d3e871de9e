-- An edit is judged at the touched elements alone: the answer is that of judging every element of the edited document.
use Rattle.std.specs.Prelude.{◌≡◌, refl, Bool, true, false, cond, ◌&&◌, List, [], ◌∷◌, ◌++◌, ℕ, zero, suc, ◌+◌, ◌-◌, ◌≤◌, ◌<◌, length, take, drop, leb, ltb}
use Rattle.std.proofs.Common.{sym, ap, ap₂, ◌∙◌, arith, not-suc-le-zero, le_of_suc-le-suc, add-suc, suc-add, zero-add, add-zero, lt_of_not-le, le-leb, ltb-false}
use Rattle.std.proofs.Math.Option.{Option, none, some}
use Rattle.std.proofs.Math.Decide.{dec_le}
use Rattle.std.proofs.Math.Seq.{drop-append-add, take-append_seam}
use Rattle.paper.specs.declared.Tok.{Tok}
use Rattle.paper.specs.declared.Tok.TheVariants.{Start, End, Text, Attr, Value, Bad}
use Rattle.paper.specs.Judgement.{fault_at, first, or_else}
use Rattle.basic_laws.specs.Bools.{clash, neither}
use Rattle.paper.specs.Tokens.{balanced, heads, kids, level, parent, run, touched}

-- under an open child, what only opens and closes is passed over
skip : (k m : ℕ) (a x : List Tok) → run k a ≡ some m → kids (suc k) (a ++ x) ≡ kids (suc m) x
skip k m [] x e = cc
skip k m (Start n ∷ a) x e = skip (suc k) m a x e
skip zero m (End ∷ a) x e = cc
skip (suc k) m (End ∷ a) x e = skip k m a x e
skip k m (Text n ∷ a) x e = skip k m a x e
skip k m (Attr n ∷ a) x e = skip k m a x e
skip k m (Value n ∷ a) x e = skip k m a x e
skip k m (Bad ∷ a) x e = skip k m a x e

-- what is balanced is so at every depth
deeper : (k m : ℕ) (a : List Tok) → run k a ≡ some m → run (suc k) a ≡ some (suc m)
deeper k m [] e = cc
deeper k m (Start n ∷ a) e = deeper (suc k) m a e
deeper zero m (End ∷ a) e = cc
deeper (suc k) m (End ∷ a) e = deeper k m a e
deeper k m (Text n ∷ a) e = deeper k m a e
deeper k m (Attr n ∷ a) e = deeper k m a e
deeper k m (Value n ∷ a) e = deeper k m a e
deeper k m (Bad ∷ a) e = deeper k m a e

level_zero : (o : Option ℕ) → level o ≡ true → o ≡ some zero
level_zero none e = cc
level_zero (some zero) e = refl
level_zero (some (suc k)) e = cc

pub at_depth : (k : ℕ) (a : List Tok) → balanced a ≡ true → run k a ≡ some k
at_depth zero a e = level_zero (run zero a) e
at_depth (suc k) a e = deeper k k a (at_depth k a e)

-- places where there is no fault need not be judged
first_all : (fault : ℕ → List Tok → List Tok → ℕ) (given : ℕ → ℕ → List Tok → ℕ) (judged : ℕ → Bool) (i : ℕ) (d : List Tok)
    → ((j : ℕ) → judged (i + j) ≡ false → fault_at fault (drop j d) ≡ 0)
    → first fault given (λ _. true) i d ≡ first fault given judged i d
first_all fault given judged i [] h = refl
first_all fault given judged i (x ∷ d) h = here (judged i) refl ∙ ap (or_else (cond (judged i) (fault_at fault (x ∷ d)) 0) (given (fault_at fault (x ∷ d)) i (x ∷ d))) (first_all fault given judged (suc i) d (λ j e. h (suc j) (rw add-suc (rw suc-add at e))))
  where
    here : (b : Bool) → judged i ≡ b → or_else (fault_at fault (x ∷ d)) (given (fault_at fault (x ∷ d)) i (x ∷ d)) (first fault given (λ _. true) (suc i) d) ≡ or_else (cond (judged i) (fault_at fault (x ∷ d)) 0) (given (fault_at fault (x ∷ d)) i (x ∷ d)) (first fault given (λ _. true) (suc i) d)
    here true e = rw e
    here false e = rw (e, h zero (rw add-zero e))

module _ (cut piece post : List Tok) (hc : balanced cut ≡ true) (hp : balanced piece ≡ true) where
  -- an element whose own content does not reach the edited place has the same children after the edit
  same_kids : (k : ℕ) (q : List Tok) → level (run k q) ≡ false → kids k (q ++ (cut ++ post)) ≡ kids k (q ++ (piece ++ post))
  same_kids zero [] e = clash refl e
  same_kids (suc k) [] e = skip k k cut post (at_depth k cut hc) ∙ sym (skip k k piece post (at_depth k piece hp))
  same_kids zero (Start n ∷ q) e = ap (λ r. Start n ∷ r) (same_kids 1 q e)
  same_kids (suc k) (Start n ∷ q) e = same_kids (suc (suc k)) q e
  same_kids zero (End ∷ q) e = refl
  same_kids (suc k) (End ∷ q) e = same_kids k q e
  same_kids zero (Text n ∷ q) e = ap (λ r. Text n ∷ r) (same_kids zero q e)
  same_kids (suc k) (Text n ∷ q) e = same_kids (suc k) q e
  same_kids zero (Attr n ∷ q) e = same_kids zero q e
  same_kids (suc k) (Attr n ∷ q) e = same_kids (suc k) q e
  same_kids zero (Value n ∷ q) e = same_kids zero q e
  same_kids (suc k) (Value n ∷ q) e = same_kids (suc k) q e
  same_kids zero (Bad ∷ q) e = same_kids zero q e
  same_kids (suc k) (Bad ∷ q) e = same_kids (suc k) q e

  same_heads : (q : List Tok) → balanced q ≡ false → heads (q ++ (cut ++ post)) ≡ heads (q ++ (piece ++ post))
  same_heads [] e = clash refl e
  same_heads (Start n ∷ q) e = refl
  same_heads (End ∷ q) e = refl
  same_heads (Text n ∷ q) e = refl
  same_heads (Attr n ∷ q) e = ap (λ r. Attr n ∷ r) (same_heads q e)
  same_heads (Value n ∷ q) e = ap (λ r. Value n ∷ r) (same_heads q e)
  same_heads (Bad ∷ q) e = refl

  module _ (fault : ℕ → List Tok → List Tok → ℕ) where
    -- p is what stands before the edited place, from an element's start on
    same_fault : (x : Tok) (q : List Tok) → parent (x ∷ q) zero ≡ false
        → fault_at fault (x ∷ q ++ (cut ++ post)) ≡ fault_at fault (x ∷ q ++ (piece ++ post))
    same_fault (Start n) q e = ap₂ (fault n) (same_heads q e) (same_kids zero q e)
    same_fault End q e = refl
    same_fault (Text n) q e = refl
    same_fault (Attr n) q e = refl
    same_fault (Value n) q e = refl
    same_fault Bad q e = refl

    -- before the edited place
    before : (pre : List Tok) (i : ℕ) → i < length pre → parent pre i ≡ false
        → fault_at fault (drop i (pre ++ (cut ++ post))) ≡ fault_at fault (drop i (pre ++ (piece ++ post)))
    before [] i h e = absurd (not-suc-le-zero h)
    before (x ∷ pre) zero h e = same_fault x pre e
    before (x ∷ pre) (suc i) h e = before pre i (le_of_suc-le-suc h) e

    module _ (pre : List Tok) (valid : (i : ℕ) → fault_at fault (drop i (pre ++ (cut ++ post))) ≡ 0) where
      abbrev pub after : List Tok
      after = pre ++ (piece ++ post)

      -- an element that is not touched has no fault
      untouched : (i : ℕ) → touched (length pre) (length piece) after i ≡ false → fault_at fault (drop i after) ≡ 0
      untouched i e = elim (dec_le (length pre) i) [ yes h ↦ behind h | no h ↦ sym (before pre i (lt_of_not-le h) early) ∙ valid i ]
        where
          inside : Bool
          inside = leb (length pre) i && ltb i (length pre + length piece)

          parts : (parent (take (length pre) after) i ≡ false) × (inside ≡ false)
          parts = neither (parent (take (length pre) after) i) inside e

          early : parent pre i ≡ false
          early = rw take-append_seam at parts.0

          behind : length pre ≤ i → fault_at fault (drop i after) ≡ 0
          behind h =
              let past : length pre + length piece ≤ i = ltb-false i (length pre + length piece) (rw (le-leb (length pre) i h) at parts.1) in
              let j : ℕ = i - (length pre + length piece) in
              let here : i ≡ length pre + (length piece + j) = omega arith in
              rw (here, drop-append-add, drop-append-add) (rw (drop-append-add, drop-append-add) at (valid (length pre + (length cut + j))))

      -- judging what is touched is judging all
      pub local : (given : ℕ → ℕ → List Tok → ℕ) → first fault given (λ _. true) 0 after ≡ first fault given (touched (length pre) (length piece) after) 0 after
      local given = first_all fault given (touched (length pre) (length piece) after) 0 after (λ i e. untouched i (rw zero-add at e))
