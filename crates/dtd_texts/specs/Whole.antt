-- The declarations of a text, a turn at a time, with no bound to be seen. Assumes nothing.
use Rattle.std.specs.Prelude.{◌≡◌, Bool, false, cond, List, [], ◌++◌, ℕ, zero, suc, ◌<◌, length}
use Rattle.std.proofs.Math.Path.{refl}
use Rattle.std.proofs.Common.{ap, arith}
use Rattle.paper.specs.Basics.{null}
use Rattle.paper.specs.Dtd.Letters.{Name}
use Rattle.paper.specs.Dtd.Declarations.{Declaration}
use Rattle.paper.specs.Dtd.Readers.{Read, stop, ok, Reader, onward}
use Rattle.paper.specs.Dtd.Reading.{turn, declarations, reading}
use Rattle.dtd_before.specs.Paths.{turn_less}

module _ (known : Name → Bool) where
  -- what the text from here on comes to, after what was declared
  abbrev pub whole : List Declaration → Reader (List Declaration)
  whole old s = declarations known (suc (length s)) old s

  enough : (n m : ℕ) (old : List Declaration) (s : List ℕ) → length s < n → length s < m → declarations known n old s ≡ declarations known m old s
  enough zero m old s h k = absurd (omega arith)
  enough (suc n) zero old s h k = absurd (omega arith)
  enough (suc n) (suc m) old s h k = ap (λ x. cond (null s) (ok old s) x) (by (turn known old s) refl (λ new r i. enough n m (old ++ new) r (omega arith) (omega arith)))
    where
      by : (x : Read (List Declaration)) → turn known old s ≡ x
          → ((new : List Declaration) (r : List ℕ) → length r < length s → declarations known n (old ++ new) r ≡ declarations known m (old ++ new) r)
          → onward x (λ new. declarations known n (old ++ new)) ≡ onward x (λ new. declarations known m (old ++ new))
      by (stop j r) e g = refl
      by (ok new r) e g = g new r (turn_less known old new s r e)

  pub whole_none : (old : List Declaration) → whole old [] ≡ ok old []
  whole_none old = refl

  pub whole_turn : (old : List Declaration) (s : List ℕ) → null s ≡ false → whole old s ≡ onward (turn known old s) (λ new. whole (old ++ new))
  whole_turn old s p = rw p (by (turn known old s) refl)
    where
      by : (x : Read (List Declaration)) → turn known old s ≡ x → onward x (λ new. declarations known (length s) (old ++ new)) ≡ onward x (λ new. whole (old ++ new))
      by (stop j r) e = refl
      by (ok new r) e = let d = turn_less known old new s r e in enough (length s) (suc (length r)) (old ++ new) r (omega arith) (omega arith)

  pub reading_whole : (s : List ℕ) → reading known s ≡ whole [] s
  unfolding reading
  reading_whole s = refl
