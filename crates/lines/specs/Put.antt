-- Bytes that stand in a buffer from a place on. Assumes nothing.
use Rattle.std.specs.Prelude.{◌≡◌, refl, List, [], ◌∷◌, ◌++◌, ℕ, suc, ◌+◌, ◌≤◌, ◌<◌, length, take, drop, set}
use Rattle.std.proofs.Common.{sym, ◌∙◌, arith, add-zero, length-append, length-take-le}
use Rattle.std.proofs.lemmas.List.Edits.{sets}
use Rattle.std.proofs.Math.Seq.{length-sets, paste}
use Rattle.copying.specs.Left.{copied_all}

-- the bytes l stand in the buffer from a place on, and `next` is the place after them; every other byte is as before
pub record Put (before : List ℕ) (at : ℕ) (l : List ℕ) (next : ℕ) (after : List ℕ) : Type 0 where
  pub place : next ≡ at + length l
  pub within : next ≤ length before
  pub bytes : after ≡ sets before at l

sets_both : (s : List ℕ) (at : ℕ) (x y : List ℕ) → sets (sets s at x) (at + length x) y ≡ sets s at (x ++ y)
sets_both s at [] y = rw (add-zero at)
sets_both s at (b ∷ x) y =
    let e : at + suc (length x) ≡ suc at + length x = omega arith in
    rw e (sets_both (set s at b) (suc at) x y)

module _ {s t : List ℕ} {at n : ℕ} {x : List ℕ} (p : Put s at x n t) where
  pub put_length : length t ≡ length s
  put_length = rw p.bytes (length-sets s at x)

  -- what is put after it stands with it
  pub put_both : {y u : List ℕ} {m : ℕ} → Put t n y m u → Put s at (x ++ y) m u
  put_both {y} {u} {m} q =
      record {
        place = omega (arith, p.place, q.place, length-append x y);
        within = omega (arith, q.within, put_length);
        bytes = q.bytes ∙ rw (p.bytes, p.place) (sets_both s at x y);
      }

  pub put_as : {y : List ℕ} → x ≡ y → Put s at y n t
  put_as e = rw e at p

  -- what is put lies in the buffer
  pub put_fits : n ≤ length t
  put_fits = rw put_length p.within

  pub put_counts : n ≡ length (take n t)
  put_counts = sym (length-take-le n t put_fits)

-- two outcomes for one input are equal
pub put_same : {s t u : List ℕ} {at n m : ℕ} {l : List ℕ} → Put s at l n t → Put s at l m u → (n ≡ m) × (t ≡ u)
put_same p q = (p.place ∙ sym q.place, p.bytes ∙ sym q.bytes)

pub put_none : (s : List ℕ) (at : ℕ) → at ≤ length s → Put s at [] at s
put_none s at h = record { place = omega arith; within = h; bytes = refl }

-- one byte
pub put_one : (s : List ℕ) (at b : ℕ) → at < length s → Put s at (b ∷ []) (at + 1) (set s at b)
put_one s at b h = record { place = refl; within = omega arith; bytes = refl }

-- a text, copied
pub put_copied : (s : List ℕ) (at : ℕ) (text : List ℕ) {t : List ℕ} → at + length text ≤ length s → t ≡ paste s at (drop 0 text) (length text) → Put s at text (at + length text) t
put_copied s at text h e = record { place = refl; within = h; bytes = copied_all s at text h e }
