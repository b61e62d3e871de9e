-- The piece of an edit, read into the first places of a buffer. Assumes nothing.
use Rattle.std.specs.Prelude.{◌≡◌, refl, Result, Ok, Err, List, [], ◌∷◌, ◌++◌, ℕ, suc, ◌+◌, ◌-◌, ◌≤◌, ◌<◌, length, take, drop, set}
use Rattle.std.proofs.Common.{ap, ◌∙◌, append-nil, arith, add-one, length-set, take-suc-set}
use Rattle.std.proofs.Math.Nat.{sub-zero}
use Rattle.paper.specs.Files.{largest}
use Rattle.paper.specs.Schema.{stop, ok, numbers}
use Rattle.paper.specs.Codes.{number_of}
use Rattle.paper.specs.declared.Refusal.{Refusal}
use Rattle.numbers.specs.declared.Num.{Num}
use Rattle.reading.specs.Ended.{prefixed, prefixed_none, prefixed_more}
use Rattle.reading.specs.Number.{Value, Refused}

module _ (n : ℕ) (file : List ℕ) (at : ℕ) (piece : List ℕ) where
  -- n numbers at a place, which the piece holds, and the place after them
  pub record PieceRead (next : ℕ) : Type 0 where
    pub reads : numbers n 0 largest (drop at file) ≡ ok (take n piece) (drop next file)
    pub within : next ≤ length file
    pub on : at ≤ next

  -- one of them is refused, with 1 or 2
  pub record PieceRefused (e : Refusal) : Type 0 where
    pub stopped : numbers n 0 largest (drop at file) ≡ stop (number_of e)
    pub few : number_of e ≤ 2

  abbrev pub PieceAt : Result ℕ Refusal → Type 0
  PieceAt (Ok next) = PieceRead next
  PieceAt (Err e) = PieceRefused e

-- i numbers of n are in the piece; the others are read from a place on
pub record Filling (file before : List ℕ) (at n i from : ℕ) (piece : List ℕ) : Type 0 where
  pub few : i ≤ n
  pub long : length piece ≡ length before
  pub room : n ≤ length piece
  pub on : at ≤ from
  pub within : from ≤ length file
  pub same : numbers n 0 largest (drop at file) ≡ prefixed (take i piece) (numbers (n - i) 0 largest (drop from file))

module _ (file before : List ℕ) (at n : ℕ) where
  pub fill_none : at ≤ length file → n ≤ length before → Filling file before at n 0 at before
  fill_none h l = record { few = omega arith; long = refl; room = l; on = omega arith; within = h; same = rw sub-zero (prefixed_none (numbers n 0 largest (drop at file))) }

  module _ {i from : ℕ} {piece : List ℕ} (f : Filling file before at n i from piece) where
    pub fill_end : n ≤ i → PieceRead n file at piece from
    fill_end h =
        let a : i ≡ n = omega (arith, f.few) in
        let z : n - i ≡ 0 = omega arith in
        record { reads = f.same ∙ rw (z, a) (ap (λ l. ok l (drop from file)) (append-nil (take n piece))); within = f.within; on = f.on }

    module _ (h : i < n) where
      left : n - i ≡ suc (n - (i + 1))
      left = omega arith

      pub fill_stop : {e : Refusal} (after : List ℕ) → Refused 0 largest file from e → PieceRefused n file at after e
      fill_stop after w = record { stopped = f.same ∙ rw (left, w.stopped); few = w.few }

      pub fill_more : {t : Num} → Value 0 largest file from t → Filling file before at n (i + 1) t.next (set piece i t.value)
      fill_more {t} v =
          let p : take i piece ++ t.value ∷ [] ≡ take (i + 1) (set piece i t.value) = rw (add-one i, take-suc-set piece i t.value (omega (arith, f.room))) in
          record {
            few = omega arith;
            long = length-set piece i t.value ∙ f.long;
            room = omega (arith, f.room, length-set piece i t.value);
            on = omega (arith, f.on, v.on);
            within = v.within;
            same =
                f.same ∙ rw (left, v.reads) (prefixed_more (take i piece) t.value (numbers (n - (i + 1)) 0 largest (drop t.next file)))
                ∙ ap (λ l. prefixed l (numbers (n - (i + 1)) 0 largest (drop t.next file))) p;
          }
