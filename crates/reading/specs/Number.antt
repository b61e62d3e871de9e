-- One number at a place of the file, in a range. Assumes nothing.
use Rattle.std.specs.Prelude.{◌≡◌, refl, Option, Some, None, Result, Ok, Err, Bool, true, false, cond, ◌&&◌, List, ℕ, ◌≤◌, ◌<◌, leb, length, drop}
use Rattle.std.proofs.Common.{sym, ◌∙◌, arith}
use borrow.Author.Tests.{le-leb, lt-leb, leb-true}
use Rattle.paper.specs.Files.{Front, broken, got, front}
use Rattle.paper.specs.Schema.{stop, ok, valued, number}
use Rattle.numbers.specs.At.{num_at, Stands, at_got, at_broken}
use Rattle.numbers.specs.declared.Num.{Num}
use Rattle.paper.specs.Codes.{number_of}
use Rattle.paper.specs.declared.Refusal.{Refusal}
use Rattle.paper.specs.declared.Refusal.TheVariants.{Broken, Schema}

module _ (lo hi : ℕ) (file : List ℕ) (at : ℕ) where
  -- a number that was read
  pub record Value (r : Num) : Type 0 where
    pub reads : number lo hi (drop at file) ≡ ok r.value (drop r.next file)
    pub on : at < r.next
    pub within : r.next ≤ length file
    pub low : lo ≤ r.value
    pub high : r.value ≤ hi

  -- it was refused, with 1 or 2
  pub record Refused (e : Refusal) : Type 0 where
    pub stopped : number lo hi (drop at file) ≡ stop (number_of e)
    pub few : number_of e ≤ 2

  abbrev pub Numbered : Result Num Refusal → Type 0
  Numbered (Ok r) = Value r
  Numbered (Err e) = Refused e

  module _ {a : Option Num} (e : a ≡ num_at file at) where
    pub number_broken : a ≡ None → Refused Broken
    unfolding number
    number_broken b = record { stopped = rw ((at_broken file at).0 (sym e ∙ b)); few = omega arith }

    module _ {n : Num} (g : a ≡ Some n) where
      told : Stands file at n.value n.next
      told = at_got file at n.value n.next (sym e ∙ g)

      pub number_low : n.value < lo → Refused Schema
      unfolding number
      number_low h = record { stopped = rw (told.reads, lt-leb lo n.value h); few = omega arith }

      pub number_high : lo ≤ n.value → hi < n.value → Refused Schema
      unfolding number
      number_high l h = record { stopped = rw (told.reads, le-leb lo n.value l, lt-leb n.value hi h); few = omega arith }

      pub number_got : lo ≤ n.value → n.value ≤ hi → Value n
      unfolding number
      number_got l h = record { reads = rw (told.reads, le-leb lo n.value l, le-leb n.value hi h); on = told.on; within = told.within; low = l; high = h }

-- what is refused up to a bound is refused up to a lower one, with the same number
pub refused_below : (lo hi top : ℕ) (file : List ℕ) (at : ℕ) {r : Refusal} → hi ≤ top → Refused lo top file at r
    → number lo hi (drop at file) ≡ stop (number_of r)
unfolding number
refused_below lo hi top file at {r} h n = go (front (drop at file)) n.stopped
  where
    go : (x : Front) → valued lo top x ≡ stop (number_of r) → valued lo hi x ≡ stop (number_of r)
    go broken e = e
    go (got k t) e = by (leb lo k) (leb k hi) (leb k top) (λ q. le-leb k top (omega (arith, leb-true k hi q))) e
      where
        by : (a b c : Bool) → (b ≡ true → c ≡ true) → cond (a && c) (ok k t) (stop 2) ≡ stop (number_of r) → cond (a && b) (ok k t) (stop 2) ≡ stop (number_of r)
        by false b c f e = e
        by true true c f e = rw (f refl) at e
        by true false true f e = let y : ◌≡◌ {A = ℕ} 0 1 = cc in absurd (omega arith)
        by true false false f e = e
