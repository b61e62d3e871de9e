-- The reader: decoding into an array, and copying. Assumes nothing.
use Rattle.std.specs.Prelude.{◌≡◌, refl, Option, Some, None, Result as std·Result, Ok, Err, List, [], ◌∷◌, ◌++◌, ℕ, suc, ◌+◌, ◌-◌, ◌≤◌, ◌<◌, min, length, set, get_or}
use Rattle.std.proofs.Common.{sym, ap, ◌∙◌, append-nil, arith, add-one, length-take, length-set, drop_of_length-le, drop-cons, take-suc-set, length-take-le}
use Rattle.std.proofs.Math.Nat.{sub-zero}
use Rattle.std.proofs.Math.ListN.{take, drop}
use Rattle.std.proofs.Math.Seq.{paste, append_snoc}
use Rattle.copying.specs.Left.{copied_front}
use Rattle.paper.specs.Basics.{most_tokens}
use Rattle.paper.specs.Files.{Result, refused, made, put, tokens_in, reading, counted, read}
use Rattle.numbers.specs.At.{num_at, Stands, at_got, at_broken}
use Rattle.numbers.specs.Laws.{tokens_next, tokens_broken, tokens_full, tokens_end, tokens_made}
use Rattle.numbers.specs.declared.Num.{Num}
use Rattle.paper.specs.Codes.{number_of}
use Rattle.paper.specs.declared.Refusal.{Refusal}
use Rattle.docfile.specs.Outcome.{outcome, answer}

-- ---- decoding

-- there is a place for each of `room` tokens, or for as many as the file has bytes
pub record Roomy (file got : List ℕ) (room : ℕ) : Type 0 where
  pub few : room ≤ most_tokens
  pub long : min room (length file) ≤ length got

-- n tokens were read, which stand in the first places
pub record Tokens (r : Result) (room : ℕ) (got : List ℕ) (n : ℕ) : Type 0 where
  pub tokens : r ≡ made (take n got)
  pub held : n ≤ length got
  pub few : n ≤ room

-- what came of reading: tokens, or the number of the refusal
abbrev pub Decoded : Result → ℕ → List ℕ → std·Result ℕ Refusal → Type 0
Decoded r room got (Ok n) = Tokens r room got n
Decoded r room got (Err e) = r ≡ refused (number_of e)

-- l, and then what is made
abbrev after : List ℕ → Result → Result
after l (refused k) = refused k
after l (made m) = made (l ++ m)

after_none : (r : Result) → r ≡ after [] r
after_none (refused k) = refl
after_none (made l) = refl

after_put : (l : List ℕ) (v : ℕ) (r : Result) → after l (put v r) ≡ after (l ++ (v ∷ [])) r
after_put l v (refused k) = refl
after_put l v (made m) = ap made (sym (append_snoc l v m))

-- n tokens, those that stand before a place of the file, are in the first places; what is left of the file decides the answer
pub record Decoding (file before : List ℕ) (room at n : ℕ) (got : List ℕ) : Type 0 where
  pub within : at ≤ length file
  pub few : n ≤ room
  pub slow : n ≤ at
  pub long : length got ≡ length before
  pub same : tokens_in room file ≡ after (take n got) (tokens_in (room - n) (drop at file))

module _ (file before : List ℕ) (room : ℕ) where
  pub decode_none : Decoding file before room 0 0 before
  decode_none = record { within = omega arith; few = omega arith; slow = omega arith; long = refl; same = rw sub-zero (after_none (tokens_in room file)) }

  module _ {at n : ℕ} {got : List ℕ} (o : Roomy file before room) (c : Decoding file before room at n got) where
    pub decode_end : length file ≤ at → Tokens (tokens_in room file) room got n
    decode_end h = record {
      tokens = c.same ∙ rw (drop_of_length-le file h, tokens_end (room - n), append-nil);
      held = omega (arith, o.long, c.few, c.slow, c.within, c.long);
      few = c.few;
    }

    module _ (h : at < length file) {a : Option Num} (e : a ≡ num_at file at) where
      byte : drop at file ≡ get_or file at 0 ∷ drop (suc at) file
      byte = drop-cons file at 0 h

      pub decode_broken : a ≡ None → tokens_in room file ≡ refused 1
      decode_broken b = c.same ∙ rw (byte, tokens_broken (room - n) (get_or file at 0) (drop (suc at) file) (rw byte at ((at_broken file at).0 (sym e ∙ b))))

      module _ {x : Num} (g : a ≡ Some x) where
        told : Stands file at x.value x.next
        told = at_got file at x.value x.next (sym e ∙ g)

        pub decode_less : length file - x.next < length file - at
        decode_less = omega (arith, told.on)

        pub decode_full : n ≡ room → tokens_in room file ≡ refused 5
        decode_full f =
            let z : room - n ≡ 0 = omega arith in
            c.same ∙ rw (z, byte, tokens_full (get_or file at 0) (drop (suc at) file) x.value (drop x.next file) (rw byte at told.reads))

        module _ (f : n ≡ room → ⊥) where
          pub decode_place : n < length got
          decode_place = omega (arith, o.long, c.few, c.slow, c.long)

          pub decode_more : Decoding file before room x.next (n + 1) (set got n x.value)
          decode_more =
              let z : room - n ≡ suc (room - (n + 1)) = omega (arith, c.few) in
              let s : take (n + 1) (set got n x.value) ≡ take n got ++ (x.value ∷ []) = rw add-one (take-suc-set got n x.value decode_place) in
              record {
                within = told.within;
                few = omega (arith, c.few);
                slow = omega (arith, c.slow, told.on);
                long = simp length-set c.long;
                same = c.same ∙ rw (z, tokens_next (room - (n + 1)) (drop at file) x.value (drop x.next file) told.reads, s) (after_put (take n got) x.value (tokens_in (room - (n + 1)) (drop x.next file)));
              }

-- ---- both

module _ (file buffer : List ℕ) {room : ℕ} (e : room ≡ min (length buffer) most_tokens) where
  pub read_refused : {k : ℕ} → tokens_in room file ≡ refused k → outcome (answer k 0) buffer ≡ read file buffer
  unfolding read reading
  read_refused r = rw (← e, r)

  pub read_is : {got now : List ℕ} {n : ℕ} → Tokens (tokens_in room file) room got n → now ≡ paste buffer 0 (drop 0 got) n → outcome (answer 0 n) now ≡ read file buffer
  unfolding read reading
  read_is {got} {now} {n} d p =
      let q : now ≡ take n got ++ drop n buffer = copied_front buffer got n p in
      rw (← e, d.tokens, q, length-take-le n got d.held)
