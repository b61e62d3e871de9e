-- Characters of a comment at a place: a byte of one sort, and what is read behind it. Assumes nothing.
use Rattle.std.specs.Prelude.{◌≡◌, refl, Bool, not, ◌&&◌, Result, Ok, List, ℕ, ◌+◌, ◌≤◌, eqb, length, drop}
use Rattle.std.proofs.Common.{arith}
use Rattle.paper.specs.Dtd.Letters.{alone, first_of_three, second, third, hyphen}
use Rattle.paper.specs.Dtd.Readers.{Read, stop, ok, byte, three}
use Rattle.dtd_words.specs.declared.Fault.{Fault}
use Rattle.dtd_words.specs.Places.{At}
use Rattle.dtd_words.specs.Words.{CameTo, Came}

-- what the reader of a byte came to, at a place
abbrev pub ByteCame : List ℕ → ℕ → Result ℕ Fault → Read ℕ → Type 0
ByteCame text at r o = CameTo (λ b a s. (b ≡ a) × At text (at + 1) s) text r o

-- a byte alone that is no hyphen
abbrev pub plain : ℕ → Bool
plain a = alone a && not (eqb a hyphen)

-- ---- three bytes

byte_read : (text : List ℕ) (at b : ℕ) (o : Read ℕ) → ByteCame text at (Ok b) o → (o ≡ ok b (drop (at + 1) text)) × (at + 1 ≤ length text)
byte_read text at b (ok a s) (p, x) = (rw (p, x.rest), x.inside)
byte_read text at b (stop k s) x = absurd x

pub three_read : (text : List ℕ) (at a b c : ℕ) → ByteCame text at (Ok a) (byte first_of_three (drop at text))
    → ByteCame text (at + 1) (Ok b) (byte (second a) (drop (at + 1) text)) → ByteCame text (at + 2) (Ok c) (byte (third a b) (drop (at + 2) text))
    → Came text (Ok (at + 3)) (three (drop at text))
three_read text at a b c x y z =
    let d : at + 1 + 1 ≡ at + 2 = omega arith in
    let e : at + 2 + 1 ≡ at + 3 = omega arith in
    let (p, h) = byte_read text at a (byte first_of_three (drop at text)) x in
    let (q, i) = byte_read text (at + 1) b (byte (second a) (drop (at + 1) text)) y in
    let (r, j) = byte_read text (at + 2) c (byte (third a b) (drop (at + 2) text)) z in
    rw p (rw q (rw d (rw r (rw e (record { inside = rw e at j; rest = refl })))))
