-- The phase after a token, as the scan keeps it. Assumes nothing.
use Rattle.std.specs.Prelude.{◌≡◌, refl, Bool, true, false, cond, ℕ, suc, ◌+◌, ◌*◌, ◌<◌, leb, ltb}
use Rattle.std.proofs.Common.{mul-one, arith, le-leb}
use Rattle.paper.specs.declared.Tok.{Tok}
use Rattle.paper.specs.declared.Tok.TheVariants.{Start, End, Text, Attr, Value, Bad}
use Rattle.paper.specs.Shape.{Phase, Head, Named, Valued, Body, Fail, phase_of}
use Rattle.tokens.specs.Sorts.{token}
use Rattle.scan.specs.Scan.{rules, numbers}
use Rattle.scan.specs.PhaseTurns.{sort_of, number_of, Read, reads, Told, Turn}

-- ---- a turn

-- but for an attribute no number is asked for
any_number : (least n : ℕ) → leb (least * 0) n ≡ true
any_number least n = le-leb (least * 0) n (omega arith)

turn_tok : (p : Phase) (t : Tok) → Turn p (phase_of p t) (sort_of t) (number_of t)
unfolding rules
turn_tok Head (Start n) = rw (any_number 0 n) (refl, omega arith)
turn_tok Head End = (refl, refl)
turn_tok Head (Text n) = rw (any_number 0 n) (refl, omega arith)
turn_tok Head (Attr n) = rw (any_number 0 n) (refl, omega arith)
turn_tok Head (Value n) = refl
turn_tok Head Bad = refl
turn_tok (Named a) (Start n) = refl
turn_tok (Named a) End = refl
turn_tok (Named a) (Text n) = refl
turn_tok (Named a) (Attr n) = refl
turn_tok (Named a) (Value n) = rw (any_number (suc a) n) (refl, omega arith)
turn_tok (Named a) Bad = refl
turn_tok (Valued a) (Start n) = rw (any_number (suc a) n) (refl, omega arith)
turn_tok (Valued a) End = rw (any_number (suc a) 0) (refl, omega arith)
turn_tok (Valued a) (Text n) = rw (any_number (suc a) n) (refl, omega arith)
turn_tok (Valued a) (Attr n) = rw (mul-one (suc a)) (rises (leb (suc a) n))
  where
    rises : (b : Bool) → Told b (cond b (Named n) Fail) 32 (suc a * 0 + (n + 1) * 1)
    rises true = (refl, omega arith)
    rises false = refl
turn_tok (Valued a) (Value n) = rw (any_number (suc a) n) (refl, omega arith)
turn_tok (Valued a) Bad = refl
turn_tok Body (Start n) = rw (any_number 0 n) (refl, omega arith)
turn_tok Body End = (refl, refl)
turn_tok Body (Text n) = rw (any_number 0 n) (refl, omega arith)
turn_tok Body (Attr n) = refl
turn_tok Body (Value n) = refl
turn_tok Body Bad = refl
turn_tok Fail (Start n) = refl
turn_tok Fail End = refl
turn_tok Fail (Text n) = refl
turn_tok Fail (Attr n) = refl
turn_tok Fail (Value n) = refl
turn_tok Fail Bad = refl

pub turn : (p : Phase) (sort n : ℕ) → sort < 8 → ltb n (numbers sort) ≡ true → Turn p (phase_of p (token sort n)) sort n
turn p sort n h e =
    let r : Read sort n = reads n sort h e in
    rw (r.0, r.1) at (turn_tok p (token sort n))
