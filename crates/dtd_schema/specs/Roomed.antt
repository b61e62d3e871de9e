-- Bytes for a lent buffer: the answer, and every byte of it. Assumes nothing.
use Rattle.std.specs.Prelude.{◌≡◌, refl, Bool, true, false, cond, ◌&&◌, List, ◌++◌, ℕ, ◌+◌, ◌≤◌, ◌<◌, leb, ltb, length, take, drop}
use Rattle.std.proofs.Common.{sym, ap, ◌∙◌, arith, zero-add, le-leb, lt-ltb, le-ltb, take_at}
use Rattle.std.proofs.lemmas.Bool.{lt-leb}
use Rattle.std.proofs.Math.Seq.{paste}
use Rattle.std.proofs.lemmas.List.Edits.{sets-eq}
use Rattle.paper.specs.Files.{counted, made, refused}
use Rattle.paper.specs.Dtd.Imported.{roomed}
use Rattle.lines.specs.Put.{Put}
use Rattle.copying.specs.Left.{copied_front}
use Rattle.docfile.specs.declared.Count.{Count}
use Rattle.docfile.specs.Outcome.{outcome, answer}

-- bytes l for a buffer: they are put, or there is no room
abbrev pub Roomed : (l buffer : List ℕ) → Count → List ℕ → Type 0
Roomed l buffer r after = outcome r after ≡ counted (roomed l buffer) buffer

module _ (l buffer : List ℕ) where
  pub no_room : length buffer < length l → Roomed l buffer (answer 5 0) buffer
  no_room h = rw (lt-leb (length l) (length buffer) h)

  -- "a count that 32 bits don't hold [..] is 5"
  pub too_many : 4294967296 ≤ length l → Roomed l buffer (answer 5 0) buffer
  too_many h = by (leb (length l) (length buffer))
    where
      by : (b : Bool) → outcome (answer 5 0) buffer ≡ counted (cond (b && ltb (length l) 4294967296) (made l) (refused 5)) buffer
      by true = rw (le-ltb (length l) 4294967296 h)
      by false = refl

  pub all_put : length l ≤ length buffer → length l < 4294967296 → Roomed l buffer (answer 0 (length l)) (l ++ drop (length l) buffer)
  all_put h k = rw (le-leb (length l) (length buffer) h, lt-ltb (length l) 4294967296 k)

-- ---- a file that is made and copied

module _ (l buffer before after : List ℕ) (n : ℕ) (p : Put before 0 l n after) where
  long : n ≡ length l
  long = p.place ∙ zero-add (length l)

  made_front : take n after ≡ l
  made_front =
      let w = p.within in
      let e = p.bytes ∙ sets-eq l before 0 (omega (arith, long)) in
      ap (take n) e ∙ take_at l (drop (0 + length l) before) n (sym long)

  pub no_place : length buffer < n → Roomed l buffer (answer 5 0) buffer
  no_place h = no_room l buffer (omega (arith, long))

  pub copied : {now : List ℕ} → length before < 4294967296 → n ≤ length buffer → now ≡ paste buffer 0 (drop 0 after) n → Roomed l buffer (answer 0 n) now
  copied k h e =
      let w = p.within in
      rw (copied_front buffer after n e, made_front, long) (all_put l buffer (omega (arith, long)) (omega (arith, long)))

-- ---- a list of bytes that is put where it belongs

pub put_there : (l buffer after : List ℕ) (n : ℕ) → Put buffer 0 l n after → length l < 4294967296 → Roomed l buffer (answer 0 n) after
put_there l buffer after n p k =
    let w = p.within in
    let i = p.place ∙ zero-add (length l) in
    rw (p.bytes ∙ sets-eq l buffer 0 (omega (arith, i)), i, zero-add (length l)) (all_put l buffer (omega (arith, i)) k)
