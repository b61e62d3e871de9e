-- A model in the schema file: what is asked, and what stands in the buffer after it. Assumes nothing.
use Rattle.std.specs.Prelude.{◌≡◌, refl, Bool, true, false, List, ◌++◌, ℕ, ◌+◌, ◌-◌, ◌≤◌, ◌<◌, ltb, length, take, drop}
use Rattle.std.proofs.Common.{ap, ◌∙◌, arith, ltb-true, ltb-false, length-append, drop_at, length-take-le}
use Rattle.std.proofs.Math.Seq.{paste}
use Rattle.paper.specs.Basics.{most_elements}
use Rattle.paper.specs.Files.{bytes_of, file_of}
use Rattle.paper.specs.Schema.{most_symbols}
use Rattle.paper.specs.Dtd.Declarations.{Part}
use Rattle.paper.specs.Dtd.Grammar.{cp}
use Rattle.numbers.specs.Store.{Storable, stored, one_wide, two_wide, least_wide}
use Rattle.numbers.specs.Small.{file_small}
use Rattle.lines.specs.Put.{Put, put_length, put_both, put_as, put_copied}
use Rattle.dtd_symbols.specs.Turns.{numbered, number_few}
use Rattle.dtd_symbols.specs.Written.{symbols_for, Spelled, Written}
use Rattle.dtd_content_bytes.specs.Symbols.{part_small}

-- the count of symbols, and the symbols
abbrev pub model_bytes : (text names : List ℕ) → Part → List ℕ
model_bytes text names p = bytes_of (length (symbols_for text names p)) ++ file_of (symbols_for text names p)

pub one_byte_each : (text names : List ℕ) → length names ≤ most_elements → (p : Part) → file_of (symbols_for text names p) ≡ symbols_for text names p
one_byte_each text names f p =
    file_small (symbols_for text names p) (part_small (numbered text names) (λ n. omega (arith, f, number_few text names n)) p)

-- A part is spelled from `from` to before `to`, has not too many symbols, and there is room for them from a place on.
pub record Modelled (text names : List ℕ) (from to : ℕ) (out : List ℕ) (at : ℕ) : Type 0 where
  pub part : Part
  pub spelled : cp part (drop from text) (drop to text)
  pub inside : to ≤ length text
  pub few : length names ≤ most_elements
  pub fits : length (symbols_for text names part) ≤ most_symbols
  pub room : at + length (model_bytes text names part) ≤ length out

-- whichever part is spelled there (there is only one), it is put
abbrev pub ModelPut : (text names : List ℕ) (from to : ℕ) (before : List ℕ) (at r : ℕ) (after : List ℕ) → Type 0
ModelPut text names from to before at r after = (p : Part) → cp p (drop from text) (drop to text) → Put before at (model_bytes text names p) r after

no_wider : (n m : ℕ) → n ≤ m → m < 16384 → length (bytes_of n) ≤ length (bytes_of m)
no_wider n m h k = by (ltb n 128) refl
  where
    by : (b : Bool) → ltb n 128 ≡ b → length (bytes_of n) ≤ length (bytes_of m)
    by true p = omega (arith, one_wide n (ltb-true n 128 p), least_wide m)
    by false p =
        let i : 128 ≤ n = ltb-false n 128 p in
        omega (arith, two_wide n i (omega arith), two_wide m (omega arith) k)

module _ (text names : List ℕ) (from to : ℕ) (out : List ℕ) (at : ℕ) (m : Modelled text names from to out at) where
  pub to_write : (symbols : List ℕ) → length symbols ≡ 255 → Spelled text names from to symbols
  to_write symbols l = record {
    part = m.part;
    spelled = m.spelled;
    inside = m.inside;
    few = m.few;
    long = l;
    fits = m.fits;
  }

  -- the symbols stand at the end of a buffer of 255 bytes, from `begin` on
  module _ (zeros symbols : List ℕ) (begin : ℕ) (z : length zeros ≡ 255) (l : length symbols ≡ 255) (w : Written text names from to zeros symbols begin) where
    pub begin_inside : begin ≤ 255
    begin_inside = omega (arith, (w m.part m.spelled).begin)

    head_long : length (take begin zeros) ≡ begin
    head_long = length-take-le begin zeros (omega (arith, begin_inside))

    counted : (p : Part) → cp p (drop from text) (drop to text) → 255 - begin ≡ length (symbols_for text names p)
    counted p c =
        let e = ap length (w p c).buffer ∙ length-append (take begin zeros) (symbols_for text names p) in
        omega (arith, e, head_long)

    ended : (p : Part) → cp p (drop from text) (drop to text) → drop begin symbols ≡ symbols_for text names p
    ended p c = ap (drop begin) (w p c).buffer ∙ drop_at (take begin zeros) (symbols_for text names p) begin head_long

    both_long : at + (length (bytes_of (255 - begin)) + (255 - begin)) ≤ length out
    both_long =
        let c = counted m.part m.spelled in
        let s = symbols_for text names m.part in
        let f = ap length (one_byte_each text names m.few m.part) in
        let b = ap (λ n. length (bytes_of n)) c in
        omega (arith, m.room, length-append (bytes_of (length s)) (file_of s), c, f, b)

    -- so there is for a smaller number
    pub number_room : (n : ℕ) → n ≤ 255 - begin → Storable out at n
    number_room n h = record { small = omega arith; room = omega (arith, both_long, no_wider n (255 - begin) h (omega arith)) }

    module _ (n next : ℕ) (mid : List ℕ) (e : (next, mid) ≡ stored out at n) (h : n ≤ 255 - begin) where
      number_put : Put out at (bytes_of n) next mid
      number_put = record {
        place = ap (λ (x : ℕ × List ℕ). x.0) e;
        within = omega (arith, ap (λ (x : ℕ × List ℕ). x.0) e, (number_room n h).room);
        bytes = ap (λ (x : ℕ × List ℕ). x.1) e;
      }

      pub copy_room : (next + (255 - begin) ≤ length mid) × (begin + (255 - begin) ≤ length symbols)
      copy_room = (
        omega (arith, number_put.place, put_length number_put, both_long, no_wider n (255 - begin) h (omega arith)),
        omega (arith, begin_inside),
      )

    pub model_put : (next : ℕ) (mid after : List ℕ) → (next, mid) ≡ stored out at (255 - begin) → after ≡ paste mid next (drop begin symbols) (255 - begin)
        → ModelPut text names from to out at (next + (255 - begin)) after
    model_put next mid after e a p c =
        let s : List ℕ = symbols_for text names p in
        let n : 255 - begin ≡ length s = counted p c in
        let h : next + length s ≤ length mid = omega (arith, (copy_room (255 - begin) next mid e (omega arith)).0, n) in
        let q : after ≡ paste mid next (drop 0 s) (length s) = rw (n, ended p c) at a in
        let d : next + (255 - begin) ≡ next + length s = ap (λ k. next + k) n in
        let b : Put out at (bytes_of (255 - begin)) next mid = number_put (255 - begin) next mid e (omega arith) in
        let x : Put out at (bytes_of (255 - begin) ++ s) (next + length s) after = put_both b (put_copied mid next s h q) in
        rw d (put_as x (rw (n, one_byte_each text names m.few p)))
