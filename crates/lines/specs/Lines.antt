-- The bytes of lines: how many they are, and the numbers of a stop. Assumes nothing.
use Rattle.std.specs.Prelude.{◌≡◌, refl, ◌≢◌, Bool, true, false, cond, List, [], ◌∷◌, ◌++◌, map, ℕ, zero, suc, ◌+◌, ◌-◌, ◌*◌, ◌/◌, ◌%◌, ◌^◌, ◌≤◌, ◌<◌, leb, ltb, length, set}
use Rattle.std.proofs.Common.{ap, ◌∙◌, append_assoc, arith, pow-suc, ltb-false, lt-ltb, le-ltb, leb-true, leb-false, length-append}
use Rattle.paper.specs.Basics.{concat}
use Rattle.paper.specs.Codes.{number_of}
use Rattle.paper.specs.declared.Refusal.{Refusal}
use Rattle.paper.specs.declared.Refusal.TheVariants.{Broken, Schema, Ambiguous, Shape, Room, Place, Name, Attributes, Content, Root, IdTwice, NoId, Table, DtdText, Counts, NotCompared}
use Rattle.io.specs.Digits.{last_digits as io·digits, IsDigitCount}
use Rattle.lines.specs.Put.{Put, put_length, put_both, put_as, put_one}
use Rattle.paper.specs.Program.{Line, halt, line, digits, decimal, line_bytes}

-- the bytes of a number, of a line, and of lines
unfoldable pub shown : ℕ → List ℕ
shown n = decimal n

unfoldable pub line_of : Line → List ℕ
line_of l = line_bytes l

unfoldable pub text : List Line → List ℕ
text l = concat (map line_bytes l)

-- a number, and a byte after it
abbrev pub field : ℕ → ℕ → List ℕ
field n end = shown n ++ (end ∷ [])

-- the most bytes of a line
abbrev pub line_room : ℕ
line_room = 49

-- the numbers with which the program stops
pub record Stop (n : ℕ) : Type 0 where
  pub low : 1 ≤ n
  pub high : n ≤ 5
  pub not_four : n ≡ 4 → ⊥

-- ---- decimal digits

-- the fewest digits that hold n are those of `digits`
spelled : (k r n : ℕ) → 1 ≤ r → r ≤ k → n < 10 ^ r → (1 < r → 10 ^ (r - 1) ≤ n) → io·digits 10 r n ≡ digits k n
spelled zero r n a b l m = absurd (omega arith)
spelled (suc k) zero n a b l m = absurd (omega arith)
spelled (suc k) (suc zero) n a b l m =
    let h : n < 10 = l in
    let e : n % 10 ≡ n = omega arith in
    rw (e, lt-ltb n 10 h)
spelled (suc k) (suc (suc r)) n a b l m =
    let p : 10 ^ suc (suc r) ≡ 10 ^ suc r * 10 = pow-suc 10 (suc r) in
    let q : 10 ^ suc r ≡ 10 ^ r * 10 = pow-suc 10 r in
    let o : 1 ≤ 10 ^ r = some_power r in
    let w : suc (suc r) - 1 ≡ suc r = omega arith in
    let v : suc r - 1 ≡ r = omega arith in
    let h : 10 ^ suc r ≤ n = rw w at (m (omega arith)) in
    let t : 10 ≤ n = omega arith in
    let f : io·digits 10 (suc r) (n / 10) ≡ digits k (n / 10) = spelled k (suc r) (n / 10) (omega arith) (omega arith) (omega arith) (λ z. rw v (omega arith)) in
    rw (le-ltb n 10 t, lt-ltb (n % 10) 10 (omega arith), f)
  where
    some_power : (r : ℕ) → 1 ≤ 10 ^ r
    some_power zero = omega arith
    some_power (suc r) = let o : 1 ≤ 10 ^ r = some_power r in omega (arith, pow-suc 10 r)

-- a word has at most twenty
word_few : (n r : ℕ) → n < 18446744073709551616 → IsDigitCount 10 1 n r → r ≤ 20
word_few n r h f = go (leb r 20) refl
  where
    powers : (k : ℕ) → 10 ^ 20 ≤ 10 ^ (20 + k)
    powers zero = omega arith
    powers (suc k) =
        let e : 20 + suc k ≡ suc (20 + k) = omega arith in
        let p : 10 ^ 20 ≤ 10 ^ (20 + k) = powers k in
        rw e (omega (arith, pow-suc 10 (20 + k)))

    go : (b : Bool) → leb r 20 ≡ b → r ≤ 20
    go true p = leb-true r 20 p
    go false p =
        let l : 20 < r = leb-false r 20 p in
        let e : r - 1 ≡ 20 + (r - 21) = omega arith in
        absurd (omega (arith, rw e at (f.2 (omega arith)), powers (r - 21)))

pub shown_is : (n r : ℕ) → n < 18446744073709551616 → IsDigitCount 10 1 n r → io·digits 10 r n ≡ shown n
unfolding shown
shown_is n r h f = spelled 20 r n f.0 (word_few n r h f) f.1 f.2

-- a number below 10 ^ d has at most d digits
digits_few : (k d n : ℕ) → n < 10 ^ suc d → length (digits k n) ≤ suc d
digits_few zero d n h = omega arith
digits_few (suc k) d n h = go (ltb n 10) refl d h (λ d. digits_few k d (n / 10))
  where
    go : (b : Bool) → ltb n 10 ≡ b → (d : ℕ) → n < 10 ^ suc d → ((d : ℕ) → n / 10 < 10 ^ suc d → length (digits k (n / 10)) ≤ suc d) → length (cond b ((48 + n) ∷ []) (digits k (n / 10) ++ ((48 + n % 10) ∷ []))) ≤ suc d
    go true p d h rec = omega arith
    go false p zero h rec = absurd (omega (arith, ltb-false n 10 p))
    go false p (suc d) h rec =
        let i : length (digits k (n / 10)) ≤ suc d = rec d (omega (arith, pow-suc 10 (suc d))) in
        omega (arith, length-append (digits k (n / 10)) ((48 + n % 10) ∷ []))

shown_few : (d n : ℕ) → n < 10 ^ suc d → length (shown n) ≤ suc d
unfolding shown
shown_few d n h = digits_few 20 d n h

-- ---- a line

field_length : (n end : ℕ) → length (field n end) ≡ length (shown n) + 1
field_length n end = length-append (shown n) (end ∷ [])

-- a number's byte comes after it
pub field_put : {s t : List ℕ} {at next : ℕ} (n end : ℕ) → at + length (shown n) < length s → Put s at (shown n) next t → Put s at (field n end) (next + 1) (set t next end)
field_put {t = t} {next = next} n end h p = put_both p (put_one t next end (omega (arith, p.place, put_length p)))

-- the four numbers of a line, and the room that each has
module _ (s : List ℕ) (at k n p u : ℕ) (h : at + line_room ≤ length s) (few : k < 100000) (small : n < 4294967296) where
  pub room_1 : at + length (shown k) < length s
  room_1 = omega (arith, shown_few 4 k few)

  module _ {a : ℕ} {t : List ℕ} (x : Put s at (field k 32) a t) where
    pub room_2 : a + length (shown n) < length t
    room_2 = omega (arith, shown_few 4 k few, shown_few 9 n (omega arith), field_length k 32, x.place, put_length x)

    module _ (low : p < 4294967296) {b : ℕ} {v : List ℕ} (y : Put t a (field n 32) b v) where
      pub room_3 : b + length (shown p) < length v
      room_3 =
          omega (
            arith,
            shown_few 4 k few,
            shown_few 9 n (omega arith),
            shown_few 9 p (omega arith),
            field_length k 32,
            field_length n 32,
            x.place,
            y.place,
            put_length x,
            put_length y,
          )

      module _ (word : u < 18446744073709551616) {c : ℕ} {w : List ℕ} (z : Put v b (field p 32) c w) where
        pub room_4 : c + length (shown u) < length w
        room_4 =
            omega (
              arith,
              shown_few 4 k few,
              shown_few 9 n (omega arith),
              shown_few 9 p (omega arith),
              shown_few 19 u (omega arith),
              field_length k 32,
              field_length n 32,
              field_length p 32,
              x.place,
              y.place,
              z.place,
              put_length x,
              put_length y,
              put_length z,
            )

        -- so much a line takes
        pub line_room_lem : {d : ℕ} {q : List ℕ} → Put w c (field u 10) d q → d ≤ at + line_room
        line_room_lem r =
            omega (
              arith,
              shown_few 4 k few,
              shown_few 9 n (omega arith),
              shown_few 9 p (omega arith),
              shown_few 19 u (omega arith),
              field_length k 32,
              field_length n 32,
              field_length p 32,
              field_length u 10,
              x.place,
              y.place,
              z.place,
              r.place,
            )

pub line_put : {s t v w z : List ℕ} {at a b c d : ℕ} (k n p u : ℕ) → Put s at (field k 32) a t → Put t a (field n 32) b v → Put v b (field p 32) c w
    → Put w c (field u 10) d z → Put s at (line_of (line k n p u)) d z
unfolding line_of shown
line_put k n p u f g h i =
    put_as (put_both f (put_both g (put_both h i))) (joined k n p u)
  where
    joined : (k n p u : ℕ) → field k 32 ++ (field n 32 ++ (field p 32 ++ field u 10)) ≡ line_of (line k n p u)
    joined k n p u =
        append_assoc (shown k) (32 ∷ []) (field n 32 ++ (field p 32 ++ field u 10))
        ∙ ap (λ l. shown k ++ (32 ∷ l))
        (append_assoc (shown n) (32 ∷ []) (field p 32 ++ field u 10) ∙ ap (λ l. shown n ++ (32 ∷ l)) (append_assoc (shown p) (32 ∷ []) (field u 10)))

-- ---- a stop

abbrev pub stop_text : List ℕ
stop_text = 115 ∷ 116 ∷ 111 ∷ 112 ∷ 32 ∷ []

-- a number has room behind the text
pub stop_room : {s t : List ℕ} {at a : ℕ} (n : ℕ) → at + line_room ≤ length s → n < 4294967296 → Put s at stop_text a t → a + length (shown n) < length t
stop_room n h few p = omega (arith, shown_few 9 n (omega arith), p.place, put_length p)

pub stop_put : {s t u : List ℕ} {at a b : ℕ} (n : ℕ) → Put s at stop_text a t → Put t a (field n 10) b u → Put s at (line_of (halt n)) b u
unfolding line_of shown
stop_put n p q = put_as (put_both p q) refl

-- the fixed bytes of a stop
pub due_stop_put : {s t : List ℕ} {at number r : ℕ} (k : ℕ) → ltb k 10 ≡ true → number ≡ k
    → Put s at (115 ∷ 116 ∷ 111 ∷ 112 ∷ 32 ∷ (48 + k) ∷ 10 ∷ []) r t → Put s at (line_of (halt number)) r t
unfolding line_of
due_stop_put k b e p = put_as p (rw (e, b))

-- of the refusals with which the program stops, that which is none of the others
pub last_stop : (e : Refusal) → Stop (number_of e) → e ≢ Broken → e ≢ Schema → e ≢ Ambiguous → number_of e ≡ 5
last_stop Broken s a b c = absurd (a refl)
last_stop Schema s a b c = absurd (b refl)
last_stop Ambiguous s a b c = absurd (c refl)
last_stop Shape s a b c = absurd (s.not_four refl)
last_stop Room s a b c = refl
last_stop Place s a b c = absurd (omega (arith, s.high))
last_stop Name s a b c = absurd (omega (arith, s.high))
last_stop Attributes s a b c = absurd (omega (arith, s.high))
last_stop Content s a b c = absurd (omega (arith, s.high))
last_stop Root s a b c = absurd (omega (arith, s.high))
last_stop IdTwice s a b c = absurd (omega (arith, s.high))
last_stop NoId s a b c = absurd (omega (arith, s.high))
last_stop Table s a b c = absurd (omega (arith, s.high))
last_stop DtdText s a b c = absurd (omega (arith, s.high))
last_stop Counts s a b c = absurd (omega (arith, s.high))
last_stop NotCompared s a b c = absurd (omega (arith, s.high))

-- ---- lines in a row

pub text_none : text [] ≡ []
unfolding text
text_none = refl

pub text_more : (l : Line) (m : List Line) → text (l ∷ m) ≡ line_of l ++ text m
unfolding text line_of
text_more l m = refl
