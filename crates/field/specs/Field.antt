-- Values met, as a list and as a field of bits, 64 to a word; over the length of the field. Assumes nothing.
use Rattle.std.specs.Prelude.{◌≡◌, refl, Bool, true, false, cond, not, ◌&&◌, ◌||◌, List, [], ◌∷◌, ℕ, zero, suc, ◌*◌, ◌/◌, ◌%◌, ◌+◌, ◌^◌, ◌<◌, eqb, length, get_or, set, replicate}
use Rattle.std.proofs.Common.{sym, ap, ◌∙◌, div-add-mod', mod-lt, zero-lt-suc, arith, eq-eqb, ne_eqb, get_or-set_same, get_or-set_other}
use Rattle.std.proofs.Math.Bool.{or_comm}
use Rattle.std.proofs.Math.Decide.{ℕ_discrete}
use Rattle.std.proofs.lemmas.Bool.{not-true, not-false}
use Rattle.std.specs.Int.Bits.{bit_or, bit_xor}
use Rattle.std.proofs.lemmas.Nat.{xor_shr, xor_mod}
use Rattle.paper.specs.Basics.{elem}
use Rattle.paper.specs.Sets.{bit}
use Rattle.paper_laws.specs.Words.{bit_of_or, bit_zero, bit_one}

-- the value v is marked; one past the end is not
abbrev pub marked : List ℕ → ℕ → Bool
marked field v = bit (get_or field (v / 64) 0) (v % 64)

-- the field with a mark at v
abbrev pub mark : List ℕ → ℕ → List ℕ
mark field v = set field (v / 64) (bit_or (get_or field (v / 64) 0) (2 ^ (v % 64)))

-- the field without a mark at v
abbrev pub unmark : List ℕ → ℕ → List ℕ
unmark field v = set field (v / 64) (bit_xor (bit_or (get_or field (v / 64) 0) (2 ^ (v % 64))) (2 ^ (v % 64)))

-- as the code makes them
pub mark_word : (field : List ℕ) (v : ℕ) {w : ℕ} → w ≡ bit_or (get_or field (v / 64) 0) (2 ^ (v % 64)) → set field (v / 64) w ≡ mark field v
mark_word field v e = rw e

pub unmark_none : (field : List ℕ) (is : Bool) (v : ℕ) → not is ≡ true → field ≡ cond is (unmark field v) field
unmark_none field is v e = rw (not-true is e)

pub unmark_word : (field : List ℕ) (is : Bool) (v : ℕ) {w : ℕ} → not is ≡ false → w ≡ bit_xor (bit_or (get_or field (v / 64) 0) (2 ^ (v % 64))) (2 ^ (v % 64))
    → set field (v / 64) w ≡ cond is (unmark field v) field
unmark_word field is v n e = rw (not-false is n, e)

-- ---- a bit of a word that is turned

xor_digit : (x y : ℕ) → x < 2 → y < 2 → eqb (bit_xor x y) 1 ≡ cond (eqb y 1) (not (eqb x 1)) (eqb x 1)
xor_digit zero zero h l = refl
xor_digit zero (suc zero) h l = refl
xor_digit zero (suc (suc y)) h l = absurd (omega arith)
xor_digit (suc zero) zero h l = refl
xor_digit (suc zero) (suc zero) h l = refl
xor_digit (suc zero) (suc (suc y)) h l = absurd (omega arith)
xor_digit (suc (suc x)) y h l = absurd (omega arith)

bit_of_xor : (v w k : ℕ) → bit (bit_xor v w) k ≡ cond (bit w k) (not (bit v k)) (bit v k)
bit_of_xor v w k =
    let two : 0 < 2 = zero-lt-suc 1 in
    rw (xor_shr v w k, xor_mod (v / 2 ^ k) (w / 2 ^ k) 1) (xor_digit (v / 2 ^ k % 2) (w / 2 ^ k % 2) (mod-lt _ two) (mod-lt _ two))

-- ---- what a field means

-- the marks are those of the values met
pub record Field (field met : List ℕ) : Type 0 where
  pub same : (v : ℕ) → marked field v ≡ elem v met

-- An empty field: none was met.
pub field_empty : (n : ℕ) → Field (replicate n 0) []
field_empty n = record { same = λ v. ap (λ w. bit w (v % 64)) (zero_at n (v / 64)) ∙ bit_zero (v % 64) }
  where
    zero_at : (n i : ℕ) → ◌≡◌ {A = ℕ} (get_or (replicate n 0) i 0) 0
    zero_at zero i = refl
    zero_at (suc n) zero = refl
    zero_at (suc n) (suc i) = zero_at n i

-- in one word, values are told apart by their bits
same_word : (v w : ℕ) → v / 64 ≡ w / 64 → eqb (v % 64) (w % 64) ≡ eqb v w
same_word v w e = elim (ℕ_discrete v w) [
  | yes c ↦ eq-eqb (v % 64) (w % 64) (ap (λ n. n % 64) c) ∙ sym (eq-eqb v w c)
  | no c ↦
      ne_eqb (v % 64) (w % 64) (λ r. c (sym (div-add-mod' v 64) ∙ ap (λ q. q * 64 + v % 64) e ∙ ap (λ m. w / 64 * 64 + m) r ∙ div-add-mod' w 64))
      ∙ sym (ne_eqb v w c)
]

-- the word at v's place is another one: the other words say what they said
at_word : (field : List ℕ) (w x v : ℕ) → w / 64 < length field → {b : Bool}
    → (v / 64 ≡ w / 64 → bit x (v % 64) ≡ b) → ((v / 64 ≡ w / 64 → ⊥) → marked field v ≡ b) → marked (set field (w / 64) x) v ≡ b
at_word field w x v h there other = elim (ℕ_discrete (v / 64) (w / 64)) [
  | yes e ↦ ap (λ i. bit (get_or (set field (w / 64) x) i 0) (v % 64)) e ∙ ap (λ z. bit z (v % 64)) (get_or-set_same field (w / 64) x 0 h) ∙ there e
  | no e ↦ ap (λ z. bit z (v % 64)) (get_or-set_other field (w / 64) (v / 64) x 0 e) ∙ other e
]

apart : (v w : ℕ) → (v / 64 ≡ w / 64 → ⊥) → eqb v w ≡ false
apart v w e = ne_eqb v w (λ q. e (ap (λ n. n / 64) q))

-- With one more mark, one more is marked.
pub marked_mark : (field : List ℕ) (w : ℕ) → w / 64 < length field → (v : ℕ) → marked (mark field w) v ≡ (eqb v w || marked field v)
marked_mark field w h v =
    let old : ℕ = get_or field (w / 64) 0 in
    at_word field w (bit_or old (2 ^ (w % 64))) v h
    (λ e.
    rw (bit_of_or old (2 ^ (w % 64)) (v % 64), bit_one (w % 64) (v % 64), same_word v w e)
    (or_comm (bit old (v % 64)) (eqb v w) ∙ ap (λ i. eqb v w || bit (get_or field i 0) (v % 64)) (sym e)))
    (λ e. rw (apart v w e))

-- .. and it was met
pub field_mark : (field met : List ℕ) (w : ℕ) → w / 64 < length field → Field field met → Field (mark field w) (w ∷ met)
field_mark field met w h c = record { same = λ v. marked_mark field w h v ∙ ap (λ b. eqb v w || b) (c.same v) }

-- Without a mark, the others are as they were.
pub marked_unmark : (field : List ℕ) (w : ℕ) → w / 64 < length field → (v : ℕ) → marked (unmark field w) v ≡ (not (eqb v w) && marked field v)
marked_unmark field w h v =
    let old : ℕ = get_or field (w / 64) 0 in
    at_word field w (bit_xor (bit_or old (2 ^ (w % 64))) (2 ^ (w % 64))) v h
    (λ e.
    rw (bit_of_xor (bit_or old (2 ^ (w % 64))) (2 ^ (w % 64)) (v % 64), bit_of_or old (2 ^ (w % 64)) (v % 64), bit_one (w % 64) (v % 64), same_word v w e)
    (off (bit old (v % 64)) (eqb v w) ∙ ap (λ i. not (eqb v w) && bit (get_or field i 0) (v % 64)) (sym e)))
    (λ e. rw (apart v w e))
  where
    off : (a b : Bool) → cond b (not (a || b)) (a || b) ≡ (not b && a)
    off true true = refl
    off true false = refl
    off false true = refl
    off false false = refl

-- ---- as the code notes a value

-- r: the value was marked before; it is now, where it is one to be marked
pub record Noted (field : List ℕ) (is : Bool) (v : ℕ) (after : List ℕ) (r : Bool) : Type 0 where
  pub told : r ≡ (is && marked field v)
  pub now_is : after ≡ cond is (mark field v) field

pub note_none : (field : List ℕ) (is : Bool) (v : ℕ) → not is ≡ true → Noted field is v field false
note_none field is v e = rw (not-true is e) (record { told = refl; now_is = refl })

pub note_one : (field : List ℕ) (is : Bool) (v : ℕ) {met : Bool} {after : List ℕ} → not is ≡ false → met ≡ marked field v → after ≡ mark field v
    → Noted field is v after met
note_one field is v e m a = rw (not-false is e) (record { told = m; now_is = a })
