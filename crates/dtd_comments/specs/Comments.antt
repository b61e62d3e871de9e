-- Along a comment: turns of the loop to behind its end. Assumes nothing.
use mir.Val.{bool_byte}
use Rattle.std.specs.Prelude.{◌≡◌, refl, Bool, true, false, Result, Ok, Err, List, [], ◌∷◌, ℕ, ◌+◌, ◌-◌, ◌≤◌, ◌<◌, eqb, length, drop, get_or}
use Rattle.std.proofs.Common.{sym, ap, ◌∙◌, arith, add-one, eqb-true, length-drop, drop-cons}
use Rattle.paper.specs.Dtd.Letters.{begins, hyphen}
use Rattle.paper.specs.Dtd.Readers.{Read, stop, ok, Reader, ◌>>◌, bounded, literal, char, inside}
use Rattle.dtd_laws.specs.Comments.{char_less, inside_turn}
use Rattle.dtd_words.specs.declared.Fault.{Fault}
use Rattle.dtd_words.specs.Places.{At, begins_inside}
use Rattle.dtd_words.specs.Words.{Came, came_faulty}

-- a hyphen in front
hyphen_front : (text : List ℕ) (i : ℕ) → begins (eqb hyphen) (drop i text) ≡ true → (i < length text) × (drop i text ≡ hyphen ∷ drop (i + 1) text)
hyphen_front text i p =
    let h = begins_inside (eqb hyphen) text i p in
    let c = drop-cons text i 0 h in
    let g = eqb-true hyphen (get_or text i 0) (sym (ap (begins (eqb hyphen)) c) ∙ p) in
    (h, c ∙ rw (add-one i, ← g))

-- ---- turns

abbrev whole : Reader (Unit {0})
whole = bounded inside

-- the comment from `at` on goes on at i
pub record Going (text : List ℕ) (at i : ℕ) : Type 0 where
  pub within : i ≤ length text
  pub same : whole (drop at text) ≡ whole (drop i text)

module _ (text : List ℕ) (at : ℕ) where
  pub begun : at ≤ length text → Going text at at
  begun h = record { within = h; same = refl }

  module _ (i : ℕ) (g : Going text at i) where
    -- no hyphen: a character, and on
    plainly : begins (eqb hyphen) (drop i text) ≡ false → whole (drop at text) ≡ (char >> whole) (drop i text)
    plainly p = g.same ∙ inside_turn (drop i text) ∙ rw p

    -- a hyphen, and no other: a character behind it, and on
    hyphenly : begins (eqb hyphen) (drop i text) ≡ true → begins (eqb hyphen) (drop (i + 1) text) ≡ false
        → whole (drop at text) ≡ (char >> whole) (drop (i + 1) text)
    hyphenly p q = g.same ∙ inside_turn (drop i text) ∙ rw p (rw (hyphen_front text i p).1 (rw q))

    -- two hyphens, and the end
    doubly : begins (eqb hyphen) (drop i text) ≡ true → begins (eqb hyphen) (drop (i + 1) text) ≡ true
        → whole (drop at text) ≡ literal (45 ∷ 62 ∷ []) (drop (i + 1) text)
    doubly p q = g.same ∙ inside_turn (drop i text) ∙ rw p (rw (hyphen_front text i p).1 (rw q))

    -- b: whether a hyphen stands there
    module _ (b : Bool) (p : b ≡ begins (eqb hyphen) (drop i text)) where
      pub behind_inside : b ≡ true → i + 1 ≤ length text
      behind_inside p' = let h = (hyphen_front text i (sym p ∙ p')).0 in omega arith

      -- two hyphens
      pub ends : (r : Result ℕ Fault) → b ≡ true → true ≡ begins (eqb hyphen) (drop (i + 1) text) → Came text r (literal (45 ∷ 62 ∷ []) (drop (i + 1) text))
          → Came text r (whole (drop at text))
      ends r p' q x = rw (doubly (sym p ∙ p') (sym q)) x

      -- not so: a character is due
      module _ (one : b ≡ true → begins (eqb hyphen) (drop (i + 1) text) ≡ false) where
        due : whole (drop at text) ≡ (char >> whole) (drop (i + bool_byte b) text)
        due = by b refl
          where
            by : (x : Bool) → b ≡ x → whole (drop at text) ≡ (char >> whole) (drop (i + bool_byte x) text)
            by true q = hyphenly (sym p ∙ q) (one q)
            by false q = plainly (sym p ∙ q) ∙ ap (λ n. (char >> whole) (drop n text)) (let e : i ≡ i + 0 = omega arith in e)

        pub broken : (e : Fault) → Came text (Err e) (char (drop (i + bool_byte b) text)) → Came text (Err e) (whole (drop at text))
        broken e x = rw due (came_faulty (λ n a s. At text n s) text (λ z. whole) e (char (drop (i + bool_byte b) text)) x)

        module _ (n : ℕ) (x : Came text (Ok n) (char (drop (i + bool_byte b) text))) where
          went : (z : ℕ) × (char (drop (i + bool_byte b) text) ≡ ok z (drop n text)) × (n ≤ length text)
          went = by (char (drop (i + bool_byte b) text)) x
            where
              by : (o : Read ℕ) → Came text (Ok n) o → (z : ℕ) × (o ≡ ok z (drop n text)) × (n ≤ length text)
              by (ok z t) a = (z, rw a.rest, a.inside)
              by (stop k t) a = absurd a

          pub next : Going text at n
          next = let (z, q, h) = went in record { within = h; same = due ∙ rw q }

          pub next_less : length text - n < length text - i
          next_less =
              let (z, q, h) = went in
              let l = char_less (drop (i + bool_byte b) text) q in
              omega (arith, length-drop (i + bool_byte b) text, length-drop n text)
