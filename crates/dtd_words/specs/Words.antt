-- A word at a place: how far the text goes along with it; and what a reader came to. Assumes nothing.
use Rattle.std.specs.Prelude.{◌≡◌, refl, Bool, true, false, Result, Ok, Err, List, [], ◌∷◌, ℕ, suc, ◌+◌, ◌≤◌, ◌<◌, eqb, length, drop, get_or}
use Rattle.std.proofs.Common.{sym, ap, subst, ◌∙◌, arith, add-one, drop_of_length-le, drop-cons}
use Rattle.paper.specs.declared.Refusal.TheVariants.{DtdText}
use Rattle.paper.specs.Codes.{number_of}
use Rattle.paper.specs.Dtd.Letters.{begins}
use Rattle.paper.specs.Dtd.Readers.{Read, stop, ok, Reader, onward, literal}
use Rattle.dtd_words.specs.declared.Fault.{Fault}
use Rattle.dtd_words.specs.Places.{At, begins_inside}

-- What a reader came to: a value for what was read, as P says, or the refusal and the place of what is at fault.
abbrev pub CameTo : {A V : Type 0} → (V → A → List ℕ → Type 0) → List ℕ → Result V Fault → Read A → Type 0
CameTo P text (Ok v) (ok a s) = P v a s
CameTo P text (Ok v) (stop k s) = ⊥
CameTo P text (Err f) (ok a s) = ⊥
CameTo P text (Err f) (stop k s) = (number_of f.refusal ≡ k) × At text f.at s

-- where only the place behind is told
abbrev pub Came : {A : Type 0} → List ℕ → Result ℕ Fault → Read A → Type 0
Came text r o = CameTo (λ at a s. At text at s) text r o

-- What a reader came to, and another that goes on with what it read: a fault is the fault of both; else what is read behind it decides.
module _ {A B V W : Type 0} (P : V → A → List ℕ → Type 0) (Q : W → B → List ℕ → Type 0) (text : List ℕ) (f : A → Reader B) where
  pub faulty : (e : Fault) (o : Read A) → CameTo P text (Err e) o → CameTo Q text (Err e) (onward o f)
  faulty e (ok a s) c = absurd c
  faulty e (stop k s) c = c

  pub onwards : (v : V) (o : Read A) (r : Result W Fault) → CameTo P text (Ok v) o → ((a : A) (s : List ℕ) → P v a s → CameTo Q text r (f a s)) → CameTo Q text r (onward o f)
  onwards v (ok a s) r c g = g a s c
  onwards v (stop k s) r c g = absurd c

-- the place that a step came to is one of the text
pub came_inside : {A : Type 0} (text : List ℕ) (at : ℕ) (o : Read A) → Came text (Ok at) o → at ≤ length text
came_inside text at (ok a s) c = c.inside
came_inside text at (stop k s) c = absurd c

-- a step, and what is read behind it
module _ {A B W : Type 0} (Q : W → B → List ℕ → Type 0) (text : List ℕ) (f : A → Reader B) where
  pub came_faulty : (e : Fault) (o : Read A) → Came text (Err e) o → CameTo Q text (Err e) (onward o f)
  came_faulty e o c = faulty (λ at a s. At text at s) Q text f e o c

  pub came_onwards : (at : ℕ) (o : Read A) (r : Result W Fault) → Came text (Ok at) o → ((a : A) → CameTo Q text r (f a (drop at text))) → CameTo Q text r (onward o f)
  came_onwards at o r c g = onwards (λ at a s. At text at s) Q text f at o r c (λ a s x. subst (λ s. CameTo Q text r (f a s)) x.rest (g a))

-- ---- a word

-- the word from `at` on goes on with its byte i, at j
pub record Spelt (text word : List ℕ) (at i j : ℕ) : Type 0 where
  pub inside : j ≤ length text
  pub same : literal word (drop at text) ≡ literal (drop i word) (drop j text)

module _ (text word : List ℕ) (at : ℕ) where
  pub begun : at ≤ length text → Spelt text word at 0 at
  begun h = record { inside = h; same = refl }

  module _ {i j : ℕ} (s : Spelt text word at i j) where
    -- x: whether byte i stands at j
    module _ {x : Bool} (h : i < length word) (e : x ≡ begins (eqb (get_or word i 0)) (drop j text)) where
      next : drop i word ≡ get_or word i 0 ∷ drop (i + 1) word
      next = drop-cons word i 0 h ∙ ap (λ k. get_or word i 0 ∷ drop k word) (sym (add-one i))

      pub goes_on : x ≡ true → Spelt text word at (i + 1) (j + 1)
      goes_on p =
          let k = begins_inside (eqb (get_or word i 0)) text j (sym e ∙ p) in
          record { inside = omega arith; same = s.same ∙ rw next (by (drop j text) (drop-cons text j 0 k) (sym e ∙ p)) }
        where
          by : (l : List ℕ) → l ≡ get_or text j 0 ∷ drop (suc j) text → begins (eqb (get_or word i 0)) l ≡ true
              → literal (get_or word i 0 ∷ drop (i + 1) word) l ≡ literal (drop (i + 1) word) (drop (j + 1) text)
          by l q p = rw (q, add-one j) (rw (rw q at p))

      pub differs : x ≡ false → Came text (Err (record { refusal = DtdText; at = j })) (literal word (drop at text))
      differs p = rw s.same (rw next (by (drop j text) refl (sym e ∙ p)))
        where
          by : (l : List ℕ) → drop j text ≡ l → begins (eqb (get_or word i 0)) l ≡ false
              → Came text (Err (record { refusal = DtdText; at = j })) (literal (get_or word i 0 ∷ drop (i + 1) word) l)
          by [] q p = (refl, record { inside = s.inside; rest = q })
          by (b ∷ l) q p = rw p (refl, record { inside = s.inside; rest = q })

    pub whole : length word ≤ i → Came text (Ok j) (literal word (drop at text))
    whole h = rw (s.same, drop_of_length-le word h) (by (drop j text) refl)
      where
        by : (l : List ℕ) → drop j text ≡ l → Came text (Ok j) (literal [] l)
        by [] q = record { inside = s.inside; rest = q }
        by (b ∷ l) q = record { inside = s.inside; rest = q }
