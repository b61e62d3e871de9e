-- A name by its bytes: whether it is the one that begins a text. Assumes nothing.
use Rattle.std.specs.Prelude.{◌≡◌, refl, ◌≢◌, Bool, true, false, cond, not, ◌&&◌, Decides, List, [], ◌∷◌, ℕ, suc, ◌+◌, ◌≤◌, ◌<◌, eqb, length, take, drop, reverse}
use Rattle.std.specs.List.{prefix_len}
use Rattle.std.proofs.Common.{sym, ap, ◌∙◌, arith, one-add, eqb-true, eq-eqb, ne_eqb, length-drop, drop_of_length-le}
use Rattle.std.proofs.lemmas.List.{reverse-reverse}
use Rattle.paper.specs.Dtd.Letters.{is_more, begins, run, same}
use Rattle.basic_laws.specs.Bools.{clash}

-- those bytes, and no character of a name behind them
abbrev pub spelled : List ℕ → List ℕ → Bool
spelled [] s = not (begins is_more s)
spelled (c ∷ n) [] = false
spelled (c ∷ n) (b ∷ s) = eqb c b && spelled n s

-- a name is spelled there, if it is the name there
pub spelled_same : (t s : List ℕ) → spelled (run is_more t) s ≡ same (run is_more t) (run is_more s)
spelled_same [] s = ends s
  where
    ends : (s : List ℕ) → not (begins is_more s) ≡ same [] (run is_more s)
    ends [] = refl
    ends (b ∷ s) = by (is_more b)
      where
        by : (x : Bool) → not x ≡ same [] (cond x (b ∷ run is_more s) [])
        by true = refl
        by false = refl
spelled_same (c ∷ t) s = by (is_more c) refl s (spelled_same t)
  where
    ends : (s : List ℕ) → not (begins is_more s) ≡ same [] (run is_more s)
    ends [] = refl
    ends (b ∷ s) = by (is_more b)
      where
        by : (x : Bool) → not x ≡ same [] (cond x (b ∷ run is_more s) [])
        by true = refl
        by false = refl

    next : (b : ℕ) (s : List ℕ) (x : Bool) → is_more c ≡ true → is_more b ≡ x → spelled (run is_more t) s ≡ same (run is_more t) (run is_more s)
        → eqb c b && spelled (run is_more t) s ≡ same (c ∷ run is_more t) (cond x (b ∷ run is_more s) [])
    next b s true p q e = ap (λ y. eqb c b && y) e
    next b s false p q e = rw (ne_eqb c b (λ z. clash p (rw z q)))

    by : (x : Bool) → is_more c ≡ x → (s : List ℕ) → ((s : List ℕ) → spelled (run is_more t) s ≡ same (run is_more t) (run is_more s))
        → spelled (cond x (c ∷ run is_more t) []) s ≡ same (cond x (c ∷ run is_more t) []) (run is_more s)
    by false p s f = ends s
    by true p [] f = refl
    by true p (b ∷ s) f = next b s (is_more b) p refl (f s)

-- ---- a name's bytes

-- the longest run, by how many there are
pub run_taken : (P : ℕ → Bool) (s : List ℕ) → take (prefix_len P s) s ≡ run P s
run_taken P [] = refl
run_taken P (b ∷ s) = by (P b) (run_taken P s)
  where
    by : (x : Bool) → take (prefix_len P s) s ≡ run P s → take (cond x (1 + prefix_len P s) 0) (b ∷ s) ≡ cond x (b ∷ run P s) []
    by true e = rw (one-add (prefix_len P s)) (ap (λ r. b ∷ r) e)
    by false e = refl

-- ---- by its length

-- more bytes than there are
pub spelled_short : (n s : List ℕ) → length s < length n → false ≡ spelled n s
spelled_short [] s h = absurd (omega arith)
spelled_short (c ∷ n) [] h = refl
spelled_short (c ∷ n) (b ∷ s) h = by (eqb c b) (spelled_short n s (omega arith))
  where
    by : (x : Bool) → false ≡ spelled n s → false ≡ x && spelled n s
    by true e = e
    by false e = refl

-- from a place on, fewer bytes than the name has: only a name of none is there
pub spelled_beyond : (n text : List ℕ) (at : ℕ) → length text < at + length n → eqb (length n) 0 ≡ spelled n (drop at text)
spelled_beyond [] text at h = let e : drop at text ≡ [] = drop_of_length-le text {i = at} (omega arith) in rw e refl
spelled_beyond (c ∷ n) text at h = ne_eqb (length (c ∷ n)) 0 (λ z. omega (arith, z)) ∙ spelled_short (c ∷ n) (drop at text) (omega (arith, length-drop at text))

-- the same bytes, and what is behind them; other bytes
pub spelled_same_bytes : (n s : List ℕ) → n ≡ take (length n) s → spelled n s ≡ not (begins is_more (drop (length n) s))
spelled_same_bytes [] s e = refl
spelled_same_bytes (c ∷ n) [] e = absurd (let z : suc (length n) ≡ 0 = ap length e in omega arith)
spelled_same_bytes (c ∷ n) (b ∷ s) e =
    let p : c ≡ b = cc in
    let q : n ≡ take (length n) s = cc in
    rw (eq-eqb c b p) (spelled_same_bytes n s q)

pub spelled_other_bytes : (n s : List ℕ) → length n ≤ length s → n ≢ take (length n) s → false ≡ spelled n s
spelled_other_bytes [] s h e = absurd (e refl)
spelled_other_bytes (c ∷ n) [] h e = absurd (omega arith)
spelled_other_bytes (c ∷ n) (b ∷ s) h e = by (eqb c b) refl (spelled_other_bytes n s (omega arith))
  where
    by : (x : Bool) → eqb c b ≡ x → (n ≢ take (length n) s → false ≡ spelled n s) → false ≡ x && spelled n s
    by true p f = f (λ q. e (let r = eqb-true c b p in cc))
    by false p f = refl

-- r: whether the bytes are the same, from the last to the first
module _ (n s : List ℕ) (r : Bool) (d : Decides r (reverse n ≡ reverse (take (length n) s))) where
  pub spelled_if : (m : Bool) → r ≡ true → m ≡ begins is_more (drop (length n) s) → not m ≡ spelled n s
  spelled_if m p q =
      let e : n ≡ take (length n) s = sym (reverse-reverse n) ∙ ap reverse (d.0 p) ∙ reverse-reverse (take (length n) s) in
      ap not q ∙ sym (spelled_same_bytes n s e)

  pub spelled_not : length n ≤ length s → r ≡ false → r ≡ spelled n s
  spelled_not h p = p ∙ spelled_other_bytes n s h (λ e. clash (d.1 (ap reverse e)) p)
