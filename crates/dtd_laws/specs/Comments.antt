-- Characters and comments are read exactly as they are spelled. Assumes nothing.
use Rattle.std.specs.Prelude.{◌≡◌, refl, Bool, true, false, cond, not, ◌&&◌, ◌||◌, List, [], ◌∷◌, ◌++◌, ℕ, zero, suc, ◌≤◌, ◌<◌, leb, eqb, length}
use Rattle.std.proofs.Common.{sym, ap, inl, inr, arith, eq-eqb, ne_eqb, eqb-true, leb-true}
use Rattle.std.proofs.Math.Bool.{and-eq-true_iff}
use Rattle.std.proofs.lemmas.Bool.{lt-leb, not-true}
use Rattle.paper.specs.Basics.{between}
use Rattle.paper.specs.Dtd.Letters.{begins, alone, first_of_two, first_of_three, first_of_four, later, second, third, hyphen, end_comment}
use Rattle.paper.specs.Dtd.Grammar.{Spelling, ◌⨾◌, Inside, none, plain, hyphened}
use Rattle.paper.specs.Dtd.Grammar as G
use Rattle.paper.specs.Dtd.Readers.{Read, stop, ok, Reader, ◌>>◌, bounded, char}
use Rattle.paper.specs.Dtd.Readers as R
use Rattle.basic_laws.specs.Bools.{clash}
use Rattle.dtd_laws.specs.Exact.{Exact, Strict, Then, chain, chain_strict, reworded, Either, by_front, none_exact}
use Rattle.dtd_laws.specs.Leaves.{literal_exact, mark_exact, byte_exact}

-- ---- characters

-- which byte can stand first: the ranges lie apart
outside_below : (lo hi lo' hi' a : ℕ) → hi < lo' → between lo hi a ≡ true → between lo' hi' a ≡ false
outside_below lo hi lo' hi' a h p =
    let q = leb-true a hi ((and-eq-true_iff (leb lo a) (leb a hi)).0 p).1 in
    rw (lt-leb lo' a (omega arith))

outside_above : (lo hi lo' hi' a : ℕ) → hi' < lo → between lo hi a ≡ true → between lo' hi' a ≡ false
outside_above lo hi lo' hi' a h p =
    let q = leb-true lo a ((and-eq-true_iff (leb lo a) (leb a hi)).0 p).0 in
    and_false (leb lo' a) (leb a hi') (lt-leb a hi' (omega arith))
  where
    and_false : (x y : Bool) → y ≡ false → x && y ≡ false
    and_false true y p = p
    and_false false y p = refl

alone_low : (a : ℕ) → alone a ≡ true → a ≤ 127
alone_low a p = by (between 32 127 a) (eqb a 9) (eqb a 10) (eqb a 13) refl refl refl refl p
  where
    by : (w x y z : Bool) → between 32 127 a ≡ w → eqb a 9 ≡ x → eqb a 10 ≡ y → eqb a 13 ≡ z → (w || x || y || z) ≡ true → a ≤ 127
    by true x y z i j k l p = leb-true a 127 ((and-eq-true_iff (leb 32 a) (leb a 127)).0 i).1
    by false true y z i j k l p = let d = eqb-true a 9 j in omega arith
    by false false true z i j k l p = let d = eqb-true a 10 k in omega arith
    by false false false true i j k l p = let d = eqb-true a 13 l in omega arith
    by false false false false i j k l p = clash p refl

not_between : (lo hi a : ℕ) → a < lo → between lo hi a ≡ false
not_between lo hi a h = rw (lt-leb lo a h)

-- ---- the reader, part by part

abbrev Chars : ℕ → Spelling
Chars z s r =
    Either first_of_two (Then (G.byte first_of_two) (λ a. G.byte later))
    (Either first_of_three (Then (G.byte first_of_three) (λ a. Then (G.byte (second a)) (λ b. G.byte (third a b))))
    (Either first_of_four (Then (G.byte first_of_four) (λ a. Then (G.byte (second a)) (λ b. Then (G.byte later) (λ c. G.byte later))))
    (G.byte (λ a. alone a && not (eqb a hyphen))))) z s r

chars_exact : {n : ℕ} → Exact n R.char Chars
chars_exact =
    by_front (chain (byte_exact first_of_two) (λ a. byte_exact later))
    (by_front (chain (byte_exact first_of_three) (λ a. chain (byte_exact (second a)) (λ b. byte_exact (third a b))))
    (by_front (chain (byte_exact first_of_four) (λ a. chain (byte_exact (second a)) (λ b. chain (byte_exact later) (λ c. byte_exact later))))
    (byte_exact (λ a. alone a && not (eqb a hyphen)))))

chars_to : (z : ℕ) (s r : List ℕ) → Chars z s r → G.char s r
chars_to z s r (inl (f, (a, t, p, q))) = inr (inl (a, z, (t, p, q)))
chars_to z s r (inr (f, inl (g, (a, t, p, (b, u, q, x))))) = inr (inr (inl (a, b, z, (t, p, (u, q, x)))))
chars_to z s r (inr (f, inr (g, inl (h, (a, t, p, (b, u, q, (c, v, x, y))))))) = inr (inr (inr (a, b, c, z, (t, p, (u, q, (v, x, y))))))
chars_to z s r (inr (f, inr (g, inr (h, p)))) = inl (z, p)

chars_back : (s r : List ℕ) → G.char s r → (z : ℕ) × Chars z s r
chars_back s r (inl (a, (p, q))) =
    let low = alone_low a ((and-eq-true_iff (alone a) (not (eqb a hyphen))).0 q).0 in
    (a, inr (rw p (not_between 194 223 a (omega arith)), inr (rw p (not_between 224 239 a (omega arith)), inr (rw p (not_between 240 244 a (omega arith)), (p, q)))))
chars_back s r (inr (inl (a, b, (t, (p, q), x)))) = (b, inl (rw p q, (a, t, (p, q), x)))
chars_back s r (inr (inr (inl (a, b, c, (t, (p, q), (u, x, y)))))) =
    (c, inr (rw p (outside_above 224 239 194 223 a (omega arith) q), inl (rw p q, (a, t, (p, q), (b, u, x, y)))))
chars_back s r (inr (inr (inr (a, b, c, d, (t, (p, q), (u, x, (v, y, z))))))) = (
  d,
  inr (
    rw p (outside_above 240 244 194 223 a (omega arith) q),
    inr (rw p (outside_above 240 244 224 239 a (omega arith) q), inl (rw p q, (a, t, (p, q), (b, u, x, (c, v, y, z))))),
  ),
)

-- no character here begins with a hyphen
char_first : (s r : List ℕ) → G.char s r → begins (eqb hyphen) s ≡ false
char_first s r x = first s r x
  where
    other : (a : ℕ) (s t : List ℕ) → s ≡ a ∷ t → (hyphen ≡ a → ⊥) → begins (eqb hyphen) s ≡ false
    other a s t p h = rw p (ne_eqb hyphen a h)

    above : (lo hi a : ℕ) → hyphen < lo → between lo hi a ≡ true → hyphen ≡ a → ⊥
    above lo hi a h p e = let q = leb-true lo a ((and-eq-true_iff (leb lo a) (leb a hi)).0 p).0 in omega arith

    first : (s r : List ℕ) → G.char s r → begins (eqb hyphen) s ≡ false
    first s r (inl (a, (p, q))) = other a s r p (λ e. clash (eq-eqb a hyphen (sym e)) (not-true (eqb a hyphen) ((and-eq-true_iff (alone a) (not (eqb a hyphen))).0 q).1))
    first s r (inr (inl (a, b, (t, (p, q), x)))) = other a s t p (above 194 223 a (omega arith) q)
    first s r (inr (inr (inl (a, b, c, (t, (p, q), x))))) = other a s t p (above 224 239 a (omega arith) q)
    first s r (inr (inr (inr (a, b, c, d, (t, (p, q), x))))) = other a s t p (above 240 244 a (omega arith) q)

char_strict : (s r : List ℕ) → G.char s r → length r < length s
char_strict s r (inl (a, (p, q))) = rw p (omega arith)
char_strict s r (inr (inl (a, b, (t, (p, q), (x, y))))) = rw (p, x) (omega arith)
char_strict s r (inr (inr (inl (a, b, c, (t, (p, q), (u, (x, i), (y, j))))))) = rw (p, x, y) (omega arith)
char_strict s r (inr (inr (inr (a, b, c, d, (t, (p, q), (u, (x, i), (v, (y, j), (z, k)))))))) = rw (p, x, y, z) (omega arith)

-- ---- from behind `<!--` to behind `-->`

abbrev pub Within : Unit {0} → Spelling
Within u = Inside ⨾ G.literal end_comment

abbrev After : Unit {0} → Spelling
After u s r = Then Chars (λ z. Within) u s r

abbrev Turn : Unit {0} → Spelling
Turn u s r =
    Either (eqb hyphen) (Then (λ (v : Unit {0}). G.mark hyphen) (λ v. Either (eqb hyphen) (λ w. G.literal (45 ∷ 62 ∷ [])) After)) After u s r

turn_to : (u : Unit {0}) (s r : List ℕ) → Turn u s r → Within u s r
turn_to u s r (inl (f, (v, t, p, inl (g, q)))) = (s, none, cc)
turn_to u s r (inl (f, (v, t, p, inr (g, (z, x, c, (y, i, e)))))) = (y, hyphened (t, p, chars_to z t x c) i, e)
turn_to u s r (inr (f, (z, x, c, (y, i, e)))) = (y, plain (chars_to z s x c) i, e)

turn_back : (u : Unit {0}) (s r : List ℕ) → Within u s r → Turn u s r
turn_back u s r (t, i, e) = by s t i e
  where
    by : (s t : List ℕ) → Inside s t → G.literal end_comment t r → Turn u s r
    by s t none e = inl (rw e refl, (tt, 45 ∷ 62 ∷ r, e, inl (refl, refl)))
    by s t (plain {t = y} c i) e = let (z, d) = chars_back s y c in inr (char_first s y c, (z, y, d, (t, i, e)))
    by s t (hyphened {t = y} (x, p, c) i) e =
        let (z, d) = chars_back x y c in
        inl (rw p refl, (tt, x, p, inr (char_first x y c, (z, y, d, (t, i, e)))))

chars_strict : Strict Chars
chars_strict z s r p = char_strict s r (chars_to z s r p)

inside_less : {s t : List ℕ} → Inside s t → length t ≤ length s
inside_less none = omega arith
inside_less {s} {t} (plain {t = y} c i) = let d = char_strict s y c in let e = inside_less i in omega arith
inside_less {s} {t} (hyphened {t = y} (x, p, c) i) = let d = char_strict x y c in let e = inside_less i in rw p (omega arith)

pub within_strict : Strict Within
within_strict u s r (t, i, e) = let d = inside_less i in let f : length t ≡ length (end_comment ++ r) = rw e in omega arith

pub inside_exact : (n : ℕ) → Exact n (R.inside n) Within
inside_exact zero = none_exact within_strict
inside_exact (suc n) =
    reworded
    (by_front
    (chain_strict (mark_exact hyphen) (λ u s r p. rw p (omega arith)) (λ v. by_front (literal_exact (45 ∷ 62 ∷ [])) (chain chars_exact (λ z. inside_exact n))))
    (chain_strict chars_exact chars_strict (λ z. inside_exact n)))
    (λ u s r. (turn_to u s r, turn_back u s r))

-- ---- a bound above the text's length is never too small

pub char_less : (s : List ℕ) {z : ℕ} {t : List ℕ} → R.char s ≡ ok z t → length t < length s
char_less s {z} {t} e = chars_strict z s t ((chars_exact {n = 0}).gives e)

pub onward_same : {A B : Type 0} (x : Read A) (f g : A → Reader B) → ((a : A) (t : List ℕ) → x ≡ ok a t → f a t ≡ g a t) → R.onward x f ≡ R.onward x g
onward_same (stop k s) f g h = refl
onward_same (ok a t) f g h = h a t refl

pub mark_less : (b : ℕ) (s : List ℕ) {u : Unit {0}} {t : List ℕ} → R.mark b s ≡ ok u t → length t < length s
mark_less b s {u} {t} e = let p : s ≡ b ∷ t = (mark_exact {n = 0} b).gives {a = u} {s = s} e in rw p (omega arith)

-- two readers that agree on shorter texts, behind a character and behind a hyphen
module _ (m m' : Reader (Unit {0})) where
  char_same : (s : List ℕ) → ((t : List ℕ) → length t < length s → m t ≡ m' t) → (char >> m) s ≡ (char >> m') s
  char_same s h = onward_same (char s) (λ z. m) (λ z. m') (λ z t p. h t (char_less s p))

  hyphened_same : (s : List ℕ) → ((t : List ℕ) → length t < length s → m t ≡ m' t) → R.hyphened m s ≡ R.hyphened m' s
  hyphened_same s h =
      onward_same (R.mark hyphen s) (λ u. R.if_at (eqb hyphen) (R.literal (45 ∷ 62 ∷ [])) (char >> m))
      (λ u. R.if_at (eqb hyphen) (R.literal (45 ∷ 62 ∷ [])) (char >> m'))
      (λ u t p.
      let d = mark_less hyphen s p in
      ap (cond (begins (eqb hyphen) t) (R.literal (45 ∷ 62 ∷ []) t)) (char_same t (λ v i. h v (omega arith))))

  turn_same : (s : List ℕ) → ((t : List ℕ) → length t < length s → m t ≡ m' t)
      → R.if_at (eqb hyphen) (R.hyphened m) (char >> m) s ≡ R.if_at (eqb hyphen) (R.hyphened m') (char >> m') s
  turn_same s h = rw (hyphened_same s h, char_same s h)

inside_enough : (n m : ℕ) (s : List ℕ) → length s < n → length s < m → R.inside n s ≡ R.inside m s
inside_enough zero m s h k = absurd (omega arith)
inside_enough (suc n) zero s h k = absurd (omega arith)
inside_enough (suc n) (suc m) s h k = turn_same (R.inside n) (R.inside m) s (λ t i. inside_enough n m t (omega arith) (omega arith))

-- a turn of the reader, with no bound to be seen
pub inside_turn : (s : List ℕ) → bounded R.inside s ≡ R.if_at (eqb hyphen) (R.hyphened (bounded R.inside)) (char >> bounded R.inside) s
inside_turn s = turn_same (R.inside (length s)) (bounded R.inside) s (λ t i. inside_enough (length s) (suc (length t)) t i (omega arith))
