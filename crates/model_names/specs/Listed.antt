-- The names of a model's occurrences, in reading order, are the names among its symbols. Assumes nothing.
use Rattle.std.specs.Prelude.{◌≡◌, refl, Bool, true, false, List, [], ◌∷◌, ◌++◌, ℕ, zero, suc, ◌+◌, ◌-◌, ◌≤◌, ◌<◌, leb, ltb, length, drop, get_or, set, replicate}
use Rattle.std.proofs.Common.{sym, ap, ap₂, ◌∙◌, add-one, arith, leb-true, le-leb, lt-ltb, length-set, drop_of_length-le}
use Rattle.std.proofs.Math.Bool.{and-eq-true_iff}
use Rattle.std.proofs.Math.Option.{some}
use Rattle.std.proofs.lemmas.Bool.{lt-leb}
use Rattle.std.proofs.lemmas.List.Edits.{sets, sets-eq}
use Rattle.std.proofs.lemmas.List.{length-replicate}
use Rattle.paper.specs.Basics.{most_names, between, all, cons_if, pad}
use Rattle.paper.specs.Expressions.{Expr, name, seq, alt, opt, star, plus, names, count}
use Rattle.paper.specs.Schema.{symbols_of, expr_of}
use Rattle.basic_laws.specs.Lists.{drop_next}
use Rattle.content_laws.specs.Symbols.{expr_of_iff}
use Rattle.content_laws.specs.Names.{length_names}

-- the names among the symbols
abbrev pub names_in : List ℕ → List ℕ
names_in [] = []
names_in (x ∷ l) = cons_if (leb 5 x) (x - 5) (names_in l)

names_append : (l m : List ℕ) → names_in (l ++ m) ≡ names_in l ++ names_in m
names_append [] m = refl
names_append (x ∷ l) m = ap (cons_if (leb 5 x) (x - 5)) (names_append l m) ∙ go (leb 5 x)
  where
    go : (b : Bool) → cons_if b (x - 5) (names_in l ++ names_in m) ≡ cons_if b (x - 5) (names_in l) ++ names_in m
    go true = refl
    go false = refl

names_symbols : (e : Expr) → names_in (symbols_of e) ≡ names e
names_symbols (name a) = let d : 5 + a - 5 ≡ a = omega arith in rw (le-leb 5 (5 + a) (omega arith), d)
names_symbols (seq e f) = names_append (symbols_of e) (symbols_of f) ∙ ap₂ ◌++◌ (names_symbols e) (names_symbols f)
names_symbols (alt e f) = names_append (symbols_of e) (symbols_of f) ∙ ap₂ ◌++◌ (names_symbols e) (names_symbols f)
names_symbols (opt e) = names_symbols e
names_symbols (star e) = names_symbols e
names_symbols (plus e) = names_symbols e

-- symbols below 5 + E name elements below E
pub listed_below : (E : ℕ) (l : List ℕ) → all (between 0 (4 + E)) l ≡ true → all (λ a. ltb a E) (names_in l) ≡ true
listed_below E [] e = refl
listed_below E (x ∷ l) e =
    let (p, q) = (and-eq-true_iff (between 0 (4 + E) x) (all (between 0 (4 + E)) l)).0 e in
    let high = leb-true x (4 + E) ((and-eq-true_iff (leb 0 x) (leb x (4 + E))).0 p).1 in
    go (leb 5 x) refl high (listed_below E l q)
  where
    go : (b : Bool) → leb 5 x ≡ b → x ≤ 4 + E → all (λ a. ltb a E) (names_in l) ≡ true → all (λ a. ltb a E) (cons_if b (x - 5) (names_in l)) ≡ true
    go true p h r = let i = leb-true 5 x p in rw (lt-ltb (x - 5) E (omega arith)) r
    go false p h r = r

-- ---- over zeros

zeros_left : (k n : ℕ) → drop {A = ℕ} k (replicate n 0) ≡ replicate (n - k) 0
zeros_left zero n = let e : n ≡ n - 0 = omega arith in ap (λ m. replicate m 0) e
zeros_left (suc k) zero = let e : 0 ≡ 0 - suc k = omega arith in ap (λ m. replicate m 0) e
zeros_left (suc k) (suc n) = let e : n - k ≡ suc n - suc k = omega arith in zeros_left k n ∙ ap (λ m. replicate m 0) e

over_zeros : (n : ℕ) (l : List ℕ) → length l ≤ n → sets (replicate n 0) 0 l ≡ pad n l
over_zeros n l h =
    let e : 0 + length l ≡ length l = omega arith in
    sets-eq l (replicate n 0) 0 (omega (arith, length-replicate n zero))
    ∙ ap (λ k. l ++ drop k (replicate n 0)) e
    ∙ ap (λ r. l ++ r) (zeros_left (length l) n)

-- ---- of symbols that are one expression

module _ (s : List ℕ) (e : Expr) (c : expr_of s ≡ some e) where
  pub names_listed : names_in s ≡ names e
  names_listed = ap names_in (sym ((expr_of_iff s e).0 c)) ∙ names_symbols e

  pub count_listed : length (names_in s) ≡ count e
  count_listed = ap length names_listed ∙ length_names e

  -- the names over 64 zeros
  pub listed_pad : count e ≤ most_names → sets (replicate most_names 0) 0 (names_in s) ≡ pad most_names (names e)
  listed_pad h = ap (sets (replicate most_names 0) 0) names_listed ∙ over_zeros most_names (names e) (omega (arith, length_names e))

-- ---- one symbol after another

-- The names before place i of the symbols are listed, n of them.
pub record Listing (s old names : List ℕ) (n i : ℕ) : Type 0 where
  pub within : i ≤ length s
  pub long : length names ≡ length old
  pub room : n + length (names_in (drop i s)) ≤ length names
  pub rest : sets names n (names_in (drop i s)) ≡ sets old 0 (names_in s)

pub none_listed : (s old : List ℕ) → length (names_in s) ≤ length old → Listing s old old 0 0
none_listed s old h = record { within = omega arith; long = refl; room = omega arith; rest = refl }

module _ {s old names : List ℕ} {n i : ℕ} (l : Listing s old names n i) where
  pub all_listed : length s ≤ i → names ≡ sets old 0 (names_in s)
  all_listed h = rw (drop_of_length-le s h) at l.rest

  module _ (h : i < length s) where
    name_next : 5 ≤ get_or s i 0 → names_in (drop i s) ≡ (get_or s i 0 - 5) ∷ names_in (drop (i + 1) s)
    name_next op = rw (drop_next s i h, le-leb 5 (get_or s i 0) op)

    pub name_room : 5 ≤ get_or s i 0 → n < length names
    name_room op = omega (arith, l.room, ap length (name_next op))

    pub name_listed : {v m : ℕ} {more : List ℕ} → 5 ≤ get_or s i 0 → v ≡ get_or s i 0 - 5 → more ≡ set names n v → m ≡ n + 1 → Listing s old more m (i + 1)
    name_listed op e f g = rw (g, f, e) (record {
      within = omega arith;
      long = length-set names n (get_or s i 0 - 5) ∙ l.long;
      room = omega (arith, l.room, ap length (name_next op), length-set names n (get_or s i 0 - 5));
      rest = rw (add-one n) (ap (sets names n) (sym (name_next op)) ∙ l.rest);
    })

    pub not_listed : {m : ℕ} {more : List ℕ} → get_or s i 0 < 5 → more ≡ names → m ≡ n → Listing s old more m (i + 1)
    not_listed op f g =
        let e : names_in (drop i s) ≡ names_in (drop (i + 1) s) = rw (drop_next s i h, lt-leb 5 (get_or s i 0) op) in
        rw (g, f) (record { within = omega arith; long = l.long; room = omega (arith, l.room, ap length e); rest = ap (sets names n) (sym e) ∙ l.rest })
