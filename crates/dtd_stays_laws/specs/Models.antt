-- Models are read as before when more text follows; one over its limits that the text ends with may get a suffix, and stays over them.
-- Assumes nothing.
use Rattle.std.specs.Prelude.{◌≡◌, refl, Bool, true, false, cond, ◌&&◌, ℕ, zero, suc, ◌<◌, leb, eqb, length}
use Rattle.std.proofs.Common.{sym, ap, subst, ◌∙◌, arith, leb-false}
use mathlib.Core.List.{List, [], ◌∷◌, ◌++◌, append-nil, cons≢nil}
use Rattle.std.proofs.lemmas.Bool.{lt-leb}
use Rattle.paper.specs.Basics.{most_names}
use Rattle.paper.specs.Expressions.{Expr, count}
use Rattle.paper.specs.Schema.{symbols_of, most_symbols}
use Rattle.paper.specs.Dtd.Letters.{Name, opening, closing, comma, bar}
use Rattle.paper.specs.Dtd.Declarations.{Suffix, once, maybe, many, several, Part, word, sequence, choice, Parts, only, ◌and◌}
use Rattle.paper.specs.Dtd.Numbering.{suffixed, expr_of, model_fits}
use Rattle.paper.specs.Dtd.Readers.{Read, stop, ok, Reader, outside, pure, if_at, onward, ◌>>=◌, bounded}
use Rattle.paper.specs.Dtd.Readers as R
use Rattle.paper.specs.Dtd.Reading as D
use Rattle.dtd_laws.specs.Exact.{never}
use Rattle.dtd_laws.specs.Leaves.{literal_exact}
use Rattle.dtd_stays_laws.specs.Stays.{Under, Fails, up, up_length, Grows, Stays, chain, chain_strict, pure_stays, none_stays, by_front, Lasts, tested_stays}
use Rattle.dtd_stays_laws.specs.Leaves.{literal_stays, mark_strict, S?_stays, name_stays, suffix_stays, keeps_lasts, name_keeps}

fails_never : {A B : Type 0} {o : Read A} {a : A} {r : List ℕ} → Fails o → o ≡ ok a r → B
fails_never {o = stop k t} f e = never e
fails_never {o = ok b t} f e = absurd f

module _ (x : List ℕ) where
  -- ---- what is read up to the end of the text

  -- m takes it with x behind too, and x is left
  record Closes {A : Type 0} (n : ℕ) (m m' : Reader A) : Type 0 where
    pub closes : (s : List ℕ) (a : A) → length s < n → m s ≡ ok a [] → m' (s ++ x) ≡ ok a x

  -- m' takes something with x behind, and P refuses that too
  record Refuses {A : Type 0} (n : ℕ) (P : A → Bool) (m m' : Reader A) : Type 0 where
    pub refuses : (s : List ℕ) (a : A) → length s < n → m s ≡ ok a [] → P a ≡ false → (b : A) × (r : List ℕ) × (m' (s ++ x) ≡ ok b r) × (P b ≡ false)

  literal_closes : {n : ℕ} (l : List ℕ) → Closes n (R.literal l) (R.literal l)
  literal_closes l = record {
    closes = λ s a h e.
        let p : s ≡ l ++ [] = (literal_exact {n = 0} l).gives {a = a} {s = s} e in
        (literal_exact {n = length (s ++ x)} l).takes {a = a} (omega arith) (ap (λ t. t ++ x) (p ∙ append-nil l));
  }

  -- what m leaves, and f reads up to the end
  record Step {A B : Type 0} (m' : Reader A) (f : A → Reader B) (k : ℕ) (s : List ℕ) (b : B) : Type 0 where
    pub value : A
    pub rest : List ℕ
    pub short : length rest < k
    pub first : m' (s ++ x) ≡ ok value (rest ++ x)
    pub second : f value rest ≡ ok b []

  -- f takes a byte or more, so something is left
  step : {A B : Type 0} {m m' : Reader A} {f : A → Reader B} {n k : ℕ} → Stays x n m m' → ((s : List ℕ) → length s < n → Under (m s) k) → ((a : A) → Fails (f a []))
      → (s : List ℕ) (b : B) → length s < n → onward (m s) f ≡ ok b [] → Step m' f k s b
  step {A} {B} {m} {m'} {f} {n} {k} y u w s b h e = by (m s) (y.grows s h) (u s h) e
    where
      by : (o : Read A) → Grows x o (m' (s ++ x)) → Under o k → onward o f ≡ ok b [] → Step m' f k s b
      by (stop j t) g l e = never e
      by (ok a []) g l e = fails_never (w a) e
      by (ok a (c ∷ r)) g l e = record { value = a; rest = c ∷ r; short = l; first = g cons≢nil; second = e }

  module _ {A B : Type 0} {m m' : Reader A} {f f' : A → Reader B} {n k : ℕ} where
    chain_closes : Stays x n m m' → ((s : List ℕ) → length s < n → Under (m s) k) → ((a : A) → Fails (f a [])) → ((a : A) → Closes k (f a) (f' a))
        → Closes n (m >>= f) (m' >>= f')
    chain_closes y u w z = record {
      closes = λ s b h e.
          let t = step {f = f} y u w s b h e in
          ap (λ o. onward o f') t.first ∙ (z t.value).closes t.rest b t.short t.second;
    }

    chain_refuses : {P : B → Bool} → Stays x n m m' → ((s : List ℕ) → length s < n → Under (m s) k) → ((a : A) → Fails (f a []))
        → ((a : A) → Refuses k P (f a) (f' a)) → Refuses n P (m >>= f) (m' >>= f')
    chain_refuses y u w z = record {
      refuses = λ s b h e q.
          let t = step {f = f} y u w s b h e in
          let (c, r, i, j) = (z t.value).refuses t.rest b t.short t.second q in
          (c, r, ap (λ o. onward o f') t.first ∙ i, j);
    }

  -- m leaves no more than it was given, or less
  module _ {A : Type 0} {m m' : Reader A} where
    no_more : {n : ℕ} → Stays x n m m' → (s : List ℕ) → length s < n → Under (m s) n
    no_more {n} y s h = by (m s) (y.less s)
      where
        by : (o : Read A) → Under o (suc (length s)) → Under o n
        by (stop k t) l = tt
        by (ok a r) l = omega arith

  mark_under : {n : ℕ} (b : ℕ) (s : List ℕ) → length s < suc n → Under (R.mark b s) n
  mark_under {n} b s h = by (R.mark b s) (mark_strict x b s)
    where
      by : (o : Read (Unit {0})) → Under o (length s) → Under o n
      by (stop k t) l = tt
      by (ok a r) l = omega arith

  -- a value made of what m read
  made_closes : {A B : Type 0} {n : ℕ} {m m' : Reader A} (f : A → B) → Closes n m m' → Closes n (m >>= λ a. pure (f a)) (m' >>= λ a. pure (f a))
  made_closes {A} {B} {n} {m} {m'} f z = record { closes = λ s b h e. by s b h (m s) refl e }
    where
      by : (s : List ℕ) (b : B) → length s < n → (o : Read A) → m s ≡ o → onward o (λ a. pure (f a)) ≡ ok b [] → onward (m' (s ++ x)) (λ a. pure (f a)) ≡ ok b x
      by s b h (stop k t) p e = never e
      by s b h (ok a r) p e =
          let i : f a ≡ b = cc in
          let j : r ≡ [] = cc in
          ap (λ o. onward o (λ a. pure (f a))) (z.closes s a h (p ∙ ap (ok a) j)) ∙ ap (λ c. ok c x) i

  -- by the byte in front, of readers that take one
  module _ {A : Type 0} {n : ℕ} {m m' k k' : Reader A} where
    front_closes : (Q : ℕ → Bool) → Fails (k []) → Closes n m m' → Closes n k k' → Closes n (if_at Q m k) (if_at Q m' k')
    front_closes Q w y z = record { closes = λ s a h e. on s a h e }
      where
        on : (s : List ℕ) (a : A) → length s < n → if_at Q m k s ≡ ok a [] → if_at Q m' k' (s ++ x) ≡ ok a x
        on [] a h e = fails_never w e
        on (b ∷ s) a h e = by (Q b) e
          where
            by : (c : Bool) → cond c (m (b ∷ s)) (k (b ∷ s)) ≡ ok a [] → cond c (m' (b ∷ s ++ x)) (k' (b ∷ s ++ x)) ≡ ok a x
            by true e = y.closes (b ∷ s) a h e
            by false e = z.closes (b ∷ s) a h e

    front_refuses : {P : A → Bool} (Q : ℕ → Bool) → Fails (k []) → Refuses n P m m' → Refuses n P k k' → Refuses n P (if_at Q m k) (if_at Q m' k')
    front_refuses {P} Q w y z = record { refuses = λ s a h e q. on s a h e q }
      where
        on : (s : List ℕ) (a : A) → length s < n → if_at Q m k s ≡ ok a [] → P a ≡ false
            → (d : A) × (r : List ℕ) × (if_at Q m' k' (s ++ x) ≡ ok d r) × (P d ≡ false)
        on [] a h e q = fails_never w e
        on (b ∷ s) a h e q = by (Q b) e
          where
            by : (c : Bool) → cond c (m (b ∷ s)) (k (b ∷ s)) ≡ ok a []
                → (d : A) × (r : List ℕ) × (cond c (m' (b ∷ s ++ x)) (k' (b ∷ s ++ x)) ≡ ok d r) × (P d ≡ false)
            by true e = y.refuses (b ∷ s) a h e q
            by false e = z.refuses (b ∷ s) a h e q

  -- ---- a bracket's suffix

  -- there is one or none, whatever follows
  suffixed_on : (s : List ℕ) → (q : Suffix) × (r : List ℕ) × (R.suffix s ≡ ok q r)
  suffixed_on [] = (once, [], refl)
  suffixed_on (b ∷ s) = by (eqb b 63) (eqb b 42) (eqb b 43)
    where
      by : (y z w : Bool) → (q : Suffix) × (r : List ℕ) × (cond y (ok maybe s) (cond z (ok many s) (cond w (ok several s) (ok once (b ∷ s)))) ≡ ok q r)
      by true z w = (maybe, s, refl)
      by false true w = (many, s, refl)
      by false false true = (several, s, refl)
      by false false false = (once, b ∷ s, refl)

  -- one that is read is read with x behind too
  suffix_same : (b : ℕ) (s : List ℕ) (q : Suffix) (r : List ℕ) → R.suffix (b ∷ s) ≡ ok q r → R.suffix (b ∷ s ++ x) ≡ ok q (r ++ x)
  suffix_same b s q r e = by (eqb b 63) (eqb b 42) (eqb b 43) e
    where
      by : (y z w : Bool) → cond y (ok maybe s) (cond z (ok many s) (cond w (ok several s) (ok once (b ∷ s)))) ≡ ok q r
          → cond y (ok maybe (s ++ x)) (cond z (ok many (s ++ x)) (cond w (ok several (s ++ x)) (ok once (b ∷ s ++ x)))) ≡ ok q (r ++ x)
      by true z w e = cc
      by false true w e = cc
      by false false true e = cc
      by false false false e = let i : once ≡ q = cc in let j : b ∷ s ≡ r = cc in rw (i, ← j)

  -- ---- a suffix keeps a model over its limits

  over : (q : Suffix) (e : Expr) → leb (length (symbols_of e)) most_symbols && leb (count e) most_names ≡ false
      → leb (length (symbols_of (suffixed q e))) most_symbols && leb (count (suffixed q e)) most_names ≡ false
  over q e p = by q (leb (length (symbols_of e)) most_symbols) refl p
    where
      longer : (b : Bool) → leb (length (symbols_of e)) most_symbols ≡ b → b && leb (count e) most_names ≡ false
          → leb (suc (length (symbols_of e))) most_symbols && leb (count e) most_names ≡ false
      longer true i p = and_right (leb (suc (length (symbols_of e))) most_symbols) (leb (count e) most_names) p
        where
          and_right : (a b : Bool) → b ≡ false → a && b ≡ false
          and_right true b p = p
          and_right false b p = refl
      longer false i p = let h = leb-false (length (symbols_of e)) most_symbols i in rw (lt-leb (suc (length (symbols_of e))) most_symbols (omega arith))

      by : (q : Suffix) (b : Bool) → leb (length (symbols_of e)) most_symbols ≡ b → leb (length (symbols_of e)) most_symbols && leb (count e) most_names ≡ false
          → leb (length (symbols_of (suffixed q e))) most_symbols && leb (count (suffixed q e)) most_names ≡ false
      by once b i p = p
      by maybe b i p = longer (leb (length (symbols_of e)) most_symbols) refl p
      by many b i p = longer (leb (length (symbols_of e)) most_symbols) refl p
      by several b i p = longer (leb (length (symbols_of e)) most_symbols) refl p

  abbrev Over : (Parts → Suffix → Part) → Type 0
  Over make = (ps : Parts) (q : Suffix) → model_fits (make ps once) ≡ false → model_fits (make ps q) ≡ false

  module _ (known : Name → Bool) where
    behind_refuses : {n : ℕ} {m m' : Reader Parts} (make : Parts → Suffix → Part) → Over make → Stays x n m m' → Closes n m m'
        → Refuses n model_fits (D.behind known make m) (D.behind known make m')
    behind_refuses {n} {m} {m'} make o y z = record { refuses = λ s a h e f. by s a h f (m s) refl (y.grows s h) e }
      where
        more : (s : List ℕ) (a : Part) → model_fits a ≡ false → (ps : Parts) (c : ℕ) (t : List ℕ) → m' (s ++ x) ≡ ok ps (c ∷ t ++ x)
            → (o : Read Suffix) → R.suffix (c ∷ t) ≡ o → onward o (λ q. pure (make ps q)) ≡ ok a []
            → (b : Part) × (r : List ℕ) × (D.behind known make m' (s ++ x) ≡ ok b r) × (model_fits b ≡ false)
        more s a f ps c t g (stop k r) p e = never e
        more s a f ps c t g (ok q r) p e =
            let i : make ps q ≡ a = cc in
            (make ps q, r ++ x, rw (g, suffix_same c t q r p), subst (λ b. model_fits b ≡ false) (sym i) f)

        by : (s : List ℕ) (a : Part) → length s < n → model_fits a ≡ false → (o : Read Parts) → m s ≡ o → Grows x o (m' (s ++ x))
            → onward o (λ ps. R.suffix >>= λ q. pure (make ps q)) ≡ ok a []
            → (b : Part) × (r : List ℕ) × (D.behind known make m' (s ++ x) ≡ ok b r) × (model_fits b ≡ false)
        by s a h f (stop k t) p g e = never e
        by s a h f (ok ps []) p g e =
            let (q, r, j) = suffixed_on x in
            let i : make ps once ≡ a = cc in
            (make ps q, r, rw (z.closes s ps h p, j), o ps q (subst (λ b. model_fits b ≡ false) (sym i) f))
        by s a h f (ok ps (c ∷ t)) p g e = more s a f ps c t (g cons≢nil) (R.suffix (c ∷ t)) refl e

    -- ---- the readers

    named_stays : {n : ℕ} → Stays x n (D.named known) (D.named known)
    named_stays =
        chain x (tested_stays x outside known (name_stays x) (keeps_lasts x known (name_keeps x))) (λ n. chain x (suffix_stays x) (λ q. pure_stays x (word n q)))

    behind_stays : {n : ℕ} {m m' : Reader Parts} (make : Parts → Suffix → Part) → Stays x n m m' → Stays x n (D.behind known make m) (D.behind known make m')
    behind_stays make y = chain x y (λ ps. chain x (suffix_stays x) (λ q. pure_stays x (make ps q)))

    final_stays : {n : ℕ} (p : Part) → Stays x n (D.final known p) (D.final known p)
    final_stays p = chain x (literal_stays x (closing ∷ [])) (λ u. pure_stays x (only p))

    final_closes : {n : ℕ} (p : Part) → Closes n (D.final known p) (D.final known p)
    final_closes p = made_closes (λ u. only p) (literal_closes (closing ∷ []))

    mutual
      pub group_stays : (n : ℕ) → Stays x n (D.group known n) (D.group known (up x n))
      group_stays zero = none_stays x
      group_stays (suc n) =
          chain_strict x (literal_stays x (opening ∷ [])) (mark_strict x opening) (λ u.
          chain x (S?_stays x) (λ v.
          chain x (by_front x (eqb opening) (group_stays n) named_stays) (λ p.
          chain x (S?_stays x) (λ w.
          by_front x (eqb comma) (behind_stays (λ ps. sequence (p and ps)) (rest_stays n comma))
          (by_front x (eqb bar) (behind_stays (choice p) (rest_stays n bar)) (behind_stays sequence (final_stays p)))))))

      rest_stays : (n : ℕ) (j : ℕ) → Stays x n (D.rest known n j) (D.rest known (up x n) j)
      rest_stays zero j = none_stays x
      rest_stays (suc n) j =
          chain_strict x (literal_stays x (j ∷ [])) (mark_strict x j) (λ u.
          chain x (S?_stays x) (λ v.
          chain x (by_front x (eqb opening) (group_stays n) named_stays) (λ p.
          chain x (S?_stays x) (λ w. by_front x (eqb j) (chain x (rest_stays n j) (λ ps. pure_stays x (p and ps))) (final_stays p)))))

    part_stays : (n : ℕ) → Stays x n (if_at (eqb opening) (D.group known n) (D.named known)) (if_at (eqb opening) (D.group known (up x n)) (D.named known))
    part_stays n = by_front x (eqb opening) (group_stays n) named_stays

    -- from a separator to behind the bracket that closes
    rest_closes : (n : ℕ) (j : ℕ) → Closes n (D.rest known n j) (D.rest known (up x n) j)
    rest_closes zero j = record { closes = λ s a h e. absurd (omega arith) }
    rest_closes (suc n) j =
        chain_closes (literal_stays x (j ∷ [])) (mark_under j) (λ u. tt) (λ u.
        chain_closes (S?_stays x) (no_more (S?_stays x)) (λ v. tt) (λ v.
        chain_closes (part_stays n) (no_more (part_stays n)) (λ p. tt) (λ p.
        chain_closes (S?_stays x) (no_more (S?_stays x)) (λ w. tt) (λ w.
        front_closes (eqb j) tt (made_closes (λ ps. p and ps) (rest_closes n j)) (final_closes p)))))

    -- a model over its limits, up to the end of the text
    group_refuses : (n : ℕ) → Refuses n model_fits (D.group known n) (D.group known (up x n))
    group_refuses zero = record { refuses = λ s a h e f. absurd (omega arith) }
    group_refuses (suc n) =
        chain_refuses (literal_stays x (opening ∷ [])) (mark_under opening) (λ u. tt) (λ u.
        chain_refuses (S?_stays x) (no_more (S?_stays x)) (λ v. tt) (λ v.
        chain_refuses (part_stays n) (no_more (part_stays n)) (λ p. tt) (λ p.
        chain_refuses (S?_stays x) (no_more (S?_stays x)) (λ w. tt) (λ w.
        front_refuses (eqb comma) tt
        (behind_refuses (λ ps. sequence (p and ps)) (λ ps q. over q (expr_of (sequence (p and ps) once) (λ n. 0))) (rest_stays n comma) (rest_closes n comma))
        (front_refuses (eqb bar) tt
        (behind_refuses (choice p) (λ ps q. over q (expr_of (choice p ps once) (λ n. 0))) (rest_stays n bar) (rest_closes n bar))
        (behind_refuses sequence (λ ps q. over q (expr_of (sequence ps once) (λ n. 0))) (final_stays p) (final_closes p)))))))

    pub model_lasts : {n : ℕ} → Lasts x n (bounded (D.group known)) (bounded (D.group known)) model_fits
    model_lasts s a h e f g =
        let (b, r, i, j) = (group_refuses (suc (length s))).refuses s a (omega arith) e f in
        (b, r, subst (λ k. D.group known (suc k) (s ++ x) ≡ ok b r) (up_length x s) i, j)
