-- A model that is spelled comes to its symbols. Assumes nothing.
use Rattle.std.specs.Prelude.{◌≡◌, Bool, true, ◌||◌, ◌≢◌, ◌⊎◌, List, [], ◌∷◌, ◌++◌, ℕ, suc, ◌+◌, ◌-◌, ◌≤◌, ◌<◌, length, drop}
use Rattle.std.proofs.Math.Path.{refl, ap}
use Rattle.std.proofs.Common.{sym, ◌∙◌, inl, inr, append_assoc, append-nil, arith}
use Rattle.std.proofs.Math.Bool.{false, and-eq-true_iff}
use borrow.Author.Tests.{eq-eqb, ne_eqb, eqb-true, eqb-false}
use Rattle.std.proofs.Math.Dec.{eqb}
use Rattle.paper.specs.Basics.{all}
use Rattle.paper.specs.Expressions.{Expr, name, seq, alt}
use Rattle.paper.specs.Schema.{symbols_of}
use Rattle.paper.specs.Dtd.Letters.{Name, is_white, is_first, is_more, begins, run, opening, closing, comma, bar}
use Rattle.paper.specs.Dtd.Declarations.{Suffix, once, maybe, many, several, Part, word, sequence, choice, Parts, only, ◌and◌}
use Rattle.paper.specs.Dtd.Grammar.{◌⨾◌, S?, suffix, cp, cps}
use Rattle.paper.specs.Dtd.Grammar as G
use Rattle.paper.specs.Dtd.Numbering.{suffixed, expr_of, paired}
use Rattle.basic_laws.specs.Bools.{clash, either}
use Rattle.dtd_laws.specs.Leaves.{past_run}
use Rattle.dtd_symbol_laws.specs.Machine.{State, at, settled, step, step_inside, step_name, sweep, Closed}
use Rattle.dtd_symbol_laws.specs.Runs.{kept, onto, Low, signed}

-- ---- symbols kept for the part of a depth

low_kept : (m : List ℕ) (d : ℕ) (w : List (ℕ × ℕ)) → Low d w → Low (suc d) (kept m (suc d) w)
low_kept [] d [] h = tt
low_kept [] d ((k, g) ∷ w) h = omega arith
low_kept (g ∷ m) d w h = omega arith

settle_low : (w : List (ℕ × ℕ)) (d c : ℕ) (o : List ℕ) → Low d w → settled w c (suc d) o ≡ at c w o
settle_low [] d c o h = refl
settle_low ((k, g) ∷ w) d c o h = rw (ne_eqb k (suc d) (λ e. omega arith))

settle_kept : (m : List ℕ) (d c : ℕ) (w : List (ℕ × ℕ)) (o : List ℕ) → Low d w → settled (kept m (suc d) w) c (suc d) o ≡ at c w (onto m o)
settle_kept [] d c w o h = settle_low w d c o h
settle_kept (g ∷ m) d c w o h = rw (eq-eqb (suc d) (suc d) refl) (settle_kept m d c w (g ∷ o) h)

-- ---- along the text

-- j separates parts, and g is its symbol
record Joins (f : Name → ℕ) (j g : ℕ) (op : Expr → Expr → Expr) : Type 0 where
  plain : is_more j ≡ false
  apart : j ≢ opening
  keeps : (b : Bool) (n : Name) (d : ℕ) (w : List (ℕ × ℕ)) (o : List ℕ) → step f b j n (at d w o) ≡ at d ((suc d, g) ∷ w) o
  means : (e h : Expr) → symbols_of (op e h) ≡ g ∷ symbols_of e ++ symbols_of h

module _ (f : Name → ℕ) where
  -- From the text r up to the text s, the state x becomes y. b and c: whether the byte before s, and the one before r, belongs to a name.
  data Runs : Bool → List ℕ → Bool → List ℕ → State → State → Type 0 where
    none : {b : Bool} {s : List ℕ} {x : State} → Runs b s b s x x
    next : {b c e : Bool} {a : ℕ} {s r : List ℕ} {x y z : State} → is_more a ≡ e → (a ≡ opening → 0 < y.depth) → Runs e s c r x y
        → step f b a (run is_more (a ∷ s)) y ≡ z → Runs b (a ∷ s) c r x z

  abbrev Some : Bool → List ℕ → List ℕ → State → State → Type 0
  Some b s r x y = (c : Bool) × Runs b s c r x y

  then : {b c e : Bool} {s t r : List ℕ} {x y z : State} → Runs b s c t y z → Runs c t e r x y → Runs b s e r x z
  then none q = q
  then (next i o p e) q = next i o (then p q) e

  swept : {b c : Bool} {s r : List ℕ} {x y : State} → Runs b s c r x y
      → (n : ℕ) × (n ≤ length s) × (drop n s ≡ r) × (sweep f n s b x ≡ y) × Closed f n s b x
  swept none = (0, omega arith, refl, refl, tt)
  swept {x = x} (next {b} {c} {e} {a} {s} i o p z) =
      let (n, h, d, q, k) = swept p in
      let j = ap (λ v. sweep f n s v x) i ∙ q in
      (suc n, omega arith, d, ap (step f b a (run is_more (a ∷ s))) j ∙ z, (λ u. rw j (o u), rw i k))

  -- no byte of the sort is a `(`
  never : {A : Type 0} (P : ℕ → Bool) {a : ℕ} → P opening ≡ false → P a ≡ true → a ≡ opening → A
  never P p q e = clash (rw e at q) p

  -- one byte that is none of a name's
  mark_runs : (b : Bool) {a : ℕ} {s r : List ℕ} {x y : State} → is_more a ≡ false → (a ≡ opening → 0 < x.depth) → s ≡ a ∷ r
      → ((n : Name) → step f b a n x ≡ y) → Runs b s false r x y
  mark_runs b {a} {s} {r} {x} {y} p o q h = rw q (next p o none (h (run is_more (a ∷ r))))

  white_step : (b : Bool) (a : ℕ) (n : Name) (x : State) → is_white a ≡ true → (is_more a ≡ false) × (step f b a n x ≡ x)
  unfolding step
  white_step b a n x p = by (either (eqb a 32 || eqb a 9 || eqb a 13) (eqb a 10) p)
    where
      two : (eqb a 32 ≡ true) ⊎ (eqb a 9 ≡ true) → (is_more a ≡ false) × (step f b a n x ≡ x)
      two (inl e) = rw (eqb-true a 32 e) (refl, refl)
      two (inr e) = rw (eqb-true a 9 e) (refl, refl)

      three : ((eqb a 32 || eqb a 9) ≡ true) ⊎ (eqb a 13 ≡ true) → (is_more a ≡ false) × (step f b a n x ≡ x)
      three (inl e) = two (either (eqb a 32) (eqb a 9) e)
      three (inr e) = rw (eqb-true a 13 e) (refl, refl)

      by : ((eqb a 32 || eqb a 9 || eqb a 13) ≡ true) ⊎ (eqb a 10 ≡ true) → (is_more a ≡ false) × (step f b a n x ≡ x)
      by (inl e) = three (either (eqb a 32 || eqb a 9) (eqb a 13) e)
      by (inr e) = rw (eqb-true a 10 e) (refl, refl)

  white_runs : (w r : List ℕ) (x : State) → all is_white w ≡ true → Runs false (w ++ r) false r x x
  white_runs [] r x h = none
  white_runs (a ∷ w) r x h =
      let (i, j) = (and-eq-true_iff (is_white a) (all is_white w)).0 h in
      let (p, q) = white_step false a (run is_more (a ∷ (w ++ r))) x i in
      next p (never is_white refl i) (white_runs w r x j) q

  -- white space, whatever stands before it; and behind a mark
  space : (b : Bool) {s r : List ℕ} {x : State} → S? s r → Some b s r x x
  space b {s} {r} {x} ([], e, h, k) = rw e (b, none)
  space b {s} {r} {x} (a ∷ w, e, h, k) =
      let (i, j) = (and-eq-true_iff (is_white a) (all is_white w)).0 h in
      let (p, q) = white_step b a (run is_more (a ∷ (w ++ r))) x i in
      rw e (false, next p (never is_white refl i) (white_runs w r x j) q)

  space_behind : {s r : List ℕ} {x : State} → S? s r → Runs false s false r x x
  space_behind {s} {r} {x} (w, e, h, k) = rw e (white_runs w r x h)

  -- a suffix
  suffix_runs : (q : Suffix) (b : Bool) {s r : List ℕ} (m : List ℕ) (d : ℕ) (w : List (ℕ × ℕ)) (o : List ℕ) → suffix q s r
      → Some b s r (at d (kept m (suc d) w) o) (at d (kept (signed q m) (suc d) w) o)
  unfolding step
  suffix_runs once b m d w o (e, h) = rw e (b, none)
  suffix_runs maybe b m d w o e = (false, mark_runs b refl (λ z. absurd (eqb-false 63 opening refl z)) e (λ n. refl))
  suffix_runs many b m d w o e = (false, mark_runs b refl (λ z. absurd (eqb-false 42 opening refl z)) e (λ n. refl))
  suffix_runs several b m d w o e = (false, mark_runs b refl (λ z. absurd (eqb-false 43 opening refl z)) e (λ n. refl))

  -- a name
  name_goes : (w r : List ℕ) (x : State) → all is_more w ≡ true → Runs true (w ++ r) true r x x
  name_goes [] r x h = none
  name_goes (a ∷ w) r x h =
      let (i, j) = (and-eq-true_iff (is_more a) (all is_more w)).0 h in
      next i (never is_more refl i) (name_goes w r x j) (step_inside f (run is_more (a ∷ (w ++ r))) x a i)

  name_runs : (n : Name) {s r : List ℕ} (x : State) → G.name n s r
      → Runs false s true r x (settled x.owed x.depth (suc x.depth) ((5 + f n) ∷ x.done))
  name_runs [] x (e, h, k) = clash h refl
  name_runs (a ∷ w) {s} {r} x (e, h, k) =
      let (i, j) = (and-eq-true_iff (begins is_first (a ∷ w)) (all is_more (a ∷ w))).0 h in
      let (u, v) = (and-eq-true_iff (is_more a) (all is_more w)).0 j in
      let z = ap (λ m. settled x.owed x.depth (suc x.depth) ((5 + f m) ∷ x.done)) (past_run is_more (a ∷ w) r (refl, j, k)).0 in
      rw e (next u (never is_more refl u) (name_goes w r x v) (step_name f (run is_more (a ∷ (w ++ r))) x a u ∙ z))

  -- ---- parts

  become : {b c : Bool} {s r : List ℕ} {x y z : State} → Runs b s c r x y → y ≡ z → Runs b s c r x z
  become p e = rw e at p

  signed_symbols : (q : Suffix) (m : List ℕ) (e : Expr) (o : List ℕ) → onto (signed q m) (symbols_of e ++ o) ≡ onto m (symbols_of (suffixed q e) ++ o)
  signed_symbols once m e o = refl
  signed_symbols maybe m e o = refl
  signed_symbols many m e o = refl
  signed_symbols several m e o = refl

  -- m is kept for the part e with the suffix q
  module _ (q : Suffix) (m : List ℕ) (d : ℕ) (w : List (ℕ × ℕ)) (o : List ℕ) (e : Expr) (low : Low d w) where
    settle_signed : (c : ℕ) → settled (kept (signed q m) (suc d) w) c (suc d) (symbols_of e ++ o) ≡ at c w (onto m (symbols_of (suffixed q e) ++ o))
    settle_signed c = settle_kept (signed q m) d c w (symbols_of e ++ o) low ∙ ap (at c w) (signed_symbols q m e o)

    open_step : (n : Name) → step f false opening n (at (suc d) (kept (signed q m) (suc d) w) (symbols_of e ++ o)) ≡ at d w (onto m (symbols_of (suffixed q e) ++ o))
    unfolding step
    open_step n = settle_signed (suc d - 1) ∙ ap (λ c. at c w (onto m (symbols_of (suffixed q e) ++ o))) (omega arith)

    -- brackets round it
    enclosed : {s t u v r : List ℕ} → s ≡ opening ∷ t → S? t u
        → Some false u v (at (suc d) (kept (signed q m) (suc d) w) o) (at (suc d) (kept (signed q m) (suc d) w) (symbols_of e ++ o))
        → (S? ⨾ G.mark closing ⨾ suffix q) v r
        → Some false s r (at d (kept m (suc d) w) o) (at d w (onto m (symbols_of (suffixed q e) ++ o)))
    unfolding step
    enclosed p i (c, x) (y, j, (z, k, l)) =
        let (a, g) = space c j in
        let (b, h) = suffix_runs q false m d w o l in
        (b, then (mark_runs false refl (λ u. omega arith) p open_step) (then (space_behind i) (then x (then g (then (mark_runs a refl (λ u. absurd (eqb-false closing opening refl u)) k (λ n. refl)) h)))))

  -- a separator between them
  joined : {j g : ℕ} {op : Expr → Expr → Expr} → Joins f j g op → (e h : Expr) (d : ℕ) (w : List (ℕ × ℕ)) (o : List ℕ) {s t u v z r : List ℕ}
      → ((m o : List ℕ) → Some false s t (at d (kept m (suc d) w) o) (at d w (onto m (symbols_of e ++ o))))
      → S? t u → u ≡ j ∷ v → S? v z
      → Some false z r (at d w o) (at d w (symbols_of h ++ o))
      → Some false s r (at d w o) (at d w (symbols_of (op e h) ++ o))
  joined {j} {g} js e h d w o part i p k (c, y) =
      let (a, x) = part (g ∷ []) (symbols_of h ++ o) in
      let (b, l) = space a i in
      let q = ap (λ z. at d w (g ∷ z)) (sym (append_assoc (symbols_of e) (symbols_of h) o)) ∙ ap (λ z. at d w (z ++ o)) (sym (js.means e h)) in
      (c, then (become x q) (then l (then (mark_runs b js.plain (λ u. absurd (js.apart u)) p (λ n. js.keeps b n d w (symbols_of h ++ o))) (then (space_behind k) y))))

  commas : Joins f comma 0 seq
  unfolding step
  commas = record { plain = refl; apart = eqb-false comma opening refl; keeps = λ b n d w o. refl; means = λ e h. refl }

  bars : Joins f bar 1 alt
  unfolding step
  bars = record { plain = refl; apart = eqb-false bar opening refl; keeps = λ b n d w o. refl; means = λ e h. refl }

  mutual
    part_runs : (p : Part) (d : ℕ) (w : List (ℕ × ℕ)) (low : Low d w) {s r : List ℕ} → cp p s r → (m o : List ℕ)
        → Some false s r (at d (kept m (suc d) w) o) (at d w (onto m (symbols_of (expr_of p f) ++ o)))
    part_runs (word n q) d w low (t, x, y) m o =
        let (c, z) = suffix_runs q true m d w o y in
        (c, then (become (name_runs n (at d (kept (signed q m) (suc d) w) o) x) (settle_signed q m d w o (name (f n)) low d)) z)
    part_runs (sequence ps q) d w low (t1, e1, (t2, i, (t3, x, y))) m o =
        enclosed q m d w o (paired ps seq f) low e1 i (parts_runs commas ps (suc d) (kept (signed q m) (suc d) w) (low_kept (signed q m) d w low) x o) y
    part_runs (choice p ps q) d w low (t1, e1, (t2, i, (t3, x, (t4, j, (t5, e2, (t6, k, (t7, y, z))))))) m o =
        let v = kept (signed q m) (suc d) w in
        let h = low_kept (signed q m) d w low in
        enclosed q m d w o (alt (expr_of p f) (paired ps alt f)) low e1 i
        (joined bars (expr_of p f) (paired ps alt f) (suc d) v o (λ m o. part_runs p (suc d) v h x m o) j e2 k (parts_runs bars ps (suc d) v h y o)) z

    parts_runs : {j g : ℕ} {op : Expr → Expr → Expr} → Joins f j g op → (ps : Parts) (d : ℕ) (w : List (ℕ × ℕ)) (low : Low d w) {s r : List ℕ}
        → cps ps j s r → (o : List ℕ) → Some false s r (at d w o) (at d w (symbols_of (paired ps op f) ++ o))
    parts_runs js (only p) d w low x o = part_runs p d w low x [] o
    parts_runs {j} {g} {op} js (p and ps) d w low (t1, x, (t2, i, (t3, e, (t4, k, y)))) o =
        joined js (expr_of p f) (paired ps op f) d w o (λ m o. part_runs p d w low x m o) i e k (parts_runs js ps d w low y o)

  -- ---- a whole model

  pub spelled : (p : Part) {s r : List ℕ} → cp p s r
      → (n : ℕ) × (n ≤ length s) × (drop n s ≡ r) × (sweep f n s false (at 0 [] []) ≡ at 0 [] (symbols_of (expr_of p f))) × Closed f n s false (at 0 [] [])
  spelled p x =
      let (c, z) = part_runs p 0 [] tt x [] [] in
      swept (become z (ap (at 0 []) (append-nil (symbols_of (expr_of p f)))))
