-- Every turn of the search keeps what holds: a pair is taken from the queue, and each name below E is tried from it. Assumes nothing.
use Rattle.std.specs.Prelude.{◌≡◌, refl, ◌⊎◌, Bool, true, false, cond, List, [], ◌∷◌, ◌++◌, ℕ, zero, suc, ◌+◌, ◌*◌, ◌≤◌, eqb, length, get_or, set}
use Rattle.std.proofs.Common.{sym, ◌∙◌, ap, inl, inr, ⊎_elim, arith, mul-le-mul_right, eqb-true, length-set, length-append, get_or-set_other}
use Rattle.std.proofs.Math.Logic.{⊎_map}
use Rattle.std.proofs.Math.Option.{Option, none, some}
use Rattle.std.proofs.Math.Decide.{ℕ_discrete}
use Rattle.std.proofs.lemmas.Bool.{eqb-false}
use Rattle.inclusion_laws.specs.Order.{rank_snoc}
use Rattle.inclusion_laws.specs.Members.{snoc_old, snoc_new, snoc_cases, left_set}
use Rattle.inclusion_laws.specs.Search.{Machine, Entry, Queue, onward, push, offer, expand}
use Rattle.inclusion_laws.specs.Invariant.{Sound, reach_snoc, place, rising_weak, rising_snoc, rising_high, Met, Has, Closed}
use Rattle.inclusion_laws.specs.Turns.{Expanding, Standing}

module _ (m : Machine) (E N : ℕ) (f : Sound m E N) where
  abbrev At : Type 0
  At = Entry m.Pair

  -- one more name: where it leads, if anywhere, was met
  closing_more : (x : At) (done todo : List At) (a : ℕ) → Closed m E done todo a x
      → ((q : m.Pair) → m.step x.pair a ≡ some q → Has E done todo q (place E x * E + suc a)) → Closed m E done todo (suc a) x
  closing_more x done todo a c h b q i e = elim (ℕ_discrete b a) [
    | yes d ↦ rw d (h q (rw d at e))
    | no d ↦ c b q (omega arith) e
  ]

  -- ---- it leads nowhere, or to a pair that was met

  module _ (x : At) (done : List At) (s : Queue m.Pair) (a : ℕ) (g : Expanding m E N f x done s a) where
    same : ((q : m.Pair) → m.step x.pair a ≡ some q → Has E (x ∷ done) s.todo q (place E x * E + suc a)) → Expanding m E N f x done s (suc a)
    same h =
        let b = g.base in
        record {
          base = record {
            marked = b.marked;
            fits = b.fits;
            earlier = b.earlier;
            rising = rising_weak E s.todo (suc (place E x)) (place E x * E + suc a) (place E x * E + suc (suc a)) b.rising (omega arith);
            right = b.right;
            safe = b.safe;
            begun = b.begun;
            short = b.short;
            size = b.size;
            room = b.room;
          };
          reached = g.reached;
          few = g.few;
          closed = g.closed;
          closing = closing_more x (x ∷ done) s.todo a g.closing h;
        }

    pub nowhere : m.step x.pair a ≡ none → Expanding m E N f x done s (suc a)
    nowhere e = same (λ q d. let z : ◌≡◌ {A = ℕ} 0 1 = cc in absurd (omega arith))

    pub met_before : (q : m.Pair) → m.step x.pair a ≡ some q → (get_or s.seen (m.number q) 0 ≡ 0 → ⊥) → Expanding m E N f x done s (suc a)
    met_before q e n = same (λ p d. let c : q ≡ p = cc in rw c at has)
      where
        in_time : (y : At) → Met (x ∷ done) s.todo y → place E y ≤ place E x * E + suc a
        in_time y (inl i) = let k = g.base.earlier y i in let l = mul-le-mul_right (place E x) f.some_names in omega arith
        in_time y (inr i) = let k = rising_high E s.todo (suc (place E x)) (place E x * E + suc a) y g.base.rising i in omega arith

        has : Has E (x ∷ done) s.todo q (place E x * E + suc a)
        has =
            let good : f.Good q = f.goes x.pair q a (g.base.fits x (inl (inl refl))) e in
            ⊎_elim (λ z. absurd (n z)) (λ (y, i, d). (y, i, f.own y.pair q (g.base.fits y i) good d, in_time y i)) (g.base.marked (m.number q))

  -- ---- it leads to a new pair

  module _ (x : At) (done : List At) (s : Queue m.Pair) (a : ℕ) (g : Expanding m E N f x done s a)
      (q : m.Pair) (e : m.step x.pair a ≡ some q) (new : get_or s.seen (m.number q) 0 ≡ 0) where
    abbrev y : At
    y = record { pair = q; word = x.word ++ a ∷ [] }

    y_place : place E y ≡ place E x * E + suc a
    y_place = rank_snoc x.word E 0 a

    good : f.Good q
    good = f.goes x.pair q a (g.base.fits x (inl (inl refl))) e

    met_more : (d : List At) (z : At) → Met d s.todo z → Met d (s.todo ++ y ∷ []) z
    met_more d z (inl i) = inl i
    met_more d z (inr i) = inr (snoc_old s.todo y z i)

    has_more : (d : List At) (p : m.Pair) (c : ℕ) → Has E d s.todo p c → Has E d (s.todo ++ y ∷ []) p c
    has_more d p c (z, i, k, l) = (z, met_more d z i, k, l)

    -- a fact of all that were met, and of the new one
    fits_more : (z : At) → Met (x ∷ done) (s.todo ++ y ∷ []) z → f.Good z.pair
    fits_more z (inl i) = g.base.fits z (inl i)
    fits_more z (inr i) = ⊎_elim (λ j. g.base.fits z (inr j)) (λ c. rw c good) (snoc_cases s.todo y z i)

    marked_more : (k : ℕ) → (get_or (set s.seen (m.number q) 1) k 0 ≡ 0) ⊎ ((z : At) × Met (x ∷ done) (s.todo ++ y ∷ []) z × (m.number z.pair ≡ k))
    marked_more k = elim (ℕ_discrete k (m.number q)) [
      | yes c ↦ inr (y, inr (snoc_new s.todo y), sym c)
      | no c ↦ ⊎_map (λ z. get_or-set_other s.seen (m.number q) k 1 0 c ∙ z) (λ (z, i, n). (z, met_more (x ∷ done) z i, n)) (g.base.marked k)
    ]

    pub pushed : Expanding m E N f x done (push m x a q s) (suc a)
    pushed =
        let b = g.base in
        let w = g.few in
        let r = b.room in
        let l = left_set s.seen (m.number q) (let k = f.few q good in let n = b.size in omega arith) new in
        record {
          base = record {
            marked = marked_more;
            fits = fits_more;
            earlier = b.earlier;
            rising = rising_weak E (s.todo ++ y ∷ []) (suc (place E x)) (suc (place E y)) (place E x * E + suc (suc a))
                (rising_snoc E s.todo y (suc (place E x)) (place E x * E + suc a) b.rising (omega (arith, y_place))) (omega (arith, y_place));
            right = λ z i. ⊎_elim (b.right z) (λ c. rw c (reach_snoc m x.word (some m.begin) a ∙ ap (λ o. onward m o a) g.reached ∙ e)) (snoc_cases s.todo y z i);
            safe = b.safe;
            begun = has_more (x ∷ done) m.begin 0 b.begun;
            short = λ z i. ⊎_elim (b.short z) (λ c. omega (arith, ap (λ t. length t.word) c, length-append x.word (a ∷ []))) (snoc_cases s.todo y z i);
            size = length-set s.seen (m.number q) 1 ∙ b.size;
            room = rw length-append (omega arith);
          };
          reached = g.reached;
          few = g.few;
          closed = λ z i c p j k. has_more (x ∷ done) p _ (g.closed z i c p j k);
          closing = closing_more x (x ∷ done) (s.todo ++ y ∷ []) a (λ c p j k. has_more (x ∷ done) p _ (g.closing c p j k))
              (λ p k. let d : q ≡ p = cc in (y, inr (snoc_new s.todo y), d, rw y_place (omega arith)));
        }

  -- ---- every name

  pub offered : (x : At) (done : List At) (s : Queue m.Pair) (a : ℕ) → Expanding m E N f x done s a
      → Expanding m E N f x done (offer m x a (m.step x.pair a) s) (suc a)
  offered x done s a g = go (m.step x.pair a) refl
    where
      seen : (q : m.Pair) (c : Bool) → eqb (get_or s.seen (m.number q) 0) 0 ≡ c → m.step x.pair a ≡ some q
          → Expanding m E N f x done (cond c (push m x a q s) s) (suc a)
      seen q true t e = pushed x done s a g q e (eqb-true (get_or s.seen (m.number q) 0) 0 t)
      seen q false t e = met_before x done s a g q e (eqb-false (get_or s.seen (m.number q) 0) 0 t)

      go : (o : Option m.Pair) → m.step x.pair a ≡ o → Expanding m E N f x done (offer m x a o s) (suc a)
      go none e = nowhere x done s a g e
      go (some q) e = seen q (eqb (get_or s.seen (m.number q) 0) 0) refl e

  expanded : (n : ℕ) (x : At) (done : List At) (s : Queue m.Pair) (a c : ℕ) → a + n ≡ c → Expanding m E N f x done s a
      → Expanding m E N f x done (expand m x a n s) c
  expanded zero x done s a c e g = let d : a ≡ c = omega arith in rw d at g
  expanded (suc n) x done s a c e g =
      expanded n x done (offer m x a (m.step x.pair a) s) (suc a) c (omega arith) (offered x done s a g)

  -- ---- the next pair

  -- every name below E was tried from x
  pub tried : (x : At) (done : List At) (s : Queue m.Pair) → Expanding m E N f x done s E → Standing m E N f (x ∷ done) s (suc (place E x))
  tried x done s h =
      let same : place E x * E + suc E ≡ suc (place E x) * E + 1 = omega arith in
      record {
        base = rw same at h.base;
        closed = λ z. elim [ inl e ↦ rw e h.closing | inr i ↦ h.closed z i ];
      }

  module _ (x : At) (done : List At) (seen : List ℕ) (todo : List At) (lo : ℕ)
      (g : Standing m E N f done (record { seen = seen; todo = x ∷ todo }) lo) (ok : m.losing x.pair ≡ false) where
    met_moved : (z : At) → Met done (x ∷ todo) z → Met (x ∷ done) todo z
    met_moved z (inl i) = inl (inr i)
    met_moved z (inr (inl e)) = inl (inl e)
    met_moved z (inr (inr i)) = inr i

    met_back : (z : At) → Met (x ∷ done) todo z → Met done (x ∷ todo) z
    met_back z (inl (inl e)) = inr (inl e)
    met_back z (inl (inr i)) = inl i
    met_back z (inr i) = inr (inr i)

    has_moved : (p : m.Pair) (c : ℕ) → Has E done (x ∷ todo) p c → Has E (x ∷ done) todo p c
    has_moved p c (z, i, k, l) = (z, met_moved z i, k, l)

    pub taken : Expanding m E N f x done (record { seen = seen; todo = todo }) 0
    taken =
        let b = g.base in
        let (l, r) = b.rising in
        let w = b.room in
        record {
          base = record {
            marked = λ k. ⊎_map (λ z. z) (λ (z, i, n). (z, met_moved z i, n)) (b.marked k);
            fits = λ z i. b.fits z (met_back z i);
            earlier = λ z. elim [ inl e ↦ rw e (omega arith) | inr i ↦ let k = b.earlier z i in omega arith ];
            rising = rising_weak E todo (suc (place E x)) (lo * E + 1) (place E x * E + 1) r (let k = mul-le-mul_right E l in omega arith);
            right = λ z i. b.right z (inr i);
            safe = λ z. elim [ inl e ↦ rw e ok | inr i ↦ b.safe z i ];
            begun = has_moved m.begin 0 b.begun;
            short = λ z i. let k = b.short z (inr i) in omega arith;
            size = b.size;
            room = omega arith;
          };
          reached = b.right x (inl refl);
          few = b.short x (inl refl);
          closed = λ z i c p j k. has_moved p _ (g.closed z i c p j k);
          closing = λ c p j k. absurd (omega arith);
        }

    -- one turn
    pub turned : Standing m E N f (x ∷ done) (expand m x 0 E (record { seen = seen; todo = todo })) (suc (place E x))
    turned =
        tried x done (expand m x 0 E (record { seen = seen; todo = todo }))
        (expanded E x done (record { seen = seen; todo = todo }) 0 E (omega arith) taken)
