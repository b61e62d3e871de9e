-- What it is for readers to go on as before when more text follows, and how that goes on from part to part. Assumes nothing.
use Rattle.std.specs.Prelude.{◌≡◌, refl, ◌≢◌, ◌⊎◌, Bool, true, false, cond, ◌&&◌, ℕ, zero, suc, ◌<◌, length}
use Rattle.std.proofs.Common.{sym, ap, subst, ◌∙◌, inl, inr, arith}
use mathlib.Core.List.{List, [], ◌∷◌, ◌++◌, cons≢nil}
use Rattle.paper.specs.Basics.{all}
use Rattle.paper.specs.Dtd.Letters.{is_first, is_more, begins}
use Rattle.paper.specs.Dtd.Readers.{Read, stop, ok, Reader, pure, refuse, if_at, onward, ◌>>=◌, tested, bounded}

module _ {A : Type 0} where
  -- it ends where the text does
  abbrev pub AtEnd : Read A → Type 0
  AtEnd (stop k t) = t ≡ []
  AtEnd (ok a r) = r ≡ []

  -- what is left is shorter than n
  abbrev pub Under : Read A → ℕ → Type 0
  Under (stop k t) n = Unit {0}
  Under (ok a r) n = length r < n

  -- it does not succeed
  abbrev pub Fails : Read A → Type 0
  Fails (stop k t) = Unit {0}
  Fails (ok a r) = ⊥

-- "letters, digits and `- _ . :`, the first one a letter, `_` or `:`"
abbrev pub is_name : List ℕ → Bool
is_name t = begins is_first t && all is_more t

-- x: what is put behind the text
module _ (x : List ℕ) where
  -- The text from a fault on, t, is settled: something is left of it, and it is no name that x makes longer.
  pub record Settled (t : List ℕ) : Type 0 where
    pub some : t ≢ []
    pub no_longer : is_name t ≡ true → begins is_more x ≡ false

  -- a bound, as much higher as x is long
  abbrev pub up : ℕ → ℕ
  up zero = length x
  up (suc n) = suc (up n)

  pub up_length : (s : List ℕ) → up (length s) ≡ length (s ++ x)
  up_length [] = refl
  up_length (b ∷ s) = ap suc (up_length s)

  module _ {A : Type 0} where
    -- The second reading is the first one with x behind: the same fault at the same place, or the same value and x behind what is left,
    -- where something is left.
    abbrev pub Grows : Read A → Read A → Type 0
    Grows (stop k t) o = Settled t → o ≡ stop k (t ++ x)
    Grows (ok a r) o = r ≢ [] → o ≡ ok a (r ++ x)

    pub end_grows : (o p : Read A) → AtEnd o → Grows o p
    end_grows (stop k t) p e = λ g. absurd (g.some e)
    end_grows (ok a r) p e = λ h. absurd (h e)

  -- Of texts shorter than n, m reads as m' does with x behind; m takes bytes from the front alone, and on the empty text it ends there.
  pub record Stays {A : Type 0} (n : ℕ) (m m' : Reader A) : Type 0 where
    pub grows : (s : List ℕ) → length s < n → Grows (m s) (m' (s ++ x))
    pub less : (s : List ℕ) → Under (m s) (suc (length s))
    pub ends : AtEnd (m [])

  -- ---- a reader, and the one that goes on after it

  module _ {A B : Type 0} {m m' : Reader A} {f f' : A → Reader B} where
    -- k: what m leaves is shorter than that
    chain_under : {n k : ℕ} → Stays n m m' → ((s : List ℕ) → length s < n → Under (m s) k) → ((a : A) → Stays k (f a) (f' a)) → Stays n (m >>= f) (m' >>= f')
    chain_under {n} {k} y u z = record {
      grows = λ s h. grow s (m s) (y.grows s h) (u s h);
      less = λ s. left s (m s) (y.less s);
      ends = end (m []) y.ends;
    }
      where
        grow : (s : List ℕ) (o : Read A) → Grows o (m' (s ++ x)) → Under o k → Grows (onward o f) (onward (m' (s ++ x)) f')
        grow s (stop j t) g l = λ p. ap (λ o. onward o f') (g p)
        grow s (ok a []) g l = end_grows (f a []) (onward (m' (s ++ x)) f') (z a).ends
        grow s (ok a (b ∷ r)) g l = subst (λ o. Grows (f a (b ∷ r)) (onward o f')) (sym (g cons≢nil)) ((z a).grows (b ∷ r) l)

        less_both : (o : Read B) (i j : ℕ) → i < j → Under o (suc i) → Under o j
        less_both (stop l t) i j h p = tt
        less_both (ok b r) i j h p = omega arith

        left : (s : List ℕ) (o : Read A) → Under o (suc (length s)) → Under (onward o f) (suc (length s))
        left s (stop j t) l = tt
        left s (ok a r) l = less_both (f a r) (length r) (suc (length s)) l ((z a).less r)

        end : (o : Read A) → AtEnd o → AtEnd (onward o f)
        end (stop j t) e = e
        end (ok a r) e = subst (λ r. AtEnd (f a r)) (sym e) (z a).ends

    pub chain : {n : ℕ} → Stays n m m' → ((a : A) → Stays n (f a) (f' a)) → Stays n (m >>= f) (m' >>= f')
    chain {n} y z = chain_under y (λ s h. by (m s) s h (y.less s)) z
      where
        by : (o : Read A) (s : List ℕ) → length s < n → Under o (suc (length s)) → Under o n
        by (stop k t) s h l = tt
        by (ok a r) s h l = omega arith

    -- m takes a byte or more
    pub chain_strict : {n : ℕ} → Stays (suc n) m m' → ((s : List ℕ) → Under (m s) (length s)) → ((a : A) → Stays n (f a) (f' a)) → Stays (suc n) (m >>= f) (m' >>= f')
    chain_strict {n} y u z = chain_under y (λ s h. by (m s) s h (u s)) z
      where
        by : (o : Read A) (s : List ℕ) → length s < suc n → Under o (length s) → Under o n
        by (stop k t) s h l = tt
        by (ok a r) s h l = omega arith

  module _ {A : Type 0} where
    pub pure_stays : {n : ℕ} (a : A) → Stays n (pure a) (pure a)
    pure_stays a = record { grows = λ s h e. refl; less = λ s. omega arith; ends = refl }

    pub refuse_stays : {n : ℕ} → Stays n (refuse {A = A}) (refuse {A = A})
    refuse_stays = record { grows = λ s h e. refl; less = λ s. tt; ends = refl }

    -- no text is shorter than 0
    pub none_stays : {m' : Reader A} → Stays 0 refuse m'
    none_stays = record { grows = λ s h. absurd (omega arith); less = λ s. tt; ends = refl }

    -- ---- by a test of the text: with x behind it is the same, or the reader ends where the text does

    pub by_test : {n : ℕ} {m n' m' k' : Reader A} (H : List ℕ → Bool)
        → ((s : List ℕ) → (H (s ++ x) ≡ H s) ⊎ AtEnd (cond (H s) (m s) (n' s))) → Stays n m m' → Stays n n' k'
        → Stays n (λ s. cond (H s) (m s) (n' s)) (λ s. cond (H s) (m' s) (k' s))
    by_test {n} {m} {n'} {m'} {k'} H same y z = record {
      grows = λ s h. grow s h (same s);
      less = λ s. left s (H s);
      ends = end (H []);
    }
      where
        pick : (s : List ℕ) → length s < n → (b : Bool) → Grows (cond b (m s) (n' s)) (cond b (m' (s ++ x)) (k' (s ++ x)))
        pick s h true = y.grows s h
        pick s h false = z.grows s h

        grow : (s : List ℕ) → length s < n → (H (s ++ x) ≡ H s) ⊎ AtEnd (cond (H s) (m s) (n' s))
            → Grows (cond (H s) (m s) (n' s)) (cond (H (s ++ x)) (m' (s ++ x)) (k' (s ++ x)))
        grow s h (inl p) = subst (λ b. Grows (cond (H s) (m s) (n' s)) (cond b (m' (s ++ x)) (k' (s ++ x)))) (sym p) (pick s h (H s))
        grow s h (inr e) = end_grows (cond (H s) (m s) (n' s)) (cond (H (s ++ x)) (m' (s ++ x)) (k' (s ++ x))) e

        left : (s : List ℕ) (b : Bool) → Under (cond b (m s) (n' s)) (suc (length s))
        left s true = y.less s
        left s false = z.less s

        end : (b : Bool) → AtEnd (cond b (m []) (n' []))
        end true = y.ends
        end false = z.ends

    -- by the byte in front
    pub by_front : {n : ℕ} {m n' m' k' : Reader A} (P : ℕ → Bool) → Stays n m m' → Stays n n' k' → Stays n (if_at P m n') (if_at P m' k')
    by_front {n} {m} {n'} P y z = by_test (begins P) same y z
      where
        same : (s : List ℕ) → (begins P (s ++ x) ≡ begins P s) ⊎ AtEnd (cond (begins P s) (m s) (n' s))
        same [] = inr z.ends
        same (b ∷ s) = inl refl

    -- ---- tested

    -- What m reads up to the end of the text, and P refuses, is refused with x behind too.
    abbrev pub Lasts : ℕ → (m m' : Reader A) → (A → Bool) → Type 0
    Lasts n m m' P = (s : List ℕ) (a : A) → length s < n → m s ≡ ok a [] → P a ≡ false → Settled s
        → (b : A) × (r : List ℕ) × (m' (s ++ x) ≡ ok b r) × (P b ≡ false)

    -- what the test makes of it
    abbrev judged : ℕ → (A → Bool) → List ℕ → A → Reader A
    judged k P s a r = cond (P a) (ok a r) (stop k s)

    pub tested_stays : {n : ℕ} {m m' : Reader A} (k : ℕ) (P : A → Bool) → Stays n m m' → Lasts n m m' P → Stays n (tested k P m) (tested k P m')
    tested_stays {n} {m} {m'} k P y z = record {
      grows = λ s h. grow s h (m s) refl (y.grows s h);
      less = λ s. left s (m s) (y.less s);
      ends = end (m []) y.ends;
    }
      where
        refused : (s : List ℕ) (a : A) (r : List ℕ) → m' (s ++ x) ≡ ok a r → P a ≡ false → tested k P m' (s ++ x) ≡ stop k (s ++ x)
        refused s a r p q = ap (λ o. onward o (judged k P (s ++ x))) p ∙ ap (λ b. cond b (ok a r) (stop k (s ++ x))) q

        last : (s : List ℕ) → length s < n → (a : A) → m s ≡ ok a [] → (b : Bool) → P a ≡ b → Grows (cond b (ok a []) (stop k s)) (tested k P m' (s ++ x))
        last s h a p true q = λ e. absurd (e refl)
        last s h a p false q = λ g. let (c, r, i, j) = z s a h p q g in refused s c r i j

        more : (s r : List ℕ) (a : A) → m' (s ++ x) ≡ ok a (r ++ x) → (b : Bool) → P a ≡ b → Grows (cond b (ok a r) (stop k s)) (tested k P m' (s ++ x))
        more s r a p true q = λ e. ap (λ o. onward o (judged k P (s ++ x))) p ∙ ap (λ b. cond b (ok a (r ++ x)) (stop k (s ++ x))) q
        more s r a p false q = λ g. refused s a (r ++ x) p q

        grow : (s : List ℕ) → length s < n → (o : Read A) → m s ≡ o → Grows o (m' (s ++ x)) → Grows (onward o (judged k P s)) (tested k P m' (s ++ x))
        grow s h (stop j t) p g = λ e. ap (λ o. onward o (judged k P (s ++ x))) (g e)
        grow s h (ok a []) p g = last s h a p (P a) refl
        grow s h (ok a (b ∷ r)) p g = more s (b ∷ r) a (g cons≢nil) (P a) refl

        pick_left : (s r : List ℕ) (a : A) → length r < suc (length s) → (b : Bool) → Under (cond b (ok a r) (stop k s)) (suc (length s))
        pick_left s r a l true = l
        pick_left s r a l false = tt

        left : (s : List ℕ) (o : Read A) → Under o (suc (length s)) → Under (onward o (judged k P s)) (suc (length s))
        left s (stop j t) l = tt
        left s (ok a r) l = pick_left s r a l (P a)

        pick_end : (a : A) (r : List ℕ) → r ≡ [] → (b : Bool) → AtEnd (cond b (ok a r) (stop k []))
        pick_end a r e true = e
        pick_end a r e false = refl

        end : (o : Read A) → AtEnd o → AtEnd (onward o (judged k P []))
        end (stop j t) e = e
        end (ok a r) e = pick_end a r e (P a)

    -- ---- bounded

    pub bounded_stays : {n : ℕ} (m : ℕ → Reader A) → ((n : ℕ) → Stays (suc n) (m (suc n)) (m (suc (up n)))) → Stays n (bounded m) (bounded m)
    bounded_stays m y = record {
      grows = λ s h. subst (λ k. Grows (m (suc (length s)) s) (m (suc k) (s ++ x))) (up_length s) ((y (length s)).grows s (omega arith));
      less = λ s. (y (length s)).less s;
      ends = (y 0).ends;
    }
