-- What it is for a reader to take exactly what is spelled, and how that goes on from part to part. Assumes nothing.
use Rattle.std.specs.Prelude.{◌≡◌, refl, ◌↔◌, ◌⊎◌, Bool, true, false, cond, ◌&&◌, List, ℕ, suc, ◌≤◌, ◌<◌, length}
use Rattle.std.proofs.Common.{sym, ap, ◌∙◌, inl, inr, true≢false, arith}
use Rattle.paper.specs.Dtd.Letters.{begins}
use Rattle.paper.specs.Dtd.Grammar.{Spelling}
use Rattle.paper.specs.Dtd.Readers.{Read, stop, ok, Reader, pure, refuse, if_at, onward, ◌>>=◌, tested, bounded}

-- Of texts up to the length n, the reader m takes a exactly if a is spelled in front, by L.
pub record Exact {A : Type 0} (n : ℕ) (m : Reader A) (L : A → Spelling) : Type 0 where
  pub takes : {a : A} {s r : List ℕ} → length s ≤ n → L a s r → m s ≡ ok a r
  pub gives : {a : A} {s r : List ℕ} → m s ≡ ok a r → L a s r
  pub less : {a : A} {s r : List ℕ} → L a s r → length r ≤ length s

-- what L spells takes a byte or more
abbrev pub Strict : {A : Type 0} → (A → Spelling) → Type 0
Strict {A} L = (a : A) (s r : List ℕ) → L a s r → length r < length s

pub never : {A B : Type 0} {k : ℕ} {a : A} {s r : List ℕ} → ◌≡◌ {A = Read A} (stop k s) (ok a r) → B
never e = let z : ◌≡◌ {A = ℕ} 0 1 = cc in absurd (omega arith)

-- a reader, and the one that goes on after it
module _ {A B : Type 0} where
  abbrev pub Then : (A → Spelling) → (A → B → Spelling) → B → Spelling
  Then L F b s r = (a : A) × (t : List ℕ) × L a s t × F a b t r

  went : (x : Read A) (f : A → Reader B) {b : B} {r : List ℕ} → onward x f ≡ ok b r → (a : A) × (t : List ℕ) × (x ≡ ok a t) × (f a t ≡ ok b r)
  went (stop k s) f e = never e
  went (ok a t) f e = (a, t, refl, e)

  module _ {m : Reader A} {L : A → Spelling} {f : A → Reader B} {F : A → B → Spelling} where
    pub chain : {n : ℕ} → Exact n m L → ((a : A) → Exact n (f a) (F a)) → Exact n (m >>= f) (Then L F)
    chain x y = record {
      takes = λ h (a, t, p, q). let d = x.less p in ap (λ z. onward z f) (x.takes h p) ∙ (y a).takes (omega arith) q;
      gives = λ {a} {s} e. let (c, t, p, q) = went (m s) f e in (c, t, x.gives p, (y c).gives q);
      less = λ (a, t, p, q). let d = x.less p in let e = (y a).less q in omega arith;
    }

    pub chain_strict : {n : ℕ} → Exact (suc n) m L → Strict L → ((a : A) → Exact n (f a) (F a)) → Exact (suc n) (m >>= f) (Then L F)
    chain_strict x c y = record {
      takes = λ {a} {s} {r} h (b, t, p, q). let d = c b s t p in ap (λ z. onward z f) (x.takes h p) ∙ (y b).takes (omega arith) q;
      gives = λ {a} {s} e. let (c, t, p, q) = went (m s) f e in (c, t, x.gives p, (y c).gives q);
      less = λ (a, t, p, q). let d = x.less p in let e = (y a).less q in omega arith;
    }

module _ {A : Type 0} where
  -- the same, spelled in other words
  pub reworded : {n : ℕ} {m : Reader A} {L K : A → Spelling} → Exact n m L → ((a : A) (s r : List ℕ) → L a s r ↔ K a s r) → Exact n m K
  reworded x w = record {
    takes = λ {a} {s} {r} h p. x.takes h ((w a s r).1 p);
    gives = λ {a} {s} {r} e. (w a s r).0 (x.gives e);
    less = λ {a} {s} {r} p. x.less ((w a s r).1 p);
  }

  pub pure_exact : {n : ℕ} (a : A) → Exact n (pure a) (λ b s r. (a ≡ b) × (s ≡ r))
  pure_exact a = record {
    takes = λ h (p, q). rw (p, q);
    gives = λ e. (cc, cc);
    less = λ (p, q). rw q (omega arith);
  }

  pub refuse_exact : {n : ℕ} → Exact n (refuse {A = A}) (λ a s r. ⊥)
  refuse_exact = record { takes = λ h p. absurd p; gives = λ e. never e; less = λ p. absurd p }

  -- what takes a byte is not spelled by none
  pub none_exact : {L : A → Spelling} → Strict L → Exact 0 refuse L
  none_exact c = record {
    takes = λ {a} {s} {r} h p. let d = c a s r p in absurd (omega arith);
    gives = λ e. never e;
    less = λ {a} {s} {r} p. let d = c a s r p in omega arith;
  }

  -- by a test of the text
  abbrev pub Split : (List ℕ → Bool) → (A → Spelling) → (A → Spelling) → A → Spelling
  Split H L K a s r = ((H s ≡ true) × L a s r) ⊎ ((H s ≡ false) × K a s r)

  pub by_test : {n : ℕ} {m m' : Reader A} {L K : A → Spelling} (H : List ℕ → Bool) → Exact n m L → Exact n m' K
      → Exact n (λ s. cond (H s) (m s) (m' s)) (Split H L K)
  by_test {n} {m} {m'} {L} {K} H x y = record { takes = takes; gives = λ {a} {s} {r} e. gives s r (H s) refl e; less = less }
    where
      takes : {a : A} {s r : List ℕ} → length s ≤ n → Split H L K a s r → cond (H s) (m s) (m' s) ≡ ok a r
      takes h (inl (p, q)) = rw p (x.takes h q)
      takes h (inr (p, q)) = rw p (y.takes h q)

      gives : {a : A} (s r : List ℕ) (b : Bool) → H s ≡ b → cond b (m s) (m' s) ≡ ok a r → Split H L K a s r
      gives s r true p e = inl (p, x.gives e)
      gives s r false p e = inr (p, y.gives e)

      less : {a : A} {s r : List ℕ} → Split H L K a s r → length r ≤ length s
      less (inl (p, q)) = x.less q
      less (inr (p, q)) = y.less q

  -- by the byte in front
  abbrev pub Either : (ℕ → Bool) → (A → Spelling) → (A → Spelling) → A → Spelling
  Either P L K a s r = Split (begins P) L K a s r

  pub by_front : {n : ℕ} {P : ℕ → Bool} {m m' : Reader A} {L K : A → Spelling} → Exact n m L → Exact n m' K → Exact n (if_at P m m') (Either P L K)
  by_front {n} {P} x y = by_test (begins P) x y

  -- tested
  pub tested_exact : {n : ℕ} {m : Reader A} {L : A → Spelling} (k : ℕ) (P : A → Bool) → Exact n m L → Exact n (tested k P m) (λ a s r. L a s r × (P a ≡ true))
  tested_exact {n} {m} {L} k P x = record {
    takes = λ h (p, q). rw (x.takes h p, q);
    gives = λ {a} {s} e. gives s e;
    less = λ (p, q). x.less p;
  }
    where
      by : {a b : A} {s t r : List ℕ} → L b s t → (c : Bool) → P b ≡ c → cond c (ok b t) (stop k s) ≡ ok a r → L a s r × (P a ≡ true)
      by {a} {b} {s} {t} {r} l true p e =
          let i : b ≡ a = cc in
          let j : t ≡ r = cc in
          rw (← i, ← j) (l, p)
      by l false p e = never e

      gives : {a : A} (s : List ℕ) {r : List ℕ} → tested k P m s ≡ ok a r → L a s r × (P a ≡ true)
      gives s e = let (b, t, p, q) = went (m s) (λ a r. cond (P a) (ok a r) (stop k s)) e in by (x.gives p) (P b) refl q

  pub bounded_exact : {n : ℕ} {L : A → Spelling} (m : ℕ → Reader A) → ((n : ℕ) → Exact (suc n) (m (suc n)) L) → Exact n (bounded m) L
  bounded_exact m x = record {
    takes = λ {a} {s} h p. (x (length s)).takes (omega arith) p;
    gives = λ {a} {s} e. (x (length s)).gives e;
    less = λ p. (x 0).less p;
  }
