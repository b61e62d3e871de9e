-- One law for each connective: a test passed, a number that tells no fault, a property of each token of a sort. Assumes nothing.
use Rattle.std.specs.Prelude.{◌≡◌, refl, ◌↔◌, ◌≢◌, Bool, true, false, cond, not, ◌&&◌, ◌||◌, ℕ, zero, suc, ◌<◌, T, eqb}
use Rattle.std.proofs.Common.{sym, ◌∙◌, true≢false, arith, eqb→eq}
use mathlib.Core.List.{List, [], ◌∷◌, ◌++◌, nil≢cons, head-eq_of_cons-eq, tail-eq_of_cons-eq}
use Rattle.std.proofs.Math.Decide.{ℕ_discrete}
use Rattle.std.proofs.Math.Dec.{eqb_refl}
use Rattle.paper.specs.declared.Tok.{Tok}
use Rattle.paper.specs.declared.Tok.TheVariants.{Start, End, Text, Attr, Value, Bad}
use Rattle.paper.specs.Basics.{every}
use Rattle.paper.specs.Judgement.{Answer, or_else, before}
use Rattle.basic_laws.specs.Tests.{and_iff, true_iff}

-- ---- tests

pub and3_iff : (a b c : Bool) → T (a && b && c) ↔ (T a × T b × T c)
and3_iff true true c = (λ t. (tt, tt, t), λ t. t.2)
and3_iff true false c = (λ t. absurd t, λ t. t.1)
and3_iff false b c = (λ t. absurd t, λ t. t.0)

pub imp_iff : (a b : Bool) → T (not a || b) ↔ (T a → T b)
imp_iff true b = (λ t s. t, λ f. f tt)
imp_iff false b = (λ t s. absurd s, λ f. tt)

pub eqb_iff : (m n : ℕ) → T (eqb m n) ↔ (m ≡ n)
eqb_iff m n = (eqb→eq m n, λ e. rw e (eqb_refl n))

pub every_iff : (S : ℕ → Bool) (n : ℕ) → T (every S n) ↔ ((k : ℕ) → k < n → T (S k))
every_iff S zero = (λ t k h. absurd (omega arith), λ f. tt)
every_iff S (suc n) =
    let (to, of) = every_iff S n in (
      λ t k h. let (s, r) = simp and_iff at t in elim (ℕ_discrete k n) [ yes c ↦ rw c s | no c ↦ to r k (omega arith) ],
      λ f. (and_iff (S n) (every S n)).1 (f n (omega arith), of (λ k h. f k (omega arith))),
    )

-- ---- no fault

pub else_iff : (n i : ℕ) (r : Answer) → ((or_else n i r).0 ≡ 0) ↔ ((n ≡ 0) × (r.0 ≡ 0))
else_iff zero i r = (λ e. (refl, e), λ e. e.1)
else_iff (suc n) i r = (λ e. absurd (omega arith), λ e. absurd (omega arith))

pub before_iff : (a b c d : Answer)
    → ((before a (before b (before c d))).0 ≡ 0) ↔ ((a.0 ≡ 0) × (b.0 ≡ 0) × (c.0 ≡ 0) × (d.0 ≡ 0))
before_iff a b c d =
    let (to, of) = else_iff a.0 a.1 (before b (before c d)) in
    let (to', of') = else_iff b.0 b.1 (before c d) in
    let (to'', of'') = else_iff c.0 c.1 d in (
      λ e. let (p, x) = to e in let (q, y) = to' x in let (r, s) = to'' y in (p, q, r, s),
      λ e. let (p, q, r, s) = e in of (p, of' (q, of'' (r, s))),
    )

-- the fault y, unless the test passes
pub pass_iff : (b : Bool) (x y : Answer) → y.0 ≢ 0 → ((cond b x y).0 ≡ 0) ↔ (T b × (x.0 ≡ 0))
pass_iff true x y d = (λ e. (tt, e), λ e. e.1)
pass_iff false x y d = (λ e. absurd (d e), λ e. absurd e.0)

-- an element has no fault exactly if it passes the three tests
pub fault_iff : (a b c : Bool) → (◌≡◌ {A = ℕ} (cond a (cond b (cond c 0 9) 8) 7) 0) ↔ (T a × T b × T c)
fault_iff true true true = (λ e. (tt, tt, tt), λ t. refl)
fault_iff true true false = (λ e. absurd (omega arith), λ t. absurd t.2)
fault_iff true false c = (λ e. absurd (omega arith), λ t. absurd t.1)
fault_iff false b c = (λ e. absurd (omega arith), λ t. absurd t.0)

-- ---- the tokens of a sort

-- a token's sort and number
abbrev mark : Tok → ℕ × ℕ
mark Bad = (0, 0)
mark (Start n) = (1, n)
mark End = (2, 0)
mark (Text n) = (3, n)
mark (Attr n) = (4, n)
mark (Value n) = (5, n)

-- tokens of two sorts are not equal
pub other : {A : Type 0} {t x : Tok} → t ≡ x → eqb (mark t).0 (mark x).0 ≡ false → A
other {t = t} {x = x} c d = absurd (true≢false (sym ((true_iff (eqb (mark t).0 (mark x).0)).1 (rw c (eqb_refl (mark x).0))) ∙ d))

module _ (sort : ℕ → Tok) (P : ℕ → List Tok → Type 0) where
  -- P holds of each token of the sort, by its number and by what follows it
  abbrev pub Each : List Tok → Type 0
  Each d = (u r : List Tok) (n : ℕ) → d ≡ u ++ sort n ∷ r → P n r

  pub each_nil : Each []
  each_nil [] r n e = absurd (nil≢cons e)
  each_nil (t ∷ u) r n e = absurd (nil≢cons e)

  pub each_cons : (t : Tok) (d : List Tok) → (((n : ℕ) → t ≡ sort n → P n d) × Each d) ↔ Each (t ∷ d)
  each_cons t d = (to, λ f. (λ n e. f [] d n (rw e), λ u r n e. f (t ∷ u) r n (rw e)))
    where
      to : ((n : ℕ) → t ≡ sort n → P n d) × Each d → Each (t ∷ d)
      to (p, q) [] r n e = rw (← tail-eq_of_cons-eq e) (p n (head-eq_of_cons-eq e))
      to (p, q) (x ∷ u) r n e = q u r n (tail-eq_of_cons-eq e)
