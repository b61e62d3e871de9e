-- The smallest readers take exactly what is spelled: words, white space, names, suffixes. Assumes nothing.
use Rattle.std.specs.Prelude.{◌≡◌, refl, Bool, true, false, cond, ◌||◌, List, [], ◌∷◌, ◌++◌, ℕ, ◌≤◌, ◌<◌, eqb, length}
use Rattle.std.proofs.Common.{ap, ◌∙◌, inl, inr, arith, eq-eqb, eqb-true, length-append}
use Rattle.std.proofs.Math.Bool.{and-eq-true_iff}
use Rattle.paper.specs.Basics.{all}
use Rattle.paper.specs.Dtd.Letters.{is_white, is_first, is_more, Name, begins, run, past}
use Rattle.paper.specs.Dtd.Declarations.{Suffix, once, maybe, many, several}
use Rattle.paper.specs.Dtd.Grammar as G
use Rattle.paper.specs.Dtd.Readers.{Read, stop, ok}
use Rattle.paper.specs.Dtd.Readers as R
use Rattle.basic_laws.specs.Bools.{clash}
use Rattle.dtd_laws.specs.Exact.{Exact, Strict, reworded, Either, by_front, refuse_exact, never}

-- ---- words

read_literal : (l r : List ℕ) → R.literal l (l ++ r) ≡ ok tt r
read_literal [] r = refl
read_literal (b ∷ l) r = rw (eq-eqb b b refl) (read_literal l r)

literal_read : (l s : List ℕ) {u : Unit {0}} {r : List ℕ} → R.literal l s ≡ ok u r → s ≡ l ++ r
literal_read [] s e = cc
literal_read (b ∷ l) [] e = never e
literal_read (b ∷ l) (c ∷ s) {u} {r} e = by (eqb b c) refl (literal_read l s) e
  where
    by : (x : Bool) → eqb b c ≡ x → (R.literal l s ≡ ok u r → s ≡ l ++ r) → cond x (R.literal l s) (stop R.outside (c ∷ s)) ≡ ok u r → c ∷ s ≡ b ∷ l ++ r
    by true p back e = rw (back e, eqb-true b c p)
    by false p back e = never e

pub literal_exact : {n : ℕ} (l : List ℕ) → Exact n (R.literal l) (λ u. G.literal l)
literal_exact l = record {
  takes = λ {a} {s} {r} h p. rw p (read_literal l r);
  gives = λ {a} {s} {r} e. literal_read l s e;
  less = λ {a} {s} {r} p. rw (p, length-append l r) (omega arith);
}

pub mark_exact : {n : ℕ} (b : ℕ) → Exact n (R.mark b) (λ u. G.mark b)
mark_exact b = literal_exact (b ∷ [])

-- ---- runs

module _ (P : ℕ → Bool) where
  abbrev pub Run : List ℕ → List ℕ → List ℕ → Type 0
  Run w s r = (s ≡ w ++ r) × (all P w ≡ true) × (begins P r ≡ false)

  pub run_past : (s : List ℕ) → Run (run P s) s (past P s)
  run_past [] = (refl, refl, refl)
  run_past (b ∷ s) = by (P b) refl (run_past s)
    where
      by : (x : Bool) → P b ≡ x → Run (run P s) s (past P s) → Run (cond x (b ∷ run P s) []) (b ∷ s) (cond x (past P s) (b ∷ s))
      by true p (i, j, k) = (ap (λ t. b ∷ t) i, rw (p, j), k)
      by false p z = (refl, refl, p)

  run_of : (w r : List ℕ) → all P w ≡ true → begins P r ≡ false → (run P (w ++ r) ≡ w) × (past P (w ++ r) ≡ r)
  run_of [] [] q e = (refl, refl)
  run_of [] (b ∷ r) q e = rw e (refl, refl)
  run_of (b ∷ w) r q e =
      let (i, j) = (and-eq-true_iff (P b) (all P w)).0 q in
      let (x, y) = run_of w r j e in
      rw i (ap (λ t. b ∷ t) x, y)

  pub past_run : (w r : List ℕ) {s : List ℕ} → Run w s r → (run P s ≡ w) × (past P s ≡ r)
  past_run w r {s} (p, q, e) = rw p (run_of w r q e)

pub behind_less : (w r : List ℕ) {s : List ℕ} → s ≡ w ++ r → length r ≤ length s
behind_less w r {s} p = rw (p, length-append w r) (omega arith)

-- ---- white space

pub S?_exact : {n : ℕ} → Exact n R.S? (λ u. G.S?)
S?_exact = record {
  takes = λ {a} {s} {r} h (w, p, q, e). ap (λ t. ok tt t) (past_run is_white w r (p, q, e)).1;
  gives = λ {a} {s} {r} e. let d : past is_white s ≡ r = cc in let (p, q, e) = run_past is_white s in (run is_white s, rw d at p, q, rw d at e);
  less = λ {a} {s} {r} (w, p, q, e). behind_less w r p;
}

pub S_exact : {n : ℕ} → Exact n R.S (λ u. G.S)
S_exact = reworded (by_front S?_exact refuse_exact) (λ a s r. (elim [ inl p ↦ p | inr p ↦ absurd p.1 ], λ p. inl p))

-- a run with a first byte is no empty one
some_run : (P : ℕ → Bool) (w s r : List ℕ) → begins P s ≡ true → Run P w s r → length r < length s
some_run P [] s r f (p, q, e) = clash (rw p at f) e
some_run P (c ∷ w) s r f (p, q, e) = rw (p, length-append w r) (omega arith)

pub S_strict : Strict (λ (u : Unit {0}). G.S)
S_strict u s r (f, (w, p, q, e)) = some_run is_white w s r f (p, q, e)

-- ---- names

first_more : (b : ℕ) → is_first b ≡ true → is_more b ≡ true
first_more b p = rw p

begins_more : (s : List ℕ) → begins is_first s ≡ true → begins is_more s ≡ true
begins_more [] p = clash p refl
begins_more (b ∷ s) p = rw p

begins_run : (s : List ℕ) → begins is_first s ≡ true → begins is_first (run is_more s) ≡ true
begins_run [] p = p
begins_run (b ∷ s) p = rw (first_more b p) p

begins_back : (w r : List ℕ) → begins is_first w ≡ true → begins is_first (w ++ r) ≡ true
begins_back [] r p = clash p refl
begins_back (b ∷ w) r p = p

from_front : (n s r : List ℕ) → begins is_first s ≡ true → s ≡ n ++ r → begins is_more r ≡ false → begins is_first n ≡ true
from_front [] s r f p e = clash (begins_more r (rw p at f)) e
from_front (b ∷ n) s r f p e = rw p at f

-- the longest run is read as a name
longest_exact : {n : ℕ} → Exact n (λ s. ok (run is_more s) (past is_more s)) (λ n s r. Run is_more n s r)
longest_exact = record {
  takes = λ {a} {s} {r} h p. let (i, j) = past_run is_more a r p in rw (i, j);
  gives = λ {a} {s} {r} e.
      let i : run is_more s ≡ a = cc in
      let j : past is_more s ≡ r = cc in
      rw (i, j) at (run_past is_more s);
  less = λ {a} {s} {r} p. behind_less a r p.0;
}

pub name_exact : {n : ℕ} → Exact n R.name G.name
name_exact = reworded (by_front longest_exact refuse_exact) (λ n s r. (to n s r, back n s r))
  where
    to : (n : Name) (s r : List ℕ) → Either is_first (λ n s r. Run is_more n s r) (λ a s r. ⊥) n s r → G.name n s r
    to n s r (inl (f, (p, q, e))) = (p, rw (from_front n s r f p e, q), e)
    to n s r (inr p) = absurd p.1

    back : (n : Name) (s r : List ℕ) → G.name n s r → Either is_first (λ n s r. Run is_more n s r) (λ a s r. ⊥) n s r
    back n s r (p, q, e) = let (i, j) = (and-eq-true_iff (begins is_first n) (all is_more n)).0 q in inl (rw p (begins_back n r i), (p, j, e))

pub name_strict : (n : Name) (s r : List ℕ) → G.name n s r → length r < length s
name_strict [] s r (p, q, e) = clash ((and-eq-true_iff (begins is_first []) (all is_more [])).0 q).0 refl
name_strict (b ∷ n) s r (p, q, e) = rw (p, length-append n r) (omega arith)

-- a byte with which no name begins does not stand in front of one
pub name_first : (P : ℕ → Bool) → ((b : ℕ) → is_first b ≡ true → P b ≡ false) → (n : Name) (s r : List ℕ) → G.name n s r → begins P s ≡ false
name_first P h [] s r (p, q, e) = clash ((and-eq-true_iff (begins is_first []) (all is_more [])).0 q).0 refl
name_first P h (b ∷ n) s r (p, q, e) = rw p (h b ((and-eq-true_iff (is_first b) (all is_more (b ∷ n))).0 q).0)

pub not_first : (c : ℕ) → is_first c ≡ false → (b : ℕ) → is_first b ≡ true → eqb c b ≡ false
not_first c o b p = by (eqb c b) refl
  where
    by : (x : Bool) → eqb c b ≡ x → x ≡ false
    by true q = clash (rw (← eqb-true c b q) at p) o
    by false q = refl

-- ---- bytes and suffixes

pub byte_exact : {n : ℕ} (P : ℕ → Bool) → Exact n (R.byte P) (G.byte P)
byte_exact P = record {
  takes = λ {a} {s} {r} h (p, q). rw (p, q);
  gives = λ {a} {s} {r} e. gives s e;
  less = λ {a} {s} {r} (p, q). behind_less (a ∷ []) r p;
}
  where
    by : {a b : ℕ} {s r : List ℕ} (x : Bool) → P b ≡ x → cond x (ok b s) (stop R.outside (b ∷ s)) ≡ ok a r → G.byte P a (b ∷ s) r
    by {a} {b} {s} {r} true p e =
        let i : b ≡ a = cc in
        let j : s ≡ r = cc in
        (rw (i, j), rw i at p)
    by false p e = never e

    gives : {a : ℕ} (s : List ℕ) {r : List ℕ} → R.byte P s ≡ ok a r → G.byte P a s r
    gives [] e = never e
    gives (b ∷ s) e = by (P b) refl e

-- no suffix: none of the three bytes
plain : (b : ℕ) (s : List ℕ) → (eqb b 63 || eqb b 42 || eqb b 43) ≡ false → R.suffix (b ∷ s) ≡ ok once (b ∷ s)
plain b s e = by (eqb b 63) (eqb b 42) (eqb b 43) e
  where
    by : (x y z : Bool) → (x || y || z) ≡ false → cond x (ok maybe s) (cond y (ok many s) (cond z (ok several s) (ok once (b ∷ s)))) ≡ ok once (b ∷ s)
    by true y z e = clash refl e
    by false true z e = clash refl e
    by false false true e = clash refl e
    by false false false e = refl

pub suffix_exact : {n : ℕ} → Exact n R.suffix G.suffix
suffix_exact {n} = record { takes = λ {a} {s} {r} h p. takes a s r p; gives = λ {a} {s} {r} e. gives s e; less = λ {a} {s} {r} p. less a s r p }
  where
    nothing : (s r : List ℕ) → G.suffix once s r → R.suffix s ≡ ok once r
    nothing [] r (p, e) = rw p
    nothing (b ∷ s) r (p, e) = plain b s e ∙ ap (λ t. ok once t) p

    takes : (a : Suffix) (s r : List ℕ) → G.suffix a s r → R.suffix s ≡ ok a r
    takes once s r p = nothing s r p
    takes maybe s r p = rw p
    takes many s r p = rw p
    takes several s r p = rw p

    less : (a : Suffix) (s r : List ℕ) → G.suffix a s r → length r ≤ length s
    less once s r p = rw p.0 (omega arith)
    less maybe s r p = behind_less (63 ∷ []) r p
    less many s r p = behind_less (42 ∷ []) r p
    less several s r p = behind_less (43 ∷ []) r p

    by : {a : Suffix} (b : ℕ) (s : List ℕ) {r : List ℕ} (x y z : Bool) → eqb b 63 ≡ x → eqb b 42 ≡ y → eqb b 43 ≡ z
        → cond x (ok maybe s) (cond y (ok many s) (cond z (ok several s) (ok once (b ∷ s)))) ≡ ok a r → G.suffix a (b ∷ s) r
    by {a} b s {r} true y z p q t e =
        let i : maybe ≡ a = cc in
        let j : s ≡ r = cc in
        rw (← i) (rw (j, eqb-true b 63 p))
    by {a} b s {r} false true z p q t e =
        let i : many ≡ a = cc in
        let j : s ≡ r = cc in
        rw (← i) (rw (j, eqb-true b 42 q))
    by {a} b s {r} false false true p q t e =
        let i : several ≡ a = cc in
        let j : s ≡ r = cc in
        rw (← i) (rw (j, eqb-true b 43 t))
    by {a} b s {r} false false false p q t e =
        let i : once ≡ a = cc in
        let j : b ∷ s ≡ r = cc in
        rw (← i) (j, rw (p, q, t))

    gives : {a : Suffix} (s : List ℕ) {r : List ℕ} → R.suffix s ≡ ok a r → G.suffix a s r
    gives [] {r} e = none e
      where
        none : {a : Suffix} {r : List ℕ} → ◌≡◌ {A = Read Suffix} (ok once []) (ok a r) → G.suffix a [] r
        none {a} {r} e =
            let i : once ≡ a = cc in
            let j : [] ≡ r = cc in
            rw (← i) (j, refl)
    gives (b ∷ s) e = by b s (eqb b 63) (eqb b 42) (eqb b 43) refl refl refl e
