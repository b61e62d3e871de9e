-- Kinds and statuses are read exactly as they are spelled. Assumes nothing.
use Rattle.std.specs.Prelude.{◌≡◌, refl, Bool, true, false, List, [], ◌∷◌, ◌++◌, ℕ, eqb}
use Rattle.std.proofs.Common.{ap, ◌∙◌, inl, inr, eqb-true}
use Rattle.paper.specs.Dtd.Letters.{is_more, begins, word_cdata, word_id, word_required, word_implied}
use Rattle.paper.specs.Dtd.Declarations.{Kind, cdata, id, idref, idrefs, Status, required, implied}
use Rattle.paper.specs.Dtd.Grammar.{Spelling, kind_word, status_word}
use Rattle.paper.specs.Dtd.Grammar as G
use Rattle.paper.specs.Dtd.Readers.{ok}
use Rattle.paper.specs.Dtd.Readers as R
use Rattle.basic_laws.specs.Bools.{clash}
use Rattle.dtd_laws.specs.Exact.{Exact, Then, chain, reworded, pure_exact, refuse_exact, Either, by_front}
use Rattle.dtd_laws.specs.Leaves.{literal_exact, mark_exact, behind_less}

-- ---- the end of a word

-- a byte of a name does not stand where no name goes on
pub not_more : (c : ℕ) (r : List ℕ) → is_more c ≡ true → begins is_more r ≡ false → begins (eqb c) r ≡ false
not_more c [] m e = refl
not_more c (b ∷ r) m e = by (eqb c b) refl
  where
    by : (x : Bool) → eqb c b ≡ x → x ≡ false
    by true p = let d = eqb-true c b p in clash (rw d at m) e
    by false p = refl

pub end_exact : {n : ℕ} → Exact n R.word_end (λ u s r. (s ≡ r) × (begins is_more s ≡ false))
end_exact = reworded (by_front refuse_exact (pure_exact tt))
    (λ u s r. (elim [ inl p ↦ absurd p.1 | inr p ↦ (p.1.1, p.0) ], λ p. inr (p.1, (refl, p.0))))

-- those bytes, and the value
module _ {A : Type 0} (l : List ℕ) (a : A) where
  pub spelled_exact : {n : ℕ} → Exact n (R.spelled l a) (λ b s r. (a ≡ b) × G.literal l s r)
  spelled_exact = reworded (chain (literal_exact l) (λ u. pure_exact a))
      (λ b s r. (λ (u, t, p, (q, e)). (q, p ∙ ap (λ z. l ++ z) e), λ (q, p). (tt, r, p, (q, refl))))

  abbrev pub Whole : A → Spelling
  Whole b s r = (a ≡ b) × G.literal l s r × (begins is_more r ≡ false)

  pub whole_exact : {n : ℕ} → Exact n (R.whole l a) Whole
  whole_exact = reworded (chain (literal_exact l) (λ u. chain end_exact (λ v. pure_exact a)))
      (λ b s r. (λ (u, t, p, (v, t', (e, m), (q, f))). (q, rw (← f, ← e) p, rw (← f, ← e) m), λ (q, p, m). (tt, r, p, (tt, r, (refl, m), (q, refl)))))

-- ---- kinds

abbrev Kinds : Kind → Spelling
Kinds k s r = G.literal (kind_word k) s r × (begins is_more r ≡ false)

kind_takes : (k : Kind) (s r : List ℕ) → Kinds k s r → R.kind s ≡ ok k r
kind_takes cdata s r (p, m) = rw (p, m)
kind_takes id s r (p, m) = rw (p, not_more 82 r refl m, m)
kind_takes idref s r (p, m) = rw (p, not_more 83 r refl m, m)
kind_takes idrefs s r (p, m) = rw (p, m)

-- the reader, part by part: behind "ID", and behind "IDREF"
abbrev Behind : Kind → Spelling
Behind k s r = Either (eqb 83) (Whole (83 ∷ []) idrefs) (Whole [] idref) k s r

abbrev Keyed : Kind → Spelling
Keyed k s r = Either (eqb 82) (Then (λ (u : Unit {0}). G.literal (82 ∷ 69 ∷ 70 ∷ [])) (λ u. Behind)) (Whole [] id) k s r

abbrev Parts : Kind → Spelling
Parts k s r = Either (eqb 67) (Whole word_cdata cdata) (Then (λ (u : Unit {0}). G.literal word_id) (λ u. Keyed)) k s r

parts_exact : {n : ℕ} → Exact n R.kind Parts
parts_exact =
    by_front (whole_exact word_cdata cdata)
    (chain (literal_exact word_id) (λ u.
    by_front
    (chain (literal_exact (82 ∷ 69 ∷ 70 ∷ [])) (λ v. by_front (whole_exact (83 ∷ []) idrefs) (whole_exact [] idref)))
    (whole_exact [] id)))

kind_gives : (k : Kind) (s r : List ℕ) → Parts k s r → Kinds k s r
kind_gives k s r (inl (f, (q, p, m))) = rw (← q) (p, m)
kind_gives k s r (inr (f, (u, t, p, inl (g, (v, x, i, inl (h, (q, j, m))))))) = rw (← q) (cc, m)
kind_gives k s r (inr (f, (u, t, p, inl (g, (v, x, i, inr (h, (q, j, m))))))) = rw (← q) (cc, m)
kind_gives k s r (inr (f, (u, t, p, inr (g, (q, j, m))))) = rw (← q) (cc, m)

pub kind_exact : {n : ℕ} → Exact n R.kind Kinds
kind_exact = record {
  takes = λ {a} {s} {r} h p. kind_takes a s r p;
  gives = λ {a} {s} {r} e. kind_gives a s r ((parts_exact {n = 0}).gives e);
  less = λ {a} {s} {r} p. behind_less (kind_word a) r p.0;
}

-- ---- statuses

abbrev Statuses : Status → Spelling
Statuses k = G.literal (status_word k)

status_takes : (k : Status) (s r : List ℕ) → Statuses k s r → R.status s ≡ ok k r
status_takes required s r p = rw p
status_takes implied s r p = rw p

abbrev Hashed : Status → Spelling
Hashed k s r =
    Then (λ (u : Unit {0}). G.mark 35)
    (λ u. Either (eqb 82) (λ b s r. (required ≡ b) × G.literal word_required s r) (λ b s r. (implied ≡ b) × G.literal word_implied s r)) k s r

hashed_exact : {n : ℕ} → Exact n R.status Hashed
hashed_exact = chain (mark_exact 35) (λ u. by_front (spelled_exact word_required required) (spelled_exact word_implied implied))

status_gives : (k : Status) (s r : List ℕ) → Hashed k s r → Statuses k s r
status_gives k s r (u, t, p, inl (f, (q, i))) = rw (← q) (cc)
status_gives k s r (u, t, p, inr (f, (q, i))) = rw (← q) (cc)

pub status_exact : {n : ℕ} → Exact n R.status Statuses
status_exact = record {
  takes = λ {a} {s} {r} h p. status_takes a s r p;
  gives = λ {a} {s} {r} e. status_gives a s r ((hashed_exact {n = 0}).gives e);
  less = λ {a} {s} {r} p. behind_less (status_word a) r p;
}
