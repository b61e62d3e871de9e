-- What stands behind an element's name is read exactly as it is spelled, and so is an ELEMENT declaration. Assumes nothing.
use Rattle.std.specs.Prelude.{◌≡◌, refl, Bool, true, false, cond, ◌&&◌, List, ℕ, suc, eqb}
use Rattle.std.proofs.Common.{inl, inr}
use Rattle.std.proofs.Math.Bool.{and-eq-true_iff}
use Rattle.paper.specs.Dtd.Letters.{Name, is_white, begins, past, opening, closing, comma, hash, greater, word_element, word_empty, word_text}
use Rattle.paper.specs.Dtd.Declarations.{Part, word, sequence, choice, Parts, only, ◌and◌, each, Content, empty, text, model}
use Rattle.paper.specs.Dtd.Declarations.{Declaration, element}
use Rattle.paper.specs.Dtd.Limits.{content_kept}
use Rattle.paper.specs.Dtd.Grammar.{Spelling, ◌⨾◌, cp, cps, bracketed}
use Rattle.paper.specs.Dtd.Grammar as G
use Rattle.paper.specs.Dtd.Readers.{Reader, outside, pure, if_at, ◌>>=◌, ◌>>◌, tested, bounded, literal, mark, S?, S, name, spelled}
use Rattle.paper.specs.Dtd.Reading.{limit}
use Rattle.paper.specs.Dtd.Reading as D
use Rattle.basic_laws.specs.Bools.{clash}
use Rattle.dtd_laws.specs.Exact.{Exact, chain, reworded, pure_exact, Split, by_test, Either, by_front, tested_exact, bounded_exact}
use Rattle.dtd_laws.specs.Leaves.{literal_exact, mark_exact, S?_exact, S_exact, name_exact, past_run, name_first, not_first}
use Rattle.dtd_laws.specs.Words.{spelled_exact}
use Rattle.dtd_laws.specs.Models.{Group, group_exact}

-- ---- what a model begins with

mutual
  cp_first : (p : Part) (s r : List ℕ) → cp p s r → begins (eqb hash) s ≡ false
  cp_first (word n q) s r (t, a, b) = name_first (eqb hash) (not_first hash refl) n s t a
  cp_first (sequence ps q) s r (t, a, b) = rw a refl
  cp_first (choice p ps q) s r (t, a, b) = rw a refl

  cps_first : (ps : Parts) (j : ℕ) (s r : List ℕ) → cps ps j s r → begins (eqb hash) s ≡ false
  cps_first (only p) j s r a = cp_first p s r a
  cps_first (p and ps) j s r (t, a, b) = cp_first p s t a

-- behind white space
pub past_white : {s r : List ℕ} → G.S? s r → past is_white s ≡ r
past_white {s} {r} (w, p, q, e) = (past_run is_white w r (p, q, e)).1

-- What is asked of models and of names may be anything here: the reader asks for the limits, and two readings are compared by one that
-- asks for nothing.
module _ (known : Name → Bool) (fits : Part → Bool) where
  -- ---- contents

  abbrev Limited : Content → Spelling
  Limited c s r = (p : Part) × (model p ≡ c) × Group known p s r × (fits p ≡ true)

  abbrev pub limited_by : Reader Content
  limited_by = tested limit fits (bounded (D.group known)) >>= λ p. pure (model p)

  limited_exact : {n : ℕ} → Exact n limited_by Limited
  limited_exact =
      reworded (chain (tested_exact limit fits (bounded_exact (D.group known) (λ n. group_exact known (suc n)))) (λ p. pure_exact (model p)))
      (λ c s r. (λ (p, t, (a, k), (e, z)). (p, e, rw (← z) a, k), λ (p, e, a, k). (p, r, (a, k), (e, refl))))

  abbrev TextOnly : Content → Spelling
  TextOnly c s r = (text ≡ c) × G.contentspec text s r

  text_exact : {n : ℕ} → Exact n (D.text_only known) TextOnly
  text_exact =
      reworded (chain (mark_exact opening) (λ a. chain S?_exact (λ b. chain (literal_exact word_text) (λ c. chain S?_exact (λ d. chain (mark_exact closing) (λ e. pure_exact text))))))
      (λ c s r. (
        λ (u, t1, a, (v, t2, b, (w, t3, c, (x, t4, d, (y, t5, e, (f, z)))))). (f, (t1, a, (t2, b, (t3, c, (t4, d, rw (← z) e))))),
        λ (f, (t1, a, (t2, b, (t3, c, (t4, d, e))))). (tt, t1, a, (tt, t2, b, (tt, t3, c, (tt, t4, d, (tt, r, e, (f, refl)))))),
      ))

  abbrev pub Contents : Content → Spelling
  Contents c s r = G.contentspec c s r × (content_kept (λ p. each p known && fits p) c ≡ true)

  abbrev Parted : Content → Spelling
  Parted c s r = Either (eqb opening) (Split (D.hashed known) TextOnly Limited) (λ c s r. (empty ≡ c) × G.literal word_empty s r) c s r

  parted_to : (c : Content) (s r : List ℕ) → Parted c s r → Contents c s r
  parted_to c s r (inl (f, inl (g, (e, a)))) = rw (← e) (a, refl)
  parted_to c s r (inl (f, inr (g, (p, e, (b, a, k), l)))) = rw (← e) ((b, a), rw (k, l))
  parted_to c s r (inr (f, (e, a))) = rw (← e) (a, refl)

  -- a bracket in front, white space, and no `#`
  model_front : (p : Part) (s r : List ℕ) → bracketed p ≡ true → cp p s r → (begins (eqb opening) s ≡ true) × (D.hashed known s ≡ false)
  model_front (word n q) s r b a = clash b refl
  model_front (sequence ps q) s r b (t, a, (u, d, (v, e, f))) = rw a (refl, rw (past_white d) (cps_first ps comma u v e))
  model_front (choice p ps q) s r b (t, a, (u, d, (v, e, f))) = rw a (refl, rw (past_white d) (cp_first p u v e))

  parted_back : (c : Content) (s r : List ℕ) → Contents c s r → Parted c s r
  parted_back empty s r (a, k) = inr (rw a refl, (refl, a))
  parted_back text s r ((t, a, (u, b, (v, d, e))), k) =
      inl (rw a refl, inl (rw a (rw (past_white b) (rw d refl)), (refl, (t, a, (u, b, (v, d, e))))))
  parted_back (model p) s r ((b, a), k) =
      let (k1, k2) = (and-eq-true_iff (each p known) (fits p)).0 k in
      let (f, g) = model_front p s r b a in
      inl (f, inr (g, (p, refl, (b, a, k1), k2)))

  abbrev pub content_by : Reader Content
  content_by = if_at (eqb opening) (λ s. cond (D.hashed known s) (D.text_only known s) (limited_by s)) (spelled word_empty empty)

  pub content_exact : {n : ℕ} → Exact n content_by Contents
  content_exact =
      reworded (by_front (by_test (D.hashed known) text_exact limited_exact) (spelled_exact word_empty empty)) (λ c s r. (parted_to c s r, parted_back c s r))

  -- ---- an ELEMENT declaration, behind `<!`

  abbrev pub Elements : (new room : Name → Bool) → Declaration → Spelling
  Elements new room x s r =
      (n : Name)
      × (c : Content)
      × (element n c ≡ x)
      × (G.literal word_element ⨾ G.S ⨾ G.name n ⨾ G.S ⨾ G.contentspec c ⨾ G.S? ⨾ G.mark greater) s r
      × (new n && room n && content_kept (λ p. each p known && fits p) c ≡ true)

  abbrev pub element_by : (new room : Name → Bool) → Reader Declaration
  element_by new room = do
    literal word_element
    S
    n ← tested limit room (tested outside new name)
    S
    c ← content_by
    S?
    mark greater
    pure (element n c)

  pub element_exact : {n : ℕ} (new room : Name → Bool) → Exact n (element_by new room) (Elements new room)
  element_exact new room =
      reworded
      (chain (literal_exact word_element) (λ a.
      chain S_exact (λ b.
      chain (tested_exact limit room (tested_exact outside new name_exact)) (λ n.
      chain S_exact (λ d. chain content_exact (λ c. chain S?_exact (λ e. chain (mark_exact greater) (λ f. pure_exact (element n c)))))))))
      (λ x s r. (
        λ (u, t1, a, (v, t2, b, (n, t3, ((d, k1), k2), (w, t4, e, (c, t5, (f, k3), (y, t6, g, (z, t7, h, (i, j)))))))).
            (n, c, i, (t1, a, (t2, b, (t3, d, (t4, e, (t5, f, (t6, g, rw (← j) h)))))), rw (k1, k2) k3),
        λ (n, c, i, (t1, a, (t2, b, (t3, d, (t4, e, (t5, f, (t6, g, h)))))), k).
            let (k12, k3) = (and-eq-true_iff (new n && room n) (content_kept (λ p. each p known && fits p) c)).0 k in
            let (k1, k2) = (and-eq-true_iff (new n) (room n)).0 k12 in
            (tt, t1, a, (tt, t2, b, (n, t3, ((d, k1), k2), (tt, t4, e, (c, t5, (f, k3), (tt, t6, g, (tt, r, h, (i, refl)))))))),
      ))
