-- Two readings of one text are equal, within the limits or not. Assumes nothing.
use Rattle.std.specs.Prelude.{◌≡◌, refl, Bool, true, false, ◌&&◌, List, [], ◌∷◌, ◌++◌, ℕ, eqb, length, drop, get_or}
use Rattle.std.proofs.Common.{sym, ap, ap₂, ◌∙◌, arith}
use Rattle.paper.specs.Dtd.Letters.{Name, is_white, begins, greater, word_element, start_element, start_attlist, start_comment}
use Rattle.paper.specs.Dtd.Declarations.{Part, word, sequence, choice, Parts, only, ◌and◌, each, each_of, Content, empty, text, model}
use Rattle.paper.specs.Dtd.Declarations.{Definition, Declaration, element, attlist}
use Rattle.paper.specs.Dtd.Limits.{content_kept}
use Rattle.paper.specs.Dtd.Grammar.{Spelling, ◌⨾◌, Spells, end, space, note, declare}
use Rattle.paper.specs.Dtd.Grammar as G
use Rattle.paper.specs.Dtd.Readers.{Reader}
use Rattle.basic_laws.specs.Bools.{clash}
use Rattle.dtd_laws.specs.Exact.{Exact}
use Rattle.dtd_laws.specs.Leaves.{S_exact, name_exact, name_first, not_first}
use Rattle.dtd_laws.specs.Comments.{Within, inside_exact}
use Rattle.dtd_laws.specs.Contents.{past_white, Elements, element_exact}
use Rattle.dtd_laws.specs.Attributes.{Definitions, definition_exact}

-- what one reader reads of one text is one value, with one rest
same : {A : Type 0} {m : Reader A} {L : A → Spelling} {a b : A} {s r t : List ℕ} → Exact (length s) m L → L a s r → L b s t → (a ≡ b) × (r ≡ t)
same {A} {m} {L} {a} {b} {s} {r} {t} x p q =
    let d = x.takes (omega arith) p in
    let e = x.takes (omega arith) q in
    (cc, cc)

-- ---- a reader that asks for nothing

abbrev pub any : Name → Bool
any n = true

mutual
  pub each_any : (p : Part) → each p any ≡ true
  each_any (word n q) = refl
  each_any (sequence ps q) = each_of_any ps
  each_any (choice p ps q) = rw (each_any p) (each_of_any ps)

  each_of_any : (ps : Parts) → each_of ps any ≡ true
  each_of_any (only p) = each_any p
  each_of_any (p and ps) = rw (each_any p) (each_of_any ps)

content_any : (c : Content) → content_kept (λ p. each p any && true) c ≡ true
content_any empty = refl
content_any text = refl
content_any (model p) = rw (each_any p)

-- ---- declarations

same_element : (n n' : Name) (c c' : Content) (s r t : List ℕ) → G.elementdecl n c s r → G.elementdecl n' c' s t → (element n c ≡ element n' c') × (r ≡ t)
same_element n n' c c' s r t (t1, a, p) (t2, b, q) =
    let d : t1 ≡ t2 = sym (ap (drop 9) a) ∙ ap (drop 9) b in
    let behind : List ℕ = word_element ++ t1 in
    same {L = Elements any (λ p. true) any any} {s = behind} (element_exact any (λ p. true) any any)
    (n, c, refl, (t1, refl, p), content_any c) (n', c', refl, (t2, rw d, q), content_any c')

same_definition : (d d' : Definition) (s r t : List ℕ) → G.att_def d s r → G.att_def d' s t → (d ≡ d') × (r ≡ t)
same_definition d d' s r t p q = same {L = Definitions any any (λ k. true)} (definition_exact any any (λ k. true)) (p, refl) (q, refl)

-- no definition stands where the declaration ends
no_definition_lem : (d : Definition) (s t r : List ℕ) {A : Type 0} → G.att_def d s t → (G.S? ⨾ G.mark greater) s r → A
no_definition_lem d s t r (t1, a, (t2, b, c)) (t3, e, f) =
    let i : t1 ≡ t3 = sym (past_white a.1) ∙ past_white e in
    clash (rw (i, f) refl) (name_first (eqb greater) (not_first greater refl) d.name t1 t2 b)

same_definitions : (ds es : List Definition) (s r t : List ℕ) → G.att_defs ds s r → G.att_defs es s t → (ds ≡ es) × (r ≡ t)
same_definitions [] [] s r t (t1, a, b) (t2, c, d) = let i : t1 ≡ t2 = sym (past_white a) ∙ past_white c in (refl, cc)
same_definitions [] (e ∷ es) s r t p (t2, c, d) = no_definition_lem e s t2 r c p
same_definitions (d ∷ ds) [] s r t (t1, a, b) q = no_definition_lem d s t1 t a q
same_definitions (d ∷ ds) (e ∷ es) s r t (t1, a, b) (t2, c, f) =
    let (i, j) = same_definition d e s t1 t2 a c in
    let (k, l) = same_definitions ds es t1 r t b (rw j f) in
    (cc, l)

-- the third byte of a text
third : (s : List ℕ) {l m : List ℕ} → s ≡ l → s ≡ m → get_or l 2 0 ≡ get_or m 2 0
third s p q = ap (λ t. get_or t 2 0) (sym p ∙ q)

same_declaration : (d e : Declaration) (s r t : List ℕ) → G.declaration d s r → G.declaration e s t → (d ≡ e) × (r ≡ t)
same_declaration (element n c) (element n' c') s r t p q = same_element n n' c c' s r t p q
same_declaration (element n c) (attlist e ds) s r t (t1, a, p) (t2, b, q) = let z : ◌≡◌ {A = ℕ} 69 65 = third s a b in absurd (omega arith)
same_declaration (attlist e ds) (element n c) s r t (t1, a, p) (t2, b, q) = let z : ◌≡◌ {A = ℕ} 65 69 = third s a b in absurd (omega arith)
same_declaration (attlist e ds) (attlist e' ds') s r t (t1, a, (t2, b, (t3, c, p))) (u1, a', (u2, b', (u3, c', q))) =
    let i : t1 ≡ u1 = sym (ap (drop 9) a) ∙ ap (drop 9) a' in
    let j : t2 ≡ u2 = (same {L = λ u. G.S} {a = tt} {b = tt} S_exact b (rw (← i) at b')).1 in
    let (k, l) = same {L = G.name} {a = e} {b = e'} {s = t2} {r = t3} {t = u3} name_exact c (rw (← j) at c') in
    let (m, o) = same_definitions ds ds' t3 r t p (rw (← l) at q) in
    (ap₂ attlist k m, o)

same_comment : (s r t : List ℕ) → G.comment s r → G.comment s t → r ≡ t
same_comment s r t (t1, a, p) (t2, b, q) =
    let i : t1 ≡ t2 = sym (ap (drop 4) a) ∙ ap (drop 4) b in
    (same {L = Within} {a = tt} {b = tt} (inside_exact (length t1)) p (rw (← i) at q)).1

-- ---- texts

-- a declaration begins with `<`, and is no comment
not_white : (d : Declaration) (s t : List ℕ) → G.declaration d s t → begins is_white s ≡ false
not_white (element n c) s t (t1, a, p) = rw a refl
not_white (attlist e ds) s t (t1, a, p) = rw a refl

not_empty : (d : Declaration) (s t : List ℕ) {A : Type 0} → G.declaration d s t → s ≡ [] → A
not_empty (element n c) s t (t1, a, p) e = let z : 0 ≡ length (start_element ++ t1) = ap length (sym e ∙ a) in absurd (omega arith)
not_empty (attlist n ds) s t (t1, a, p) e = let z : 0 ≡ length (start_attlist ++ t1) = ap length (sym e ∙ a) in absurd (omega arith)

not_note : (d : Declaration) (s t r : List ℕ) {A : Type 0} → G.declaration d s t → G.comment s r → A
not_note (element n c) s t r (t1, a, p) (t2, b, q) = let z : ◌≡◌ {A = ℕ} 69 45 = third s a b in absurd (omega arith)
not_note (attlist e ds) s t r (t1, a, p) (t2, b, q) = let z : ◌≡◌ {A = ℕ} 65 45 = third s a b in absurd (omega arith)

-- what stands behind white space, a comment or a declaration in front
after_space_lem : {es : List Declaration} {s t : List ℕ} → G.S s t → Spells es s → Spells es t
after_space_lem a end = clash a.0 refl
after_space_lem {es} {s} {t} a (space {t = u} b c) = let i : u ≡ t = (same {L = λ v. G.S} {a = tt} {b = tt} S_exact b a).1 in rw i at c
after_space_lem a (note (t1, b, p) c) = clash a.0 (rw b refl)
after_space_lem {es} {s} {t} a (declare {d = d} {t = u} b c) = clash a.0 (not_white d s u b)

after_note : {es : List Declaration} {s t : List ℕ} → G.comment s t → Spells es s → Spells es t
after_note (t1, a, p) end = let z : 0 ≡ length (start_comment ++ t1) = ap length a in absurd (omega arith)
after_note (t1, a, p) (space b c) = clash b.0 (rw a refl)
after_note {es} {s} {t} a (note {t = u} b c) = let i : u ≡ t = same_comment s u t b a in rw i at c
after_note {es} {s} {t} a (declare {d = d} {t = u} b c) = not_note d s u t b a

after_declaration : (d : Declaration) {es : List Declaration} {s t : List ℕ} → G.declaration d s t → Spells es s
    → (fs : List Declaration) × (d ∷ fs ≡ es) × Spells fs t
after_declaration d {es} {s} {t} a end = not_empty d [] t a refl
after_declaration d {es} {s} {t} a (space b c) = clash b.0 (not_white d s t a)
after_declaration d {es} {s} {t} a (note {t = u} b c) = not_note d s t u a b
after_declaration d {es} {s} {t} a (declare {d = e} {ds = fs} {t = u} b c) =
    let (i, j) = same_declaration e d s u t b a in
    (fs, ap (λ z. z ∷ fs) (sym i), rw j at c)

pub unique : {ds es : List Declaration} {s : List ℕ} → Spells ds s → Spells es s → ds ≡ es
unique {ds} {es} end q = ends q refl
  where
    ends : {es : List Declaration} {s : List ℕ} → Spells es s → s ≡ [] → [] ≡ es
    ends end p = refl
    ends (space a b) p = clash a.0 (rw p refl)
    ends (note (t1, a, b) c) p = let z : 0 ≡ length (start_comment ++ t1) = ap length (sym p ∙ a) in absurd (omega arith)
    ends (declare {d = d} {s = s} {t = t} a b) p = not_empty d s t a p
unique (space a b) q = unique b (after_space_lem a q)
unique (note a b) q = unique b (after_note a q)
unique (declare {d = d} a b) q = let (fs, i, c) = after_declaration d a q in ap (λ z. d ∷ z) (unique b c) ∙ i
