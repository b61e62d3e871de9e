-- A declaration ends with the first `>` in it: names, white space, words and the marks of a model have none. Assumes nothing.
use Rattle.std.specs.Prelude.{◌≡◌, refl, Bool, true, false, cond, List, [], ◌∷◌, ◌++◌, ℕ, eqb}
use Rattle.std.proofs.Common.{ap, ◌∙◌, eqb-true}
use Rattle.std.proofs.Math.Bool.{and-eq-true_iff}
use Rattle.paper.specs.Basics.{all}
use Rattle.paper.specs.Dtd.Letters.{Name, is_white, is_first, is_more, begins, greater, comma, bar}
use Rattle.paper.specs.Dtd.Declarations.{Suffix, once, maybe, many, several, Part, word, sequence, choice, Parts, only, ◌and◌}
use Rattle.paper.specs.Dtd.Declarations.{Content, empty, text as pcdata, model, Kind, cdata, id, idref, idrefs, Status, required, implied}
use Rattle.paper.specs.Dtd.Declarations.{Definition, Declaration, element, attlist}
use Rattle.paper.specs.Dtd.Grammar.{cp, cps, kind_word, status_word}
use Rattle.paper.specs.Dtd.Grammar as G
use Rattle.basic_laws.specs.Bools.{clash}

-- what stands behind the next `>`
abbrev pub beyond : List ℕ → List ℕ
beyond [] = []
beyond (b ∷ s) = cond (eqb greater b) s (beyond s)

-- between s and r there is none
abbrev Clear : List ℕ → List ℕ → Type 0
Clear s r = beyond s ≡ beyond r

-- ---- bytes of one sort

module _ (P : ℕ → Bool) (other : P greater ≡ false) where
  not_greater : (b : ℕ) → P b ≡ true → eqb greater b ≡ false
  not_greater b p = by (eqb greater b) refl
    where
      by : (x : Bool) → eqb greater b ≡ x → x ≡ false
      by true q = clash (rw (← eqb-true greater b q) at p) other
      by false q = refl

  run_clear : (w r : List ℕ) → all P w ≡ true → Clear (w ++ r) r
  run_clear [] r q = refl
  run_clear (b ∷ w) r q =
      let (i, j) = (and-eq-true_iff (P b) (all P w)).0 q in
      rw (not_greater b i) (run_clear w r j)

pub white_clear : (s r : List ℕ) → G.S? s r → Clear s r
white_clear s r (w, p, q, e) = ap beyond p ∙ run_clear is_white refl w r q

pub name_clear : (n : Name) (s r : List ℕ) → G.name n s r → Clear s r
name_clear n s r (p, q, e) = ap beyond p ∙ run_clear is_more refl n r ((and-eq-true_iff (begins is_first n) (all is_more n)).0 q).1

-- ---- models

suffix_clear : (q : Suffix) (s r : List ℕ) → G.suffix q s r → Clear s r
suffix_clear once s r (p, e) = ap beyond p
suffix_clear maybe s r p = ap beyond p
suffix_clear many s r p = ap beyond p
suffix_clear several s r p = ap beyond p

mutual
  cp_clear : (p : Part) (s r : List ℕ) → cp p s r → Clear s r
  cp_clear (word n q) s r (t, a, b) = name_clear n s t a ∙ suffix_clear q t r b
  cp_clear (sequence ps q) s r (t1, a, (t2, b, (t3, c, (t4, d, (t5, e, f))))) =
      ap beyond a ∙ white_clear t1 t2 b ∙ cps_clear ps comma refl t2 t3 c ∙ white_clear t3 t4 d ∙ ap beyond e ∙ suffix_clear q t5 r f
  cp_clear (choice p ps q) s r (t1, a, (t2, b, (t3, c, (t4, d, (t5, e, (t6, f, (t7, g, (t8, h, (t9, i, j))))))))) =
      ap beyond a
      ∙ white_clear t1 t2 b
      ∙ cp_clear p t2 t3 c
      ∙ white_clear t3 t4 d
      ∙ ap beyond e
      ∙ white_clear t5 t6 f
      ∙ cps_clear ps bar refl t6 t7 g
      ∙ white_clear t7 t8 h
      ∙ ap beyond i
      ∙ suffix_clear q t9 r j

  cps_clear : (ps : Parts) (j : ℕ) → eqb greater j ≡ false → (s r : List ℕ) → cps ps j s r → Clear s r
  cps_clear (only p) j o s r a = cp_clear p s r a
  cps_clear (p and ps) j o s r (t1, a, (t2, b, (t3, c, (t4, d, e)))) =
      cp_clear p s t1 a ∙ white_clear t1 t2 b ∙ ap beyond c ∙ rw o (white_clear t3 t4 d ∙ cps_clear ps j o t4 r e)

content_clear : (c : Content) (s r : List ℕ) → G.contentspec c s r → Clear s r
content_clear empty s r a = ap beyond a
content_clear pcdata s r (t1, a, (t2, b, (t3, c, (t4, d, e)))) =
    ap beyond a ∙ white_clear t1 t2 b ∙ ap beyond c ∙ white_clear t3 t4 d ∙ ap beyond e
content_clear (model p) s r (b, a) = cp_clear p s r a

-- ---- attributes

kind_clear : (k : Kind) (s r : List ℕ) → G.literal (kind_word k) s r → Clear s r
kind_clear cdata s r p = ap beyond p
kind_clear id s r p = ap beyond p
kind_clear idref s r p = ap beyond p
kind_clear idrefs s r p = ap beyond p

status_clear : (k : Status) (s r : List ℕ) → G.literal (status_word k) s r → Clear s r
status_clear required s r p = ap beyond p
status_clear implied s r p = ap beyond p

pub definition_clear : (d : Definition) (s r : List ℕ) → G.att_def d s r → Clear s r
definition_clear d s r (t1, a, (t2, b, (t3, c, (t4, f, (t5, g, h))))) =
    white_clear s t1 a.1
    ∙ name_clear d.name t1 t2 b
    ∙ white_clear t2 t3 c.1
    ∙ kind_clear d.kind t3 t4 f
    ∙ white_clear t4 t5 g.1
    ∙ status_clear d.status t5 r h

ended : (s r : List ℕ) → G.mark greater s r → beyond s ≡ r
ended s r p = ap beyond p

pub definitions_end : (ds : List Definition) (s r : List ℕ) → G.att_defs ds s r → beyond s ≡ r
definitions_end [] s r (t, a, b) = white_clear s t a ∙ ended t r b
definitions_end (d ∷ ds) s r (t, a, b) = definition_clear d s t a ∙ definitions_end ds t r b

-- ---- declarations

pub declaration_end : (d : Declaration) (s r : List ℕ) → G.declaration d s r → beyond s ≡ r
declaration_end (element n c) s r (t1, a, (t2, b, (t3, d, (t4, e, (t5, f, (t6, g, h)))))) =
    ap beyond a ∙ white_clear t1 t2 b.1 ∙ name_clear n t2 t3 d ∙ white_clear t3 t4 e.1 ∙ content_clear c t4 t5 f ∙ white_clear t5 t6 g ∙ ended t6 r h
declaration_end (attlist e ds) s r (t1, a, (t2, b, (t3, c, d))) = ap beyond a ∙ white_clear t1 t2 b.1 ∙ name_clear e t2 t3 c ∙ definitions_end ds t3 r d
