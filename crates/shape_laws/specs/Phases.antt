-- The phases of a document: where attributes and values may stand, and where content may. Assumes nothing.
use Rattle.std.specs.Prelude.{◌≡◌, refl, Bool, true, false, ◌&&◌, List, [], ◌∷◌, ◌++◌}
use Rattle.std.proofs.Common.{sym, ap, ◌∙◌}
use Rattle.std.proofs.Math.Bool.{and-eq-true_iff}
use Rattle.paper.specs.declared.Tok.{Tok}
use Rattle.paper.specs.declared.Tok.TheVariants.{Start, End, Text, Attr, Value, Bad}
use Rattle.paper.specs.Shape.{Phase, Head, Named, Valued, Body, Fail}
use Rattle.paper.specs.Shape.{content_of, is_body, phase_of, phases}
use Rattle.basic_laws.specs.Bools.{clash}

pub phases_append : (p : Phase) (a b : List Tok) → phases p (a ++ b) ≡ phases (phases p a) b
phases_append p [] b = refl
phases_append p (t ∷ a) b = phases_append (phase_of p t) a b

pub fails : (d : List Tok) → phases Fail d ≡ Fail
fails [] = refl
fails (t ∷ d) = fails d

pub failing : {A : Type 0} (r : List Tok) → is_body (phases Fail r) ≡ true → A
failing r e = clash e (ap is_body (fails r))

pub bad_fails : (p : Phase) → phase_of p Bad ≡ Fail
bad_fails Head = refl
bad_fails (Named a) = refl
bad_fails (Valued a) = refl
bad_fails Body = refl
bad_fails Fail = refl

-- a token that may stand among an element's children, or end it
abbrev pub content : Tok → Bool
content (Start n) = true
content End = true
content (Text n) = true
content (Attr n) = false
content (Value n) = false
content Bad = false

-- a phase in which such a token may come
abbrev pub ready : Phase → Bool
ready Head = true
ready (Named a) = false
ready (Valued a) = true
ready Body = true
ready Fail = false

pub ready_content : (p : Phase) (t : Tok) → ready p ≡ true → content t ≡ true → phase_of p t ≡ content_of t
ready_content Head (Start n) r c = refl
ready_content Head End r c = refl
ready_content Head (Text n) r c = refl
ready_content Head (Attr n) r c = clash c refl
ready_content Head (Value n) r c = clash c refl
ready_content Head Bad r c = clash c refl
ready_content (Named a) t r c = clash r refl
ready_content (Valued a) (Start n) r c = refl
ready_content (Valued a) End r c = refl
ready_content (Valued a) (Text n) r c = refl
ready_content (Valued a) (Attr n) r c = clash c refl
ready_content (Valued a) (Value n) r c = clash c refl
ready_content (Valued a) Bad r c = clash c refl
ready_content Body t r c = refl
ready_content Fail t r c = clash r refl

-- the other way round: a document in which content stands at a place was ready for it there
pub was_ready : (p : Phase) (t : Tok) (d : List Tok) → content t ≡ true → is_body (phases p (t ∷ d)) ≡ true → ready p ≡ true
was_ready Head t d c e = refl
was_ready (Named a) (Start n) d c e = failing d e
was_ready (Named a) End d c e = failing d e
was_ready (Named a) (Text n) d c e = failing d e
was_ready (Named a) (Attr n) d c e = clash c refl
was_ready (Named a) (Value n) d c e = clash c refl
was_ready (Named a) Bad d c e = clash c refl
was_ready (Valued a) t d c e = refl
was_ready Body t d c e = refl
was_ready Fail t d c e = failing d e

body_is : (p : Phase) → is_body p ≡ true → p ≡ Body
body_is Head e = clash e refl
body_is (Named a) e = clash e refl
body_is (Valued a) e = clash e refl
body_is Body e = refl
body_is Fail e = clash e refl

-- nothing, or what begins with content and leaves the phase among the children
abbrev pub item : List Tok → Bool
item [] = true
item (c ∷ a) = content c && is_body (phases Body (c ∷ a))

skips : (p : Phase) (a : List Tok) (t : Tok) (x : List Tok) → ready p ≡ true → item a ≡ true → content t ≡ true → phases p (a ++ (t ∷ x)) ≡ phases Body (t ∷ x)
skips p [] t x r i c = ap (λ q. phases q x) (ready_content p t r c)
skips p (s ∷ a) t x r i c =
    phases_append (phase_of p s) a (t ∷ x)
    ∙ ap (λ q. phases (phases q a) (t ∷ x)) (ready_content p s r ((and-eq-true_iff (content s) (is_body (phases Body (s ∷ a)))).0 i).0)
    ∙ ap (λ q. phases q (t ∷ x)) (body_is (phases (content_of s) a) ((and-eq-true_iff (content s) (is_body (phases Body (s ∷ a)))).0 i).1)

was_ready_item : (p : Phase) (a : List Tok) (t : Tok) (x : List Tok) → item a ≡ true → content t ≡ true → is_body (phases p (a ++ (t ∷ x))) ≡ true → ready p ≡ true
was_ready_item p [] t x i c e = was_ready p t x c e
was_ready_item p (s ∷ a) t x i c e = was_ready p s (a ++ (t ∷ x)) ((and-eq-true_iff (content s) (is_body (phases Body (s ∷ a)))).0 i).0 e

pub keep_phases : (pre cut piece : List Tok) (t : Tok) (x : List Tok) → item cut ≡ true → item piece ≡ true → content t ≡ true
    → is_body (phases Body (pre ++ (cut ++ (t ∷ x)))) ≡ true → is_body (phases Body (pre ++ (piece ++ (t ∷ x)))) ≡ true
keep_phases pre cut piece t x ic ip c e =
    let f : is_body (phases (phases Body pre) (cut ++ (t ∷ x))) ≡ true = ap is_body (sym (phases_append Body pre (cut ++ (t ∷ x)))) ∙ e in
    let r : ready (phases Body pre) ≡ true = was_ready_item (phases Body pre) cut t x ic c f in
    ap is_body (phases_append Body pre (piece ++ (t ∷ x)) ∙ skips (phases Body pre) piece t x r ip c ∙ sym (skips (phases Body pre) cut t x r ic c)) ∙ f

-- content at the front of what is left among the children
pub was_content : (t : Tok) (x : List Tok) → is_body (phases Body (t ∷ x)) ≡ true → content t ≡ true
was_content (Start n) x e = refl
was_content End x e = refl
was_content (Text n) x e = refl
was_content (Attr n) x e = failing x e
was_content (Value n) x e = failing x e
was_content Bad x e = failing x e
