-- An edit keeps the shape: what is put in and what is taken out are each nothing, a text or an element, so that the edited document is one element again.
use Rattle.std.specs.Prelude.{◌≡◌, refl, true, ◌&&◌, List, [], ◌∷◌, ◌++◌, ◌⊎◌, ℕ, zero, suc, ◌+◌, ◌<◌, pred, eqb, length, take, drop}
use Rattle.std.proofs.Common.{sym, ap, ◌∙◌, inl, inr, suc-le-suc, arith, suc-add, zero-add, not-suc-le-zero, le_of_suc-le-suc, eqb-true, eq-eqb, length-append, length-drop, take-append-drop}
use Rattle.std.proofs.Math.Bool.{and-eq-true_iff}
use Rattle.std.proofs.Math.Option.{Option, none, some}
use Rattle.paper.specs.declared.Tok.{Tok}
use Rattle.paper.specs.declared.Tok.TheVariants.{Start, End, Text, Attr, Value, Bad}
use Rattle.paper.specs.Shape.{Phase, Head, Named, Valued, Body, Fail}
use Rattle.shape_laws.specs.Local.{at_depth}
use Rattle.paper.specs.Shape.{is_body, is_element, phase_of, phases}
use Rattle.paper.specs.Tokens.{balanced, close, end_of, is_start, item_size, level, run}
use Rattle.basic_laws.specs.Bools.{clash}
use Rattle.shape_laws.specs.Phases.{phases_append, fails, content, ready, ready_content, was_ready, was_content, item, keep_phases}

-- ---- the ends

pub close_run : (k m : ℕ) (a x : List Tok) → run k a ≡ some m → close k (a ++ x) ≡ length a + close m x
close_run k m [] x e = let z : k ≡ m = cc in rw (zero-add, z)
close_run k m (Start n ∷ a) x e = ap suc (close_run (suc k) m a x e) ∙ sym (suc-add (length a) (close m x))
close_run zero m (End ∷ a) x e = cc
close_run (suc k) m (End ∷ a) x e = ap suc (close_run k m a x e) ∙ sym (suc-add (length a) (close m x))
close_run k m (Text n ∷ a) x e = ap suc (close_run k m a x e) ∙ sym (suc-add (length a) (close m x))
close_run k m (Attr n ∷ a) x e = ap suc (close_run k m a x e) ∙ sym (suc-add (length a) (close m x))
close_run k m (Value n ∷ a) x e = ap suc (close_run k m a x e) ∙ sym (suc-add (length a) (close m x))
close_run k m (Bad ∷ a) x e = ap suc (close_run k m a x e) ∙ sym (suc-add (length a) (close m x))

close_none : (k : ℕ) (a x : List Tok) → run k a ≡ none → close k (a ++ x) < length a
close_none k [] x e = let z : ◌≡◌ {A = ℕ} 0 1 = cc in absurd (omega arith)
close_none k (Start n ∷ a) x e = suc-le-suc (close_none (suc k) a x e)
close_none zero (End ∷ a) x e = omega arith
close_none (suc k) (End ∷ a) x e = suc-le-suc (close_none k a x e)
close_none k (Text n ∷ a) x e = suc-le-suc (close_none k a x e)
close_none k (Attr n ∷ a) x e = suc-le-suc (close_none k a x e)
close_none k (Value n ∷ a) x e = suc-le-suc (close_none k a x e)
close_none k (Bad ∷ a) x e = suc-le-suc (close_none k a x e)

-- what closes at its last token is balanced, with its start
pub closed : (k : ℕ) (q : List Tok) → suc (close k q) ≡ length q → run (suc k) q ≡ some zero
closed k [] e = absurd (omega arith)
closed k (Start n ∷ q) e = closed (suc k) q (ap pred e)
closed zero (End ∷ []) e = refl
closed zero (End ∷ (t ∷ q)) e = absurd (omega arith)
closed (suc k) (End ∷ q) e = closed k q (ap pred e)
closed k (Text n ∷ q) e = closed k q (ap pred e)
closed k (Attr n ∷ q) e = closed k q (ap pred e)
closed k (Value n ∷ q) e = closed k q (ap pred e)
closed k (Bad ∷ q) e = closed k q (ap pred e)

-- an element's root, and what an edit inside it leaves: the end is still the last token
pub keep_end : (q cut piece post : List Tok) → balanced cut ≡ true → balanced piece ≡ true
    → suc (close zero (q ++ (cut ++ post))) ≡ length (q ++ (cut ++ post)) → zero < length post → suc (close zero (q ++ (piece ++ post))) ≡ length (q ++ (piece ++ post))
keep_end q cut piece post bc bp e h = go (run zero q) refl
  where
    go : (o : Option ℕ) → run zero q ≡ o → suc (close zero (q ++ (piece ++ post))) ≡ length (q ++ (piece ++ post))
    go none z = absurd (omega (arith, close_none zero q (cut ++ post) z, length-append q (cut ++ post), length-append cut post))
    go (some m) z =
        omega (
          arith,
          close_run zero m q (cut ++ post) z,
          close_run m m cut post (at_depth m cut bc),
          close_run zero m q (piece ++ post) z,
          close_run m m piece post (at_depth m piece bp),
          length-append q (cut ++ post),
          length-append cut post,
          length-append q (piece ++ post),
          length-append piece post,
        )

pub element_parts : (d : List Tok) → is_element d ≡ true → (is_start d ≡ true) × (suc (suc (close zero (drop 1 d))) ≡ length d) × (is_body (phases Body d) ≡ true)
unfolding is_element end_of
element_parts d e =
    let f = (and-eq-true_iff (is_start d && eqb (suc (end_of d zero)) (length d)) (is_body (phases Body d))).0 e in
    let g = (and-eq-true_iff (is_start d) (eqb (suc (end_of d zero)) (length d))).0 f.0 in
    (g.0, omega (arith, eqb-true (suc (end_of d zero)) (length d) g.1), f.1)

-- an element is its start and what follows
pub from_start : (P : List Tok → Type 0) (d : List Tok) → is_element d ≡ true → ((n : ℕ) (q : List Tok) → is_element (Start n ∷ q) ≡ true → P (Start n ∷ q)) → P d
from_start P [] e f = clash (element_parts [] e).0 refl
from_start P (Start n ∷ q) e f = f n q e
from_start P (End ∷ q) e f = clash (element_parts (End ∷ q) e).0 refl
from_start P (Text n ∷ q) e f = clash (element_parts (Text n ∷ q) e).0 refl
from_start P (Attr n ∷ q) e f = clash (element_parts (Attr n ∷ q) e).0 refl
from_start P (Value n ∷ q) e f = clash (element_parts (Value n ∷ q) e).0 refl
from_start P (Bad ∷ q) e f = clash (element_parts (Bad ∷ q) e).0 refl

pub element_made : (d : List Tok) → is_start d ≡ true → suc (suc (close zero (drop 1 d))) ≡ length d → is_body (phases Body d) ≡ true → is_element d ≡ true
unfolding is_element end_of
element_made d a b c = rw (a, eq-eqb (suc (end_of d zero)) (length d) (omega arith), c)

pub keep_element : (n : ℕ) (q cut piece : List Tok) (t : Tok) (x : List Tok)
    → balanced cut ≡ true → item cut ≡ true → balanced piece ≡ true → item piece ≡ true → content t ≡ true
    → is_element (Start n ∷ q ++ (cut ++ (t ∷ x))) ≡ true → is_element (Start n ∷ q ++ (piece ++ (t ∷ x))) ≡ true
keep_element n q cut piece t x bc ic bp ip c e =
    let f = element_parts (Start n ∷ q ++ (cut ++ (t ∷ x))) e in
    element_made (Start n ∷ q ++ (piece ++ (t ∷ x))) refl
    (ap suc (keep_end q cut piece (t ∷ x) bc bp (ap pred f.1) (omega arith)))
    (keep_phases (Start n ∷ q) cut piece t x ic ip c f.2)

-- ---- what is put in: an element or a text

pub element_item : (d : List Tok) → is_element d ≡ true → (balanced d ≡ true) × (item d ≡ true)
element_item d e = from_start (λ d. (balanced d ≡ true) × (item d ≡ true)) d e (λ n q e.
    let f = element_parts (Start n ∷ q) e in
    (ap level (closed zero q (ap pred f.1)), f.2))

-- ---- what is taken out

-- up to the end that closes, what stands is balanced
close_split : (k : ℕ) (w : List Tok) → close k w < length w → run (suc k) (take (suc (close k w)) w) ≡ some zero
close_split k [] h = absurd (not-suc-le-zero h)
close_split k (Start n ∷ w) h = close_split (suc k) w (le_of_suc-le-suc h)
close_split zero (End ∷ w) h = refl
close_split (suc k) (End ∷ w) h = close_split k w (le_of_suc-le-suc h)
close_split k (Text n ∷ w) h = close_split k w (le_of_suc-le-suc h)
close_split k (Attr n ∷ w) h = close_split k w (le_of_suc-le-suc h)
close_split k (Value n ∷ w) h = close_split k w (le_of_suc-le-suc h)
close_split k (Bad ∷ w) h = close_split k w (le_of_suc-le-suc h)

-- an inner element closes first
close_inner : (k : ℕ) (w : List Tok) → close (suc k) w < length w → close k w < close (suc k) w
close_inner k [] h = absurd (not-suc-le-zero h)
close_inner k (Start n ∷ w) h = suc-le-suc (close_inner (suc k) w (le_of_suc-le-suc h))
close_inner zero (End ∷ w) h = omega arith
close_inner (suc k) (End ∷ w) h = suc-le-suc (close_inner k w (le_of_suc-le-suc h))
close_inner k (Text n ∷ w) h = suc-le-suc (close_inner k w (le_of_suc-le-suc h))
close_inner k (Attr n ∷ w) h = suc-le-suc (close_inner k w (le_of_suc-le-suc h))
close_inner k (Value n ∷ w) h = suc-le-suc (close_inner k w (le_of_suc-le-suc h))
close_inner k (Bad ∷ w) h = suc-le-suc (close_inner k w (le_of_suc-le-suc h))

close_first : (m : ℕ) (w : List Tok) → close (suc m) w < length w → close zero w < close (suc m) w
close_first zero w h = close_inner zero w h
close_first (suc m) w h = let a = close_inner (suc m) w h in let b = close_first m w (omega arith) in omega arith

-- after the end that closes, the phase is among the children, or has failed
end_phase : (p : Phase) → (phase_of p End ≡ Body) ⊎ (phase_of p End ≡ Fail)
end_phase Head = inl refl
end_phase (Named a) = inr refl
end_phase (Valued a) = inl refl
end_phase Body = inl refl
end_phase Fail = inr refl

close_phase : (k : ℕ) (p : Phase) (w : List Tok) → close k w < length w
    → (phases p (take (suc (close k w)) w) ≡ Body) ⊎ (phases p (take (suc (close k w)) w) ≡ Fail)
close_phase k p [] h = absurd (not-suc-le-zero h)
close_phase k p (Start n ∷ w) h = close_phase (suc k) (phase_of p (Start n)) w (le_of_suc-le-suc h)
close_phase zero p (End ∷ w) h = end_phase p
close_phase (suc k) p (End ∷ w) h = close_phase k (phase_of p End) w (le_of_suc-le-suc h)
close_phase k p (Text n ∷ w) h = close_phase k (phase_of p (Text n)) w (le_of_suc-le-suc h)
close_phase k p (Attr n ∷ w) h = close_phase k (phase_of p (Attr n)) w (le_of_suc-le-suc h)
close_phase k p (Value n ∷ w) h = close_phase k (phase_of p (Value n)) w (le_of_suc-le-suc h)
close_phase k p (Bad ∷ w) h = close_phase k (phase_of p Bad) w (le_of_suc-le-suc h)

-- what may be cut out of a document: it is balanced, an item, and content follows
pub record Cut (n : ℕ) (r : List Tok) : Type 0 where
  pub next : Tok
  pub later : List Tok
  pub splits : drop n r ≡ next ∷ later
  pub follows : content next ≡ true
  pub even : balanced (take n r) ≡ true
  pub whole : item (take n r) ≡ true

-- from an item, and a rest that is not empty
cut_made : (n : ℕ) (p : Phase) (r : List Tok) → zero < length (drop n r) → balanced (take n r) ≡ true → item (take n r) ≡ true
    → phases p (take n r) ≡ Body → is_body (phases p r) ≡ true → Cut n r
cut_made n p r h b i f e = go (drop n r) refl h
  where
    rest : is_body (phases Body (drop n r)) ≡ true
    rest = ap is_body (ap (λ z. phases z (drop n r)) (sym f) ∙ sym (phases_append p (take n r) (drop n r)) ∙ ap (phases p) (take-append-drop n r)) ∙ e

    go : (l : List Tok) → drop n r ≡ l → zero < length l → Cut n r
    go [] z h = absurd (not-suc-le-zero h)
    go (t ∷ x) z h = record { next = t; later = x; splits = z; follows = was_content t x (rw z at rest); even = b; whole = i }

module _ (n : ℕ) (q r : List Tok) (e : is_element (Start n ∷ q ++ r) ≡ true) (h : zero < length r) where
  -- the place is inside the root, at some depth
  there : (m : ℕ) × (suc (close m r) ≡ length r)
  there = go (run zero q) refl
    where
      go : (o : Option ℕ) → run zero q ≡ o → (m : ℕ) × (suc (close m r) ≡ length r)
      go none z = absurd (omega (arith, (element_parts (Start n ∷ q ++ r) e).1, close_none zero q r z, length-append q r))
      go (some m) z = (m, omega (arith, (element_parts (Start n ∷ q ++ r) e).1, close_run zero m q r z, length-append q r))

  body : is_body (phases (phases Head q) r) ≡ true
  body = ap is_body (sym (phases_append Head q r)) ∙ (element_parts (Start n ∷ q ++ r) e).2

pub cut_text : (n : ℕ) (q : List Tok) (v : ℕ) (w : List Tok) → is_element (Start n ∷ q ++ (Text v ∷ w)) ≡ true → Cut 1 (Text v ∷ w)
cut_text n q v w e =
    let m = there n q (Text v ∷ w) e (omega arith) in
    let b = body n q (Text v ∷ w) e (omega arith) in
    let r : ready (phases Head q) ≡ true = was_ready (phases Head q) (Text v) w refl b in
    cut_made 1 (phases Head q) (Text v ∷ w) (omega (arith, m.1)) refl refl (ready_content (phases Head q) (Text v) r refl) b

not_failed : (p : Phase) (c x : List Tok) → (phases p c ≡ Body) ⊎ (phases p c ≡ Fail) → is_body (phases p (c ++ x)) ≡ true → phases p c ≡ Body
not_failed p c x (inl f) e = f
not_failed p c x (inr f) e = clash e (ap is_body (phases_append p c x ∙ ap (λ z. phases z x) f ∙ fails x))

pub cut_element : (n : ℕ) (q : List Tok) (v : ℕ) (w : List Tok) → is_element (Start n ∷ q ++ (Start v ∷ w)) ≡ true → Cut (item_size (Start v ∷ w)) (Start v ∷ w)
cut_element n q v w e =
    let m = there n q (Start v ∷ w) e (omega arith) in
    let b = body n q (Start v ∷ w) e (omega arith) in
    let p : Phase = phases Head q in
    let r : phase_of p (Start v) ≡ Head = ready_content p (Start v) (was_ready p (Start v) w refl b) refl in
    let inner : close zero w < close (suc m.0) w = close_first m.0 w (omega (arith, m.1)) in
    let i : ℕ = suc (close zero w) in
    let g : is_body (phases Head (take i w ++ drop i w)) ≡ true = ap is_body (ap (phases Head) (take-append-drop i w) ∙ ap (λ z. phases z w) (sym r)) ∙ b in
    let f : phases Head (take i w) ≡ Body = not_failed Head (take i w) (drop i w) (close_phase zero Head w (omega (arith, m.1))) g in
    cut_made (suc i) p (Start v ∷ w) (omega (arith, m.1, length-drop i w)) (ap level (close_split zero w (omega (arith, m.1)))) (ap is_body f) (ap (λ z. phases z (take i w)) r ∙ f) b
