-- Where content stops, by meaning, with no table anywhere in it: at the first child such that no valid content begins with the children up
-- to it, else at the end token, and then valid content does begin with the children. Assumes nothing.
use Rattle.std.specs.Prelude.{◌≡◌, refl, ◌↔◌, false, ◌&&◌, T, take}
use Rattle.std.proofs.Common.{sym, ap, ◌∙◌, inl, inr}
use mathlib.Core.List.{List, [], ◌∷◌, ◌++◌, map, append-nil, map-append, cons≢nil, head-eq_of_cons-eq, tail-eq_of_cons-eq}
use Prim.Native.Nat.{ℕ, zero, suc}
use Rattle.paper.specs.declared.Tok.{Tok}
use Rattle.paper.specs.declared.Tok.TheVariants.{Start, Text}
use Rattle.paper.specs.Basics.{all, null}
use Rattle.paper.specs.Expressions.{Expr, Matches}
use Rattle.paper.specs.Matching.{begins}
use Rattle.paper.specs.Tokens.{kids}
use Rattle.paper.specs.Schema.{Content, empty, text, model, Schema}
use Rattle.paper.specs.Table.{kind_number}
use Rattle.paper.specs.Rules.{element_at, begun_by, of_schema}
use Rattle.paper.specs.Judgement.{no_text, named, text_or_none, content, content_begun}
use Rattle.paper.specs.Validity.{Begun}
use Rattle.basic_laws.specs.Tests.{and_iff}
use Rattle.content_laws.specs.Useful.{some_word}
use Rattle.content_laws.proofs.Begins.{begins_iff}
use Rattle.judge_laws.specs.Contents.{item, items, null_iff, text_iff, to_starts, of_starts}

-- ---- one law for each kind

nothing_more : (k v : List Tok) → k ++ v ≡ [] → k ≡ []
nothing_more [] v e = refl
nothing_more (x ∷ k) v e = absurd (cons≢nil e)

empty_begun : (k : List Tok) → T (null k) ↔ Begun empty k
empty_begun k = (λ t. ([], append-nil k ∙ (null_iff k).0 t), λ h. (null_iff k).1 (nothing_more k h.0 h.1))

-- what begins one text is that text, or nothing
one_begun : (k v : List Tok) (n : ℕ) → k ++ v ≡ Text n ∷ [] → T (text_or_none k)
one_begun [] v n e = tt
one_begun (x ∷ k) v n e = rw (head-eq_of_cons-eq e) ((null_iff k).1 (nothing_more k v (tail-eq_of_cons-eq e)))

text_begun : (k : List Tok) → T (text_or_none k) ↔ Begun text k
text_begun k = (
  λ t. ([], rw append-nil ((text_iff k).0 t)),
  λ h. elim h.1 [ inl e ↦ (text_iff k).1 (inl (nothing_more k h.0 e)) | inr (n, e) ↦ one_begun k h.0 n e ],
)

-- what begins a row of starts is one
starts_begun : (k v : List Tok) (w : List ℕ) → k ++ v ≡ map Start w → T (no_text k) × ((r : List ℕ) × (w ≡ named k ++ r))
starts_begun [] v w e = (tt, (w, refl))
starts_begun (x ∷ k) v [] e = absurd (cons≢nil e)
starts_begun (x ∷ k) v (n ∷ w) e =
    let (t, (r, c)) = starts_begun k v w (tail-eq_of_cons-eq e) in rw (head-eq_of_cons-eq e) (t, (r, ap (λ l. n ∷ l) c))

model_begun : (e : Expr) (k : List Tok) → T (all item k) → T (no_text k && begins e (named k)) ↔ Begun (model e) k
model_begun e k i =
    let (apart, joined) = and_iff (no_text k) (begins e (named k)) in (
      λ t.
          let (p, q) = apart t in
          let (v, m) = (begins_iff e (named k)).0 q in
          (map Start v, (named k ++ v, ap (λ l. l ++ map Start v) (to_starts k i p) ∙ sym (map-append Start (named k) v), m)),
      λ h.
          let (w, c, m) = h.1 in
          let (t, (r, d)) = starts_begun k h.0 w c in
          joined (t, (begins_iff e (named k)).1 (r, rw d at m)),
    )

-- Of a model it is told in words: content begins with elements of the names u exactly if the expression describes a list that begins with u ..
pub names_begun : (e : Expr) (u : List ℕ) → Begun (model e) (map Start u) ↔ ((v : List ℕ) × Matches e (u ++ v))
names_begun e u = (
  λ h.
      let (w, c, m) = h.1 in
      let (t, (r, d)) = starts_begun (map Start u) h.0 w c in
      (r, rw (d, (of_starts u).1) at m),
  λ h. (map Start h.0, (u ++ h.0, sym (map-append Start u h.0), h.1)),
)

-- .. and none begins with children of which one is a text.
pub text_ends : (e : Expr) (k : List Tok) → no_text k ≡ false → ¬ Begun (model e) k
text_ends e k b h = let (w, c, m) = h.1 in rw b at (starts_begun k h.0 w c).0

-- ---- the content of an element

by_kind : (c : Content) (k : List Tok) → T (all item k) → T (content (kind_number c) (begun_by c) k) ↔ Begun c k
by_kind empty k i = empty_begun k
by_kind text k i = text_begun k
by_kind (model e) k i = model_begun e k i

items_take : (i : ℕ) (k : List Tok) → T (all item k) → T (all item (take i k))
items_take zero k t = tt
items_take (suc i) [] t = tt
items_take (suc i) (x ∷ k) t = let (p, q) = (and_iff (item x) (all item k)).0 t in (and_iff (item x) (all item (take i k))).1 (p, items_take i k q)

-- something is valid content
pub some_begun : (c : Content) → Begun c []
some_begun empty = ([], refl)
some_begun text = ([], inl refl)
some_begun (model e) = let (w, m) = some_word e in (map Start w, (w, refl, m))

module _ (s : Schema) (n : ℕ) (d : List Tok) where
  abbrev c : Content
  c = (element_at s n).content

  abbrev k : List Tok
  k = kids zero d

  pub begun_iff : (i : ℕ) → T (content_begun (of_schema s) n (take i k)) ↔ Begun c (take i k)
  unfolding content_begun
  begun_iff i = by_kind c (take i k) (items_take i k (items zero d))
