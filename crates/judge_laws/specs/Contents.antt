-- The test of an element's content is passed exactly by valid content. Assumes nothing.
use Rattle.std.specs.Prelude.{◌≡◌, refl, ◌↔◌, ◌⊎◌, Bool, true, false, ◌&&◌, ℕ, zero, suc, T}
use Rattle.std.proofs.Common.{ap, inl, inr, ⊎_elim}
use mathlib.Core.List.{List, [], ◌∷◌, map, cons≢nil}
use Rattle.paper.specs.declared.Tok.{Tok}
use Rattle.paper.specs.declared.Tok.TheVariants.{Start, End, Text, Attr, Value, Bad}
use Rattle.paper.specs.Basics.{all, null}
use Rattle.paper.specs.Expressions.{Expr, Matches}
use Rattle.paper.specs.Matching.{matches}
use Rattle.paper.specs.Tokens.{kids}
use Rattle.paper.specs.Schema.{Content, empty, text, model, Schema}
use Rattle.paper.specs.Table.{kind_number}
use Rattle.paper.specs.Rules.{element_at, described_by, of_schema}
use Rattle.paper.specs.Judgement.{no_text, named, text_or_none, content, content_good}
use Rattle.paper.specs.Validity.{ContentValid}
use Rattle.basic_laws.specs.Tests.{and_iff}
use Rattle.content_laws.proofs.Matching.{matches_iff}

-- ---- children are starts and texts

abbrev pub item : Tok → Bool
item (Start n) = true
item (Text n) = true
item End = false
item (Attr n) = false
item (Value n) = false
item Bad = false

pub items : (k : ℕ) (d : List Tok) → T (all item (kids k d))
items k [] = tt
items zero (Start n ∷ d) = items 1 d
items (suc k) (Start n ∷ d) = items (suc (suc k)) d
items zero (End ∷ d) = tt
items (suc k) (End ∷ d) = items k d
items zero (Text n ∷ d) = items zero d
items (suc k) (Text n ∷ d) = items (suc k) d
items k (Attr n ∷ d) = items k d
items k (Value n ∷ d) = items k d
items k (Bad ∷ d) = items k d

-- ---- one law for each kind

pub null_iff : (k : List Tok) → T (null k) ↔ (k ≡ [])
null_iff [] = (λ t. refl, λ e. tt)
null_iff (x ∷ k) = (λ t. absurd t, λ e. absurd (cons≢nil e))

to_text : (k : List Tok) → T (text_or_none k) → (k ≡ []) ⊎ ((n : ℕ) × (k ≡ Text n ∷ []))
to_text [] t = inl refl
to_text (Text n ∷ k) t = inr (n, rw ((null_iff k).0 t))
to_text (Start n ∷ k) t = absurd t
to_text (End ∷ k) t = absurd t
to_text (Attr n ∷ k) t = absurd t
to_text (Value n ∷ k) t = absurd t
to_text (Bad ∷ k) t = absurd t

pub text_iff : (k : List Tok) → T (text_or_none k) ↔ ((k ≡ []) ⊎ ((n : ℕ) × (k ≡ Text n ∷ [])))
text_iff k = (to_text k, ⊎_elim (λ e. rw e tt) (λ c. rw c.1 tt))

pub to_starts : (k : List Tok) → T (all item k) → T (no_text k) → k ≡ map Start (named k)
to_starts [] i t = refl
to_starts (Start n ∷ k) i t = ap (λ l. Start n ∷ l) (to_starts k i t)
to_starts (Text n ∷ k) i t = absurd t
to_starts (End ∷ k) i t = absurd i
to_starts (Attr n ∷ k) i t = absurd i
to_starts (Value n ∷ k) i t = absurd i
to_starts (Bad ∷ k) i t = absurd i

pub of_starts : (w : List ℕ) → T (no_text (map Start w)) × (named (map Start w) ≡ w)
of_starts [] = (tt, refl)
of_starts (n ∷ w) = let (t, e) = of_starts w in (t, rw e)

model_iff : (e : Expr) (k : List Tok) → T (all item k)
    → T (no_text k && matches e (named k)) ↔ ((w : List ℕ) × (k ≡ map Start w) × Matches e w)
model_iff e k i =
    let (apart, joined) = and_iff (no_text k) (matches e (named k)) in (
      λ t. let (p, q) = apart t in (named k, to_starts k i p, (matches_iff e (named k)).0 q),
      λ c. let (w, d, m) = c in let (t, n) = of_starts w in joined (rw d t, rw (d, n) ((matches_iff e w).1 m)),
    )

-- ---- the content of an element

by_kind : (c : Content) (k : List Tok) → T (all item k) → T (content (kind_number c) (described_by c) k) ↔ ContentValid c k
by_kind empty k i = null_iff k
by_kind text k i = text_iff k
by_kind (model e) k i = model_iff e k i

pub content_iff : (s : Schema) (n : ℕ) (d : List Tok)
    → T (content_good (of_schema s) n (kids zero d)) ↔ ContentValid (element_at s n).content (kids zero d)
unfolding content_good
content_iff s n d = by_kind (element_at s n).content (kids zero d) (items zero d)
