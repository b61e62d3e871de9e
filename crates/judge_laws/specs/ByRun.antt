-- Where content stops by any table, translated or not: where the run has no next occurrence, else at the end token; and there is such a
-- place exactly if the content is not good. Assumes nothing.
use Rattle.std.specs.Prelude.{◌≡◌, refl, ◌↔◌, Bool, true, false, cond, ◌&&◌, List, [], ◌∷◌, ◌++◌, ℕ, T, eqb}
use Rattle.std.proofs.Common.{ap}
use Rattle.std.proofs.Math.Option.{Option, none, some}
use Rattle.paper.specs.declared.Tok.{Tok}
use Rattle.paper.specs.declared.Tok.TheVariants.{Start, End, Text, Attr, Value, Bad}
use Rattle.paper.specs.Basics.{null}
use Rattle.paper.specs.Table.{block}
use Rattle.paper.specs.Rules.{Rules, State, start, at, move, run_from, ended, goes_on, of_table}
use Rattle.paper.specs.Judgement.{no_text, named, text_or_none, content_good, content_begun, stop_after}
use Rattle.paper.specs.Validity.{StopsAt}
use Rattle.basic_laws.specs.Tests.{and_iff}
use Rattle.judge_laws.specs.Stops.{stops_iff}

-- ---- the run

-- a run that goes on at the end went on before
run_begun : (b : List ℕ) (s : State) (u v : List ℕ) → T (goes_on (run_from b s (u ++ v))) → T (goes_on (run_from b s u))
run_begun b s [] v t = tt
run_begun b s (a ∷ u) v t = go (move b s a) refl (λ k. run_begun b (at k) u v)
  where
    go : (o : Option ℕ) → move b s a ≡ o → ((k : ℕ) → T (goes_on (run_from b (at k) (u ++ v))) → T (goes_on (run_from b (at k) u)))
        → T (goes_on (run_from b s (a ∷ u)))
    go none e next = absurd (rw (e, run_from) at t)
    go (some k) e next = rw (e, run_from) (next k (rw (e, run_from) at t))

ended_on : (b : List ℕ) (o : Option State) → T (ended b o) → T (goes_on o)
ended_on b none t = absurd t
ended_on b (some s) t = tt

-- ---- the children

no_text_begun : (u v : List Tok) → T (no_text (u ++ v)) → T (no_text u)
no_text_begun [] v t = tt
no_text_begun (Start n ∷ u) v t = no_text_begun u v t
no_text_begun (End ∷ u) v t = no_text_begun u v t
no_text_begun (Text n ∷ u) v t = absurd t
no_text_begun (Attr n ∷ u) v t = no_text_begun u v t
no_text_begun (Value n ∷ u) v t = no_text_begun u v t
no_text_begun (Bad ∷ u) v t = no_text_begun u v t

named_append : (u v : List Tok) → named (u ++ v) ≡ named u ++ named v
named_append [] v = refl
named_append (Start n ∷ u) v = ap (λ l. n ∷ l) (named_append u v)
named_append (End ∷ u) v = named_append u v
named_append (Text n ∷ u) v = named_append u v
named_append (Attr n ∷ u) v = named_append u v
named_append (Value n ∷ u) v = named_append u v
named_append (Bad ∷ u) v = named_append u v

null_begun : (u v : List Tok) → T (null (u ++ v)) → T (null u)
null_begun [] v t = tt
null_begun (x ∷ u) v t = t

text_begun : (u v : List Tok) → T (text_or_none (u ++ v)) → T (text_or_none u)
text_begun [] v t = tt
text_begun (Text n ∷ u) v t = null_begun u v t
text_begun (Start n ∷ u) v t = t
text_begun (End ∷ u) v t = t
text_begun (Attr n ∷ u) v t = t
text_begun (Value n ∷ u) v t = t
text_begun (Bad ∷ u) v t = t

-- ---- by kind

-- three tests, of which the kind asks one
by_kind : (a b x y z x' y' z' : Bool) → (T x → T x') → (T y → T y') → (T z → T z') → T (cond a x (cond b y z)) → T (cond a x' (cond b y' z'))
by_kind true b x y z x' y' z' f g h = f
by_kind false true x y z x' y' z' f g h = g
by_kind false false x y z x' y' z' f g h = h

all_true : (a b : Bool) → T (cond a true (cond b true true))
all_true true b = tt
all_true false true = tt
all_true false false = tt

module _ (t : List ℕ) (e : ℕ) where
  abbrev R : Rules
  R = of_table t

  abbrev on : List Tok → Bool
  on k = no_text k && R.begins e (named k)

  begun : (u v : List Tok) → T (content_begun R e (u ++ v)) → T (content_begun R e u)
  unfolding content_begun
  begun u v =
      by_kind (eqb (R.kind e) 0) (eqb (R.kind e) 1) (null (u ++ v)) (text_or_none (u ++ v)) (on (u ++ v)) (null u) (text_or_none u) (on u)
      (null_begun u v) (text_begun u v)
      (λ s.
      let (p, q) = (and_iff (no_text (u ++ v)) (R.begins e (named (u ++ v)))).0 s in
      (and_iff (no_text u) (R.begins e (named u))).1 (no_text_begun u v p, run_begun (block t e) start (named u) (named v) (rw named_append at q)))

  whole : (k : List Tok) → T (content_good R e k) → T (content_begun R e k)
  unfolding content_begun content_good
  whole k =
      by_kind (eqb (R.kind e) 0) (eqb (R.kind e) 1) (null k) (text_or_none k) (no_text k && R.describes e (named k)) (null k) (text_or_none k) (on k)
      (λ s. s) (λ s. s)
      (λ s.
      let (p, q) = (and_iff (no_text k) (R.describes e (named k))).0 s in
      (and_iff (no_text k) (R.begins e (named k))).1 (p, ended_on (block t e) (run_from (block t e) start (named k)) q))

  nil : T (content_begun R e [])
  unfolding content_begun
  nil = all_true (eqb (R.kind e) 0) (eqb (R.kind e) 1)

  -- Content stops at i, by the table, exactly if it is not good and i is the number that the definition gives.
  pub table_stops : (k : List Tok) (i : ℕ)
      → StopsAt (λ u. T (content_begun (of_table t) e u)) (λ u. T (content_good (of_table t) e u)) k i
      ↔ ((¬ T (content_good (of_table t) e k)) × (i ≡ stop_after (content_begun (of_table t) e) k))
  table_stops k = stops_iff (λ u. T (content_begun R e u)) (λ u. T (content_good R e u)) begun whole (content_begun R e) k (λ i. (λ s. s, λ s. s)) nil
