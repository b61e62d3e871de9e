-- Laws of counts: tokens and tree, what a splice changes, and the limits. Assumes nothing.
use Rattle.std.specs.Prelude.{◌≡◌, refl, Bool, true, false, cond, List, [], ◌∷◌, ◌++◌, ℕ, zero, suc, ◌+◌, ◌≤◌, ◌<◌, leb, ltb, ℤ, pos, ◌+ℤ◌, ◌-ℤ◌, length, get_or, take, drop}
use Rattle.std.proofs.Common.{sym, ap, ap₂, ◌∙◌, arith, le-leb, le-ltb, take-append-drop, drop-drop}
use Rattle.std.proofs.Math.IntN.{+ℤ-neg_ℤ_cancel}
use Rattle.std.proofs.lemmas.List.{length-map}
use Rattle.paper.specs.declared.Tok.{Tok}
use Rattle.paper.specs.declared.Tok.TheVariants.{End}
use Rattle.paper.specs.Basics.{most_tokens, most_elements, all}
use Rattle.paper.specs.Tokens.{toks, tok_of}
use Rattle.paper.specs.Trees.{Given, Forest, nil, txt, elem, flat_v, flat_a, flat}
use Rattle.paper.specs.Requests.{Request, splice_at, splice_cut, coming, splice, edited}
use Rattle.paper.specs.Back.{went}
use Rattle.paper.specs.Counts.{tally, elements_in, counted, counts_by, fresh, TrueCounts, moved_from, moved, count_good}
use Rattle.tallies.specs.Tallies.{tally_most, tally_append}
use Rattle.shape_laws.specs.Bridge.{toks_take, toks_drop}
use Rattle.shape_laws.specs.EditJudged.{coming_toks, edited_toks}

-- ---- on the tree

tally_values : (e : ℕ) (vs : List ℕ) (r : List Tok) → tally e (flat_v vs r) ≡ tally e r
tally_values e [] r = refl
tally_values e (v ∷ vs) r = tally_values e vs r

tally_attributes : (e : ℕ) (gs : List Given) (r : List Tok) → tally e (flat_a gs r) ≡ tally e r
tally_attributes e [] r = refl
tally_attributes e (g ∷ gs) r = tally_values e g.more (flat_a gs r) ∙ tally_attributes e gs r

tally_flat : (e : ℕ) (f : Forest) (r : List Tok) → tally e (flat f r) ≡ elements_in e f + tally e r
tally_flat e nil r = omega arith
tally_flat e (txt n f) r = tally_flat e f r
tally_flat e (elem n gs k f) r =
    omega (arith, tally_attributes e gs (flat k (End ∷ flat f r)), tally_flat e k (End ∷ flat f r), tally_flat e f r)

-- "A fresh count is a definition on the tree."
pub tally_tree : (e : ℕ) (f : Forest) → tally e (flat f []) ≡ elements_in e f
tally_tree e f = omega (arith, tally_flat e f [])

-- ---- a splice

-- more by what comes, less by what goes
pub tally_splice : (e at n : ℕ) (p d : List Tok) → tally e (splice at n p d) + tally e (take n (drop at d)) ≡ tally e d + tally e p
tally_splice e at n p d =
    omega (
      arith,
      tally_append e (take at d) (p ++ drop (at + n) d),
      tally_append e p (drop (at + n) d),
      ap (tally e) (sym (take-append-drop at d)),
      tally_append e (take at d) (drop at d),
      ap (tally e) (sym (take-append-drop n (drop at d))),
      tally_append e (take n (drop at d)) (drop n (drop at d)),
      ap (tally e) (drop-drop n at d),
    )

-- ---- the counts

move_one : (a b c g : ℕ) → b + g ≡ a + c → pos a +ℤ pos c -ℤ pos g ≡ pos b
move_one a b c g e = ap (λ n. pos n -ℤ pos g) (sym e) ∙ +ℤ-neg_ℤ_cancel (pos b) (pos g)

-- counts of one thing, moved, are those of another
moved_by : (goes comes : List Tok) (f h : ℕ → ℕ) (E e k : ℕ) → ((e : ℕ) → h e + tally e goes ≡ f e + tally e comes)
    → moved_from goes comes E e (counts_by f E e k) ≡ counts_by h E e k
moved_by goes comes f h E e zero same = refl
moved_by goes comes f h E e (suc k) same = ap₂ (λ x l. x ∷ l) (here (ltb e E)) (moved_by goes comes f h E (suc e) k same)
  where
    here : (b : Bool) → cond b (pos (cond b (f e) 0) +ℤ pos (tally e comes) -ℤ pos (tally e goes)) (pos (cond b (f e) 0)) ≡ pos (cond b (h e) 0)
    here true = move_one (f e) (h e) (tally e comes) (tally e goes) (same e)
    here false = refl

-- the tokens that go
pub went_toks : (q : Request) (doc : List ℕ)
    → let p : List Tok = toks q.piece in
    toks (went q doc) ≡ take (splice_cut q.operation q.place p (toks doc)) (drop (splice_at q.operation q.place p (toks doc)) (toks doc))
unfolding went
went_toks q doc =
    let p : List Tok = toks q.piece in
    let at : ℕ = splice_at q.operation q.place p (toks doc) in
    let cut : ℕ = splice_cut q.operation q.place p (toks doc) in
    toks_take cut (drop at doc) ∙ ap (take cut) (toks_drop at doc)

-- "equal a fresh count": the moved counts are those of the edited document
pub moved_true : (E : ℕ) (q : Request) (doc : List ℕ) (counts : List ℤ) → TrueCounts E doc counts → TrueCounts E (edited q doc) (moved E q doc counts)
unfolding fresh moved
moved_true E q doc counts e =
    let p : List Tok = toks q.piece in
    let at : ℕ = splice_at q.operation q.place p (toks doc) in
    let cut : ℕ = splice_cut q.operation q.place p (toks doc) in
    rw (e, edited_toks q doc, went_toks q doc, coming_toks q doc)
    (moved_by (take cut (drop at (toks doc))) (coming q.operation p) (λ n. tally n (toks doc)) (λ n. tally n (splice at cut (coming q.operation p) (toks doc))) E 0 most_elements
    (λ n. tally_splice n at cut (coming q.operation p) (toks doc)))

-- ---- the limits

good_by : (f : ℕ → ℕ) (E e k : ℕ) → ((e : ℕ) → f e ≤ most_tokens) → all count_good (counts_by f E e k) ≡ true
good_by f E e zero h = refl
good_by f E e (suc k) h = rw (here (ltb e E)) (good_by f E (suc e) k h)
  where
    here : (b : Bool) → leb (cond b (f e) 0) most_tokens ≡ true
    here true = le-leb (f e) most_tokens (h e)
    here false = refl

-- "true counts never meet it": those of a document of at most 8,192 tokens
pub fresh_good : (E : ℕ) (doc : List ℕ) → length doc ≤ most_tokens → all count_good (fresh E (toks doc)) ≡ true
unfolding fresh
fresh_good E doc h = good_by (λ e. tally e (toks doc)) E 0 most_elements (λ e. omega (arith, tally_most e (toks doc), length-map doc tok_of))

-- there are 48
pub fresh_length : (E : ℕ) (d : List Tok) → length (fresh E d) ≡ most_elements
unfolding fresh
fresh_length E d = long (λ e. tally e d) E 0 most_elements
  where
    long : (f : ℕ → ℕ) (E e k : ℕ) → length (counts_by f E e k) ≡ k
    long f E e zero = refl
    long f E e (suc k) = ap suc (long f E (suc e) k)

-- the count of a name below 48
by_at : (f : ℕ → ℕ) (E e k n : ℕ) → n < k → get_or (counts_by f E e k) n (pos 0) ≡ pos (counted E (e + n) (f (e + n)))
by_at f E e zero n h = absurd (omega arith)
by_at f E e (suc k) zero h = ap (λ m. pos (counted E m (f m))) (omega arith)
by_at f E e (suc k) (suc n) h = by_at f E (suc e) k n (omega arith) ∙ ap (λ m. pos (counted E m (f m))) (omega arith)

pub fresh_at : (E : ℕ) (d : List Tok) (e : ℕ) → e < most_elements → get_or (fresh E d) e (pos 0) ≡ pos (counted E e (tally e d))
unfolding fresh
fresh_at E d e h = by_at (λ e. tally e d) E 0 most_elements e h ∙ ap (λ m. pos (counted E m (tally m d))) (omega arith)

-- 0 from E on
by_past : (f : ℕ → ℕ) (E e k n : ℕ) → E ≤ e + n → get_or (counts_by f E e k) n (pos 0) ≡ pos 0
by_past f E e zero n h = refl
by_past f E e (suc k) zero h = ap (λ b. pos (cond b (f e) 0)) (le-ltb e E (omega arith))
by_past f E e (suc k) (suc n) h = by_past f E (suc e) k n (omega arith)

pub fresh_past : (E : ℕ) (d : List Tok) (e : ℕ) → E ≤ e → get_or (fresh E d) e (pos 0) ≡ pos 0
unfolding fresh
fresh_past E d e h = by_past (λ e. tally e d) E 0 most_elements e (omega arith)
