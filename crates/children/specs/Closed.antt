-- From a child to the next. Assumes nothing.
use Rattle.std.specs.Prelude.{◌≡◌, refl, List, [], ◌∷◌, ◌++◌, ℕ, zero, suc, ◌+◌, ◌≤◌, ◌<◌, length, drop, get_or}
use Rattle.std.proofs.Common.{ap, ◌∙◌, arith, length-drop, drop-drop}
use Rattle.std.proofs.lemmas.List.{length-map}
use Rattle.paper.specs.declared.Tok.{Tok}
use Rattle.paper.specs.declared.Tok.TheVariants.{Start, End, Text, Attr, Value, Bad}
use Rattle.paper.specs.Tokens.{tok_of, toks, kids, close, end_of}
use Rattle.paper.specs.Rules.{State}
use Rattle.shape_laws.specs.Ends.{close_out, end_begin}
use Rattle.places.specs.Items.{close_le}
use Rattle.closing.specs.Closing.{closing, closed_at}
use Rattle.stops.specs.Stop.{model_stop}

-- `closes`, if it is long enough, has for each place of the document the place of the end that closes the element that is open there
pub record Closed (doc closes : List ℕ) : Type 0 where
  pub ends : length doc ≤ length closes → (p : ℕ) → p < length doc → get_or closes p 0 ≡ p + close zero (drop p (toks doc))

-- as `closing::closes` leaves it
pub closed : (doc left : List ℕ) {out : List ℕ} → out ≡ closing 0 (toks doc) ++ left → Closed doc out
closed doc left e = record { ends = λ h p g. closed_at (toks doc) left e p (omega (arith, length-map doc tok_of)) }

-- none are given
pub closed_none : (doc closes : List ℕ) → length closes ≡ 0 → Closed doc closes
closed_none doc closes e = record { ends = λ h p g. absurd (omega arith) }

-- the same place, counted from one token earlier
further : (b : List ℕ) (end : ℕ) (s : State) (i c : ℕ) (r : List Tok)
    → model_stop b end s zero (suc i + suc c) (drop (suc c) r) ≡ model_stop b end s zero (i + suc (suc c)) (drop (suc c) r)
further b end s i c r = ap (λ p. model_stop b end s zero p (drop (suc c) r)) (omega arith)

-- under an open child, its tokens are passed over up to its end
model_under : (b : List ℕ) (end : ℕ) (s : State) (k i : ℕ) (r : List Tok)
    → model_stop b end s (suc k) i r ≡ model_stop b end s zero (i + suc (close k r)) (drop (suc (close k r)) r)
model_under b end s k i [] = refl
model_under b end s k i (Start n ∷ r) = model_under b end s (suc k) (suc i) r ∙ further b end s i (close (suc k) r) r
model_under b end s zero i (End ∷ r) = ap (λ p. model_stop b end s zero p r) (omega arith)
model_under b end s (suc k) i (End ∷ r) = model_under b end s k (suc i) r ∙ further b end s i (close k r) r
model_under b end s k i (Text n ∷ r) = model_under b end s k (suc i) r ∙ further b end s i (close k r) r
model_under b end s k i (Attr n ∷ r) = model_under b end s k (suc i) r ∙ further b end s i (close k r) r
model_under b end s k i (Value n ∷ r) = model_under b end s k (suc i) r ∙ further b end s i (close k r) r
model_under b end s k i (Bad ∷ r) = model_under b end s k (suc i) r ∙ further b end s i (close k r) r

kids_under : (k : ℕ) (r : List Tok) → kids (suc k) r ≡ kids zero (drop (suc (close k r)) r)
kids_under k [] = refl
kids_under k (Start n ∷ r) = kids_under (suc k) r
kids_under zero (End ∷ r) = refl
kids_under (suc k) (End ∷ r) = kids_under k r
kids_under k (Text n ∷ r) = kids_under k r
kids_under k (Attr n ∷ r) = kids_under k r
kids_under k (Value n ∷ r) = kids_under k r
kids_under k (Bad ∷ r) = kids_under k r

-- the place behind the element that starts at place i
abbrev pub behind : List ℕ → ℕ → ℕ
behind doc i = end_of (toks doc) i + 1

module _ (doc : List ℕ) (i : ℕ) (h : i < length doc) where
  pub behind_within : end_of (toks doc) i ≤ length doc
  behind_within =
      let d : List Tok = toks doc in
      omega (arith, end_begin d i, close_le 0 (drop (i + 1) d), length-drop (i + 1) d, length-map doc tok_of)

  pub behind_end : (closes : List ℕ) → Closed doc closes → length doc ≤ length closes → i + 1 < length doc → get_or closes (i + 1) 0 + 1 ≡ behind doc i
  behind_end closes c m g = omega (arith, c.ends m (i + 1) g, end_begin (toks doc) i)

  pub behind_last : length doc ≤ i + 1 → length doc + 1 ≡ behind doc i
  behind_last g =
      let e : i + 1 ≡ length doc = omega arith in
      omega (arith, end_begin (toks doc) i, close_out doc (i + 1) 0 g)

-- it is further on, and what stands there are the next children: they are the same, and so is where they stop
pub record Next (b doc : List ℕ) (i r : ℕ) : Type 0 where
  pub on : i < r
  pub here : r ≤ length doc + 1
  pub others : kids 1 (drop (suc i) (toks doc)) ≡ kids zero (drop r (toks doc))
  pub same : (s : State) → model_stop b (length doc) s 1 (suc i) (drop (suc i) (toks doc)) ≡ model_stop b (length doc) s zero r (drop r (toks doc))

pub next_is : (b doc : List ℕ) (i : ℕ) → i < length doc → Next b doc i (behind doc i)
unfolding end_of
next_is b doc i h =
    let z : suc i + suc (close zero (drop (suc i) d)) ≡ behind doc i = omega arith in
    rw (← z) (record {
      on = omega arith;
      here = omega (arith, close_le zero (drop (suc i) d), length-drop (suc i) d, length-map doc tok_of);
      others = kids_under zero (drop (suc i) d) ∙ ap (kids zero) (drop-drop (suc (close zero (drop (suc i) d))) (suc i) d);
      same = λ s. model_under b (length doc) s zero (suc i) (drop (suc i) d)
          ∙ ap (model_stop b (length doc) s zero (suc i + suc (close zero (drop (suc i) d)))) (drop-drop (suc (close zero (drop (suc i) d))) (suc i) d);
    })
  where
    d : List Tok
    d = toks doc
