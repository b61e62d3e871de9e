-- Where children stop, token by token, as the code finds it; and that this is where the paper's definitions put it. Assumes nothing.
use Rattle.std.specs.Prelude.{◌≡◌, refl, Bool, true, false, ◌&&◌, List, [], ◌∷◌, ℕ, zero, suc, ◌+◌, length, Result, Ok, Err}
use Rattle.std.proofs.Common.{sym, ap, ◌∙◌, add-zero, arith}
use Rattle.std.proofs.Math.Bool.{and-false}
use Rattle.std.proofs.Math.Option.{Option, none, some}
use Rattle.paper.specs.declared.Tok.{Tok}
use Rattle.paper.specs.declared.Tok.TheVariants.{Start, End, Text, Attr, Value, Bad}
use Rattle.paper.specs.Tokens.{kids, child_at}
use Rattle.paper.specs.Rules.{Rules, State, at, may_end, move, run_from, ended, goes_on}
use Rattle.paper.specs.Judgement.{no_text, named, content_good, content_begun, stop_after}

-- where children stop to be as they must be: nowhere if all is good, else at a place
abbrev pub stopped : Bool → ℕ → Option ℕ
stopped true place = none
stopped false place = some place

-- the children of the element that is open k levels up, where d begins at place i: `good` says that they are as they must be, `begun` that
-- good ones begin so
abbrev pub stop_by : (good begun : List Tok → Bool) → (i k : ℕ) → List Tok → Option ℕ
stop_by good begun i k d = stopped (good (kids k d)) (i + child_at (stop_after begun (kids k d)) k d)

-- by the rules for an element
abbrev pub content_stop : Rules → ℕ → ℕ → List Tok → Option ℕ
content_stop R e i d = stop_by (content_good R e) (content_begun R e) i zero d

-- what a walk over the children that begin d answers: how many there are, or where they stop
abbrev pub walked : Option ℕ → List Tok → Result ℕ ℕ
walked none d = Ok (length (kids zero d))
walked (some place) d = Err place

-- what an answer tells
pub walked_ok : (good : Bool) (place : ℕ) (d : List Tok) {n : ℕ} → Ok n ≡ walked (stopped good place) d → (good ≡ true) × (n ≡ length (kids zero d))
walked_ok true place d e = (refl, cc)
walked_ok false place d e = (cc, cc)

pub walked_err : (good : Bool) (place : ℕ) (d : List Tok) {q : ℕ} → Err q ≡ walked (stopped good place) d → (good ≡ false) × (q ≡ place)
walked_err true place d e = (cc, cc)
walked_err false place d e = (refl, cc)

-- ---- texts alone

-- at most n texts, and nothing else
abbrev pub only_texts : ℕ → List Tok → Bool
only_texts n [] = true
only_texts zero (Text m ∷ k) = false
only_texts (suc n) (Text m ∷ k) = only_texts n k
only_texts n (Start m ∷ k) = false
only_texts n (End ∷ k) = false
only_texts n (Attr m ∷ k) = false
only_texts n (Value m ∷ k) = false
only_texts n (Bad ∷ k) = false

abbrev pub texts_stop : (n i : ℕ) → List Tok → Option ℕ
texts_stop n i [] = none
texts_stop n i (Start m ∷ d) = some i
texts_stop n i (End ∷ d) = none
texts_stop zero i (Text m ∷ d) = some i
texts_stop (suc n) i (Text m ∷ d) = texts_stop n (suc i) d
texts_stop n i (Attr m ∷ d) = texts_stop n (suc i) d
texts_stop n i (Value m ∷ d) = texts_stop n (suc i) d
texts_stop n i (Bad ∷ d) = texts_stop n (suc i) d

pub texts_stop_lem : (d : List Tok) (n i : ℕ) → texts_stop n i d ≡ stop_by (only_texts n) (only_texts n) i zero d
texts_stop_lem [] n i = refl
texts_stop_lem (Start m ∷ d) n i = ap some (sym (add-zero i))
texts_stop_lem (End ∷ d) n i = refl
texts_stop_lem (Text m ∷ d) zero i = ap some (sym (add-zero i))
texts_stop_lem (Text m ∷ d) (suc n) i = texts_stop_lem d n (suc i) ∙ ap (stopped (only_texts n (kids zero d))) (omega arith)
texts_stop_lem (Attr m ∷ d) n i = texts_stop_lem d n (suc i) ∙ ap (stopped (only_texts n (kids zero d))) (omega arith)
texts_stop_lem (Value m ∷ d) n i = texts_stop_lem d n (suc i) ∙ ap (stopped (only_texts n (kids zero d))) (omega arith)
texts_stop_lem (Bad ∷ d) n i = texts_stop_lem d n (suc i) ∙ ap (stopped (only_texts n (kids zero d))) (omega arith)

-- ---- a model

-- `end` is the place behind the last token, for tokens in which the end is missing
abbrev pub model_stop : (b : List ℕ) (end : ℕ) → State → (k i : ℕ) → List Tok → Option ℕ
model_stop b end s k i [] = stopped (may_end b s) end
model_stop b end s (suc k) i (Start n ∷ d) = model_stop b end s (suc (suc k)) (suc i) d
model_stop b end s zero i (Start n ∷ d) = elim (run_from b s (n ∷ [])) [ none ↦ some i | some t ↦ model_stop b end t 1 (suc i) d ]
model_stop b end s (suc k) i (End ∷ d) = model_stop b end s k (suc i) d
model_stop b end s zero i (End ∷ d) = stopped (may_end b s) i
model_stop b end s (suc k) i (Text n ∷ d) = model_stop b end s (suc k) (suc i) d
model_stop b end s zero i (Text n ∷ d) = some i
model_stop b end s k i (Attr n ∷ d) = model_stop b end s k (suc i) d
model_stop b end s k i (Value n ∷ d) = model_stop b end s k (suc i) d
model_stop b end s k i (Bad ∷ d) = model_stop b end s k (suc i) d

-- the children k after those that led to a state
abbrev pub good_from : List ℕ → State → List Tok → Bool
good_from b s k = no_text k && ended b (run_from b s (named k))

abbrev pub begun_from : List ℕ → State → List Tok → Bool
begun_from b s k = no_text k && goes_on (run_from b s (named k))

module _ (b : List ℕ) (end : ℕ) where
  -- one token is passed
  passed : (s : State) (k i : ℕ) (d : List Tok) {r : Option ℕ} → r ≡ stop_by (good_from b s) (begun_from b s) (suc i) k d
      → r ≡ stopped (good_from b s (kids k d)) (i + suc (child_at (stop_after (begun_from b s) (kids k d)) k d))
  passed s k i d e = e ∙ ap (stopped (good_from b s (kids k d))) (omega arith)

  pub model_stop_lem : (d : List Tok) (s : State) (k i : ℕ) → i + length d ≡ end → model_stop b end s k i d ≡ stop_by (good_from b s) (begun_from b s) i k d
  model_stop_lem [] s k i h = ap (stopped (may_end b s)) (sym h)
  model_stop_lem (Start n ∷ d) s (suc k) i h = passed s (suc (suc k)) i d (model_stop_lem d s (suc (suc k)) (suc i) (omega arith))
  model_stop_lem (Start n ∷ d) s zero i h = go (move b s n) refl (λ t. model_stop_lem d t 1 (suc i) (omega arith))
    where
      go : (o : Option ℕ) → move b s n ≡ o → ((t : State) → model_stop b end t 1 (suc i) d ≡ stop_by (good_from b t) (begun_from b t) (suc i) 1 d)
          → model_stop b end s zero i (Start n ∷ d) ≡ stop_by (good_from b s) (begun_from b s) i zero (Start n ∷ d)
      go none e next = rw (model_stop, e, run_from, and-false) (ap some (sym (add-zero i)))
      go (some k) e next = rw (model_stop, e, run_from) (passed (at k) 1 i d (next (at k)))
  model_stop_lem (End ∷ d) s (suc k) i h = passed s k i d (model_stop_lem d s k (suc i) (omega arith))
  model_stop_lem (End ∷ d) s zero i h = ap (stopped (may_end b s)) (sym (add-zero i))
  model_stop_lem (Text n ∷ d) s (suc k) i h = passed s (suc k) i d (model_stop_lem d s (suc k) (suc i) (omega arith))
  model_stop_lem (Text n ∷ d) s zero i h = ap some (sym (add-zero i))
  model_stop_lem (Attr n ∷ d) s k i h = passed s k i d (model_stop_lem d s k (suc i) (omega arith))
  model_stop_lem (Value n ∷ d) s k i h = passed s k i d (model_stop_lem d s k (suc i) (omega arith))
  model_stop_lem (Bad ∷ d) s k i h = passed s k i d (model_stop_lem d s k (suc i) (omega arith))
