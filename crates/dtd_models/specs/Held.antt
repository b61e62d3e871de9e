-- Where the walk along a model stands, and what its steps come to. Assumes nothing.
use Rattle.std.specs.Prelude.{◌≡◌, Bool, Result, Ok, Err, List, ℕ, suc, ◌-◌, ◌≤◌, ◌<◌, length, drop}
use Rattle.paper.specs.Expressions.{count}
use Rattle.paper.specs.Schema.{symbols_of}
use Rattle.paper.specs.Dtd.Letters.{Name, is_white, past}
use Rattle.paper.specs.Dtd.Declarations.{Part}
use Rattle.paper.specs.Dtd.Numbering.{expr_of}
use Rattle.paper.specs.Dtd.Readers.{Read}
use Rattle.paper.specs.declared.Refusal.TheVariants.{DtdText}
use Rattle.dtd_words.specs.declared.Fault.{Fault}
use Rattle.dtd_words.specs.Places.{At}
use Rattle.dtd_words.specs.Words.{CameTo}
use Rattle.dtd_model_laws.specs.Turns.{groups}
use Rattle.dtd_model_laws.specs.Walks.{due, after, counted}
use Rattle.dtd_brackets.specs.Stacks.{open_at}
use Rattle.dtd_brackets.specs.Windows.{Known}
use Rattle.dtd_models.specs.declared.Place.{Place}
use Rattle.dtd_models.specs.declared.Modelled.{Modelled}
use Rattle.dtd_models.specs.declared.Walk.{Walk}
use Rattle.dtd_models.specs.declared.Walk.TheVariants.{Due, Behind, Ended}

-- what a model came to: the place behind it, and how many symbols and names it has
abbrev pub Model : List ℕ → Result Modelled Fault → Read Part → Type 0
Model text r o =
    CameTo (λ m p s. At text m.at s × (m.symbols ≡ length (symbols_of (expr_of p (λ n. 0)))) × (m.names ≡ count (expr_of p (λ n. 0)))) text r o

abbrev pub fault : ℕ → Result Walk Fault
fault at = Err (record { refusal = DtdText; at = at })

-- what is left to walk
abbrev pub left : List ℕ → Walk → ℕ
left text (Due p) = suc (length text - p.at)
left text (Behind p) = suc (length text - p.at)
left text (Ended r) = 0

abbrev pub left_of : List ℕ → Result Walk Fault → ℕ
left_of text (Ok w) = left text w
left_of text (Err f) = 0

-- a place inside brackets of the model that begins at `from`
pub record Stands (text : List ℕ) (from : ℕ) (p : Place) : Type 0 where
  pub inside : p.at ≤ length text
  pub ahead : from ≤ p.at
  pub deep : p.depth ≡ length (open_at text from p.at)
  pub some : 1 ≤ p.depth
  pub near : Known p.window (open_at text from p.at)
  pub few_symbols : p.symbols ≤ p.at
  pub few_names : p.names ≤ p.at
  pub low : p.depth ≤ p.at

module _ (known : Name → Bool) (text : List ℕ) (from : ℕ) where
  -- the model from `from` on is what is read from the place on, where a part is due and behind a part
  pub record DueAt (p : Place) : Type 0 where
    pub stands : Stands text from p
    pub same : counted known (drop from text) ≡ due known (open_at text from p.at) p.symbols p.names (drop p.at text)

  pub record BehindAt (p : Place) : Type 0 where
    pub stands : Stands text from p
    pub same : counted known (drop from text) ≡ after known (open_at text from p.at) p.symbols p.names (drop p.at text)

  abbrev pub Held : Walk → Type 0
  Held (Due p) = DueAt p
  Held (Behind p) = BehindAt p
  Held (Ended m) = Model text (Ok m) (groups known (drop from text))

  -- what a step comes to
  abbrev pub Stepped : Result Walk Fault → Type 0
  Stepped (Ok w) = Held w
  Stepped (Err f) = Model text (Err f) (groups known (drop from text))

  -- a step from the place `at`
  pub record Onward (at : ℕ) (r : Result Walk Fault) : Type 0 where
    pub holds : Stepped r
    pub less : left_of text r < suc (length text - at)

-- a step from behind a part, whatever names are known
abbrev pub Went : List ℕ → ℕ → Place → Result Walk Fault → Type 0
Went text from p r = (known : Name → Bool) → BehindAt known text from p → Onward known text from p.at r

-- from a place that stands behind white space
abbrev pub Goes : List ℕ → ℕ → Place → Result Walk Fault → Type 0
Goes text from p r =
    (known : Name → Bool) → BehindAt known text from p → past is_white (drop p.at text) ≡ drop p.at text → Onward known text from p.at r

-- past the white space
pub record Settles (text : List ℕ) (from : ℕ) (p r : Place) : Type 0 where
  pub stands : Stands text from r
  pub later : p.at ≤ r.at
  pub fresh : past is_white (drop r.at text) ≡ drop r.at text
  pub goes : (known : Name → Bool) → BehindAt known text from p → BehindAt known text from r

-- before the first byte
abbrev pub Begun : List ℕ → ℕ → Result Walk Fault → Type 0
Begun text from r = (known : Name → Bool) → Stepped known text from r
