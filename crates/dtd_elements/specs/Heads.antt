-- The head of an ELEMENT declaration, and the end of a declaration. Assumes nothing.
use Rattle.std.specs.Prelude.{◌≡◌, refl, ◌≢◌, Bool, true, false, not, cond, Result, Ok, Err, List, ℕ, ◌≤◌, ◌<◌, ltb, length, drop}
use Rattle.std.proofs.Common.{◌∙◌, arith, lt-ltb, le-ltb}
use Rattle.paper.specs.Basics.{most_elements}
use Rattle.paper.specs.declared.Refusal.TheVariants.{DtdText, Schema}
use Rattle.paper.specs.Dtd.Letters.{Name, is_first, is_more, begins, past, among, greater, word_element}
use Rattle.paper.specs.Dtd.Numbering.{number_in}
use Rattle.paper.specs.Dtd.Readers.{stop, ok, Reader, ◌>>◌, ◌>>=◌, pure, tested, outside, literal, mark, S?, S, name}
use Rattle.paper.specs.Dtd.Reading.{limit}
use Rattle.dtd_words.specs.declared.Fault.{Fault}
use Rattle.dtd_words.specs.Words.{Came}
use Rattle.dtd_names.specs.Named.{name_at, names_at}
use Rattle.dtd_names.specs.Turns.{among_number, names_length}
use Rattle.dtd_elements.specs.declared.Head.{Head}
use Rattle.dtd_elements.specs.Steps.{Gave, Went, went, went_on, broke_off}

-- `S? >`
abbrev pub ending : Reader (Unit {0})
ending = S? >> mark greater

-- a word, and white space
abbrev pub keyword : List ℕ → Reader (Unit {0})
keyword l = do
  literal l
  S

-- The name of an element that is declared, after those before it: "An element [..] declared twice: 14 where the second name ends",
-- "the 49th element where its name ends, if the name is new".
abbrev pub new_name : List Name → Reader Name
new_name names = tested limit (λ n. ltb (length names) most_elements) (tested outside (λ n. not (among n names)) name)

-- behind `<!`, up to the content
abbrev pub after_name : Name → Reader Name
after_name n = do
  S
  pure n

abbrev pub after_space : List Name → Reader Name
after_space names = do
  n ← new_name names
  after_name n

abbrev pub heading : List Name → Reader Name
heading names = do
  keyword word_element
  after_space names

-- the places of the names of the elements that were declared
pub record Declaring (text : List ℕ) (at : ℕ) (elements : List ℕ) : Type 0 where
  pub inside : at ≤ length text
  pub few : length elements ≤ most_elements

-- ---- the name

module _ (text : List ℕ) (at : ℕ) where
  -- what a name came to, and that it is the name there
  named : (r : Result ℕ Fault) → Came text r (name (drop at text)) → Gave (λ e. e) (λ e n. n ≡ name_at text at) text r (name (drop at text))
  named r x = by (begins is_first (drop at text)) r x
    where
      by : (b : Bool) (r : Result ℕ Fault) → Came text r (cond b (ok (name_at text at) (past is_more (drop at text))) (stop outside (drop at text)))
          → Gave (λ e. e) (λ e n. n ≡ name_at text at) text r (cond b (ok (name_at text at) (past is_more (drop at text))) (stop outside (drop at text)))
      by true (Ok e) a = (a, refl)
      by true (Err f) a = a
      by false (Ok e) a = a
      by false (Err f) a = a

  module _ (elements : List ℕ) (d : Declaring text at elements) where
    abbrev names : List Name
    names = names_at text elements

    abbrev Outcome : Result ℕ Fault → Type 0
    Outcome r = Gave (λ e. e) (λ e n. n ≡ name_at text at) text r (new_name names (drop at text))

    abbrev Its : ℕ → Name → Type 0
    Its e n = n ≡ name_at text at

    -- r: the name's number among those declared
    module _ (c : ℕ) (x : Came text (Ok c) (name (drop at text))) (r : ℕ) (e : r ≡ number_in names (name_at text at)) where
      read : name (drop at text) ≡ ok (name_at text at) (drop c text)
      read = let w = went text (λ e. e) Its c name (drop at text) (named (Ok c) x) in w.read ∙ rw w.holds

      inside : c ≤ length text
      inside = (went text (λ e. e) Its c name (drop at text) (named (Ok c) x)).inside

      member : among (name_at text at) names ≡ ltb r (length elements)
      member = among_number names (name_at text at) ∙ rw (← e, names_length text elements)

      pub twice : r < length elements → Outcome (Err (record { refusal = DtdText; at = at }))
      twice h = rw (read, member, lt-ltb r (length elements) h) (refl, record { inside = d.inside; rest = refl })

      pub full : length elements ≤ r → length elements ≡ most_elements → Outcome (Err (record { refusal = Schema; at = at }))
      full h q = rw (read, member, le-ltb r (length elements) h, names_length text elements, q) (refl, record { inside = d.inside; rest = refl })

      pub fresh : length elements ≤ r → length elements ≢ most_elements → Outcome (Ok c)
      fresh h q =
          let f = d.few in
          rw (read, member, le-ltb r (length elements) h, names_length text elements, lt-ltb (length elements) most_elements (omega arith))
          (record { inside = inside; rest = refl }, refl)

-- ---- the head, step by step

module _ (text : List ℕ) (at : ℕ) (elements : List ℕ) (d : Declaring text at elements) where
  abbrev declared : List Name
  declared = names_at text elements

  abbrev Of : Head → Name → Type 0
  Of h n = n ≡ name_at text h.name

  abbrev Headed : Result Head Fault → Type 0
  Headed r = Gave (λ h. h.at) Of text r (heading declared (drop at text))

  pub no_start : (f : Fault) → Came text (Err f) (keyword word_element (drop at text)) → Headed (Err f)
  no_start f y = broke_off text (λ h. h.at) Of (λ u. after_space declared) f (keyword word_element (drop at text)) y

  module _ (s : ℕ) (y : Came text (Ok s) (keyword word_element (drop at text))) where
    start_read : Went text (λ p. p) (λ p a. Unit {0}) s (keyword word_element) (drop at text)
    start_read = went_on text s (keyword word_element) (drop at text) y

    pub there : Declaring text s elements
    there = record { inside = start_read.inside; few = d.few }

    abbrev New : ℕ → Name → Type 0
    New e n = n ≡ name_at text s

    module _ (n : ℕ) (z : Gave (λ e. e) New text (Ok n) (new_name declared (drop s text))) where
      new_read : Went text (λ e. e) New n (new_name declared) (drop s text)
      new_read = went text (λ e. e) New n (new_name declared) (drop s text) z

      pub new_inside : n ≤ length text
      new_inside = new_read.inside

      pub no_gap : (f : Fault) → Came text (Err f) (S (drop n text)) → Headed (Err f)
      no_gap f c = rw (start_read.read, new_read.read) (broke_off text (λ h. h.at) Of (λ u. pure new_read.value) f (S (drop n text)) c)
