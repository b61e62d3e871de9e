-- A content in the schema file: what is asked, and what stands in the buffer after it. Assumes nothing.
use Rattle.std.specs.Prelude.{◌≡◌, refl, Bool, true, false, List, [], ◌∷◌, ◌++◌, ℕ, ◌+◌, ◌≤◌, ◌<◌, leb, ltb, length, drop, set}
use Rattle.std.proofs.Common.{sym, ap, ◌∙◌, arith, leb-true, ltb-true, ltb-false, length-append, length-set}
use Rattle.std.proofs.Math.Bool.{and-eq-true_iff}
use Rattle.paper.specs.Basics.{most_elements, most_names}
use Rattle.paper.specs.Expressions.{count as countNames}
use Rattle.paper.specs.Files.{bytes_of, file_of}
use Rattle.paper.specs.Schema.{symbols_of, most_symbols}
use Rattle.paper.specs.SchemaWritten.{content_written}
use Rattle.paper.specs.Dtd.Declarations.{Part, Content, empty, text as text_only_lem, model}
use Rattle.paper.specs.Dtd.Grammar.{contentspec}
use Rattle.paper.specs.Dtd.Limits.{content_kept}
use Rattle.paper.specs.Dtd.Numbering.{expr_of, model_fits, content_of}
use Rattle.numbers.specs.Store.{bytes_one, one_wide, two_wide}
use Rattle.lines.specs.Put.{Put, put_both, put_as, put_one}
use Rattle.dtd_schema_laws.specs.Numbered.{alike}
use Rattle.dtd_symbols.specs.Turns.{numbered}
use Rattle.dtd_symbols.specs.Written.{symbols_for}
use Rattle.dtd_content_bytes.specs.Kinds.{kind_from, kind_spelled}
use Rattle.dtd_content_bytes.specs.Models.{model_bytes, one_byte_each, Modelled, ModelPut}

-- the names are numbered by their places in the list
abbrev pub content_bytes : (text names : List ℕ) → Content → List ℕ
content_bytes text names c = file_of (content_written (content_of (numbered text names) c))

-- A content is spelled from `from` to before `to`, within a model's limits, and there is room for it from a place on.
pub record Specified (text names : List ℕ) (from to : ℕ) (out : List ℕ) (at : ℕ) : Type 0 where
  pub content : Content
  pub spelled : contentspec content (drop from text) (drop to text)
  pub inside : to ≤ length text
  pub few : length names ≤ most_elements
  pub fits : content_kept model_fits content ≡ true
  pub room : at + length (content_bytes text names content) ≤ length out

-- whichever content is spelled there, it is put
abbrev pub ContentPut : (text names : List ℕ) (from to : ℕ) (before : List ℕ) (at r : ℕ) (after : List ℕ) → Type 0
ContentPut text names from to before at r after =
    (c : Content) → contentspec c (drop from text) (drop to text) → Put before at (content_bytes text names c) r after

-- as many symbols as the limit is told of
pub symbols_few : (text names : List ℕ) (p : Part) → model_fits p ≡ true → length (symbols_for text names p) ≤ most_symbols
symbols_few text names p h =
    let e = expr_of p (λ n. 0) in
    let (a, b) = (and-eq-true_iff (leb (length (symbols_of e)) most_symbols) (leb (countNames e) most_names)).0 h in
    omega (arith, leb-true (length (symbols_of e)) most_symbols a, (alike (numbered text names) (λ n. 0) p).symbols)

number_short : (n : ℕ) → n ≤ most_symbols → length (bytes_of n) ≤ 2
number_short n h = by (ltb n 128) refl
  where
    by : (b : Bool) → ltb n 128 ≡ b → length (bytes_of n) ≤ 2
    by true p = omega (arith, one_wide n (ltb-true n 128 p))
    by false p = omega (arith, two_wide n (ltb-false n 128 p) (omega arith))

model_bytes_lem : (text names : List ℕ) (p : Part) → content_bytes text names (model p) ≡ 2 ∷ model_bytes text names p
model_bytes_lem text names p = ap (λ l. l ++ model_bytes text names p) (bytes_one 2 (omega arith))

-- a content has at most 258 bytes
pub content_short : (text names : List ℕ) (c : Content) → length names ≤ most_elements → content_kept model_fits c ≡ true
    → length (content_bytes text names c) ≤ 258
content_short text names empty f h = omega (arith, ap (λ l. length (l ++ [])) (bytes_one 0 (omega arith)))
content_short text names text_only_lem f h = omega (arith, ap (λ l. length (l ++ [])) (bytes_one 1 (omega arith)))
content_short text names (model p) f h =
    let s : List ℕ = symbols_for text names p in
    let n : length s ≤ most_symbols = symbols_few text names p h in
    omega (arith, ap length (model_bytes_lem text names p), length-append (bytes_of (length s)) (file_of s), number_short (length s) n, ap length (one_byte_each text names f p))

module _ (text names : List ℕ) (from to : ℕ) (out : List ℕ) (at : ℕ) (s : Specified text names from to out at) where
  pub some_room : at < length out
  some_room = by s.content s.room
    where
      by : (c : Content) → at + length (content_bytes text names c) ≤ length out → at < length out
      by empty h = omega (arith, h, ap (λ l. length (l ++ [])) (bytes_one 0 (omega arith)))
      by text_only_lem h = omega (arith, h, ap (λ l. length (l ++ [])) (bytes_one 1 (omega arith)))
      by (model p) h = omega (arith, h, ap length (model_bytes_lem text names p))

  module _ (kind : ℕ) (e : kind ≡ kind_from (drop from text)) where
    pub content_alone : (kind ≡ 2 → ⊥) → ContentPut text names from to out at (at + 1) (set out at kind)
    content_alone z empty c = put_as (put_one out at kind some_room) (rw (bytes_one 0 (omega arith), e ∙ kind_spelled empty (drop from text) (drop to text) c))
    content_alone z text_only_lem c = put_as (put_one out at kind some_room) (rw (bytes_one 1 (omega arith), e ∙ kind_spelled text_only_lem (drop from text) (drop to text) c))
    content_alone z (model p) c = absurd (z (e ∙ kind_spelled (model p) (drop from text) (drop to text) c))

    module _ (k : kind ≡ 2) where
      pub model_ready : Modelled text names from to (set out at kind) (at + 1)
      model_ready = by s.content s.spelled s.fits s.room
        where
          by : (c : Content) → contentspec c (drop from text) (drop to text) → content_kept model_fits c ≡ true → at + length (content_bytes text names c) ≤ length out
              → Modelled text names from to (set out at kind) (at + 1)
          by empty c f h = absurd (omega (arith, k, e ∙ kind_spelled empty (drop from text) (drop to text) c))
          by text_only_lem c f h = absurd (omega (arith, k, e ∙ kind_spelled text_only_lem (drop from text) (drop to text) c))
          by (model p) c f h = record {
            part = p;
            spelled = c.1;
            inside = s.inside;
            few = s.few;
            fits = symbols_few text names p f;
            room = omega (arith, h, ap length (model_bytes_lem text names p), length-set out at kind);
          }

      pub content_model : (r : ℕ) (after : List ℕ) → ModelPut text names from to (set out at kind) (at + 1) r after
          → ContentPut text names from to out at r after
      content_model r after f empty c = absurd (omega (arith, k, e ∙ kind_spelled empty (drop from text) (drop to text) c))
      content_model r after f text_only_lem c = absurd (omega (arith, k, e ∙ kind_spelled text_only_lem (drop from text) (drop to text) c))
      content_model r after f (model p) c = put_as (put_both (put_one out at kind some_room) (f p c.1)) (ap (λ n. n ∷ model_bytes text names p) k ∙ sym (model_bytes_lem text names p))
