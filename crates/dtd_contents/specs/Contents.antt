-- What stands behind an element's name, at a place of a text: one law for each way out. Assumes nothing.
use Rattle.std.specs.Prelude.{◌≡◌, refl, Bool, true, false, Result, Ok, Err, List, ◌∷◌, ℕ, suc, ◌+◌, eqb, length, drop}
use Rattle.std.proofs.Common.{sym, ◌∙◌, add-one}
use Rattle.paper.specs.Schema.{symbols_of}
use Rattle.paper.specs.Dtd.Letters.{Name, is_white, begins, past, opening, hash, word_empty, word_text, closing}
use Rattle.paper.specs.Dtd.Declarations.{Content, empty, text, model}
use Rattle.paper.specs.Dtd.Numbering.{expr_of}
use Rattle.paper.specs.Dtd.Readers.{Read, stop, ok, Reader, onward, literal, mark}
use Rattle.paper.specs.Dtd.Reading.{contentspec, limited}
use Rattle.dtd_words.specs.declared.Fault.{Fault}
use Rattle.dtd_words.specs.Places.{At}
use Rattle.dtd_words.specs.Words.{CameTo, Came, came_faulty}
use Rattle.dtd_models.specs.Bytes.{front_is}
use Rattle.dtd_contents.specs.declared.Content.{Content as Told}
use Rattle.dtd_contents.specs.declared.Content.TheVariants.{Empty, Text as TextOnly, Model as ModelOf}
use Rattle.dtd_contents.specs.declared.Specification.{Specification}

-- what is told of it: "0 empty, 1 text only, 2 a model", and a model's symbols
abbrev pub told : Content → Told
told empty = Empty
told text = TextOnly
told (model p) = ModelOf (length (symbols_of (expr_of p (λ n. 0))))

abbrev pub Specifies : List ℕ → Specification → Content → List ℕ → Type 0
Specifies t v c s = At t v.at s × (v.content ≡ told c)

-- what it came to
abbrev pub Specified : List ℕ → Result Specification Fault → Read Content → Type 0
Specified t r o = CameTo (Specifies t) t r o

-- from `#PCDATA` on
abbrev pub text_rest : Reader (Unit {0})
text_rest s = onward (literal word_text s) (λ u r. mark closing (past is_white r))

-- ---- by the first bytes

-- c: whether a bracket opens there
module _ (known : Name → Bool) (t : List ℕ) (at : ℕ) (c : Bool) (q : c ≡ begins (eqb opening) (drop at t)) where
  module _ (p : c ≡ false) where
    pub no_empty : (f : Fault) → Came t (Err f) (literal word_empty (drop at t)) → Specified t (Err f) (contentspec known (drop at t))
    no_empty f x = rw (sym q ∙ p) (came_faulty (Specifies t) t (λ u r. ok empty r) f (literal word_empty (drop at t)) x)

  -- d: whether a hash stands behind the white space
  module _ (p : c ≡ true) (n : ℕ) (a : At t n (past is_white (drop (at + 1) t))) (d : Bool) (e : d ≡ begins (eqb hash) (drop n t)) where
    opened : drop at t ≡ 40 ∷ drop (suc at) t
    opened = let (h, i, j) = front_is t at opening (sym q ∙ p) in i

    white : past is_white (drop (suc at) t) ≡ drop n t
    white = rw (← add-one at) (sym a.rest)

    a_model : (s u : List ℕ) → s ≡ 40 ∷ u → begins (eqb hash) (past is_white u) ≡ false → contentspec known s ≡ limited known s
    a_model s u i h = rw i (rw h)

    pub model_read : (r : Result Specification Fault) → d ≡ false → Specified t r (limited known (drop at t)) → Specified t r (contentspec known (drop at t))
    model_read r f x = rw (a_model (drop at t) (drop (suc at) t) opened (rw white (sym e ∙ f))) x

    abbrev Ended : Result Specification Fault → Read (Unit {0}) → Type 0
    Ended r o = Specified t r (onward o (λ u r. ok text r))

    regroup : (r : Result Specification Fault) (o : Read (Unit {0})) → Ended r (onward o (λ u s. mark closing (past is_white s)))
        → Specified t r (onward o (λ u s. onward (mark closing (past is_white s)) (λ u r. ok text r)))
    regroup r (ok u s) y = y
    regroup r (stop k s) y = y

    there : (r : Result Specification Fault) → d ≡ true → Ended r (text_rest (drop n t)) → Specified t r (contentspec known (drop at t))
    there r f x = rw opened (rw (white, sym e ∙ f) (regroup r (literal word_text (drop n t)) x))

    pub no_text : (f : Fault) → d ≡ true → Came t (Err f) (text_rest (drop n t)) → Specified t (Err f) (contentspec known (drop at t))
    no_text f h x = there (Err f) h (came_faulty (Specifies t) t (λ u r. ok text r) f (text_rest (drop n t)) x)

    pub a_text : (z : ℕ) → d ≡ true → Came t (Ok z) (text_rest (drop n t)) → Specified t (Ok (record { content = TextOnly; at = z })) (contentspec known (drop at t))
    a_text z h x = there (Ok (record { content = TextOnly; at = z })) h (by (text_rest (drop n t)) x)
      where
        by : (o : Read (Unit {0})) → Came t (Ok z) o → Ended (Ok (record { content = TextOnly; at = z })) o
        by (ok u r) a = (a, refl)
        by (stop k r) a = absurd a
