-- The reader of a model as a walk along the text: what is left to read is told by the brackets that are open, each with its separator.
-- What is read counts its symbols and names. Assumes nothing.
use Rattle.std.specs.Prelude.{◌≡◌, refl, Bool, true, false, cond, List, [], ◌∷◌, ℕ, ◌+◌, eqb}
use Rattle.std.proofs.Common.{ap, ◌∙◌, arith, eq-eqb, eqb-true}
use Rattle.basic_laws.specs.Bools.{clash}
use Rattle.basic_laws.specs.Numbers.{eqb_sym}
use Rattle.paper.specs.Dtd.Letters.{Name, is_white, begins, past, opening, closing, comma, bar}
use Rattle.paper.specs.Dtd.Declarations.{Suffix, Part, word, sequence, choice, Parts, only, ◌and◌}
use Rattle.paper.specs.Dtd.Readers.{Read, stop, ok, Reader, if_at, onward, mark, suffix, outside}
use Rattle.paper.specs.Dtd.Reading.{mention, behind, final, before}
use Rattle.dtd_model_laws.specs.Turns.{part_by, tail_by, groups, rests, group_turn, rest_turn}
use Rattle.dtd_model_laws.specs.Sizes.{marks, symbols, symbols_in, words, words_in}

-- a bracket that is open: no separator yet, or which
pub data Joint : Type 0 where
  free commas bars : Joint

-- which separator a byte is; whether it may stand in the bracket
abbrev pub joint_of : ℕ → Joint
joint_of c = cond (eqb c comma) commas (cond (eqb c bar) bars free)

abbrev pub meets : Joint → Joint → Bool
meets k free = false
meets free commas = true
meets commas commas = true
meets bars commas = false
meets free bars = true
meets commas bars = false
meets bars bars = true

pub meets_free : (k : Joint) → meets k free ≡ false
meets_free free = refl
meets_free commas = refl
meets_free bars = refl

module _ (known : Name → Bool) where
  -- the separators and parts that are left of a bracket, and the one that closes: their symbols and names
  abbrev later : ℕ → Reader (ℕ × ℕ)
  later j s = onward (rests known j s) (λ ps t. ok (1 + symbols_in ps, words_in ps) t)

  abbrev none : Reader (ℕ × ℕ)
  none s = onward (mark closing s) (λ u t. ok (0, 0) t)

  abbrev parts : Joint → Reader (ℕ × ℕ)
  parts free = if_at (eqb comma) (later comma) (if_at (eqb bar) (later bar) none)
  parts commas = if_at (eqb comma) (later comma) none
  parts bars = if_at (eqb bar) (later bar) none

  -- behind a part, in those brackets, after a symbols and b names; and where a part is due
  abbrev pub after : List Joint → ℕ → ℕ → Reader (ℕ × ℕ)
  after [] a b s = ok (a, b) s
  after (k ∷ l) a b s = onward (parts k (past is_white s)) (λ x t. onward (suffix t) (λ q. after l (a + x.0 + marks q) (b + x.1)))

  abbrev pub due : List Joint → ℕ → ℕ → Reader (ℕ × ℕ)
  due l a b s = onward (part_by known (groups known) s) (λ p. after l (a + symbols p) (b + words p))

  -- a model's symbols and names
  abbrev pub counted : Reader (ℕ × ℕ)
  counted s = onward (groups known s) (λ p t. ok (symbols p, words p) t)

  -- ---- a bracket opens

  tallied : (l : List Joint) (a b a' b' : ℕ) (s : List ℕ) → a ≡ a' → b ≡ b' → after l a b s ≡ after l a' b' s
  tallied l a b a' b' s p q = rw (p, q)

  module _ (l : List Joint) (a b : ℕ) where
    -- what is read behind the bracket's parts
    abbrev on : Part → Reader (ℕ × ℕ)
    on p = after l (a + symbols p) (b + words p)

    abbrev on' : Part → ℕ × ℕ → Reader (ℕ × ℕ)
    on' p x t = onward (suffix t) (λ q. after l (a + symbols p + x.0 + marks q) (b + words p + x.1))

    commas_on : (p : Part) (o : Read Parts)
        → onward (onward o (λ ps t. onward (suffix t) (λ q t. ok (sequence (p and ps) q) t))) on
        ≡ onward (onward o (λ ps t. ok (1 + symbols_in ps, words_in ps) t)) (on' p)
    commas_on p (stop k s) = refl
    commas_on p (ok ps t) = by (suffix t)
      where
        by : (o : Read Suffix)
            → onward (onward o (λ q t. ok (sequence (p and ps) q) t)) on
            ≡ onward o (λ q. after l (a + symbols p + (1 + symbols_in ps) + marks q) (b + words p + words_in ps))
        by (stop k s) = refl
        by (ok q s) = tallied l _ _ _ _ s (omega arith) (omega arith)

    bars_on : (p : Part) (o : Read Parts)
        → onward (onward o (λ ps t. onward (suffix t) (λ q t. ok (choice p ps q) t))) on
        ≡ onward (onward o (λ ps t. ok (1 + symbols_in ps, words_in ps) t)) (on' p)
    bars_on p (stop k s) = refl
    bars_on p (ok ps t) = by (suffix t)
      where
        by : (o : Read Suffix)
            → onward (onward o (λ q t. ok (choice p ps q) t)) on
            ≡ onward o (λ q. after l (a + symbols p + (1 + symbols_in ps) + marks q) (b + words p + words_in ps))
        by (stop k s) = refl
        by (ok q s) = tallied l _ _ _ _ s (omega arith) (omega arith)

    none_on : (p : Part) (o : Read (Unit {0}))
        → onward (onward (onward o (λ u t. ok (only p) t)) (λ ps t. onward (suffix t) (λ q t. ok (sequence ps q) t))) on
        ≡ onward (onward o (λ u t. ok (0, 0) t)) (on' p)
    none_on p (stop k s) = refl
    none_on p (ok u t) = by (suffix t)
      where
        by : (o : Read Suffix)
            → onward (onward o (λ q t. ok (sequence (only p) q) t)) on ≡ onward o (λ q. after l (a + symbols p + 0 + marks q) (b + words p + 0))
        by (stop k s) = refl
        by (ok q s) = tallied l _ _ _ _ s (omega arith) (omega arith)

    tail_on : (p : Part) (s : List ℕ) → onward (tail_by known (rests known) p s) on ≡ onward (parts free s) (on' p)
    tail_on p s = by (begins (eqb comma) s) (begins (eqb bar) s)
      where
        by : (x y : Bool)
            → onward (cond x (behind known (λ ps. sequence (p and ps)) (rests known comma) s) (cond y (behind known (choice p) (rests known bar) s) (behind known sequence (final known p) s))) on
            ≡ onward (cond x (later comma s) (cond y (later bar s) (none s))) (on' p)
        by true y = commas_on p (rests known comma s)
        by false true = bars_on p (rests known bar s)
        by false false = none_on p (mark closing s)

    pub opens : (s : List ℕ) → due l a b (opening ∷ s) ≡ due (free ∷ l) a b (past is_white s)
    opens s = ap (λ o. onward o on) (group_turn known (opening ∷ s)) ∙ by (part_by known (groups known) (past is_white s))
      where
        by : (o : Read Part)
            → onward (onward o (λ p t. tail_by known (rests known) p (past is_white t))) on ≡ onward o (λ p. after (free ∷ l) (a + symbols p) (b + words p))
        by (stop k s) = refl
        by (ok p t) = tail_on p (past is_white t)

    -- ---- a name

    pub names_word : (s : List ℕ) → begins (eqb opening) s ≡ false
        → due l a b s ≡ onward (mention known s) (λ n t. onward (suffix t) (λ q. after l (a + 1 + marks q) (b + 1)))
    names_word s p = rw p (by (mention known s))
      where
        by_suffix : (n : Name) (o : Read Suffix)
            → onward (onward o (λ q t. ok (word n q) t)) on ≡ onward o (λ q. after l (a + 1 + marks q) (b + 1))
        by_suffix n (stop k s) = refl
        by_suffix n (ok q s) = tallied l _ _ _ _ s (omega arith) refl

        by : (o : Read Name)
            → onward (onward o (λ n t. onward (suffix t) (λ q t. ok (word n q) t))) on
            ≡ onward o (λ n t. onward (suffix t) (λ q. after l (a + 1 + marks q) (b + 1)))
        by (stop k s) = refl
        by (ok n t) = by_suffix n (suffix t)

    -- ---- a separator j, in a bracket of such

    abbrev ending : ℕ × ℕ → Reader (ℕ × ℕ)
    ending x t = onward (suffix t) (λ q. after l (a + x.0 + marks q) (b + x.1))

    abbrev ending' : Part → ℕ × ℕ → Reader (ℕ × ℕ)
    ending' p x t = onward (suffix t) (λ q. after l (a + 1 + symbols p + x.0 + marks q) (b + words p + x.1))

    same_ending : (p : Part) (x y : ℕ × ℕ) (t : List ℕ) → x.0 ≡ 1 + symbols p + y.0 → x.1 ≡ words p + y.1 → ending x t ≡ ending' p y t
    same_ending p x y t e f = by (suffix t)
      where
        by : (o : Read Suffix)
            → onward o (λ q. after l (a + x.0 + marks q) (b + x.1)) ≡ onward o (λ q. after l (a + 1 + symbols p + y.0 + marks q) (b + words p + y.1))
        by (stop k s) = refl
        by (ok q s) = tallied l _ _ _ _ s (omega arith) (omega arith)

    module _ (j : ℕ) where
      more_on : (p : Part) (o : Read Parts)
          → onward (onward (onward o (λ ps t. ok (p and ps) t)) (λ ps t. ok (1 + symbols_in ps, words_in ps) t)) ending
          ≡ onward (onward o (λ ps t. ok (1 + symbols_in ps, words_in ps) t)) (ending' p)
      more_on p (stop k s) = refl
      more_on p (ok ps t) = same_ending p (1 + symbols_in (p and ps), words_in (p and ps)) (1 + symbols_in ps, words_in ps) t (omega arith) refl

      last_on : (p : Part) (o : Read (Unit {0}))
          → onward (onward (onward o (λ u t. ok (only p) t)) (λ ps t. ok (1 + symbols_in ps, words_in ps) t)) ending
          ≡ onward (onward o (λ u t. ok (0, 0) t)) (ending' p)
      last_on p (stop k s) = refl
      last_on p (ok u t) = same_ending p (1 + symbols_in (only p), words_in (only p)) (0, 0) t (omega arith) (omega arith)

      part_on : (p : Part) (s : List ℕ)
          → onward (onward (if_at (eqb j) (before known p (rests known j)) (final known p) s) (λ ps t. ok (1 + symbols_in ps, words_in ps) t)) ending
          ≡ onward (if_at (eqb j) (later j) none s) (ending' p)
      part_on p s = by (begins (eqb j) s)
        where
          by : (x : Bool)
              → onward (onward (cond x (before known p (rests known j) s) (final known p s)) (λ ps t. ok (1 + symbols_in ps, words_in ps) t)) ending
              ≡ onward (cond x (later j s) (none s)) (ending' p)
          by true = more_on p (rests known j s)
          by false = last_on p (mark closing s)

      turned : (s : List ℕ)
          → rests known j (j ∷ s)
          ≡ onward (part_by known (groups known) (past is_white s)) (λ p t. if_at (eqb j) (before known p (rests known j)) (final known p) (past is_white t))
      turned s = rest_turn known j (j ∷ s) ∙ rw (eq-eqb j j refl)

      joined_on : (s : List ℕ)
          → onward (later j (j ∷ s)) ending
          ≡ onward (part_by known (groups known) (past is_white s)) (λ p t. onward (if_at (eqb j) (later j) none (past is_white t)) (ending' p))
      joined_on s =
          ap (λ o. onward (onward o (λ ps t. ok (1 + symbols_in ps, words_in ps) t)) ending) (turned s) ∙ by (part_by known (groups known) (past is_white s))
        where
          by : (o : Read Part)
              → onward (onward (onward o (λ p t. if_at (eqb j) (before known p (rests known j)) (final known p) (past is_white t))) (λ ps t. ok (1 + symbols_in ps, words_in ps) t)) ending
              ≡ onward o (λ p t. onward (if_at (eqb j) (later j) none (past is_white t)) (ending' p))
          by (stop k s) = refl
          by (ok p t) = part_on p (past is_white t)

    -- ---- behind a part, by the byte behind the white space

    -- a separator of the bracket's sort: a part is due behind it
    comma_on : (k : Joint) (t : List ℕ) → meets k commas ≡ true → onward (parts k (comma ∷ t)) ending ≡ due (commas ∷ l) (a + 1) b (past is_white t)
    comma_on free t m = joined_on comma t
    comma_on commas t m = joined_on comma t
    comma_on bars t m = clash m refl

    bar_on : (k : Joint) (t : List ℕ) → meets k bars ≡ true → onward (parts k (bar ∷ t)) ending ≡ due (bars ∷ l) (a + 1) b (past is_white t)
    bar_on free t m = joined_on bar t
    bar_on commas t m = clash m refl
    bar_on bars t m = joined_on bar t

    pub separates : (k : Joint) (c : ℕ) (s t : List ℕ) → past is_white s ≡ c ∷ t → meets k (joint_of c) ≡ true
        → after (k ∷ l) a b s ≡ due (joint_of c ∷ l) (a + 1) b (past is_white t)
    separates k c s t e m = rw e (by (eqb c comma) (eqb c bar) refl refl m)
      where
        by : (x y : Bool) → eqb c comma ≡ x → eqb c bar ≡ y → meets k (cond x commas (cond y bars free)) ≡ true
            → onward (parts k (c ∷ t)) ending ≡ due (cond x commas (cond y bars free) ∷ l) (a + 1) b (past is_white t)
        by true y p q m = rw (eqb-true c comma p) (comma_on k t m)
        by false true p q m = rw (eqb-true c bar q) (bar_on k t m)
        by false false p q m = clash m (meets_free k)

    -- the bracket closes
    pub closes : (k : Joint) (s t : List ℕ) → past is_white s ≡ closing ∷ t
        → after (k ∷ l) a b s ≡ onward (suffix t) (λ q. after l (a + marks q) b)
    closes k s t e = rw e (by k (suffix t))
      where
        ends : (o : Read Suffix) → onward o (λ q. after l (a + 0 + marks q) (b + 0)) ≡ onward o (λ q. after l (a + marks q) b)
        ends (stop k s) = refl
        ends (ok q s) = tallied l _ _ _ _ s (omega arith) (omega arith)

        by : (k : Joint) (o : Read Suffix)
            → onward (parts k (closing ∷ t)) (λ x u. onward (suffix u) (λ q. after l (a + x.0 + marks q) (b + x.1))) ≡ onward (suffix t) (λ q. after l (a + marks q) b)
        by free o = ends (suffix t)
        by commas o = ends (suffix t)
        by bars o = ends (suffix t)

    -- nothing that can stand there
    pub ends : (k : Joint) (s : List ℕ) → past is_white s ≡ [] → after (k ∷ l) a b s ≡ stop outside []
    ends free s e = rw e
    ends commas s e = rw e
    ends bars s e = rw e

    pub differs : (k : Joint) (c : ℕ) (s t : List ℕ) → past is_white s ≡ c ∷ t → eqb closing c ≡ false → meets k (joint_of c) ≡ false
        → after (k ∷ l) a b s ≡ stop outside (c ∷ t)
    differs k c s t e o m = rw e (by k (eqb c comma) (eqb c bar) refl refl m)
      where
        by : (k : Joint) (x y : Bool) → eqb c comma ≡ x → eqb c bar ≡ y → meets k (cond x commas (cond y bars free)) ≡ false
            → onward (parts k (c ∷ t)) ending ≡ stop outside (c ∷ t)
        by free true y p q m = clash refl m
        by commas true y p q m = clash refl m
        by bars true y p q m = rw (eqb-true c comma p)
        by free false true p q m = clash refl m
        by commas false true p q m = rw (eqb-true c bar q)
        by bars false true p q m = clash refl m
        by free false false p q m = rw (eqb_sym comma c, eqb_sym bar c, p, q, o)
        by commas false false p q m = rw (eqb_sym comma c, p, o)
        by bars false false p q m = rw (eqb_sym bar c, q, o)

  -- ---- the whole model

  pub begins_walk : (s : List ℕ) → counted (opening ∷ s) ≡ due (free ∷ []) 0 0 (past is_white s)
  begins_walk s = by (groups known (opening ∷ s)) ∙ opens [] 0 0 s
    where
      by : (o : Read Part) → onward o (λ p t. ok (symbols p, words p) t) ≡ onward o (λ p. after [] (0 + symbols p) (0 + words p))
      by (stop k s) = refl
      by (ok p t) = tallied [] _ _ _ _ t (omega arith) (omega arith)

  pub no_model_lem : (s : List ℕ) → begins (eqb opening) s ≡ false → counted s ≡ stop outside s
  no_model_lem [] p = refl
  no_model_lem (c ∷ s) p = rw p
