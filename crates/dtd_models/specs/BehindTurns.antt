-- Turns of the walk along a model behind a part: a bracket that closes, and a separator. Assumes nothing.
use Rattle.std.specs.Prelude.{◌≡◌, refl, ◌≢◌, Bool, true, false, cond, ◌||◌, Result, Ok, Option, None, Some, List, [], ◌∷◌, ℕ, suc, ◌+◌, ◌-◌, ◌*◌, ◌/◌, ◌%◌, eqb, length, drop}
use Rattle.std.proofs.Common.{sym, ◌∙◌, arith, add-one, eqb-true}
use Rattle.paper.specs.Dtd.Letters.{Name, is_white, begins, past, closing, comma, bar}
use Rattle.paper.specs.Dtd.Readers.{stop, ok, onward, suffix, outside}
use Rattle.basic_laws.specs.Bools.{clash}
use Rattle.dtd_words.specs.declared.Fault.{Fault}
use Rattle.dtd_words.specs.Places.{At}
use Rattle.dtd_brackets.specs.declared.Separator.{Separator}
use Rattle.dtd_brackets.specs.declared.Separator.TheVariants.{Comma, Bar}
use Rattle.dtd_brackets.specs.Separators.{joint}
use Rattle.dtd_model_laws.specs.Sizes.{marks}
use Rattle.dtd_model_laws.specs.Walks.{Joint, free, commas, bars, joint_of, meets, meets_free, after, counted, separates, closes, ends, differs}
use Rattle.dtd_brackets.specs.Stacks.{passed, open_at, open_next, white_open}
use Rattle.dtd_brackets.specs.Windows.{digit, meets_digits, shut, top, joined}
use Rattle.dtd_brackets.specs.Back.{Recovered}
use Rattle.dtd_models.specs.Bytes.{front_is, Suffixed, joint_at, separator_byte}
use Rattle.dtd_models.specs.Held.{fault, Stands, BehindAt, Onward, Went, Goes, Settles}
use Rattle.dtd_models.specs.Turns.{taken, refused, stacked}
use Rattle.dtd_models.specs.declared.Place.{Place}
use Rattle.dtd_models.specs.declared.Walk.{Walk}
use Rattle.dtd_models.specs.declared.Walk.TheVariants.{Due, Behind, Ended}

-- from behind the white space
pub onwards : (text : List ℕ) (from : ℕ) (p r : Place) (w : Result Walk Fault) → Settles text from p r → Goes text from r w → Went text from p w
onwards text from p r w s g = λ known b.
    let o = g known (s.goes known b) s.fresh in
    record { holds = o.holds; less = let h = s.later in let i = o.less in omega arith }

module _ (text : List ℕ) (from : ℕ) (p : Place) (s : Stands text from p) where
  -- ---- a bracket closes

  module _ (c : begins (eqb closing) (drop p.at text) ≡ true) (n : ℕ) (u : Suffixed text (p.at + 1) n) where
    -- k closes, and l are left
    module _ (k : Joint) (l : List Joint) (o : open_at text from p.at ≡ k ∷ l) where
      left_open : open_at text from (p.at + 1 + n) ≡ l
      left_open =
          let (i, g, h) = front_is text p.at closing c in
          let a = s.ahead in
          u.still from (omega arith) ∙ rw (add-one p.at) (open_next text from p.at a i ∙ rw (← h, o))

      goes_on : (known : Name → Bool) → BehindAt known text from p → past is_white (drop p.at text) ≡ drop p.at text
          → counted known (drop from text) ≡ after known l (p.symbols + n) p.names (drop (p.at + 1 + n) text)
      goes_on known b f =
          let (i, g, h) = front_is text p.at closing c in
          let r : suffix (drop (suc p.at) text) ≡ ok u.kind (drop (p.at + 1 + n) text) = rw (← add-one p.at) u.read in
          let t : after known (k ∷ l) p.symbols p.names (drop p.at text)
          ≡ onward (suffix (drop (suc p.at) text)) (λ q. after known l (p.symbols + marks q) p.names) =
          closes known l p.symbols p.names k (drop p.at text) (drop (suc p.at) text) (f ∙ g) in
          b.same ∙ rw o (rw (← u.many) at (rw r at t))

    pub closed_last : p.depth ≡ 1
        → Goes text from p (Ok (Ended (record { at = p.at + 1 + n; symbols = p.symbols + n; names = p.names })))
    closed_last z = λ known b f. stacked text from p s (λ k l o.
        let d : length l ≡ 0 = let x = s.deep in let y : length (open_at text from p.at) ≡ suc (length l) = rw o in omega arith in
        let e : l ≡ [] = none l d in
        record { holds = taken known text (drop from text) (p.at + 1 + n) (p.symbols + n) p.names (goes_on k l o known b f ∙ rw e) u.inside; less = omega arith })
      where
        none : (l : List Joint) → length l ≡ 0 → l ≡ []
        none [] d = refl
        none (k ∷ l) d = absurd (omega arith)

    pub closed_more : p.depth ≢ 1
        → Goes text from p (Ok (Behind (record { at = p.at + 1 + n; depth = p.depth - 1; window = p.window / 4; symbols = p.symbols + n; names = p.names })))
    closed_more z = λ known b f. stacked text from p s (λ k l o.
        let e = left_open k l o in
        let a = s.ahead in
        let i = u.inside in
        let m = s.some in
        let d : length (open_at text from p.at) ≡ suc (length l) = rw o in
        record {
          holds = record {
            stands = record {
              inside = u.inside;
              ahead = omega arith;
              deep = rw e (let x = s.deep in omega arith);
              some = omega arith;
              near = rw e (shut p.window k l (rw o at s.near));
              few_symbols = let x = s.few_symbols in omega arith;
              few_names = let x = s.few_names in omega arith;
              low = let x = s.low in omega arith;
            };
            same = goes_on k l o known b f ∙ rw e;
          };
          less = omega arith;
        })

  -- ---- a separator

  -- what a separator that fits makes of the brackets
  joins : (k : Joint) (l : List Joint) (c : ℕ) → meets k (joint_of c) ≡ true → passed c (k ∷ l) ≡ joint_of c ∷ l
  joins k l c m = by (eqb c comma) (eqb c bar) refl refl m
    where
      by : (x y : Bool) → eqb c comma ≡ x → eqb c bar ≡ y → meets k (cond x commas (cond y bars free)) ≡ true → passed c (k ∷ l) ≡ cond x commas (cond y bars free) ∷ l
      by true y i j m = rw (eqb-true c comma i)
      by false true i j m = rw (eqb-true c bar j)
      by false false i j m = clash m (meets_free k)

  -- nothing that may stand there
  broken : (k : Joint) (l : List Joint) → open_at text from p.at ≡ k ∷ l → meets k (joint_at (drop p.at text)) ≡ false → begins (eqb closing) (drop p.at text) ≡ false
      → (known : Name → Bool) → BehindAt known text from p → past is_white (drop p.at text) ≡ drop p.at text
      → Onward known text from p.at (fault p.at)
  broken k l o m z known b f =
      record { holds = refused known text (drop from text) p.at (b.same ∙ rw o (by (drop p.at text) m z f)) s.inside; less = omega arith }
    where
      by : (r : List ℕ) → meets k (joint_at r) ≡ false → begins (eqb closing) r ≡ false → past is_white r ≡ r → after known (k ∷ l) p.symbols p.names r ≡ stop outside r
      by [] m h f = ends known l p.symbols p.names k [] f
      by (x ∷ r) m h f = differs known l p.symbols p.names k x (x ∷ r) r f h m

  pub no_separator : (u : Option Separator) → joint u ≡ joint_at (drop p.at text) → u ≡ None → begins (eqb closing) (drop p.at text) ≡ false → Goes text from p (fault p.at)
  no_separator u j e z = λ known b f. stacked text from p s (λ k l o. broken k l o (rw (← j, e) (meets_free k)) z known b f)

  -- a separator stands there; w is a window that is not empty, and t tells whether it may stand in the bracket
  module _ (y : Separator) (j : joint (Some y) ≡ joint_at (drop p.at text)) (w : ℕ) (v : Recovered text from p.at w)
      (t : Bool) (e : t ≡ eqb (w % 4) 1 || eqb (w % 4) (digit (joint (Some y)))) where
    module _ (k : Joint) (l : List Joint) (o : open_at text from p.at ≡ k ∷ l) where
      some_known : w ≢ 0
      some_known z = let x : length (open_at text from p.at) ≡ 0 = rw (v.1 z) in let y : length (open_at text from p.at) ≡ suc (length l) = rw o in omega arith

      tested : t ≡ meets k (joint (Some y))
      tested = e ∙ rw (top w k l (rw o at v.0) some_known) (by y)
        where
          by : (y : Separator) → eqb (digit k) 1 || eqb (digit k) (digit (joint (Some y))) ≡ meets k (joint (Some y))
          by Comma = meets_digits k commas
          by Bar = meets_digits k bars

    pub joined_at : (x d : ℕ) → d ≡ digit (joint (Some y)) → t ≡ true → At text x (past is_white (drop (p.at + 1) text))
        → Goes text from p (Ok (Due (record { at = x; depth = p.depth; window = w / 4 * 4 + d; symbols = p.symbols + 1; names = p.names })))
    joined_at x d q h a = λ known b f. stacked text from p s (λ k l o.
        let (c, i, g, u'', g') = separator_byte text p.at y j in
        let m : meets k (joint_of c) ≡ true = rw (← g') (sym (tested k l o) ∙ h) in
        let r : drop x text ≡ past is_white (drop (suc p.at) text) = rw (← add-one p.at) a.rest in
        let (u, u') = white_open text from (suc p.at) x (let z = s.ahead in omega arith) (omega arith) a.inside r in
        let n : open_at text from x ≡ joint_of c ∷ l = u' ∙ open_next text from p.at s.ahead i ∙ rw (← u'', o) (joins k l c m) in
        let z : length (open_at text from p.at) ≡ suc (length l) = rw o in
        let a' = a.inside in
        record {
          holds = record {
            stands = record {
              inside = a.inside;
              ahead = let z = s.ahead in omega arith;
              deep = rw n (let y = s.deep in omega arith);
              some = s.some;
              near = rw (n, q, g') (joined w k l (rw o at v.0) (some_known k l o) (joint_of c));
              few_symbols = let z = s.few_symbols in omega arith;
              few_names = let z = s.few_names in omega arith;
              low = let z = s.low in omega arith;
            };
            same = b.same ∙ rw (o, n, r) (separates known l p.symbols p.names k c (drop p.at text) (drop (suc p.at) text) (f ∙ g) m);
          };
          less = omega arith;
        })

    pub no_joint : t ≡ false → begins (eqb closing) (drop p.at text) ≡ false → Goes text from p (fault p.at)
    no_joint h z = λ known b f. stacked text from p s (λ k l o. broken k l o (rw (← j) (sym (tested k l o) ∙ h)) z known b f)
