-- The pass over the children of an element that has texts alone. Assumes nothing.
use Rattle.std.specs.Prelude.{◌≡◌, refl, Bool, true, false, List, [], ◌∷◌, ℕ, zero, suc, ◌+◌, ◌-◌, ◌/◌, ◌≤◌, ◌<◌, length, drop, get_or, Ok, Err}
use Rattle.std.proofs.Math.Option.{none, some}
use Rattle.std.proofs.Common.{sym, ap, ◌∙◌, add-one, arith}
use Rattle.paper.specs.declared.Tok.{Tok}
use Rattle.paper.specs.declared.Tok.TheVariants.{Start, End, Text, Attr, Value, Bad}
use Rattle.paper.specs.Tokens.{tok_of, toks, kids, starts}
use Rattle.basic_laws.specs.Bools.{clash}
use Rattle.shape_laws.specs.Ends.{rest_at, rest_past}
use Rattle.tokens.specs.Sorts.{ends, text_tok}
use Rattle.tokens.specs.Theorems.{start_iff, end_iff, text_iff}
use Rattle.stops.specs.Stop.{texts_stop, walked}

-- what is no start, no end and no text is passed over
other : (x : Tok) (n i : ℕ) (r : List Tok) → starts x ≡ false → ends x ≡ false → text_tok x ≡ false → texts_stop n i (x ∷ r) ≡ texts_stop n (suc i) r
other (Start m) n i r s e t = clash refl s
other End n i r s e t = clash refl e
other (Text m) n i r s e t = clash refl t
other (Attr m) n i r s e t = refl
other (Value m) n i r s e t = refl
other Bad n i r s e t = refl

no_child : (x : Tok) (r : List Tok) → starts x ≡ false → ends x ≡ false → text_tok x ≡ false → kids zero (x ∷ r) ≡ kids zero r
no_child (Start m) r s e t = clash refl s
no_child End r s e t = clash refl e
no_child (Text m) r s e t = clash refl t
no_child (Attr m) r s e t = refl
no_child (Value m) r s e t = refl
no_child Bad r s e t = refl

-- where the children from place `at` on stop is where those from place i on do, after n of so many texts at most
pub record Reading (doc : List ℕ) (at most i n : ℕ) : Type 0 where
  pub here : i ≤ length doc
  pub few : n ≤ most
  pub counted : length (kids zero (drop at (toks doc))) ≡ n + length (kids zero (drop i (toks doc)))
  pub left : texts_stop most at (drop at (toks doc)) ≡ texts_stop (most - n) i (drop i (toks doc))

module _ (doc : List ℕ) (at most : ℕ) where
  abbrev d : List Tok
  d = toks doc

  pub reading_begin : at ≤ length doc → Reading doc at most at 0
  reading_begin h =
      let z : most ≡ most - 0 = omega arith in
      record { here = h; few = omega arith; counted = omega arith; left = ap (λ k. texts_stop k at (drop at d)) z }

  module _ {i n : ℕ} (c : Reading doc at most i n) where
    -- no child is left
    none_left : (rest : List Tok) → drop i (toks doc) ≡ rest → texts_stop (most - n) i rest ≡ none → length (kids zero rest) ≡ 0
        → Ok n ≡ walked (texts_stop most at (drop at (toks doc))) (drop at (toks doc))
    none_left rest e s k =
        let z : n ≡ length (kids zero (drop at d)) = omega (arith, c.counted, ap (λ r. length (kids zero r)) e) in
        ap Ok z ∙ ap (λ o. walked o (drop at d)) (sym (c.left ∙ ap (texts_stop (most - n) i) e ∙ s))

    stops_here : texts_stop (most - n) i (drop i (toks doc)) ≡ some i → Err i ≡ walked (texts_stop most at (drop at (toks doc))) (drop at (toks doc))
    stops_here e = ap (λ o. walked o (drop at d)) (sym (c.left ∙ e))

    pub reading_out : length doc ≤ i → Ok n ≡ walked (texts_stop most at (drop at (toks doc))) (drop at (toks doc))
    reading_out h = none_left [] (rest_past doc i h) refl refl

    module _ (h : i < length doc) where
      next : {x : Tok} → tok_of (get_or doc i 0) ≡ x → drop i (toks doc) ≡ x ∷ drop (suc i) (toks doc)
      next e = rw (rest_at doc i h, e)

      pub reading_end : {x : Bool} → x ≡ ends (tok_of (get_or doc i 0)) → x ≡ true → Ok n ≡ walked (texts_stop most at (drop at (toks doc))) (drop at (toks doc))
      reading_end ex t = none_left (End ∷ drop (suc i) d) (next ((end_iff (get_or doc i 0)).0 (sym ex ∙ t))) refl refl

      pub reading_start : {y : Bool} → y ≡ starts (tok_of (get_or doc i 0)) → y ≡ true → Err i ≡ walked (texts_stop most at (drop at (toks doc))) (drop at (toks doc))
      reading_start ey t = stops_here (ap (texts_stop (most - n) i) (next ((start_iff (get_or doc i 0)).0 (sym ey ∙ t))))

      module _ {z : Bool} (ez : z ≡ text_tok (tok_of (get_or doc i 0))) where
        pub reading_other : {x y : Bool} → x ≡ ends (tok_of (get_or doc i 0)) → x ≡ false → y ≡ starts (tok_of (get_or doc i 0)) → y ≡ false → z ≡ false
            → Reading doc at most (i + 1) n
        reading_other ex f ey g k =
            let t : Tok = tok_of (get_or doc i 0) in
            let same = no_child t (drop (suc i) d) (sym ey ∙ g) (sym ex ∙ f) (sym ez ∙ k) in
            rw add-one (record {
              here = omega arith;
              few = c.few;
              counted = omega (arith, c.counted, ap (λ r. length (kids zero r)) (next refl), ap length same);
              left = c.left ∙ ap (texts_stop (most - n) i) (next refl) ∙ other t (most - n) i (drop (suc i) d) (sym ey ∙ g) (sym ex ∙ f) (sym ez ∙ k);
            })

        module _ (t : z ≡ true) where
          text : drop i (toks doc) ≡ Text (get_or doc i 0 / 8) ∷ drop (suc i) (toks doc)
          text = next ((text_iff (get_or doc i 0)).0 (sym ez ∙ t))

          pub reading_more : n ≡ most → Err i ≡ walked (texts_stop most at (drop at (toks doc))) (drop at (toks doc))
          reading_more e =
              let z : most - n ≡ 0 = omega arith in
              stops_here (ap (λ k. texts_stop k i (drop i d)) z ∙ ap (texts_stop 0 i) text)

          pub reading_text : (n ≡ most → ⊥) → Reading doc at most (i + 1) (n + 1)
          reading_text f =
              let y : most - n ≡ suc (most - suc n) = omega (arith, c.few) in
              rw (add-one, add-one) (record {
                here = omega arith;
                few = omega (arith, c.few);
                counted = omega (arith, c.counted, ap (λ r. length (kids zero r)) text);
                left = c.left ∙ ap (λ k. texts_stop k i (drop i d)) y ∙ ap (texts_stop (suc (most - suc n)) i) text;
              })
