-- The run over the children of an element that has a model. Assumes nothing.
use Rattle.std.specs.Prelude.{◌≡◌, refl, Bool, true, false, not, List, [], ◌∷◌, ℕ, zero, suc, ◌+◌, ◌-◌, ◌/◌, ◌≤◌, ◌<◌, length, drop, get_or, Result, Ok, Err}
use Rattle.std.proofs.Common.{sym, ap, ◌∙◌, add-one, arith}
use Rattle.std.proofs.Math.Option.{Option, none, some}
use Rattle.std.proofs.lemmas.Bool.{not-true, not-false}
use Rattle.paper.specs.declared.Tok.{Tok}
use Rattle.paper.specs.declared.Tok.TheVariants.{Start, End, Text, Attr, Value, Bad}
use Rattle.paper.specs.Tokens.{tok_of, toks, kids, starts}
use Rattle.paper.specs.Rules.{State, start, ended, goes_on}
use Rattle.basic_laws.specs.Bools.{clash}
use Rattle.shape_laws.specs.Ends.{rest_at, rest_past}
use Rattle.table.specs.declared.Run.{Run}
use Rattle.table.specs.Run.{state_of, stepped, inside, Stepped}
use Rattle.tokens.specs.Sorts.{ends, text_tok}
use Rattle.tokens.specs.Theorems.{start_iff, end_iff, text_iff}
use Rattle.stops.specs.Stop.{stopped, model_stop, walked}
use Rattle.children.specs.Closed.{behind, Next, next_is}

-- ---- no child is left

abbrev pub asked : Bool → ℕ → ℕ → Result ℕ ℕ
asked true children place = Ok children
asked false children place = Err place

-- ---- the loop

-- what is no start, no end and no text is passed over
other : (b : List ℕ) (end : ℕ) (s : State) (x : Tok) (i : ℕ) (r : List Tok) → starts x ≡ false → ends x ≡ false → text_tok x ≡ false
    → model_stop b end s zero i (x ∷ r) ≡ model_stop b end s zero (suc i) r
other b end s (Start m) i r f g h = clash refl f
other b end s End i r f g h = clash refl g
other b end s (Text m) i r f g h = clash refl h
other b end s (Attr m) i r f g h = refl
other b end s (Value m) i r f g h = refl
other b end s Bad i r f g h = refl

no_child : (x : Tok) (r : List Tok) → starts x ≡ false → ends x ≡ false → text_tok x ≡ false → kids zero (x ∷ r) ≡ kids zero r
no_child (Start m) r f g h = clash refl f
no_child End r f g h = clash refl g
no_child (Text m) r f g h = clash refl h
no_child (Attr m) r f g h = refl
no_child (Value m) r f g h = refl
no_child Bad r f g h = refl

-- where the children from place `at` on stop is where those from place i on do, after n that the run passed
pub record Running (b doc : List ℕ) (at i : ℕ) (run : Run) (n : ℕ) : Type 0 where
  pub here : i ≤ length doc + 1
  pub few : n ≤ i
  pub counted : length (kids zero (drop at (toks doc))) ≡ n + length (kids zero (drop i (toks doc)))
  pub state : State
  pub stands : state_of run ≡ some state
  pub within : inside b (state_of run) ≡ true
  pub left : model_stop b (length doc) start zero at (drop at (toks doc)) ≡ model_stop b (length doc) state zero i (drop i (toks doc))

module _ (b doc : List ℕ) (at : ℕ) where
  abbrev d : List Tok
  d = toks doc

  abbrev end : ℕ
  end = length doc

  pub running_begin : {run : Run} → at ≤ length doc → state_of run ≡ some start → Running b doc at at run 0
  running_begin h e = record { here = omega arith; few = omega arith; counted = omega arith; state = start; stands = e; within = rw e; left = refl }

  module _ {i n : ℕ} {run : Run} (c : Running b doc at i run n) where
    -- no child is left
    ending : (place : ℕ) (rest : List Tok) {r : Result ℕ ℕ} → drop i (toks doc) ≡ rest → length (kids zero rest) ≡ 0
        → model_stop b end c.state zero i rest ≡ stopped (ended b (some c.state)) place → r ≡ asked (ended b (state_of run)) n place
        → r ≡ walked (model_stop b (length doc) start zero at (drop at (toks doc))) (drop at (toks doc))
    ending place rest er k z e =
        let q : n ≡ length (kids zero (drop at d)) = omega (arith, c.counted, ap (λ l. length (kids zero l)) er) in
        e
        ∙ ap (λ o. asked (ended b o) n place) c.stands
        ∙ told (ended b (some c.state)) q
        ∙ ap (λ o. walked o (drop at d)) (sym (c.left ∙ ap (model_stop b end c.state zero i) er ∙ z))
      where
        told : (good : Bool) → n ≡ length (kids zero (drop at d)) → asked good n place ≡ walked (stopped good place) (drop at d)
        told true q = ap Ok q
        told false q = refl

    pub running_out : {r : Result ℕ ℕ} → length doc ≤ i → r ≡ asked (ended b (state_of run)) n (length doc)
        → r ≡ walked (model_stop b (length doc) start zero at (drop at (toks doc))) (drop at (toks doc))
    running_out h e = ending (length doc) [] (rest_past doc i h) refl refl e

    module _ (h : i < length doc) where
      here_is : {x : Tok} → tok_of (get_or doc i 0) ≡ x → drop i (toks doc) ≡ x ∷ drop (suc i) (toks doc)
      here_is e = rw (rest_at doc i h, e)

      next : {x : Tok} → tok_of (get_or doc i 0) ≡ x
          → model_stop b end start zero at (drop at d) ≡ model_stop b end c.state zero i (x ∷ drop (suc i) d)
      next e = c.left ∙ ap (model_stop b end c.state zero i) (here_is e)

      -- they stop here
      stops_here : model_stop b end start zero at (drop at d) ≡ some i → Err i ≡ walked (model_stop b (length doc) start zero at (drop at (toks doc))) (drop at (toks doc))
      stops_here e = ap (λ o. walked o (drop at d)) (sym e)

      module _ {x : Bool} (ex : x ≡ starts (tok_of (get_or doc i 0))) where
        module _ {m : ℕ} {q : Run} {y : Bool} (t : x ≡ true) (em : m ≡ get_or doc i 0 / 8) (s : Stepped b run m q) (ey : y ≡ goes_on (state_of q)) where
          is_child : tok_of (get_or doc i 0) ≡ Start m
          is_child = (start_iff (get_or doc i 0)).0 (sym ex ∙ t) ∙ ap Start (sym em)

          -- by where the run stands after the child
          child : model_stop b end start zero at (drop at d)
              ≡ elim (state_of q) [ none ↦ some i | some t ↦ model_stop b end t 1 (suc i) (drop (suc i) d) ]
          child =
              next is_child
              ∙ ap (λ (o : Option State). elim o [ none ↦ some i | some t ↦ model_stop b end t 1 (suc i) (drop (suc i) d) ])
              (sym (s.same ∙ ap (λ o. stepped b o m) c.stands))

          pub running_lost : not y ≡ true → Err i ≡ walked (model_stop b (length doc) start zero at (drop at (toks doc))) (drop at (toks doc))
          running_lost f = stops_here (child ∙ go (state_of q) (sym ey ∙ not-true y f))
            where
              go : (o : Option State) → goes_on o ≡ false
                  → elim o [ none ↦ some i | some t ↦ model_stop b end t 1 (suc i) (drop (suc i) d) ] ≡ some i
              go none f = refl
              go (some t) f = clash refl f

          pub running_child : {r : ℕ} → not y ≡ false → r ≡ behind doc i → Running b doc at r q (n + 1)
          running_child {r} g er = go (state_of q) refl (sym ey ∙ not-false y g)
            where
              go : (o : Option State) → state_of q ≡ o → goes_on o ≡ true → Running b doc at r q (n + 1)
              go none e g = clash g refl
              go (some t) e g =
                  let z : Next b doc i (behind doc i) = next_is b doc i h in
                  rw er (record {
                    here = z.here;
                    few = omega (arith, c.few, z.on);
                    counted = omega (arith, c.counted, ap (λ l. length (kids zero l)) (here_is is_child), ap length z.others);
                    state = t;
                    stands = e;
                    within = s.within;
                    left = rw e at child ∙ z.same t;
                  })

        pub running_other : {y z : Bool} → x ≡ false → y ≡ ends (tok_of (get_or doc i 0)) → y ≡ false → z ≡ text_tok (tok_of (get_or doc i 0)) → z ≡ false
            → Running b doc at (i + 1) run n
        running_other f ey g ez k =
            let t : Tok = tok_of (get_or doc i 0) in
            let same = no_child t (drop (suc i) d) (sym ex ∙ f) (sym ey ∙ g) (sym ez ∙ k) in
            rw add-one (record {
              here = omega arith;
              few = omega (arith, c.few);
              counted = omega (arith, c.counted, ap (λ l. length (kids zero l)) (here_is refl), ap length same);
              state = c.state;
              stands = c.stands;
              within = c.within;
              left = next refl ∙ other b end c.state t i (drop (suc i) d) (sym ex ∙ f) (sym ey ∙ g) (sym ez ∙ k);
            })

      pub running_end : {y : Bool} {r : Result ℕ ℕ} → y ≡ ends (tok_of (get_or doc i 0)) → y ≡ true → r ≡ asked (ended b (state_of run)) n i
          → r ≡ walked (model_stop b (length doc) start zero at (drop at (toks doc))) (drop at (toks doc))
      running_end ey t er = ending i (End ∷ drop (suc i) d) (here_is ((end_iff (get_or doc i 0)).0 (sym ey ∙ t))) refl refl er

      pub running_text : {z : Bool} → z ≡ text_tok (tok_of (get_or doc i 0)) → z ≡ true
          → Err i ≡ walked (model_stop b (length doc) start zero at (drop at (toks doc))) (drop at (toks doc))
      running_text ez t = stops_here (next ((text_iff (get_or doc i 0)).0 (sym ez ∙ t)))

      pub child_on : {r : ℕ} → r ≡ behind doc i → length doc - r < length doc - i
      child_on er = let z : Next b doc i (behind doc i) = next_is b doc i h in rw er (omega (arith, z.on))
