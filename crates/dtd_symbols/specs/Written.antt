-- A whole model: what is asked of the text, what stands in the buffer after it, and the turns of the loop. Assumes nothing.
use Rattle.std.specs.Prelude.{◌≡◌, refl, false, List, [], ◌++◌, ℕ, suc, ◌+◌, ◌-◌, ◌≤◌, ◌<◌, length, take, drop, get_or}
use Rattle.std.proofs.Common.{sym, ap, ◌∙◌, arith, length-drop, drop_of_length-le, take-append-drop, get_or-drop, drop-drop, take-take}
use Rattle.paper.specs.Basics.{most_elements}
use Rattle.paper.specs.Schema.{symbols_of, most_symbols}
use Rattle.paper.specs.Dtd.Letters.{is_more, run, opening}
use Rattle.paper.specs.Dtd.Declarations.{Part}
use Rattle.paper.specs.Dtd.Grammar.{cp}
use Rattle.paper.specs.Dtd.Numbering.{expr_of}
use Rattle.dtd_symbol_laws.specs.Machine.{State, at, size, after, step, step_grows, sweep, sweep_last, sweep_size, Closed, closed_last}
use Rattle.dtd_symbol_laws.proofs.Runs.{spelled}
use Rattle.dtd_owed.specs.declared.Held.{Held}
use Rattle.dtd_owed.specs.Held.{state_of}
use Rattle.dtd_symbols.specs.Turns.{numbered, step_at, Ready, Turned}

-- the symbols of a part whose names are numbered by their places in the list
abbrev pub symbols_for : (text names : List ℕ) → Part → List ℕ
symbols_for text names p = symbols_of (expr_of p (numbered text names))

-- A part is spelled from `from` to before `to`, and the buffer is as long as the most symbols.
pub record Spelled (text names : List ℕ) (from to : ℕ) (out : List ℕ) : Type 0 where
  pub part : Part
  pub spelled : cp part (drop from text) (drop to text)
  pub inside : to ≤ length text
  pub few : length names ≤ most_elements
  pub long : length out ≡ most_symbols
  pub fits : length (symbols_for text names part) ≤ most_symbols

-- the symbols l stand at the end of the buffer, from r on, and what stood before them is as it was
pub record AtEnd (l before after : List ℕ) (r : ℕ) : Type 0 where
  pub begin : r ≡ most_symbols - length l
  pub buffer : after ≡ take r before ++ l

-- whichever part is spelled there (there is only one), its symbols stand there
abbrev pub Written : (text names : List ℕ) (from to : ℕ) (before after : List ℕ) (r : ℕ) → Type 0
Written text names from to before after r = (p : Part) → cp p (drop from text) (drop to text) → AtEnd (symbols_for text names p) before after r

-- ---- turns

module _ (text names : List ℕ) (from to : ℕ) (before : List ℕ) where
  -- what the whole text comes to
  abbrev whole : State
  whole = sweep (numbered text names) (to - from) (drop from text) false (at 0 [] [])

  -- which is the symbols of the part that is spelled, each bracket closed
  whole_is : (p : Part) → cp p (drop from text) (drop to text) → to ≤ length text
      → (whole ≡ at 0 [] (symbols_for text names p)) × Closed (numbered text names) (to - from) (drop from text) false (at 0 [] [])
  whole_is p c h =
      let (n, i, e, q, k) = spelled (numbered text names) p c in
      let d : n ≡ to - from = omega (arith, length-drop from text, length-drop to text, length-drop n (drop from text), ap length e) in
      (ap (λ m. sweep (numbered text names) m (drop from text) false (at 0 [] [])) (sym d) ∙ q, rw d at k)

  -- the text left of place i leads from what is held to the whole
  pub record Going (i : ℕ) (h : Held) (depths symbols out : List ℕ) : Type 0 where
    pub inside : to ≤ length text
    pub few : length names ≤ most_elements
    pub fits : size whole ≤ most_symbols
    pub leads : sweep (numbered text names) (i - from) (drop from text) false (state_of h depths symbols out) ≡ whole
    pub closed : Closed (numbered text names) (i - from) (drop from text) false (state_of h depths symbols out)
    pub level : h.depth + i ≤ to
    pub depths_long : length depths ≡ most_symbols
    pub symbols_long : length symbols ≡ most_symbols
    pub long : length out ≡ most_symbols
    pub back : h.at ≤ most_symbols
    pub rest : take h.at out ≡ take h.at before

  pub begun : (depths symbols : List ℕ) → length depths ≡ most_symbols → length symbols ≡ most_symbols → Spelled text names from to before
      → Going to (record { depth = 0; owed = 0; at = most_symbols }) depths symbols before
  begun depths symbols d e s =
      let (w, k) = whole_is s.part s.spelled s.inside in
      let l : length before ≤ most_symbols = omega (arith, s.long) in
      record {
        inside = s.inside;
        few = s.few;
        fits = omega (arith, s.fits, ap size w);
        leads = ap (λ o. sweep (numbered text names) (to - from) (drop from text) false (at 0 [] o)) (drop_of_length-le before l);
        closed = rw (drop_of_length-le before l) k;
        level = omega arith;
        depths_long = d;
        symbols_long = e;
        long = s.long;
        back = omega arith;
        rest = refl;
      }

  module _ (i : ℕ) (h : Held) (depths symbols out : List ℕ) (g : Going i h depths symbols out) where
    -- a turn, at the byte before i
    module _ (k : from < i) where
      -- what is left there leads to the whole too
      abbrev left : State
      left = step_at (numbered text names) text from (i - 1) (state_of h depths symbols out)

      shorter : i - from ≡ suc (i - 1 - from)
      shorter = omega arith

      within : i - 1 - from < length (drop from text)
      within = rw (length-drop from text) (omega (arith, g.level, g.inside))

      same_place : step (numbered text names) (after (i - 1 - from) (drop from text) false) (get_or (drop from text) (i - 1 - from) 0)
          (run is_more (drop (i - 1 - from) (drop from text))) (state_of h depths symbols out)
          ≡ left
      same_place =
          let e : from + (i - 1 - from) ≡ i - 1 = omega arith in
          rw (get_or-drop from text (i - 1 - from) 0, drop-drop (i - 1 - from) from text, e)

      turn_leads : sweep (numbered text names) (i - 1 - from) (drop from text) false left ≡ whole
      turn_leads =
          let x = sweep_last (numbered text names) (i - 1 - from) (drop from text) false (state_of h depths symbols out) within in
          rw same_place at (sym x ∙ rw shorter at g.leads)

      turn_closed : (get_or text (i - 1) 0 ≡ opening → 0 < h.depth) × Closed (numbered text names) (i - 1 - from) (drop from text) false left
      turn_closed =
          let e : from + (i - 1 - from) ≡ i - 1 = omega arith in
          let (p, c) = closed_last (numbered text names) (i - 1 - from) (drop from text) false (state_of h depths symbols out) within (rw shorter at g.closed) in
          (rw (get_or-drop from text (i - 1 - from) 0, e) at p, rw same_place at c)

      pub ready : Ready text names from (i - 1) h depths symbols out
      ready =
          let z = sweep_size (numbered text names) (i - 1 - from) (drop from text) false left in
          record {
            inside = omega (arith, g.level, g.inside);
            few = g.few;
            deep = omega (arith, g.level, g.inside);
            depths_long = g.depths_long;
            symbols_long = g.symbols_long;
            long = g.long;
            back = g.back;
            nested = turn_closed.0;
            room = omega (arith, g.fits, ap size turn_leads);
          }

      pub next : (depths' symbols' out' : List ℕ) (r : Held) → length depths' ≡ length depths → length symbols' ≡ length symbols
          → Turned text names from (i - 1) h depths symbols out depths' symbols' out' r
          → Going (i - 1) r depths' symbols' out'
      next depths' symbols' out' r d e w =
          let y = (step_grows (numbered text names) (after (i - 1 - from) (drop from text) false) (get_or text (i - 1) 0) (run is_more (drop (i - 1) text)) (state_of h depths symbols out)).1 in
          record {
            inside = g.inside;
            few = g.few;
            fits = g.fits;
            leads = rw w.state turn_leads;
            closed = rw w.state turn_closed.1;
            level = omega (arith, g.level, y, ap (λ (x : State). x.depth) w.state);
            depths_long = d ∙ g.depths_long;
            symbols_long = e ∙ g.symbols_long;
            long = w.long ∙ g.long;
            back = omega (arith, w.back, g.back);
            rest = w.rest ∙ sym (take-take r.at h.at out w.back) ∙ ap (take r.at) g.rest ∙ take-take r.at h.at before w.back;
          }

    pub all : i ≤ from → Written text names from to before out h.at
    all k p c =
        let z : i - from ≡ 0 = omega arith in
        let w = rw z at g.leads in
        let e : drop h.at out ≡ symbols_for text names p = ap (λ (x : State). x.done) (w ∙ (whole_is p c g.inside).0) in
        record {
          begin = omega (arith, g.long, g.back, length-drop h.at out, ap length e);
          buffer = sym (take-append-drop h.at out) ∙ rw (g.rest, e);
        }
