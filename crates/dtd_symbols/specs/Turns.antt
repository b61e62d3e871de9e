-- One turn along the text: each way in which it ends. Assumes nothing.
use Rattle.std.specs.Prelude.{◌≡◌, refl, ◌≢◌, Bool, true, false, cond, None, Some, List, [], ◌∷◌, ℕ, suc, ◌+◌, ◌-◌, ◌≤◌, ◌<◌, length, drop, get_or}
use Rattle.std.proofs.Common.{sym, ap, ◌∙◌, arith, add-one, length-drop}
use Rattle.std.proofs.lemmas.List.{length-map}
use Rattle.paper.specs.Basics.{most_elements}
use Rattle.paper.specs.Schema.{most_symbols}
use Rattle.paper.specs.Dtd.Letters.{Name, is_more, same}
use Rattle.paper.specs.Dtd.Numbering.{number_in}
use Rattle.dtd_names.specs.Named.{name_at, names_at}
use Rattle.dtd_symbol_laws.specs.Machine.{State, at, settled, settled_size, size, after, step, step_inside, step_name, step_open, step_close}
use Rattle.dtd_symbol_laws.specs.Machine.{step_other, step_owes}
use Rattle.dtd_owed.specs.declared.Held.{Held}
use Rattle.dtd_owed.specs.Held.{stack, length_stack, state_of, Room, Owes, Went, Settled}
use Rattle.dtd_owed.specs.Named.{Naming, Named}
use Rattle.dtd_symbols.specs.Bytes.{Symbol}

-- the names are numbered by their places in the list
abbrev pub numbered : (text names : List ℕ) → Name → ℕ
numbered text names = number_in (names_at text names)

-- so a number is at most their count
number_most : (l : List Name) (n : Name) → number_in l n ≤ length l
number_most [] n = omega arith
number_most (m ∷ l) n = by (same n m) (number_most l n)
  where
    by : (b : Bool) → number_in l n ≤ length l → cond b 0 (suc (number_in l n)) ≤ suc (length l)
    by true h = omega arith
    by false h = omega arith

pub number_few : (text names : List ℕ) (n : Name) → numbered text names n ≤ length names
number_few text names n = omega (arith, number_most (names_at text names) n, length-map names (name_at text))

-- the step at place i of a text that is gone over as far as `from`
abbrev pub step_at : (Name → ℕ) → List ℕ → (from i : ℕ) → State → State
step_at f text from i x = step f (after (i - from) (drop from text) false) (get_or text i 0) (name_at text i) x

-- ---- a turn

-- at place i, with room for what the step there comes to
pub record Ready (text names : List ℕ) (from i : ℕ) (h : Held) (depths symbols out : List ℕ) : Type 0 where
  pub inside : i < length text
  pub few : length names ≤ most_elements
  pub deep : h.depth < length text
  pub depths_long : length depths ≡ most_symbols
  pub symbols_long : length symbols ≡ most_symbols
  pub long : length out ≡ most_symbols
  pub back : h.at ≤ most_symbols
  pub nested : get_or text i 0 ≡ 40 → 0 < h.depth
  pub room : size (step_at (numbered text names) text from i (state_of h depths symbols out)) ≤ most_symbols

-- the state has become what the step makes of it
abbrev pub Turned : (text names : List ℕ) (from i : ℕ) → Held → (depths symbols out depths' symbols' out' : List ℕ) → Held → Type 0
Turned text names from i h depths symbols out depths' symbols' out' r =
    Went (step_at (numbered text names) text from i (state_of h depths symbols out)) h.at depths' symbols' out out' r

module _ (text names : List ℕ) (from i : ℕ) (h : Held) (depths symbols out : List ℕ) (y : Ready text names from i h depths symbols out) where
  -- what the step comes to
  abbrev Comes : (depths' symbols' out' : List ℕ) → Held → Type 0
  Comes depths' symbols' out' r = Turned text names from i h depths symbols out depths' symbols' out' r

  stays : (depths' symbols' : List ℕ) (r : Held) → r.at ≡ h.at
      → state_of r depths' symbols' out ≡ step_at (numbered text names) text from i (state_of h depths symbols out) → Comes depths' symbols' out r
  stays depths' symbols' r p e = record { state = e; rest = refl; back = omega arith; long = refl }

  turned : (x : State) (out' : List ℕ) (r : Held) → step_at (numbered text names) text from i (state_of h depths symbols out) ≡ x
      → Went x h.at depths symbols out out' r → Comes depths symbols out' r
  turned x out' r e w = record { state = w.state ∙ sym e; rest = w.rest; back = w.back; long = w.long }

  -- of what has been written and kept
  held : length (stack h.owed depths symbols) + length (drop h.at out) ≡ h.owed + (255 - h.at)
  held = rw (length_stack h.owed depths symbols, length-drop h.at out, y.long)

  -- m: whether a name's byte stands there; z: whether one stands before it
  module _ (m : Bool) (p : m ≡ is_more (get_or text i 0)) where
    module _ (p' : m ≡ true) (z : Bool) (q : z ≡ after (i - from) (drop from text) false) where
      pub within : z ≡ true → Comes depths symbols out h
      within q' =
          let x = state_of h depths symbols out in
          stays depths symbols h refl
          (sym (rw (sym q ∙ q') (step_inside (numbered text names) (name_at text i) x (get_or text i 0) (sym p ∙ p'))))

      name_step : z ≡ false → step_at (numbered text names) text from i (state_of h depths symbols out)
          ≡ settled (stack h.owed depths symbols) h.depth (suc h.depth) ((5 + numbered text names (name_at text i)) ∷ drop h.at out)
      name_step q' = rw (sym q ∙ q') (step_name (numbered text names) (name_at text i) (state_of h depths symbols out) (get_or text i 0) (sym p ∙ p'))

      pub name_room : z ≡ false → (n : Name) (number : ℕ) → number ≡ numbered text names n → Naming h number depths symbols out
      name_room q' n number u =
          let g = 5 + numbered text names (name_at text i) in
          let e = ap size (name_step q') ∙ settled_size (stack h.owed depths symbols) h.depth (suc h.depth) (g ∷ drop h.at out) in
          let r = y.room in
          let k = number_few text names n in
          record {
            few = omega (arith, y.few, u);
            free = omega (arith, held, e);
            inside = omega (arith, y.long, y.back);
            deep = omega (arith, y.long, y.depths_long);
            kept = omega (arith, y.long, y.symbols_long);
          }

      pub begins : z ≡ false → (number : ℕ) → number ≡ numbered text names (name_at text i) → (out' : List ℕ) (r : Held)
          → Named h number depths symbols out out' r → Comes depths symbols out' r
      begins q' number e out' r w =
          let g = numbered text names (name_at text i) in
          turned (settled (stack h.owed depths symbols) h.depth (suc h.depth) ((5 + g) ∷ drop h.at out)) out' r (name_step q') (rw e at w)

  -- `(`
  module _ (e : get_or text i 0 ≡ 40) where
    open_step : step_at (numbered text names) text from i (state_of h depths symbols out)
        ≡ settled (stack h.owed depths symbols) (h.depth - 1) h.depth (drop h.at out)
    open_step = rw e (step_open (numbered text names) (name_at text i) (state_of h depths symbols out) (after (i - from) (drop from text) false))

    pub open_nested : 1 ≤ h.depth
    open_nested = let k = y.nested e in omega arith

    pub open_room : (d : ℕ) → Room (record { depth = d; owed = h.owed; at = h.at }) depths symbols out
    open_room d =
        let s = ap size open_step ∙ settled_size (stack h.owed depths symbols) (h.depth - 1) h.depth (drop h.at out) in
        let r = y.room in
        let k : h.owed ≤ h.at = omega (arith, held, s) in
        record { deep = omega (arith, y.depths_long); kept = omega (arith, y.symbols_long); free = k; inside = omega (arith, y.long) }

    pub opens : (out' : List ℕ) (r : Held) → Settled (record { depth = h.depth - 1; owed = h.owed; at = h.at }) h.depth depths symbols out out' r
        → Comes depths symbols out' r
    opens out' r w = turned (settled (stack h.owed depths symbols) (h.depth - 1) h.depth (drop h.at out)) out' r open_step w

  -- `)`
  pub closes : get_or text i 0 ≡ 41 → Comes depths symbols out (record { depth = h.depth + 1; owed = h.owed; at = h.at })
  closes e =
      let x = state_of h depths symbols out in
      stays depths symbols (record { depth = h.depth + 1; owed = h.owed; at = h.at }) refl
      (rw (add-one h.depth) (sym (rw e (step_close (numbered text names) (name_at text i) x (after (i - from) (drop from text) false)))))

  -- another byte, that stands for a symbol or for none
  module _ (m : Bool) (p : m ≡ is_more (get_or text i 0)) (p' : m ≡ false) (j : get_or text i 0 ≢ 40) (k : get_or text i 0 ≢ 41) where
    pub nothing : Symbol (get_or text i 0) None → Comes depths symbols out h
    nothing e =
        let x = state_of h depths symbols out in
        let b = after (i - from) (drop from text) false in
        stays depths symbols h refl (sym (step_other (numbered text names) (name_at text i) x b (get_or text i 0) (sym p ∙ p') j k e))

    module _ (g : ℕ) (q : Symbol (get_or text i 0) (Some g)) where
      owes_step : step_at (numbered text names) text from i (state_of h depths symbols out)
          ≡ at h.depth ((suc h.depth, g) ∷ stack h.owed depths symbols) (drop h.at out)
      owes_step =
          let x = state_of h depths symbols out in
          let b = after (i - from) (drop from text) false in
          rw q.0 (step_owes (numbered text names) (name_at text i) x b (get_or text i 0) (sym p ∙ p') j k (λ u. q.1 (q.0 ∙ u)))

      pub owes_room : h.owed < 255
      owes_room =
          let s = ap size owes_step in
          let r = y.room in
          omega (arith, held, s)

      pub owes_one : (depths' symbols' : List ℕ) (r : Held) → Owes h g depths symbols depths' symbols' r → Comes depths' symbols' out r
      owes_one depths' symbols' r o =
          stays depths' symbols' r o.at (rw (o.owed, o.depth, o.at) (sym owes_step))
