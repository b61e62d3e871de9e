-- A name's number, written before what is kept for it. Assumes nothing.
use Rattle.std.proofs.Common.{ap, ◌∙◌, arith, add-one, length-set}
use Rattle.std.specs.Prelude.{List, ◌∷◌, ℕ, suc, ◌+◌, ◌-◌, ◌≤◌, ◌<◌, length, drop, set}
use Rattle.std.proofs.lemmas.List.{take-set-le}
use Rattle.dtd_symbol_laws.specs.Machine.{settled}
use Rattle.dtd_owed.specs.declared.Held.{Held}
use Rattle.dtd_owed.specs.Held.{stack, Room, Went, Settled, put_front}

-- there is room for its number, and then for what is kept for it
pub record Naming (h : Held) (number : ℕ) (depths symbols out : List ℕ) : Type 0 where
  pub few : number ≤ 48
  pub free : h.owed < h.at
  pub inside : h.at ≤ length out
  pub deep : length out ≤ length depths
  pub kept : length out ≤ length symbols

-- its number is written, and then what is kept for it
abbrev pub Named : Held → ℕ → (depths symbols before after : List ℕ) → Held → Type 0
Named h number depths symbols before after r =
    Went (settled (stack h.owed depths symbols) h.depth (suc h.depth) ((5 + number) ∷ drop h.at before)) h.at depths symbols before after r

pub named_room : (h : Held) (g number : ℕ) (depths symbols out : List ℕ) → Naming h number depths symbols out
    → Room (record { depth = h.depth; owed = h.owed; at = h.at - 1 }) depths symbols (set out (h.at - 1) g)
named_room h g number depths symbols out n = record {
  deep = omega arith;
  kept = omega arith;
  free = omega arith;
  inside = rw (length-set out (h.at - 1) g) (omega arith);
}

pub named : (h : Held) (number : ℕ) (depths symbols out out' : List ℕ) (r : Held) → Naming h number depths symbols out
    → Settled (record { depth = h.depth; owed = h.owed; at = h.at - 1 }) (h.depth + 1) depths symbols (set out (h.at - 1) (5 + number)) out' r
    → Named h number depths symbols out out' r
named h number depths symbols out out' r n w =
    let z : 0 < h.at = omega arith in
    let e = put_front out h.at (5 + number) z n.inside in
    record {
      state = w.state ∙ ap (λ l. settled (stack h.owed depths symbols) h.depth (h.depth + 1) l) e ∙ rw (add-one h.depth);
      rest = w.rest ∙ take-set-le r.at out (h.at - 1) (5 + number) w.back;
      back = omega arith;
      long = w.long ∙ length-set out (h.at - 1) (5 + number);
    }
