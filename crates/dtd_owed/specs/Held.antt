-- What the code holds, as a state: the symbols kept in two arrays, those written at the end of a buffer. Assumes nothing.
use Rattle.std.specs.Prelude.{◌≡◌, refl, ◌≢◌, List, [], ◌∷◌, ℕ, zero, suc, ◌+◌, ◌-◌, ◌≤◌, ◌<◌, length, take, drop, get_or, set}
use Rattle.std.proofs.Common.{sym, ap, ap₂, ◌∙◌, arith, add-one, eq-eqb, ne_eqb, length-set, get_or-set_same, get_or-set_other, take-take, drop-set-lt, drop-cons}
use Rattle.std.proofs.lemmas.List.{take-set-le}
use Rattle.dtd_symbol_laws.specs.Machine.{State, at, settled}
use Rattle.dtd_owed.specs.declared.Held.{Held}

-- n symbols that are kept, the last first, each with its depth
abbrev pub stack : ℕ → (depths symbols : List ℕ) → List (ℕ × ℕ)
stack zero depths symbols = []
stack (suc n) depths symbols = (get_or depths n 0, get_or symbols n 0) ∷ stack n depths symbols

abbrev pub state_of : Held → (depths symbols out : List ℕ) → State
state_of h depths symbols out = at h.depth (stack h.owed depths symbols) (drop h.at out)

pub length_stack : (n : ℕ) (depths symbols : List ℕ) → length (stack n depths symbols) ≡ n
length_stack zero depths symbols = refl
length_stack (suc n) depths symbols = ap suc (length_stack n depths symbols)

-- what is kept fits the arrays and what is left of the buffer
pub record Room (h : Held) (depths symbols out : List ℕ) : Type 0 where
  pub deep : h.owed ≤ length depths
  pub kept : h.owed ≤ length symbols
  pub free : h.owed ≤ h.at
  pub inside : h.at ≤ length out

-- ---- one more is kept

pub record Owes (h : Held) (symbol : ℕ) (depths symbols depths' symbols' : List ℕ) (r : Held) : Type 0 where
  pub depth : r.depth ≡ h.depth
  pub at : r.at ≡ h.at
  pub owed : stack r.owed depths' symbols' ≡ (suc h.depth, symbol) ∷ stack h.owed depths symbols

stack_set : (n k : ℕ) (depths symbols : List ℕ) (d s : ℕ) → n ≤ k → stack n (set depths k d) (set symbols k s) ≡ stack n depths symbols
stack_set zero k depths symbols d s h = refl
stack_set (suc n) k depths symbols d s h =
    let i : n ≢ k = λ e. omega arith in
    rw (get_or-set_other depths k n d 0 i, get_or-set_other symbols k n s 0 i, stack_set n k depths symbols d s (omega arith))

stack_more : (n : ℕ) (depths symbols : List ℕ) (d s : ℕ) → n < length depths → n < length symbols
    → stack (n + 1) (set depths n (d + 1)) (set symbols n s) ≡ (suc d, s) ∷ stack n depths symbols
stack_more n depths symbols d s h k =
    rw (add-one n, add-one d, get_or-set_same depths n (suc d) 0 h, get_or-set_same symbols n s 0 k, stack_set n n depths symbols (suc d) s (omega arith))

pub owes : (h : Held) (symbol : ℕ) (depths symbols : List ℕ) → h.owed < length depths → h.owed < length symbols
    → Owes h symbol depths symbols (set depths h.owed (h.depth + 1)) (set symbols h.owed symbol)
    (record { depth = h.depth; owed = h.owed + 1; at = h.at })
owes h symbol depths symbols i j = record { depth = refl; at = refl; owed = stack_more h.owed depths symbols h.depth symbol i j }

-- ---- what is kept is written

-- the state has become x, and what stood in the buffer before the symbols is as it was
pub record Went (x : State) (at : ℕ) (depths symbols before after : List ℕ) (r : Held) : Type 0 where
  pub state : state_of r depths symbols after ≡ x
  pub rest : take r.at after ≡ take r.at before
  pub back : r.at ≤ at
  pub long : length after ≡ length before

-- all that is kept for the part of depth `level` is written
abbrev pub Settled : Held → ℕ → (depths symbols before after : List ℕ) → Held → Type 0
Settled h level depths symbols before after r =
    Went (settled (stack h.owed depths symbols) h.depth level (drop h.at before)) h.at depths symbols before after r

-- a symbol before those that are written
module _ (out : List ℕ) (at g : ℕ) (h : 0 < at) (k : at ≤ length out) where
  pub put_front : drop (at - 1) (set out (at - 1) g) ≡ g ∷ drop at out
  put_front =
      let e : suc (at - 1) ≡ at = omega arith in
      let i : at - 1 < length (set out (at - 1) g) = rw (length-set out (at - 1) g) (omega arith) in
      drop-cons (set out (at - 1) g) (at - 1) 0 i
      ∙ ap₂ (λ a l. a ∷ l) (get_or-set_same out (at - 1) g 0 (omega arith)) (drop-set-lt (suc (at - 1)) out (at - 1) g (omega arith) ∙ ap (λ n. drop n out) e)

  pub put_rest : (before : List ℕ) → take at out ≡ take at before → take (at - 1) (set out (at - 1) g) ≡ take (at - 1) before
  put_rest before p =
      take-set-le (at - 1) out (at - 1) g (omega arith) ∙ sym (take-take (at - 1) at out (omega arith)) ∙ ap (take (at - 1)) p ∙ take-take (at - 1) at before (omega arith)

stack_top : (n : ℕ) (depths symbols : List ℕ) → 0 < n → stack n depths symbols ≡ (get_or depths (n - 1) 0, get_or symbols (n - 1) 0) ∷ stack (n - 1) depths symbols
stack_top zero depths symbols h = absurd (omega arith)
stack_top (suc n) depths symbols h =
    let e : n ≡ suc n - 1 = omega arith in
    ap (λ k. (get_or depths k 0, get_or symbols k 0) ∷ stack k depths symbols) e

module _ (depths symbols before : List ℕ) (depth level from : ℕ) (x : State) where
  -- there are n symbols to go through still
  pub record Settling (n at : ℕ) (out : List ℕ) : Type 0 where
    pub deep : n ≤ length depths
    pub kept : n ≤ length symbols
    pub free : n ≤ at
    pub inside : at ≤ length out
    pub leads : settled (stack n depths symbols) depth level (drop at out) ≡ x
    pub rest : take at out ≡ take at before
    pub back : at ≤ from
    pub long : length out ≡ length before

  stop : (k g : ℕ) (w : List (ℕ × ℕ)) (o : List ℕ) → k ≢ level → settled ((k, g) ∷ w) depth level o ≡ at depth ((k, g) ∷ w) o
  stop k g w o p = rw (ne_eqb k level p)

  go : (k g : ℕ) (w : List (ℕ × ℕ)) (o : List ℕ) → k ≡ level → settled ((k, g) ∷ w) depth level o ≡ settled w depth level (g ∷ o)
  go k g w o p = rw (eq-eqb k level p)

  module _ (n at : ℕ) (out : List ℕ) (s : Settling n at out) where
    pub none : n ≤ 0 → Went x from depths symbols before out (record { depth = depth; owed = n; at = at })
    none h = let e : n ≡ 0 = omega arith in record { state = rw e (rw e at s.leads); rest = s.rest; back = s.back; long = s.long }

    pub other : 0 < n → get_or depths (n - 1) 0 ≢ level → Went x from depths symbols before out (record { depth = depth; owed = n; at = at })
    other h k =
        let e = stack_top n depths symbols h in
        record {
          state = rw e (sym (stop (get_or depths (n - 1) 0) (get_or symbols (n - 1) 0) (stack (n - 1) depths symbols) (drop at out) k) ∙ rw e at s.leads);
          rest = s.rest;
          back = s.back;
          long = s.long;
        }

    pub more : 0 < n → get_or depths (n - 1) 0 ≡ level → Settling (n - 1) (at - 1) (set out (at - 1) (get_or symbols (n - 1) 0))
    more h k =
        let g = get_or symbols (n - 1) 0 in
        let z : 0 < at = omega arith in
        record {
          deep = omega arith;
          kept = omega arith;
          free = omega arith;
          inside = rw (length-set out (at - 1) g) (omega arith);
          leads = rw (put_front out at g z s.inside)
              (sym (go (get_or depths (n - 1) 0) g (stack (n - 1) depths symbols) (drop at out) k) ∙ rw (stack_top n depths symbols h) at s.leads);
          rest = put_rest out at g z s.inside before s.rest;
          back = omega arith;
          long = length-set out (at - 1) g ∙ s.long;
        }

  pub begin : (h : Held) → Room h depths symbols before → settled (stack h.owed depths symbols) depth level (drop h.at before) ≡ x → h.at ≤ from
      → Settling h.owed h.at before
  begin h r e b = record { deep = r.deep; kept = r.kept; free = r.free; inside = r.inside; leads = e; rest = refl; back = b; long = refl }
