-- Places of a text: what a reader leaves, told by where it stands; and turns of the loops that go along a text. Assumes nothing.
use Rattle.std.specs.Prelude.{◌≡◌, refl, Bool, true, false, cond, List, [], ◌∷◌, ℕ, suc, ◌+◌, ◌≤◌, ◌<◌, length, drop, get_or}
use Rattle.std.specs.List.{prefix_len}
use Rattle.std.proofs.Common.{sym, ◌∙◌, true≢false, arith, one-add, length-drop, drop_of_length-le, drop-cons, drop-drop}
use Rattle.paper.specs.Dtd.Letters.{begins, past}

-- from the place `at` on, the text is s
pub record At (text : List ℕ) (at : ℕ) (s : List ℕ) : Type 0 where
  pub inside : at ≤ length text
  pub rest : drop at text ≡ s

-- ---- the byte at a place

module _ (P : ℕ → Bool) (text : List ℕ) (at : ℕ) where
  pub begins_none : length text ≤ at → false ≡ begins P (drop at text)
  begins_none h = rw (drop_of_length-le text h)

  pub begins_at : (b : Bool) → at < length text → b ≡ P (get_or text at 0) → b ≡ begins P (drop at text)
  begins_at b h p = p ∙ rw (drop-cons text at 0 h)

  pub begins_inside : begins P (drop at text) ≡ true → at < length text
  begins_inside p = by (drop at text) refl p
    where
      by : (s : List ℕ) → drop at text ≡ s → begins P s ≡ true → at < length text
      by [] e p = absurd (true≢false (sym p))
      by (b ∷ t) e p =
          let l : length (drop at text) ≡ suc (length t) = rw e in
          omega (arith, length-drop at text)

-- ---- past a run of bytes of one sort

module _ (P : ℕ → Bool) where
  run_short : (s : List ℕ) → prefix_len P s ≤ length s
  run_short [] = omega arith
  run_short (b ∷ s) = by (P b) (run_short s)
    where
      by : (x : Bool) → prefix_len P s ≤ length s → cond x (1 + prefix_len P s) 0 ≤ suc (length s)
      by true h = omega arith
      by false h = omega arith

  run_left : (s : List ℕ) → drop (prefix_len P s) s ≡ past P s
  run_left [] = refl
  run_left (b ∷ s) = by (P b) (run_left s)
    where
      by : (x : Bool) → drop (prefix_len P s) s ≡ past P s → drop (cond x (1 + prefix_len P s) 0) (b ∷ s) ≡ cond x (past P s) (b ∷ s)
      by true e = rw (one-add (prefix_len P s)) e
      by false e = refl

  -- n: how long the run is
  pub behind_run : (text : List ℕ) (at n : ℕ) → at ≤ length text → n ≡ prefix_len P (drop at text) → At text (at + n) (past P (drop at text))
  behind_run text at n h e =
      record {
        inside = omega (arith, run_short (drop at text), length-drop at text);
        rest = sym (drop-drop n at text) ∙ rw e (run_left (drop at text));
      }
