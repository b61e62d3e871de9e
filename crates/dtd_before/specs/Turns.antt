-- To behind the next `>`, and to what stands behind a name: turns and steps along a text. Assumes nothing.
use Rattle.std.specs.Prelude.{◌≡◌, refl, ◌≢◌, Result, List, ◌∷◌, ℕ, suc, ◌+◌, ◌≤◌, ◌<◌, length, drop, get_or}
use Rattle.std.proofs.Common.{sym, ap, ◌∙◌, arith, add-one, eq-eqb, ne_eqb, drop_of_length-le, drop-cons}
use Rattle.paper.specs.Dtd.Letters.{is_white, is_more, past, greater}
use Rattle.paper.specs.Dtd.Readers.{kind, status}
use Rattle.dtd_words.specs.declared.Fault.{Fault}
use Rattle.dtd_words.specs.Places.{At}
use Rattle.dtd_kinds.specs.declared.Kinded.{Kinded}
use Rattle.dtd_kinds.specs.declared.Stated.{Stated}
use Rattle.dtd_kinds.specs.Kinds.{KindCame, StatusCame}
use Rattle.dtd_before.specs.Ends.{beyond}

-- ---- to behind the next `>`

-- from `at` on, none stands before i
pub record Ahead (text : List ℕ) (at i : ℕ) : Type 0 where
  pub inside : i ≤ length text
  pub alike : beyond (drop at text) ≡ beyond (drop i text)

module _ (text : List ℕ) (at : ℕ) where
  pub ahead_begun : at ≤ length text → Ahead text at at
  ahead_begun h = record { inside = h; alike = refl }

  module _ (i : ℕ) (c : Ahead text at i) where
    pub ahead_none : length text ≤ i → At text (length text) (beyond (drop at text))
    ahead_none h =
        let e = drop_of_length-le text h in
        let l : length text ≤ length text = omega arith in
        record { inside = l; rest = drop_of_length-le text l ∙ ap beyond (sym e) ∙ sym c.alike }

    module _ (h : i < length text) where
      past_this : greater ≡ get_or text i 0 → beyond (get_or text i 0 ∷ drop (suc i) text) ≡ drop (suc i) text
      past_this p = rw (eq-eqb greater (get_or text i 0) p)

      past_other : greater ≢ get_or text i 0 → beyond (get_or text i 0 ∷ drop (suc i) text) ≡ beyond (drop (suc i) text)
      past_other p = rw (ne_eqb greater (get_or text i 0) p)

      pub ahead_found : 62 ≡ get_or text i 0 → At text (i + 1) (beyond (drop at text))
      ahead_found p = record {
        inside = omega arith;
        rest = ap (λ k. drop k text) (add-one i) ∙ sym (c.alike ∙ ap beyond (drop-cons text i 0 h) ∙ past_this p);
      }

      pub ahead_more : 62 ≢ get_or text i 0 → Ahead text at (i + 1)
      ahead_more p = record {
        inside = omega arith;
        alike = c.alike ∙ ap beyond (drop-cons text i 0 h) ∙ past_other p ∙ ap (λ k. beyond (drop k text)) (sym (add-one i));
      }

-- ---- behind a name, and behind white space

module _ (text : List ℕ) (at : ℕ) where
  pub kind_behind : (p q : ℕ) (r : Result Kinded Fault) → At text p (past is_more (drop at text)) → At text q (past is_white (drop p text)) → KindCame text r (kind (drop q text))
      → KindCame text r (kind (past is_white (past is_more (drop at text))))
  kind_behind p q r a b c = rw (← a.rest, ← b.rest) c

  pub status_there : (q : ℕ) (r : Result Stated Fault) → At text q (past is_white (drop at text)) → StatusCame text r (status (drop q text))
      → StatusCame text r (status (past is_white (drop at text)))
  status_there q r b c = rw (← b.rest) c
