-- One byte of a model: the symbol it stands for, and whether a name goes on before it. Assumes nothing.
use Rattle.std.specs.Prelude.{◌≡◌, ◌≢◌, Bool, false, Option, None, Some, List, ℕ, suc, ◌+◌, ◌-◌, ◌≤◌, ◌<◌, length, drop, get_or}
use Rattle.std.proofs.Common.{sym, ap, ◌∙◌, arith, ne_eqb, length-drop, get_or-drop}
use Rattle.paper.specs.Dtd.Letters.{is_more}
use Rattle.dtd_symbol_laws.specs.Machine.{symbol_for, after, after_last}

-- the symbol that a byte stands for, or that it stands for none
abbrev pub Symbol : ℕ → Option ℕ → Type 0
Symbol b None = symbol_for b ≡ 5
Symbol b (Some g) = (g ≡ symbol_for b) × (g ≢ 5)

pub no_symbol : (b : ℕ) → b ≢ 63 → b ≢ 42 → b ≢ 43 → b ≢ 44 → b ≢ 124 → symbol_for b ≡ 5
no_symbol b h i j k l = rw (ne_eqb b 63 h, ne_eqb b 42 i, ne_eqb b 43 j, ne_eqb b 44 k, ne_eqb b 124 l)

module _ (text : List ℕ) (from i : ℕ) where
  pub none_before : i ≤ from → false ≡ after (i - from) (drop from text) false
  none_before h = let e : i - from ≡ 0 = omega arith in rw e

  pub some_before : (b : Bool) → from < i → i < length text → b ≡ is_more (get_or text (i - 1) 0) → b ≡ after (i - from) (drop from text) false
  some_before b h k p =
      let d : i - from ≡ suc (i - 1 - from) = omega arith in
      let e : from + (i - 1 - from) ≡ i - 1 = omega arith in
      let l : i - 1 - from < length (drop from text) = rw (length-drop from text) (omega arith) in
      p
      ∙ ap (λ n. is_more (get_or text n 0)) (sym e)
      ∙ ap is_more (sym (get_or-drop from text (i - 1 - from) 0))
      ∙ sym (after_last (i - 1 - from) (drop from text) false l)
      ∙ ap (λ n. after n (drop from text) false) (sym d)
