-- What each way out of `read_model` gives. Assumes nothing.
use mathlib.Core.Path.{◌≡◌, sym, ap, ◌∙◌, subst}
use Rattle.std.specs.Prelude.{Option, Some, None}
use mathlib.Core.List.{List, [], ◌++◌, append-nil}
use Prim.Native.Nat.{ℕ, ◌≤◌}
use native.Mathlib.Omega.{arith}
use lib.ListN.{length, drop, replicate, length-drop, drop_of_length-le}
use Rattle.paper.specs.Basics.{most_names}
use Rattle.paper.specs.Expressions.{Expr, count}
use Rattle.paper.specs.Schema.{symbols_of}
use Rattle.content_laws.specs.Symbols.{expr_of_iff}
use Rattle.model_parts.specs.declared.Part.{Part}
use Rattle.content.specs.declared.Model.{Model}
use Rattle.content.specs.Front.{same_rest}
use Rattle.content.specs.Linked.{linked}
use Rattle.content.specs.Parts.{Found, Got}
use Rattle.content.specs.Model.{ModelOf, Modelled, linked_zeros}

-- ---- the ways out

module _ {s f g : List ℕ} {o : Option Part} (x : Got s 0 0 f g o) where
  none : {k : List ℕ} → ((e : Expr) → symbols_of e ≡ s → count e ≤ most_names → ⊥) → k ≡ replicate most_names 0 → Modelled s k None
  none h z = record { found = λ m d. cc; none = λ d. record { never = λ e c l. h e ((expr_of_iff s e).0 c) l; follow = z } }

  pub no_front : {k : List ℕ} → o ≡ None → k ≡ replicate most_names 0 → Modelled s k None
  no_front t z = none (λ e c l. x.lost t e [] (sym c ∙ sym (append-nil (symbols_of e))) (omega arith)) z

  module _ {a : Part} (t : o ≡ Some a) where
    part : Found s 0 0 f g a
    part = x.found a t

    pub left_over : {k : List ℕ} → (a.next ≡ length s → ⊥) → k ≡ replicate most_names 0 → Modelled s k None
    left_over n z = none (λ e c l.
        let rest : [] ≡ drop a.next s = same_rest e part.expr [] (drop a.next s) (append-nil (symbols_of e) ∙ c ∙ part.here) in
        n (omega (arith, ap length rest, length-drop a.next s, part.within))) z

    pub whole_model : {r : Model} → a.next ≡ length s → f ≡ replicate most_names 0
        → r ≡ record { count = a.places; nullable = a.nullable; first = a.first; last = a.last } → Modelled s g (Some r)
    whole_model {r} n z w =
        let e : Expr = part.expr in
        let reads : symbols_of e ≡ s = sym (part.here ∙ ap (λ l. symbols_of e ++ l) (drop_of_length-le s {i = a.next} (omega arith)) ∙ append-nil (symbols_of e)) in
        let fits : count e ≤ most_names = omega (arith, part.places, part.fits) in
        let holds : ModelOf s g r = rw w (record {
          expr = e;
          reads = (expr_of_iff s e).1 reads;
          fits = fits;
          count = omega (arith, part.places);
          nullable = part.nullable;
          first = part.first;
          last = part.last;
          follow = part.follow ∙ ap (linked 0 e) z ∙ linked_zeros e most_names fits;
        }) in
        record { found = λ m d. let c : r ≡ m = cc in subst (ModelOf s g) c holds; none = λ d. cc }
