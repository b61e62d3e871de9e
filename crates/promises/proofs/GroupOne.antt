-- A group of one edit, from a valid document: what the edit by itself answers and leaves. Assumes nothing.
use Rattle.std.specs.Prelude.{◌≡◌, refl, ◌≢◌, List, [], ◌∷◌, ◌++◌, ℕ, ◌≤◌, ℤ, length, take}
use Rattle.std.proofs.Common.{sym, ap, ap₂, ◌∙◌, arith}
use Rattle.std.proofs.Math.Decide.{ℕ_discrete}
use Rattle.paper.specs.Schema.{Schema}
use Rattle.paper.specs.Judgement.{Answer}
use Rattle.paper.specs.Back.{needs}
use Rattle.paper.specs.Edits.{Request, Outcome, form_fault}
use Rattle.back_laws.specs.Sizes.{size_form, size_iff}
use Rattle.paper.specs.Groups.{GroupOutcome, after}
use Rattle.promises.specs.Right.{InForm, Right}
use Rattle.promises.specs.Groups.{FirstRefused, GroupRight, SameAs}

-- of one edit only that one can be the first refused
only : (a : List Request) (q x : Request) (b : List Request) → q ∷ [] ≡ a ++ x ∷ b → (a ≡ []) × (x ≡ q)
only [] q x b e = (refl, cc)
only (y ∷ []) q x b e = let z : ◌≡◌ {A = ℕ} 0 1 = cc in absurd (omega arith)
only (y ∷ k ∷ a) q x b e = let z : ◌≡◌ {A = ℕ} 0 1 = cc in absurd (omega arith)

module _ (s : Schema) (buffer : List ℕ) (used : ℕ) (q : Request) (o : GroupOutcome) (lent : List ℕ) (counts : List ℤ) (u : Outcome)
    (g : GroupRight s buffer used (q ∷ []) o) (r : Right s buffer used q lent counts u) (room : needs q (take used buffer) ≤ length lent) where
  abbrev fault : ℕ
  fault = form_fault (length buffer) q (take used buffer)

  in_form : fault ≡ 0 → InForm buffer used q lent
  in_form f = (size_iff (length buffer) (length lent) q (take used buffer)).1 (f, room)

  done_both : fault ≡ 0 → u.number ≡ 0 → SameAs o u
  done_both f z =
      let d : o.number ≡ 0 = g.done_exactly.1 ((f, tt), (r.done_exactly (in_form f)).0 z) in
      let (a, w, b, c, k) = g.left d in
      let h = r.left z in
      record { number = d ∙ sym z; place = a ∙ sym h.0; used = b ∙ sym h.1; change = c ∙ sym h.2; buffer = k ∙ sym h.3 }

  kept_both : o.number ≡ u.number → o.place ≡ u.place → o.number ≢ 0 → SameAs o u
  kept_both n p d =
      let (b, c, k) = g.kept d in
      let h = r.kept (λ z. d (n ∙ z)) in
      record { number = n; place = p; used = b ∙ sym h.0; change = c ∙ sym h.1; buffer = k ∙ sym h.3 }

  judged_both : fault ≡ 0 → u.number ≢ 0 → SameAs o u
  judged_both f n =
      let d : o.number ≢ 0 = λ z. n ((r.done_exactly (in_form f)).1 (g.done_exactly.0 z).1) in
      let here = (g.number_place (f, tt) d).0 ∙ sym (r.number_place (in_form f) n) in
      kept_both (ap (λ (a : Answer). a.0) here) (ap (λ (a : Answer). a.1) here) d

  refused_both : fault ≢ 0 → SameAs o u
  refused_both n =
      let h : FirstRefused (length buffer) (take used buffer) (q ∷ []) o = g.not_in_form (λ f. n f.0) in
      let (none, is) = only h.ahead q h.edit h.behind h.splits in
      let number : o.number ≡ fault = h.number ∙ ap₂ (λ l y. form_fault (length buffer) y (after l (take used buffer))) none is in
      let (m, p) = r.not_in_form (λ f. n ((size_iff (length buffer) (length lent) q (take used buffer)).0 f).0) in
      kept_both (number ∙ sym (m ∙ size_form (length buffer) (length lent) q (take used buffer) n)) (h.place ∙ sym p) (λ z. n (sym number ∙ z))

  pub one_is_edit : SameAs o u
  one_is_edit = elim (ℕ_discrete fault 0) [
    | yes f ↦ elim (ℕ_discrete u.number 0) [ yes z ↦ done_both f z | no n ↦ judged_both f n ]
    | no n ↦ refused_both n
  ]
