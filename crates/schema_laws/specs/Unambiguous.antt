-- Elements in form and without an ambiguous model, told by the test and by what it means. Assumes nothing.
use Rattle.std.specs.Prelude.{◌≡◌, refl, ◌↔◌, Bool, true, false, not, List, [], ◌∷◌, ◌++◌, ℕ, ◌+◌}
use Rattle.std.proofs.Common.{sym, ap, ◌∙◌, true≢false, arith}
use Rattle.std.proofs.Math.Bool.{and-eq-true_iff}
use Rattle.std.proofs.lemmas.Bool.{not-true}
use Rattle.paper.specs.Expressions.{Expr, Ambiguous}
use Rattle.paper.specs.Sets.{ambiguous}
use Rattle.paper.specs.Schema.{Content, empty, text, model, Element}
use Rattle.paper.specs.SchemaWritten.{formed_element, formed_elements, Unambiguous}
use Rattle.content_laws.proofs.Decide.{decides}
use Rattle.basic_laws.specs.Tests.{true_iff}
use Rattle.schema_laws.specs.Contents.{unambiguous}
use Rattle.schema_laws.specs.Rows.{all_from}
use Rattle.schema_laws.specs.Elements.{fit, fixes}

-- one model
pub ambiguous_true : (e : Expr) → (ambiguous e ≡ true) ↔ Ambiguous e
ambiguous_true e = (λ p. (decides e).0 ((true_iff (ambiguous e)).0 p), λ a. (true_iff (ambiguous e)).1 ((decides e).1 a))

unambiguous_means : (c : Content) → (unambiguous c ≡ true) ↔ ((e : Expr) → c ≡ model e → ¬ Ambiguous e)
unambiguous_means empty = (λ p e q. let z : ◌≡◌ {A = ℕ} 0 1 = cc in absurd (omega arith), λ h. refl)
unambiguous_means text = (λ p e q. let z : ◌≡◌ {A = ℕ} 0 1 = cc in absurd (omega arith), λ h. refl)
unambiguous_means (model x) = (to, λ h. go (ambiguous x) refl h)
  where
    to : not (ambiguous x) ≡ true → (e : Expr) → model x ≡ model e → ¬ Ambiguous e
    to p e q a = let d : x ≡ e = cc in true≢false (sym ((ambiguous_true x).1 (rw d a)) ∙ not-true (ambiguous x) p)

    go : (b : Bool) → ambiguous x ≡ b → ((e : Expr) → model x ≡ model e → ¬ Ambiguous e) → not b ≡ true
    go true p h = absurd (h x refl ((ambiguous_true x).0 p))
    go false p h = refl

-- all elements
module _ (E : ℕ) where
  abbrev Fit : ℕ → List Element → Bool
  Fit met l = all_from (fit E) fixes met l

  formed_all : (l : List Element) (met : ℕ) → Fit met l ≡ true → formed_elements E met l ≡ true
  formed_all [] met p = refl
  formed_all (x ∷ l) met p =
      let (f, others) = (and-eq-true_iff (fit E met x) (Fit (met + fixes x) l)).0 p in
      rw ((and-eq-true_iff (formed_element E met x) (unambiguous x.content)).0 f).0 (formed_all l (met + fixes x) others)

  unambiguous_one : (u v : List Element) (x : Element) (met : ℕ) → Fit met (u ++ x ∷ v) ≡ true → unambiguous x.content ≡ true
  unambiguous_one [] v x met p =
      let (f, others) = (and-eq-true_iff (fit E met x) (Fit (met + fixes x) v)).0 p in
      ((and-eq-true_iff (formed_element E met x) (unambiguous x.content)).0 f).1
  unambiguous_one (y ∷ u) v x met p = unambiguous_one u v x (met + fixes y) ((and-eq-true_iff (fit E met y) (Fit (met + fixes y) (u ++ x ∷ v))).0 p).1

  both_fit : (l : List Element) (met : ℕ) → formed_elements E met l ≡ true → Unambiguous l → Fit met l ≡ true
  both_fit [] met p h = refl
  both_fit (x ∷ l) met p h =
      let (f, others) = (and-eq-true_iff (formed_element E met x) (formed_elements E (met + fixes x) l)).0 p in
      rw (f, (unambiguous_means x.content).1 (λ e. h [] l x e refl)) (both_fit l (met + fixes x) others (λ u v y e q. h (x ∷ u) v y e (ap (λ t. x ∷ t) q)))

  pub fit_all : (l : List Element) (met : ℕ) → (all_from (fit E) fixes met l ≡ true) ↔ ((formed_elements E met l ≡ true) × Unambiguous l)
  fit_all l met =
      (λ p. (formed_all l met p, λ u v x e q. (unambiguous_means x.content).0 (unambiguous_one u v x met (rw q at p)) e), λ h. both_fit l met h.0 h.1)
