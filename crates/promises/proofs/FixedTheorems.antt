-- What item 8 promises, proved. Assumes nothing.
use Rattle.std.specs.Prelude.{◌≡◌, refl, Bool, true, false, cond, ◌&&◌, List, [], ◌∷◌, ◌++◌, ℕ, zero, suc, T, eqb, get_or}
use Rattle.std.proofs.Common.{sym, ap, ◌∙◌, subst, arith, eqb-true, ne_eqb}
use Rattle.std.proofs.Math.Bool.{and-eq-true_iff}
use Rattle.std.proofs.Math.Option.{some}
use Rattle.paper.specs.Basics.{first_with, some_of}
use Rattle.paper.specs.Schema.{Attribute, is_fixed, Element}
use Rattle.paper.specs.Table.{of_kind, is_required}
use Rattle.paper.specs.Rules.{undeclared, has, fixed_to}
use Rattle.basic_laws.specs.Tests.{true_iff}
use Rattle.table_laws.specs.Accepted.{Fixes, Rising, fixed_fine, GoodAll, none_left, one_more}
use Rattle.table_laws.proofs.Accepted.{schema_good}
use Rattle.table_laws.proofs.ProperSets.{at_own}
use Rattle.promises.specs.Fixed as promised

-- an attribute that is fixed, among the others
record Found (l : List Attribute) (a : ℕ) : Type 0 where
  pub before : List Attribute
  pub it : Attribute
  pub behind : List Attribute
  pub split : l ≡ before ++ it ∷ behind
  pub is_fixed_lem : is_fixed it ≡ true
  pub number : a ≡ it.number

found : (l : List Attribute) (a v : ℕ) → first_with (λ y. is_fixed y && eqb a y.number) (λ y. y.value) l ≡ some v → Found l a
found [] a v e = let z : ◌≡◌ {A = ℕ} 0 1 = cc in absurd (omega arith)
found (y ∷ l) a v e = by (is_fixed y && eqb a y.number) refl e (found l a v)
  where
    by : (b : Bool) → is_fixed y && eqb a y.number ≡ b → cond b (some y.value) (first_with (λ y. is_fixed y && eqb a y.number) (λ y. y.value) l) ≡ some v
        → (first_with (λ y. is_fixed y && eqb a y.number) (λ y. y.value) l ≡ some v → Found l a) → Found (y ∷ l) a
    by true p e h =
        let (f, n) = (and-eq-true_iff (is_fixed y) (eqb a y.number)).0 p in
        record { before = []; it = y; behind = l; split = refl; is_fixed_lem = f; number = eqb-true a y.number n }
    by false p e h =
        let r = h e in
        record { before = y ∷ r.before; it = r.it; behind = r.behind; split = ap (λ t. y ∷ t) r.split; is_fixed_lem = r.is_fixed_lem; number = r.number }

-- what the attributes of an element of a schema keep to
record Keeps (l : List Attribute) : Type 0 where
  pub rising : Rising 0 false l
  pub fixes : Fixes l

keeps_at : (E : ℕ) (l : List Element) → GoodAll E l → (n : ℕ) → Keeps (get_or l n undeclared).attributes
keeps_at E [] none_left n = record { rising = tt; fixes = tt }
keeps_at E (x ∷ l) (one_more g gs) zero = record { rising = g.rising; fixes = g.fixes }
keeps_at E (x ∷ l) (one_more g gs) (suc n) = keeps_at E l gs n

-- the element has the attribute with P exactly if P holds of the fixed one
module _ (x : Element) (k : Keeps x.attributes) (a v : ℕ) (e : fixed_to x a ≡ some v) where
  it : Found x.attributes a
  it = found x.attributes a v e

  has_is : (P : Attribute → Bool) → has P x a ≡ P it.it
  has_is P =
      ap (λ l. some_of (λ y. P y && eqb a y.number) l) it.split ∙ ap (λ n. some_of (λ y. P y && eqb n y.number) (it.before ++ it.it ∷ it.behind)) it.number
      ∙ at_own P it.before it.behind it.it 0 false (subst (Rising 0 false) it.split k.rising)

  cdata : it.it.kind ≡ 0
  cdata = (fixed_fine it.before it.behind it.it (subst Fixes it.split k.fixes) it.is_fixed_lem).0

  not_required : ¬ T (has is_required x a)
  not_required t =
      let two = eqb-true it.it.status 2 it.is_fixed_lem in
      subst T (has_is is_required ∙ ne_eqb it.it.status 0 (λ z. omega arith)) t

  no_other : (n : ℕ) → T (has (of_kind n) x a) → n ≡ 0
  no_other n t = sym (eqb-true it.it.kind n (sym (has_is (of_kind n)) ∙ (true_iff (has (of_kind n) x a)).1 t)) ∙ cdata

pub few_fixed : promised.FewFixed
few_fixed file s left e = (schema_good file e).few_fixed

pub may_be_absent : promised.FixedMayBeAbsent
may_be_absent file s left e n a v q =
    let k = keeps_at _ s.elements (schema_good file e).elements_all n in
    (not_required (get_or s.elements n undeclared) k a v q, no_other (get_or s.elements n undeclared) k a v q)

pub has_its_value : promised.FixedHasItsValue
has_its_value s buffer used d n a v q u r w z e h = (d.valid.elements u r n e).attributes.fixed w z a v h q
