-- One attribute of an element. Assumes nothing.
use Rattle.std.specs.Prelude.{◌≡◌, refl, Result, Bool, true, false, ◌&&◌, List, ℕ, ◌-◌, ◌≤◌, ◌<◌, eqb, drop}
use Rattle.std.proofs.Common.{ap, ◌∙◌, arith, eq-eqb}
use Rattle.paper.specs.Basics.{most_attributes, most_fixed}
use Rattle.paper.specs.Schema.{Attribute, stop, ok, Reader, pure, ◌>>=◌, number, kind_after, most_status, value_after}
use Rattle.table_laws.specs.Readers.{after, number_in}
use Rattle.table_laws.specs.Accepted.{status_good}
use Rattle.paper.specs.Codes.{number_of, kind_of, status_of}
use Rattle.paper.specs.declared.Refusal.{Refusal}
use Rattle.paper.specs.declared.Kind.{Kind}
use Rattle.numbers.specs.declared.Num.{Num}
use Rattle.reading.specs.Ended.{Went, Ended}
use Rattle.reading.specs.Number.{Value, Refused, refused_below}
use Rattle.attlist.specs.declared.Stated.{Stated}
use Rattle.attlist.specs.declared.Declared.{Declared}
use Rattle.attlist.specs.Status.{status_from, StatusAt}

abbrev pub attribute : ℕ → Bool → ℕ → Reader Attribute
attribute low had met = do
  a ← number low (most_attributes - 1)
  k ← kind_after had
  p ← status_from k met
  pure (record { number = a; kind = k; status = p.0; value = p.1 })

abbrev pub attribute_of : Declared → Attribute
attribute_of r = record { number = r.attribute; kind = kind_of r.kind; status = status_of r.status; value = r.value }

abbrev pub AttributeAt : ℕ → Bool → ℕ → List ℕ → ℕ → Result Declared Refusal → Type 0
AttributeAt low had met file at = Ended (attribute low had met (drop at file)) file (λ r. r.next) (λ r y. y ≡ attribute_of r)

-- An attribute that was read has a number below 64; and if it is fixed, there was room for it.
module _ (low : ℕ) (had : Bool) (met : ℕ) (s : List ℕ) {y : Attribute} {r : List ℕ} (e : attribute low had met s ≡ ok y r) where
  same : {x : Attribute} {w : List ℕ} → ok x w ≡ ok y r → x ≡ y
  same q = cc

  pub attribute_low : y.number < most_attributes
  attribute_low =
      after (number low (most_attributes - 1) s) _ e λ a t p f.
      after (kind_after had t) _ f λ k u g h.
      after (status_from k met u) _ h λ o v i j.
      let (least, most) = number_in low (most_attributes - 1) s p in
      let d : a ≡ y.number = ap (λ (z : Attribute). z.number) (same j) in
      omega arith

  pub attribute_room : y.status ≡ 2 → met < most_fixed
  attribute_room two =
      after (number low (most_attributes - 1) s) _ e λ a t p f.
      after (kind_after had t) _ f λ k u g h.
      after (status_from k met u) _ h λ o v i j.
      after (number 0 (most_status k met) u) _ i λ st w l m.
      after (value_after st w) _ m λ x z n q.
      let c : st ≡ 2 = ap (λ (c : ℕ × ℕ). c.0) (pair q) ∙ ap (λ (z : Attribute). z.status) (same j) ∙ two in
      (status_good k met st (number_in 0 (most_status k met) u l).1 (eq-eqb st 2 c)).1
    where
      pair : {c d : ℕ × ℕ} {w v : List ℕ} → ok c w ≡ ok d v → c ≡ d
      pair q = cc
