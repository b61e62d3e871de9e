-- Where an attribute stands among those of its element, and what holds around it. Assumes nothing.
use Rattle.std.specs.Prelude.{◌≡◌, refl, Bool, true, false, cond, not, List, [], ◌∷◌, ◌⊎◌, ℕ, ltb, eqb, take, drop}
use Rattle.std.proofs.Common.{sym, ap, ◌∙◌, subst, inl, inr, arith, ltb-true, ltb-false, lt-ltb, eqb-true}
use Rattle.std.proofs.lemmas.Bool.{eqb-false, not-true}
use Rattle.paper.specs.declared.Tok.{Tok}
use Rattle.paper.specs.declared.Tok.TheVariants.{Start, End, Text, Attr, Value, Bad}
use Rattle.paper.specs.Shape.{Phase, Head, Named, Valued, Body, Fail}
use Rattle.shape_laws.specs.Phases.{failing, bad_fails}
use Rattle.paper.specs.Shape.{is_body, phase_of, phases}
use Rattle.paper.specs.Tokens.{held, slot, values}
use Rattle.basic_laws.specs.Bools.{clash}

-- ---- the phases around the attribute a

-- every attribute so far is below a
abbrev pub under : ℕ → Phase → Bool
under a Head = true
under a (Named b) = ltb b a
under a (Valued b) = ltb b a
under a Body = false
under a Fail = false

-- and the last one has its values
abbrev pub settled : ℕ → Phase → Bool
settled a Head = true
settled a (Named b) = false
settled a (Valued b) = ltb b a
settled a Body = false
settled a Fail = false

-- content stands first, or an attribute whose number passes
abbrev pub ahead : (ℕ → Bool) → List Tok → Bool
ahead P [] = false
ahead P (Attr n ∷ r) = P n
ahead P (Value v ∷ r) = false
ahead P (Start n ∷ r) = true
ahead P (End ∷ r) = true
ahead P (Text n ∷ r) = true
ahead P (Bad ∷ r) = false

-- what may stand after a and its values
abbrev pub later : ℕ → List Tok → Bool
later a = ahead (ltb a)

-- where a stands, or would: no value, and no attribute below a
abbrev pub due : ℕ → List Tok → Bool
due a = ahead (λ n. not (ltb n a))

-- with or without a, the rest goes the same way
pub agree : (a : ℕ) (q : Phase) (r : List Tok) → settled a q ≡ true → later a r ≡ true → phases q r ≡ phases (Valued a) r
agree a q [] s l = clash l refl
agree a Head (Attr n ∷ r) s l = rw l
agree a (Named b) (Attr n ∷ r) s l = clash s refl
agree a (Valued b) (Attr n ∷ r) s l = rw (l, lt-ltb b n (omega (arith, ltb-true a n l, ltb-true b a s)))
agree a Body (Attr n ∷ r) s l = clash s refl
agree a Fail (Attr n ∷ r) s l = clash s refl
agree a q (Value v ∷ r) s l = clash l refl
agree a Head (Start n ∷ r) s l = refl
agree a (Named b) (Start n ∷ r) s l = clash s refl
agree a (Valued b) (Start n ∷ r) s l = refl
agree a Body (Start n ∷ r) s l = clash s refl
agree a Fail (Start n ∷ r) s l = clash s refl
agree a Head (End ∷ r) s l = refl
agree a (Named b) (End ∷ r) s l = clash s refl
agree a (Valued b) (End ∷ r) s l = refl
agree a Body (End ∷ r) s l = clash s refl
agree a Fail (End ∷ r) s l = clash s refl
agree a Head (Text n ∷ r) s l = refl
agree a (Named b) (Text n ∷ r) s l = clash s refl
agree a (Valued b) (Text n ∷ r) s l = refl
agree a Body (Text n ∷ r) s l = clash s refl
agree a Fail (Text n ∷ r) s l = clash s refl
agree a q (Bad ∷ r) s l = clash l refl

-- at the slot the attributes before are settled, and a is due
pub record Slot (a : ℕ) (q : Phase) (r : List Tok) : Type 0 where
  calm : settled a q ≡ true
  meets : due a r ≡ true
  well : is_body (phases q r) ≡ true

calm_here : (a : ℕ) (q : Phase) (t : Tok) (r : List Tok) → under a q ≡ true → due a (t ∷ r) ≡ true → is_body (phases q (t ∷ r)) ≡ true → Slot a q (t ∷ r)
calm_here a Head t r u d e = record { calm = refl; meets = d; well = e }
calm_here a (Named b) (Start n) r u d e = failing r e
calm_here a (Named b) End r u d e = failing r e
calm_here a (Named b) (Text n) r u d e = failing r e
calm_here a (Named b) (Attr n) r u d e = failing r e
calm_here a (Named b) (Value v) r u d e = clash d refl
calm_here a (Named b) Bad r u d e = failing r e
calm_here a (Valued b) t r u d e = record { calm = u; meets = d; well = e }
calm_here a Body t r u d e = clash u refl
calm_here a Fail t r u d e = clash u refl

-- an attribute that a good document has
pub named_next : (q : Phase) (n : ℕ) (r : List Tok) → is_body (phases q (Attr n ∷ r)) ≡ true → phase_of q (Attr n) ≡ Named n
named_next Head n r e = refl
named_next (Named b) n r e = failing r e
named_next (Valued b) n r e = go (ltb b n) refl
  where
    go : (z : Bool) → ltb b n ≡ z → cond (ltb b n) (Named n) Fail ≡ Named n
    go true f = rw f
    go false f = failing r (rw f at e)
named_next Body n r e = failing r e
named_next Fail n r e = failing r e

at_attr : (a : ℕ) (q : Phase) (n : ℕ) (r : List Tok) → under a q ≡ true → is_body (phases q (Attr n ∷ r)) ≡ true
    → (under a (Named n) ≡ true → is_body (phases (Named n) r) ≡ true → Slot a (phases (Named n) (take (slot a r) r)) (drop (slot a r) r))
    → Slot a (phases q (take (slot a (Attr n ∷ r)) (Attr n ∷ r))) (drop (slot a (Attr n ∷ r)) (Attr n ∷ r))
at_attr a q n r u e f = go (ltb n a) refl
  where
    next : phase_of q (Attr n) ≡ Named n
    next = named_next q n r e

    go : (z : Bool) → ltb n a ≡ z → Slot a (phases q (take (slot a (Attr n ∷ r)) (Attr n ∷ r))) (drop (slot a (Attr n ∷ r)) (Attr n ∷ r))
    go true l = rw l (subst (λ z. Slot a (phases z (take (slot a r) r)) (drop (slot a r) r)) (sym next) (f l (rw next at e)))
    go false l = rw l (calm_here a q (Attr n) r u (ap not l) e)

pub to_slot : (a : ℕ) (q : Phase) (r : List Tok) → under a q ≡ true → is_body (phases q r) ≡ true → Slot a (phases q (take (slot a r) r)) (drop (slot a r) r)
to_slot a Head [] u e = clash e refl
to_slot a (Named b) [] u e = clash e refl
to_slot a (Valued b) [] u e = clash e refl
to_slot a Body [] u e = clash u refl
to_slot a Fail [] u e = clash u refl
to_slot a q (Start n ∷ r) u e = calm_here a q (Start n) r u refl e
to_slot a q (End ∷ r) u e = calm_here a q End r u refl e
to_slot a q (Text n ∷ r) u e = calm_here a q (Text n) r u refl e
to_slot a q (Bad ∷ r) u e = failing r (rw (bad_fails q) at e)
to_slot a Head (Value v ∷ r) u e = failing r e
to_slot a (Named b) (Value v ∷ r) u e = to_slot a (Valued b) r u e
to_slot a (Valued b) (Value v ∷ r) u e = to_slot a (Valued b) r u e
to_slot a Body (Value v ∷ r) u e = clash u refl
to_slot a Fail (Value v ∷ r) u e = clash u refl
to_slot a q (Attr n ∷ r) u e = at_attr a q n r u e (λ v f. to_slot a (Named n) r v f)

-- ---- what is cut: the attribute a with its values, or nothing

-- after the values of a
after_values : (a : ℕ) (r : List Tok) → is_body (phases (Valued a) r) ≡ true
    → (phases (Valued a) (take (values r) r) ≡ Valued a) × (later a (drop (values r) r) ≡ true)
after_values a [] e = clash e refl
after_values a (Attr n ∷ r) e = (refl, go (ltb a n) refl)
  where
    go : (z : Bool) → ltb a n ≡ z → ltb a n ≡ true
    go true f = f
    go false f = failing r (rw f at e)
after_values a (Value v ∷ r) e = after_values a r e
after_values a (Start n ∷ r) e = (refl, refl)
after_values a (End ∷ r) e = (refl, refl)
after_values a (Text n ∷ r) e = (refl, refl)
after_values a (Bad ∷ r) e = failing r e

after_name_lem : (a : ℕ) (r : List Tok) → is_body (phases (Named a) r) ≡ true
    → (phases (Named a) (take (values r) r) ≡ Valued a) × (later a (drop (values r) r) ≡ true)
after_name_lem a [] e = clash e refl
after_name_lem a (Attr n ∷ r) e = failing r e
after_name_lem a (Value v ∷ r) e = after_values a r e
after_name_lem a (Start n ∷ r) e = failing r e
after_name_lem a (End ∷ r) e = failing r e
after_name_lem a (Text n ∷ r) e = failing r e
after_name_lem a (Bad ∷ r) e = failing r e

-- h tokens of r, at the phase q, are nothing or the attribute a
pub record Held (a : ℕ) (q : Phase) (h : ℕ) (r : List Tok) : Type 0 where
  pub calm : settled a q ≡ true
  pub ends : (h ≡ 0) ⊎ (phases q (take h r) ≡ Valued a)
  pub rest : later a (drop h r) ≡ true

pub at_held : (a : ℕ) (q : Phase) (r : List Tok) → Slot a q r → Held a q (held a r) r
at_held a q [] s = clash s.meets refl
at_held a q (Start n ∷ r) s = record { calm = s.calm; ends = inl refl; rest = refl }
at_held a q (End ∷ r) s = record { calm = s.calm; ends = inl refl; rest = refl }
at_held a q (Text n ∷ r) s = record { calm = s.calm; ends = inl refl; rest = refl }
at_held a q (Value v ∷ r) s = clash s.meets refl
at_held a q (Bad ∷ r) s = clash s.meets refl
at_held a q (Attr n ∷ r) s = go (eqb n a) refl
  where
    next : phase_of q (Attr n) ≡ Named n
    next = named_next q n r s.well

    go : (z : Bool) → eqb n a ≡ z → Held a q (held a (Attr n ∷ r)) (Attr n ∷ r)
    go true f =
        let x : (phases (Named n) (take (values r) r) ≡ Valued a) × (later a (drop (values r) r) ≡ true)
        = subst (λ z. (phases (Named n) (take (values r) r) ≡ Valued z) × (later z (drop (values r) r) ≡ true)) (eqb-true n a f) (after_name_lem n r (rw next at s.well)) in
        rw f (record { calm = s.calm; ends = inr (ap (λ z. phases z (take (values r) r)) next ∙ x.0); rest = x.1 })
    go false f = rw f (record { calm = s.calm; ends = inl refl; rest = lt-ltb a n (omega (arith, eqb-false n a f, ltb-false n a (not-true (ltb n a) s.meets))) })
