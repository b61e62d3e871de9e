-- The names of a set: the numbers that a list holds at the set's members. Assumes nothing.
use Rattle.std.specs.Prelude.{◌≡◌, refl, Bool, true, false, not, ◌&&◌, List, [], ◌∷◌, ◌↔◌, ℕ, zero, suc, ◌/◌, ◌%◌, ◌<◌, eqb, length, get_or}
use Rattle.std.proofs.Common.{sym, ◌∙◌, arith, eqb-true, eq-eqb}
use Rattle.std.proofs.Math.Bool.{or-true, and-eq-true_iff}
use Rattle.std.proofs.lemmas.Bool.{not-true}
use Rattle.paper.specs.Basics.{cons_if, elem, distinct}
use Rattle.paper.specs.Sets.{bit}
use Rattle.paper.specs.Table.{chosen}
use Rattle.basic_laws.specs.Bools.{clash}
use Rattle.paper_laws.specs.Words.{bit_low, bit_half}

-- a member has the name
abbrev Place : ℕ → ℕ → List ℕ → Type 0
Place a w l = (k : ℕ) × (k < length l) × (bit w k ≡ true) × (get_or l k 0 ≡ a)

-- no two members have one name
abbrev pub Free : ℕ → List ℕ → Type 0
Free w l = (j k : ℕ) → j < k → k < length l → bit w j ≡ true → bit w k ≡ true → get_or l j 0 ≡ get_or l k 0 → ⊥

module _ (a w x : ℕ) (l : List ℕ) where
  later : Place a (w / 2) l → Place a w (x ∷ l)
  later (k, i, m, s) = (suc k, omega arith, bit_half w k ∙ m, s)

  also : (b : Bool) → elem a (chosen (w / 2) l) ≡ true → elem a (cons_if b x (chosen (w / 2) l)) ≡ true
  also true e = rw e (or-true (eqb a x))
  also false e = e

  elem_step : (elem a (chosen (w / 2) l) ≡ true) ↔ Place a (w / 2) l → (elem a (chosen w (x ∷ l)) ≡ true) ↔ Place a w (x ∷ l)
  elem_step ih = (there (eqb (w % 2) 1) (eqb a x) refl refl, λ e. back e.0 e.1 e.2 e.3)
    where
      there : (b c : Bool) → eqb (w % 2) 1 ≡ b → eqb a x ≡ c → elem a (cons_if b x (chosen (w / 2) l)) ≡ true → Place a w (x ∷ l)
      there true true p q e = (0, omega arith, bit_low w ∙ p, sym (eqb-true a x q))
      there true false p q e = later (ih.0 (rw q at e))
      there false c p q e = later (ih.0 e)

      back : (k : ℕ) → k < length (x ∷ l) → bit w k ≡ true → get_or (x ∷ l) k 0 ≡ a → elem a (chosen w (x ∷ l)) ≡ true
      back zero i m e = rw (sym (bit_low w) ∙ m, eq-eqb a x (sym e))
      back (suc k) i m e = also (eqb (w % 2) 1) (ih.1 (k, omega arith, sym (bit_half w k) ∙ m, e))

elem_iff : (a w : ℕ) (l : List ℕ) → (elem a (chosen w l) ≡ true) ↔ Place a w l
elem_iff a w [] = (λ e. clash e refl, λ e. absurd (let i = e.1 in omega arith))
elem_iff a w (x ∷ l) = elem_step a w x l (elem_iff a (w / 2) l)

module _ (w x : ℕ) (l : List ℕ) (ih : (distinct (chosen (w / 2) l) ≡ true) ↔ Free (w / 2) l) where
  abbrev others : List ℕ
  others = chosen (w / 2) l

  free_step : Free w (x ∷ l) → (b : Bool) → eqb (w % 2) 1 ≡ b → distinct (cons_if b x others) ≡ true
  free_step f b p = go b p (ih.1 (λ j k i h p q s. f (suc j) (suc k) (omega arith) (omega arith) (bit_half w j ∙ p) (bit_half w k ∙ q) s))
    where
      go : (b : Bool) → eqb (w % 2) 1 ≡ b → distinct others ≡ true → distinct (cons_if b x others) ≡ true
      go false p d = d
      go true p d = rw d (alone (elem x others) refl)
        where
          alone : (c : Bool) → elem x others ≡ c → (not c && true) ≡ true
          alone false e = refl
          alone true e = let (k, i, m, s) = (elem_iff x (w / 2) l).0 e in absurd (f 0 (suc k) (omega arith) (omega arith) (bit_low w ∙ p) (bit_half w k ∙ m) (sym s))

  parts : (b : Bool) → distinct (cons_if b x others) ≡ true → (b ≡ true → elem x others ≡ false) × (distinct others ≡ true)
  parts true e = let (a, d) = (and-eq-true_iff (not (elem x others)) (distinct others)).0 e in (λ p. not-true (elem x others) a, d)
  parts false e = (λ p. clash p refl, e)

  step_free : distinct (chosen w (x ∷ l)) ≡ true → Free w (x ∷ l)
  step_free e j zero i h p q s = omega arith
  step_free e zero (suc k) i h p q s =
      clash ((elem_iff x (w / 2) l).1 (k, omega arith, sym (bit_half w k) ∙ q, sym s)) ((parts (eqb (w % 2) 1) e).0 (sym (bit_low w) ∙ p))
  step_free e (suc j) (suc k) i h p q s =
      ih.0 (parts (eqb (w % 2) 1) e).1 j k (omega arith) (omega arith) (sym (bit_half w j) ∙ p) (sym (bit_half w k) ∙ q) s

pub distinct_iff : (w : ℕ) (l : List ℕ) → (distinct (chosen w l) ≡ true) ↔ Free w l
distinct_iff w [] = (λ e j k i h p q s. omega arith, λ f. refl)
distinct_iff w (x ∷ l) = (step_free w x l (distinct_iff (w / 2) l), λ f. free_step w x l (distinct_iff (w / 2) l) f (eqb (w % 2) 1) refl)
