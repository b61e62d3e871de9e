-- A byte, a name and a suffix at a place of a model, and what they make of the brackets that are open. Assumes nothing.
use mir.Val.{bool_byte}
use Rattle.std.specs.Prelude.{◌≡◌, refl, Bool, true, false, cond, ◌||◌, Some, List, [], ◌∷◌, ℕ, suc, ◌+◌, ◌≤◌, ◌<◌, eqb, length, drop, get_or}
use Rattle.std.proofs.Common.{sym, ap, ◌∙◌, arith, add-one, eqb-true, length-drop, drop-cons}
use Rattle.std.proofs.Math.Bool.{and-eq-true_iff}
use Rattle.paper.specs.Basics.{all}
use Rattle.paper.specs.Dtd.Letters.{Name, is_first, is_more, begins}
use Rattle.paper.specs.Dtd.Declarations.{Suffix, once, maybe, many, several}
use Rattle.paper.specs.Dtd.Readers.{ok, suffix, outside}
use Rattle.paper.specs.Dtd.Reading.{mention}
use Rattle.basic_laws.specs.Bools.{clash, neither}
use Rattle.dtd_laws.specs.Exact.{tested_exact}
use Rattle.dtd_laws.specs.Leaves.{name_exact, name_strict}
use Rattle.dtd_words.specs.Places.{begins_inside}
use Rattle.dtd_model_laws.specs.Sizes.{marks}
use Rattle.dtd_model_laws.specs.Walks.{Joint, free, joint_of}
use Rattle.dtd_brackets.specs.declared.Separator.{Separator}
use Rattle.dtd_brackets.specs.declared.Separator.TheVariants.{Comma, Bar}
use Rattle.dtd_brackets.specs.Separators.{joint}
use Rattle.dtd_brackets.specs.Stacks.{open_at, open_next, open_still, more_still, untouched}

-- ---- the byte at a place

module _ (text : List ℕ) (at : ℕ) where
  -- that byte stands there
  pub front_is : (c : ℕ) → begins (eqb c) (drop at text) ≡ true → (at < length text) × (drop at text ≡ c ∷ drop (suc at) text) × (c ≡ get_or text at 0)
  front_is c p =
      let h = begins_inside (eqb c) text at p in
      let d = drop-cons text at 0 h in
      let e = eqb-true c (get_or text at 0) (sym (ap (begins (eqb c)) d) ∙ p) in
      (h, d ∙ rw (← e), e)

-- ---- separators

-- the separator in front
abbrev pub joint_at : List ℕ → Joint
joint_at [] = free
joint_at (b ∷ s) = joint_of b

module _ (text : List ℕ) (at : ℕ) (v : Separator) (p : joint (Some v) ≡ joint_at (drop at text)) where
  -- the byte that it is
  pub separator_byte : (c : ℕ) × (at < length text) × (drop at text ≡ c ∷ drop (suc at) text) × (c ≡ get_or text at 0) × (joint (Some v) ≡ joint_of c)
  separator_byte = by (drop at text) refl p
    where
      none : (v : Separator) → joint (Some v) ≡ free → ⊥
      none Comma e = cc
      none Bar e = cc

      by : (s : List ℕ) → drop at text ≡ s → joint (Some v) ≡ joint_at s
          → (c : ℕ) × (at < length text) × (drop at text ≡ c ∷ drop (suc at) text) × (c ≡ get_or text at 0) × (joint (Some v) ≡ joint_of c)
      by [] e p = absurd (none v p)
      by (b ∷ t) e p =
          let l : length (drop at text) ≡ suc (length t) = rw e in
          let h : at < length text = omega (arith, length-drop at text) in
          let d = drop-cons text at 0 h in
          let g : b ≡ get_or text at 0 = cc in
          (b, h, rw g d, g, p)

  pub separator_inside : at + 1 ≤ length text
  separator_inside = let (c, h, d, g, e) = separator_byte in omega arith

-- ---- suffixes

abbrev pub is_suffix : ℕ → Bool
is_suffix b = eqb b 63 || eqb b 42 || eqb b 43

-- n bytes of suffix stand there
pub record Suffixed (text : List ℕ) (at n : ℕ) : Type 0 where
  pub kind : Suffix
  pub many : n ≡ marks kind
  pub inside : at + n ≤ length text
  pub read : suffix (drop at text) ≡ ok kind (drop (at + n) text)
  pub still : (from : ℕ) → from ≤ at → open_at text from (at + n) ≡ open_at text from at

-- what is read of a byte that is a suffix, and of one that is none
takes : (b : ℕ) (s : List ℕ) → is_suffix b ≡ true → (q : Suffix) × (1 ≡ marks q) × (suffix (b ∷ s) ≡ ok q s)
takes b s p = by (eqb b 63) (eqb b 42) (eqb b 43) p
  where
    by : (x y z : Bool) → (x || y || z) ≡ true
        → (q : Suffix) × (1 ≡ marks q) × (cond x (ok maybe s) (cond y (ok many s) (cond z (ok several s) (ok once (b ∷ s)))) ≡ ok q s)
    by true y z p = (maybe, refl, refl)
    by false true z p = (many, refl, refl)
    by false false true p = (several, refl, refl)
    by false false false p = clash p refl

leaves : (b : ℕ) (s : List ℕ) → is_suffix b ≡ false → suffix (b ∷ s) ≡ ok once (b ∷ s)
leaves b s p =
    let (xy, z) = neither (eqb b 63 || eqb b 42) (eqb b 43) p in
    let (x, y) = neither (eqb b 63) (eqb b 42) xy in
    rw (x, y, z)

module _ (text : List ℕ) (at : ℕ) where
  same_place : (from : ℕ) → open_at text from (at + 0) ≡ open_at text from at
  same_place from = let e : at + 0 ≡ at = omega arith in rw e

  module _ (h : at ≤ length text) (b : Bool) (q : b ≡ begins is_suffix (drop at text)) where
    suffix_none : b ≡ false → Suffixed text at 0
    suffix_none p =
        let e : at + 0 ≡ at = omega arith in
        record {
          kind = once;
          many = refl;
          inside = omega arith;
          read = rw e (by (drop at text) (sym q ∙ p));
          still = λ from f. same_place from;
        }
      where
        by : (s : List ℕ) → begins is_suffix s ≡ false → suffix s ≡ ok once s
        by [] p = refl
        by (c ∷ s) p = leaves c s p

    suffix_one : b ≡ true → Suffixed text at 1
    suffix_one p =
        let i = begins_inside is_suffix text at (sym q ∙ p) in
        let d = drop-cons text at 0 i in
        let y : is_suffix (get_or text at 0) ≡ true = sym (ap (begins is_suffix) d) ∙ sym q ∙ p in
        let (k, m, r) = takes (get_or text at 0) (drop (suc at) text) y in
        record {
          kind = k;
          many = m;
          inside = omega arith;
          read = rw (add-one at) (ap suffix d ∙ r);
          still = λ from f. rw (add-one at) (open_next text from at f i ∙ untouched is_suffix refl refl refl refl (get_or text at 0) y (open_at text from at));
        }

    pub suffix_there : Suffixed text at (bool_byte b)
    suffix_there = by b refl
      where
        by : (x : Bool) → b ≡ x → Suffixed text at (bool_byte x)
        by true p = suffix_one p
        by false p = suffix_none p

-- ---- names

-- a name that was read: the text goes on behind it, and the brackets are as they were
pub mentioned : (known : Name → Bool) (text : List ℕ) (from at e : ℕ) (n : Name) → from ≤ at → at ≤ length text → e ≤ length text
    → mention known (drop at text) ≡ ok n (drop e text) → (at < e) × (open_at text from e ≡ open_at text from at)
mentioned known text from at e n h k m p =
    let (g, o) = (tested_exact {n = 0} outside known name_exact).gives {a = n} {s = drop at text} {r = drop e text} p in
    let s = name_strict n (drop at text) (drop e text) g in
    let (u, v) = open_still text from is_more more_still n at e h k m ((and-eq-true_iff (begins is_first n) (all is_more n)).0 g.1).1 g.0 in
    (omega (arith, length-drop at text, length-drop e text), v)
