-- In a document with shape, the values that the judgement lists are those that stand at such attributes. Assumes nothing.
use Rattle.std.specs.Prelude.{◌≡◌, refl, ◌↔◌, Bool, true, false, cond, ℕ, T, ltb}
use Rattle.std.proofs.Common.{ap, ◌∙◌, arith}
use Rattle.std.proofs.lemmas.Bool.{false≢true}
use mathlib.Core.List.{List, [], ◌∷◌, ◌++◌, map, map-append, append_assoc, append-nil, nil≢cons, tail-eq_of_cons-eq, Memᴰ}
use Rattle.paper.specs.declared.Tok.{Tok}
use Rattle.paper.specs.declared.Tok.TheVariants.{Start, End, Text, Attr, Value, Bad}
use Rattle.paper.specs.Tokens.{heads}
use Rattle.paper.specs.Shape.{Phase, Head, Named, Valued, Body, Fail, phase_of, phases, is_body}
use Rattle.paper.specs.Judgement.{values_of}
use Rattle.paper.specs.Validity.{EndsIn, StandsAt}
use Rattle.shape_laws.specs.Phases.{phases_append, fails}
use Rattle.judge_laws.specs.Values.{start_of, attr_of, last_start, last_attr, of_list, to_list}

-- ---- tokens that end in an attribute: it and its element were read last

start_after : (b : List Tok) (e n : ℕ) (r : List Tok) → last_start e (b ++ Start n ∷ r) ≡ last_start n r
start_after [] e n r = refl
start_after (t ∷ b) e n r = start_after b (start_of e t) n r

attr_after : (b : List Tok) (c a : ℕ) (r : List Tok) → last_attr c (b ++ Attr a ∷ r) ≡ last_attr a r
attr_after [] c a r = refl
attr_after (t ∷ b) c a r = attr_after b (attr_of c t) a r

-- ---- attributes and values only

only_append : (h k : List Tok) → heads h ≡ h → heads k ≡ k → heads (h ++ k) ≡ h ++ k
only_append [] k e f = f
only_append (Attr a ∷ h) k e f = rw (only_append h k (tail-eq_of_cons-eq e) f)
only_append (Value v ∷ h) k e f = rw (only_append h k (tail-eq_of_cons-eq e) f)
only_append (Start n ∷ h) k e f = absurd (nil≢cons e)
only_append (End ∷ h) k e f = absurd (nil≢cons e)
only_append (Text n ∷ h) k e f = absurd (nil≢cons e)
only_append (Bad ∷ h) k e f = absurd (nil≢cons e)

only_values : (v : List ℕ) → heads (map Value v) ≡ map Value v
only_values [] = refl
only_values (x ∷ v) = rw (only_values v)

-- they start nothing
start_kept : (h : List Tok) (n : ℕ) → heads h ≡ h → last_start n h ≡ n
start_kept [] n e = refl
start_kept (Attr a ∷ h) n e = start_kept h n (tail-eq_of_cons-eq e)
start_kept (Value v ∷ h) n e = start_kept h n (tail-eq_of_cons-eq e)
start_kept (Start m ∷ h) n e = absurd (nil≢cons e)
start_kept (End ∷ h) n e = absurd (nil≢cons e)
start_kept (Text m ∷ h) n e = absurd (nil≢cons e)
start_kept (Bad ∷ h) n e = absurd (nil≢cons e)

attr_kept : (v : List ℕ) (a : ℕ) → last_attr a (map Value v) ≡ a
attr_kept [] a = refl
attr_kept (x ∷ v) a = attr_kept v a

-- the attributes up to the value that comes next
only_up_to : {u : List Tok} {n a : ℕ} → (z : EndsIn u n a)
    → heads (z.attributes ++ Attr a ∷ map Value z.earlier) ≡ z.attributes ++ Attr a ∷ map Value z.earlier
only_up_to {a = a} z = only_append z.attributes (Attr a ∷ map Value z.earlier) z.nothing_else (rw (only_values z.earlier))

ends_last : {u : List Tok} {n a : ℕ} → EndsIn u n a → (e c : ℕ) → (last_start e u ≡ n) × (last_attr c u ≡ a)
ends_last {u} {n} {a} z e c =
    let h = z.attributes in
    let r : List Tok = Attr a ∷ map Value z.earlier in (
      ap (last_start e) (z.tokens ∙ append_assoc z.before (Start n ∷ h) r) ∙ start_after z.before e n (h ++ r) ∙ start_kept (h ++ r) n (only_up_to z),
      ap (last_attr c) z.tokens ∙ attr_after (z.before ++ Start n ∷ h) c a (map Value z.earlier) ∙ attr_kept z.earlier a,
    )

-- ---- what the phases say of the tokens that were read

-- after the tokens w, in a phase; e and a: the start and the attribute that were read last
abbrev Read : Phase → (e a : ℕ) → List Tok → Type 0
Read Head e a w = (b : List Tok) × (w ≡ b ++ Start e ∷ [])
Read (Named c) e a w = EndsIn w e a
Read (Valued c) e a w = EndsIn w e a
Read Body e a w = Unit {0}
Read Fail e a w = Unit {0}

-- the first attribute; one more value; one more attribute
first_attr : {w : List Tok} {e : ℕ} (n : ℕ) → (b : List Tok) × (w ≡ b ++ Start e ∷ []) → EndsIn (w ++ Attr n ∷ []) e n
first_attr {w} {e} n (b, c) = record {
  before = b;
  attributes = [];
  earlier = [];
  nothing_else = refl;
  tokens = rw (c, append_assoc b (Start e ∷ []) (Attr n ∷ []));
}

next_value : {w : List Tok} {e a : ℕ} (v : ℕ) → EndsIn w e a → EndsIn (w ++ Value v ∷ []) e a
next_value {w} {e} {a} v z = record {
  before = z.before;
  attributes = z.attributes;
  earlier = z.earlier ++ v ∷ [];
  nothing_else = z.nothing_else;
  tokens = rw z.tokens (simp (append_assoc, map-append));
}

next_attr : {w : List Tok} {e a : ℕ} (n : ℕ) → EndsIn w e a → EndsIn (w ++ Attr n ∷ []) e n
next_attr {w} {e} {a} n z = record {
  before = z.before;
  attributes = z.attributes ++ Attr a ∷ map Value z.earlier;
  earlier = [];
  nothing_else = only_up_to z;
  tokens = rw z.tokens (simp append_assoc);
}

valued_attr : {w : List Tok} {e a : ℕ} (n : ℕ) (b : Bool) → EndsIn w e a → Read (cond b (Named n) Fail) e n (w ++ Attr n ∷ [])
valued_attr n true z = next_attr n z
valued_attr n false z = tt

-- one token more
read_next : (p : Phase) (t : Tok) (e a : ℕ) (w : List Tok) → Read p e a w → Read (phase_of p t) (start_of e t) (attr_of a t) (w ++ t ∷ [])
read_next Head (Start n) e a w z = (w, refl)
read_next Head (Attr n) e a w z = first_attr n z
read_next Head End e a w z = tt
read_next Head (Text n) e a w z = tt
read_next Head (Value n) e a w z = tt
read_next Head Bad e a w z = tt
read_next (Named c) (Value v) e a w z = next_value v z
read_next (Named c) (Start n) e a w z = tt
read_next (Named c) End e a w z = tt
read_next (Named c) (Text n) e a w z = tt
read_next (Named c) (Attr n) e a w z = tt
read_next (Named c) Bad e a w z = tt
read_next (Valued c) (Value v) e a w z = next_value v z
read_next (Valued c) (Attr n) e a w z = valued_attr n (ltb c n) z
read_next (Valued c) (Start n) e a w z = (w, refl)
read_next (Valued c) End e a w z = tt
read_next (Valued c) (Text n) e a w z = tt
read_next (Valued c) Bad e a w z = tt
read_next Body (Start n) e a w z = (w, refl)
read_next Body End e a w z = tt
read_next Body (Text n) e a w z = tt
read_next Body (Attr n) e a w z = tt
read_next Body (Value n) e a w z = tt
read_next Body Bad e a w z = tt
read_next Fail t e a w z = tt

read_all : (u : List Tok) (p : Phase) (e a : ℕ) (w : List Tok) → Read p e a w → Read (phases p u) (last_start e u) (last_attr a u) (w ++ u)
read_all [] p e a w z = rw append-nil z
read_all (t ∷ u) p e a w z = rw (append_assoc w (t ∷ []) u) at (read_all u (phase_of p t) (start_of e t) (attr_of a t) (w ++ t ∷ []) (read_next p t e a w z))

-- a value comes next: the tokens end in its attribute
value_next : (p : Phase) (x : ℕ) (r : List Tok) (e a : ℕ) (w : List Tok) → is_body (phases p (Value x ∷ r)) ≡ true → Read p e a w → EndsIn w e a
value_next (Named c) x r e a w b z = z
value_next (Valued c) x r e a w b z = z
value_next Head x r e a w b z = absurd (false≢true (rw (fails r) at b))
value_next Body x r e a w b z = absurd (false≢true (rw (fails r) at b))
value_next Fail x r e a w b z = absurd (false≢true (rw (fails r) at b))

-- ---- the law

module _ (is : ℕ → ℕ → Bool) (d : List Tok) (b : is_body (phases Body d) ≡ true) (i x : ℕ) where
  pub stands_iff : Memᴰ (i, x) (values_of is 0 0 0 d) ↔ StandsAt (λ n a. T (is n a)) d i x
  stands_iff = (
    λ m. let (u, r, c, k, t) = of_list is i x d 0 0 0 m in record {
      element = last_start 0 u;
      attribute = last_attr 0 u;
      before = u;
      after = r;
      tokens = c;
      at_place = omega arith;
      ends = value_next (phases Body u) x r (last_start 0 u) (last_attr 0 u) u (rw (c, phases_append Body u (Value x ∷ r)) at b) (read_all u Body 0 0 [] tt);
      such = t;
    },
    λ z. let (p, q) = ends_last z.ends 0 0 in
        rw z.tokens (to_list is i x z.before z.after 0 0 0 (omega (arith, z.at_place)) (rw (p, q) z.such)),
  )
