-- The turns of the loops that count the open elements at a place and find the deepest level of a piece; a piece at its place. Assumes
-- nothing.
use Rattle.std.specs.Prelude.{◌≡◌, refl, Bool, true, false, cond, List, ℕ, suc, ◌+◌, ◌-◌, ◌≤◌, ◌<◌, max, leb, length, get_or, drop}
use Rattle.std.proofs.Common.{sym, ap, ◌∙◌, add-one, arith, le-leb, leb-true, leb-false}
use Rattle.std.proofs.lemmas.Bool.{lt-leb}
use mir.Val.{bool_byte}
use Rattle.paper.specs.declared.Tok.{Tok}
use Rattle.paper.specs.Basics.{most_deep}
use Rattle.paper.specs.Tokens.{tok_of, toks, starts, level_of, deep}
use Rattle.shape_laws.specs.Depth.{count, open_in}
use Rattle.shape_laws.specs.Ends.{rest_at, rest_past, level_le, deep_turn, deep_out}
use Rattle.tokens.specs.Sorts.{ends}

-- a test as a number
pub one_le : (b : Bool) → bool_byte b ≤ 1
one_le true = omega arith
one_le false = omega arith

-- ---- what the tokens leave open, those up to place i counted

module _ (P : Tok → Bool) (front : List ℕ) (i : ℕ) (h : i < length front) where
  pub count_turn : {y : Bool} → y ≡ P (tok_of (get_or front i 0)) → count P (drop i (toks front)) ≡ bool_byte y + count P (drop (i + 1) (toks front))
  count_turn {y} ey = rw (rest_at front i h, ← ey, add-one) (go y)
    where
      go : (b : Bool) → cond b (suc (count P (drop (suc i) (toks front)))) (count P (drop (suc i) (toks front))) ≡ bool_byte b + count P (drop (suc i) (toks front))
      go true = omega arith
      go false = omega arith

pub record Opened (front : List ℕ) (i s e : ℕ) : Type 0 where
  pub here : i ≤ length front
  pub some_starts : s ≤ i
  pub some_ends : e ≤ i
  pub starts_left : count starts (toks front) ≡ s + count starts (drop i (toks front))
  pub ends_left : count ends (toks front) ≡ e + count ends (drop i (toks front))

pub opened_begin : (front : List ℕ) → Opened front 0 0 0
opened_begin front = record { here = omega arith; some_starts = omega arith; some_ends = omega arith; starts_left = omega arith; ends_left = omega arith }

module _ (front : List ℕ) (i s e : ℕ) (c : Opened front i s e) where
  pub opened_turn : i < length front → {y z : Bool} → y ≡ starts (tok_of (get_or front i 0)) → z ≡ ends (tok_of (get_or front i 0))
      → Opened front (i + 1) (s + bool_byte y) (e + bool_byte z)
  opened_turn h {y} {z} ey ez =
      record {
        here = omega arith;
        some_starts = omega (arith, one_le y);
        some_ends = omega (arith, one_le z);
        starts_left = omega (arith, count_turn starts front i h ey);
        ends_left = omega (arith, count_turn ends front i h ez);
      }

  pub opened_all : length front ≤ i → {r : ℕ} → r ≡ s - e → r ≡ open_in (toks front)
  opened_all h er =
      let n = ap (count starts) (rest_past front i h) in
      let m = ap (count ends) (rest_past front i h) in
      omega (arith, c.starts_left, c.ends_left)

-- ---- the deepest level of a piece: m up to place i, where the level is k

pub record Deepening (buf : List ℕ) (i k m : ℕ) : Type 0 where
  pub here : i ≤ length buf
  pub low : k ≤ i
  pub high : k ≤ m
  pub left : deep 0 (toks buf) ≡ max m (deep k (drop i (toks buf)))

pub deepening_begin : (buf : List ℕ) → Deepening buf 0 0 0
deepening_begin buf = record { here = omega arith; low = omega arith; high = omega arith; left = omega arith }

module _ (buf : List ℕ) (i k m : ℕ) (c : Deepening buf i k m) where
  pub deepening_turn : i < length buf → {k' m' : ℕ} → k' ≡ level_of k (tok_of (get_or buf i 0)) → m' ≡ max m k' → Deepening buf (i + 1) k' m'
  deepening_turn h ek em =
      rw (em, ek)
      (record {
        here = omega arith;
        low = omega (arith, level_le k (tok_of (get_or buf i 0)));
        high = omega arith;
        left = c.left ∙ deep_turn buf i k m c.high h refl;
      })

  pub deepening_end : length buf ≤ i → m ≡ deep 0 (toks buf)
  deepening_end h = omega (arith, c.left, c.high, deep_out buf i k m h)

-- ---- a piece of depth b where o elements are open

module _ {o b : ℕ} (h : o ≤ most_deep) {n : ℕ} (en : n ≡ b) where
  pub below_none : n ≡ 0 → true ≡ leb (o + b) most_deep
  below_none z = sym (le-leb (o + b) most_deep (omega arith))

  pub below_some : {m : ℕ} → m ≡ o → leb n (most_deep - m) ≡ leb (o + b) most_deep
  below_some {m} em = go (leb n (most_deep - m)) refl
    where
      go : (x : Bool) → leb n (most_deep - m) ≡ x → leb n (most_deep - m) ≡ leb (o + b) most_deep
      go true e = e ∙ sym (le-leb (o + b) most_deep (omega (arith, leb-true n (most_deep - m) e)))
      go false e = e ∙ sym (lt-leb (o + b) most_deep (omega (arith, leb-false n (most_deep - m) e)))
