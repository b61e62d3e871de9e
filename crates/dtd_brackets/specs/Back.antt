-- Back from a place along the text, to find the brackets that are open there: turns of the loop. Assumes nothing.
use Rattle.std.specs.Prelude.{◌≡◌, refl, ◌≢◌, cond, ◌&&◌, List, [], ◌∷◌, ◌++◌, ℕ, zero, suc, ◌+◌, ◌-◌, ◌*◌, ◌≤◌, ◌<◌, eqb, length, drop, get_or}
use Rattle.std.proofs.Common.{sym, ap, ◌∙◌, append-nil, append_assoc, arith, ne_eqb, drop-drop}
use Rattle.std.proofs.Math.Seq.{drop-nil}
use Rattle.paper.specs.Dtd.Letters.{opening, closing}
use Rattle.dtd_model_laws.specs.Walks.{Joint, free, commas, bars, joint_of}
use Rattle.dtd_brackets.specs.Stacks.{join, passed, open_at, open_none, open_next}
use Rattle.dtd_brackets.specs.Windows.{digit, code, power, Known, code_snoc, power_snoc, code_small, code_none}

-- ---- separators one after another

join_join : (k j : Joint) (l : List Joint) → k ≢ free → join k (join j l) ≡ join k l
join_join free j l n = absurd (n refl)
join_join commas free l n = refl
join_join commas commas [] n = refl
join_join commas commas (x ∷ l) n = refl
join_join commas bars [] n = refl
join_join commas bars (x ∷ l) n = refl
join_join bars free l n = refl
join_join bars commas [] n = refl
join_join bars commas (x ∷ l) n = refl
join_join bars bars [] n = refl
join_join bars bars (x ∷ l) n = refl

drop_join : (n : ℕ) (j : Joint) (l : List Joint) → drop (suc n) (join j l) ≡ drop (suc n) l
drop_join n free l = refl
drop_join n commas [] = refl
drop_join n commas (x ∷ l) = refl
drop_join n bars [] = refl
drop_join n bars (x ∷ l) = refl

join_free : (k : Joint) (l : List Joint) → join k (free ∷ l) ≡ k ∷ l
join_free free l = refl
join_free commas l = refl
join_free bars l = refl

join_none : (k : Joint) → join k [] ≡ []
join_none free = refl
join_none commas = refl
join_none bars = refl

commas_some : commas ≢ free
commas_some z = let d : ◌≡◌ {A = ℕ} 2 1 = ap digit z in omega arith

bars_some : bars ≢ free
bars_some z = let d : ◌≡◌ {A = ℕ} 3 1 = ap digit z in omega arith

-- what is found: a window on the brackets that are open, and there is none only if none is open
abbrev pub Recovered : List ℕ → (from at w : ℕ) → Type 0
Recovered text from at w = Known w (open_at text from at) × (w ≡ 0 → open_at text from at ≡ [])

-- ---- turns

-- Between i and `at` some brackets opened that are still open, and `level` closed that had opened before i; `now` is the digit of the
-- separator that the bracket has which was innermost behind those.
pub record Backward (text : List ℕ) (from at i level now w p : ℕ) : Type 0 where
  pub after : from ≤ i
  pub inside : i ≤ length text
  pub shallow : level + i ≤ length text
  pub found : List Joint
  pub joint : Joint
  pub digits : now ≡ digit joint
  pub coded : w ≡ code found
  pub powers : p ≡ power found
  pub same : open_at text from at ≡ found ++ join joint (drop level (open_at text from i))

module _ (text : List ℕ) (from at : ℕ) where
  pub begun : from ≤ at → at ≤ length text → Backward text from at at 0 1 0 1
  begun h k = record { after = h; inside = k; shallow = omega arith; found = []; joint = free; digits = refl; coded = refl; powers = refl; same = refl }

  module _ (i level now w p : ℕ) (b : Backward text from at i level now w p) where
    -- for the sums
    pub sum_small : (now * p ≤ 3 * p) × (w < p)
    sum_small = by b.joint b.digits
      where
        by : (j : Joint) → now ≡ digit j → (now * p ≤ 3 * p) × (w < p)
        by j e = let c = code_small b.found in let d = b.coded in let q = b.powers in (rw e (by_digit j), rw (d, q) c)
          where
            by_digit : (j : Joint) → digit j * p ≤ 3 * p
            by_digit free = omega arith
            by_digit commas = omega arith
            by_digit bars = omega arith

    -- ---- the ends

    pub at_start : i ≤ from → Recovered text from at w
    at_start h =
        let e : i ≡ from = let f = b.after in omega arith in
        let s : open_at text from at ≡ b.found = b.same ∙ rw (e, open_none text from, drop-nil level, join_none b.joint) (append-nil b.found) in
        (record { near = b.found; far = []; all = s ∙ sym (append-nil b.found); coded = b.coded }, λ z. s ∙ code_none b.found (sym b.coded ∙ z))

    pub at_enough : 1073741824 ≤ p → Recovered text from at w
    at_enough h = (
      record { near = b.found; far = join b.joint (drop level (open_at text from i)); all = b.same; coded = b.coded },
      λ z.
          let e = code_none b.found (sym b.coded ∙ z) in
          let f : p ≡ 1 = b.powers ∙ rw e in
          absurd (omega arith),
    )

    -- ---- the byte one place before
    module _ (h : from < i) where
      abbrev j : ℕ
      j = i - 1

      abbrev c : ℕ
      c = get_or text (i - 1) 0

      next : open_at text from i ≡ passed c (open_at text from j)
      next =
          let k = b.inside in
          let o : suc (i - 1) ≡ i = omega arith in
          ap (open_at text from) (sym o) ∙ open_next text from (i - 1) (omega arith) (omega arith)

      pub closed : get_or text (i - 1) 0 ≡ 41 → Backward text from at (i - 1) (level + 1) now w p
      closed e = let s = b.shallow in let k = b.inside in record {
        after = omega arith;
        inside = omega arith;
        shallow = omega arith;
        found = b.found;
        joint = b.joint;
        digits = b.digits;
        coded = b.coded;
        powers = b.powers;
        same = b.same ∙ rw (next, e, drop-drop level 1 (open_at text from j)) (let z : 1 + level ≡ level + 1 = omega arith in rw z);
      }

      pub opened : get_or text (i - 1) 0 ≡ 40 → level ≡ 0 → Backward text from at (i - 1) level 1 (w + now * p) (p * 4)
      opened e z = let s = b.shallow in let k = b.inside in record {
        after = omega arith;
        inside = omega arith;
        shallow = omega arith;
        found = b.found ++ (b.joint ∷ []);
        joint = free;
        digits = refl;
        coded = rw (code_snoc b.found b.joint, b.coded, b.digits, b.powers);
        powers = rw (power_snoc b.found b.joint, b.powers);
        same = b.same ∙ rw (next, e, z, join_free b.joint (open_at text from j)) (sym (append_assoc b.found (b.joint ∷ []) (open_at text from j)));
      }

      pub inner : get_or text (i - 1) 0 ≡ 40 → level ≢ 0 → Backward text from at (i - 1) (level - 1) now w p
      inner e z = let s = b.shallow in let k = b.inside in record {
        after = omega arith;
        inside = omega arith;
        shallow = omega arith;
        found = b.found;
        joint = b.joint;
        digits = b.digits;
        coded = b.coded;
        powers = b.powers;
        same = b.same ∙ rw (next, e) (by level z);
      }
        where
          by : (n : ℕ) → n ≢ 0 → b.found ++ join b.joint (drop n (free ∷ open_at text from j)) ≡ b.found ++ join b.joint (drop (n - 1) (open_at text from j))
          by zero z = absurd (z refl)
          by (suc n) z = let e : suc n - 1 ≡ n = omega arith in rw e

      -- any other byte: the separator, if it stands in the bracket that is looked for and is the last one there
      pub plain : (r : ℕ) → get_or text (i - 1) 0 ≢ 40 → get_or text (i - 1) 0 ≢ 41 → r ≡ cond (eqb level 0 && eqb now 1) (digit (joint_of (get_or text (i - 1) 0))) now
          → Backward text from at (i - 1) level r w p
      plain r x y q = by level b.joint b.digits b.same b.shallow q
        where
          step : open_at text from i ≡ join (joint_of c) (open_at text from j)
          step = next ∙ rw (ne_eqb c opening x, ne_eqb c closing y)

          made : (n : ℕ) (k : Joint) → r ≡ digit k → n + i ≤ length text → open_at text from at ≡ b.found ++ join k (drop n (open_at text from j)) → Backward text from at (i - 1) n r w p
          made n k d s e = record {
            after = omega arith;
            inside = let k = b.inside in omega arith;
            shallow = omega arith;
            found = b.found;
            joint = k;
            digits = d;
            coded = b.coded;
            powers = b.powers;
            same = e;
          }

          by : (n : ℕ) (k : Joint) → now ≡ digit k → open_at text from at ≡ b.found ++ join k (drop n (open_at text from i)) → n + i ≤ length text
              → r ≡ cond (eqb n 0 && eqb now 1) (digit (joint_of c)) now → Backward text from at (i - 1) n r w p
          by zero free d e s q = made zero (joint_of c) (q ∙ rw d) s (e ∙ rw step)
          by zero commas d e s q =
              made zero commas (q ∙ rw d) s (e ∙ rw step (ap (λ t. b.found ++ t) (join_join commas (joint_of c) (open_at text from j) commas_some)))
          by zero bars d e s q =
              made zero bars (q ∙ rw d) s (e ∙ rw step (ap (λ t. b.found ++ t) (join_join bars (joint_of c) (open_at text from j) bars_some)))
          by (suc n) k d e s q =
              made (suc n) k (q ∙ rw (ne_eqb (suc n) 0 (λ z. omega arith)) d) s (e ∙ rw (step, drop_join n (joint_of c) (open_at text from j)))

-- a window that is not empty
pub kept : (text : List ℕ) (from at w : ℕ) → Known w (open_at text from at) → w ≢ 0 → Recovered text from at w
kept text from at w k n = (k, λ z. absurd (n z))
