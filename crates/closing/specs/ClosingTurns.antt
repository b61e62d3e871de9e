-- The turns of the loop that writes `closing`, from the last place to the first. Assumes nothing.
use Rattle.std.specs.Prelude.{◌≡◌, refl, Bool, true, false, cond, List, [], ◌∷◌, ◌++◌, ℕ, zero, suc, ◌+◌, ◌-◌, ◌≤◌, ◌<◌, ltb, length, get_or, take, drop, set}
use Rattle.std.proofs.Common.{sym, ap, ap₂, ◌∙◌, add-zero, arith, ltb-true, ltb-false, length-set, length-drop, take-append-drop, drop_of_length-le, take-suc, length-take-le, drop-drop, get_or-append-add, get_or-take}
use Rattle.std.proofs.Math.ListN.{get_or-append}
use Rattle.std.proofs.Math.Seq.{append_snoc}
use Rattle.std.proofs.lemmas.List.{set_at, length-map}
use Rattle.paper.specs.declared.Tok.{Tok}
use Rattle.paper.specs.declared.Tok.TheVariants.{Start, End, Text, Attr, Value, Bad}
use Rattle.paper.specs.Tokens.{tok_of, toks, close}
use Rattle.shape_laws.specs.Ends.{rest_at, rest_past}
use Rattle.places.specs.Items.{close_le}
use Rattle.closing.specs.Closing.{closing, closing_at, close_outer, close_none, closing_length, closing_at_lem}

-- from place p on all is written, and e is what stands at p
pub record Closing (doc out₀ out : List ℕ) (p e : ℕ) : Type 0 where
  pub place : p ≤ length doc
  pub here : e ≡ p + close zero (drop p (toks doc))
  pub low : e ≤ length doc
  pub room : length out ≡ length out₀
  pub written : out ≡ take p out₀ ++ (closing p (drop p (toks doc)) ++ drop (length doc) out₀)

pub closing_none : (doc out₀ : List ℕ) → Closing doc out₀ out₀ (length doc) (length doc)
closing_none doc out₀ = record {
  place = omega arith;
  here = rw (rest_past doc (length doc) (omega arith)) (omega arith);
  low = omega arith;
  room = refl;
  written = rw (rest_past doc (length doc) (omega arith)) (sym (take-append-drop (length doc) out₀));
}

pub closing_all : (doc out₀ out : List ℕ) (p e : ℕ) → Closing doc out₀ out p e → p ≤ 0 → out ≡ closing 0 (toks doc) ++ drop (length doc) out₀
closing_all doc out₀ out p e c h =
    let z : p ≡ 0 = omega arith in
    rw z at c.written

module _ (doc out₀ out : List ℕ) (m : length doc ≤ length out₀) (p e : ℕ) (c : Closing doc out₀ out (suc p) e) where
  abbrev d : List Tok
  d = toks doc

  size : length d ≡ length doc
  size = length-map doc tok_of

  -- what is written at a later place
  later : (j : ℕ) → suc p ≤ j → j < length doc → get_or out j 0 ≡ j + close zero (drop j d)
  later j a b =
      let used = size in
      let i : ℕ = j - suc p in
      let front : length (take (suc p) out₀) ≡ suc p = length-take-le (suc p) out₀ (omega (arith, c.place)) in
      let z : j ≡ length (take (suc p) out₀) + i = omega arith in
      let y : suc p + i ≡ j = omega arith in
      ap₂ (λ (l : List ℕ) (k : ℕ). get_or l k 0) c.written z
      ∙ get_or-append-add (take (suc p) out₀) (closing (suc p) (drop (suc p) d) ++ drop (length doc) out₀) i 0
      ∙ get_or-append (closing (suc p) (drop (suc p) d)) (drop (length doc) out₀) 0 i (omega (arith, closing_length (suc p) (drop (suc p) d), length-drop (suc p) d))
      ∙ closing_at_lem (suc p) (drop (suc p) d) i (omega (arith, length-drop (suc p) d))
      ∙ rw (drop-drop, y)

  -- at a start, from the end of that element
  at_start : (b : Bool) → ltb (e + 1) (length doc) ≡ b → cond b (get_or out (e + 1) 0) (length doc) ≡ p + suc (close 1 (drop (suc p) d))
  at_start true f =
      let used = size in
      let r : List Tok = drop (suc p) d in
      let h : e + 1 < length doc = ltb-true (e + 1) (length doc) f in
      let z : suc p + suc (close 0 r) ≡ e + 1 = omega (arith, c.here) in
      let same : close 0 (drop (suc (close 0 r)) r) ≡ close 0 (drop (e + 1) d) = ap (close 0) (drop-drop (suc (close 0 r)) (suc p) d ∙ ap (λ (k : ℕ). drop k d) z) in
      omega (arith, later (e + 1) (omega arith) h, close_outer 0 r (omega (arith, length-drop (suc p) d)), same)
  at_start false f = go (ltb e (length doc)) refl
    where
      go : (b : Bool) → ltb e (length doc) ≡ b → length doc ≡ p + suc (close 1 (drop (suc p) d))
      go true g =
          let used = size in
          let r : List Tok = drop (suc p) d in
          let h : e < length doc = ltb-true e (length doc) g in
          let last : length doc ≤ e + 1 = ltb-false (e + 1) (length doc) f in
          let behind : drop (suc (close 0 r)) r ≡ [] = drop_of_length-le r {i = suc (close 0 r)} (omega (arith, c.here, length-drop (suc p) d)) in
          omega (arith, c.here, close_outer 0 r (omega (arith, length-drop (suc p) d)), ap (close 0) behind)
      go false g =
          let used = size in
          let r : List Tok = drop (suc p) d in
          let last : length doc ≤ e = ltb-false e (length doc) g in
          omega (arith, c.here, length-drop (suc p) d, close_none 0 r (omega (arith, c.here, length-drop (suc p) d)))

  -- what belongs at p
  value : (t : Tok) → closing_at (take (length doc) out) p e t ≡ p + close zero (t ∷ drop (suc p) d)
  value (Start n) =
      let whole : length (take (length doc) out) ≡ length doc = length-take-le (length doc) out (omega (arith, c.room)) in
      rw whole (look (ltb (e + 1) (length doc)) refl)
    where
      look : (b : Bool) → ltb (e + 1) (length doc) ≡ b → cond b (get_or (take (length doc) out) (e + 1) 0) (length doc) ≡ p + suc (close 1 (drop (suc p) d))
      look true f = get_or-take (length doc) out (e + 1) 0 (ltb-true (e + 1) (length doc) f) ∙ at_start true f
      look false f = at_start false f
  value End = rw add-zero
  value (Text n) = omega (arith, c.here)
  value (Attr n) = omega (arith, c.here)
  value (Value n) = omega (arith, c.here)
  value Bad = omega (arith, c.here)

module _ (doc out₀ out : List ℕ) (i e : ℕ) (m : length doc ≤ length out₀)
    (c' : Closing doc out₀ out i e) (h : 0 < i)
    {r : ℕ} (er : r ≡ closing_at (take (length doc) out) (i - 1) e (tok_of (get_or doc (i - 1) 0))) where
  -- the place before i is written
  pub closing_turn : Closing doc out₀ (set out (i - 1) r) (i - 1) r
  closing_turn =
      let d : List Tok = toks doc in
      let p : ℕ = i - 1 in
      let t : Tok = tok_of (get_or doc p 0) in
      let z : i ≡ suc p = omega arith in
      let c : Closing doc out₀ out (suc p) e = rw z at c' in
      let x : List ℕ = closing (suc p) (drop (suc p) d) ++ drop (length doc) out₀ in
      let size : length d ≡ length doc = length-map doc tok_of in
      let next : drop p d ≡ t ∷ drop (suc p) d = rest_at doc p (omega (arith, c.place)) in
      let is : r ≡ p + close zero (t ∷ drop (suc p) d) = er ∙ value doc out₀ out m p e c t in
      record {
        place = omega (arith, c.place);
        here = rw next is;
        low = omega (arith, c.place, close_le 0 (t ∷ drop (suc p) d), length-drop (suc p) d);
        room = length-set out p r ∙ c.room;
        written =
            ap (λ (o : List ℕ). set o p r) (c.written ∙ ap (λ (o : List ℕ). o ++ x) (take-suc out₀ p 0 (omega (arith, c.place))) ∙ append_snoc (take p out₀) (get_or out₀ p 0) x)
            ∙ set_at (take p out₀) (get_or out₀ p 0) x r p (length-take-le p out₀ (omega (arith, c.place)))
            ∙ rw (next, is);
      }

  pub closing_low : r ≤ length doc
  closing_low = closing_turn.low
