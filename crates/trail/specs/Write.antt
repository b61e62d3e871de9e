-- The names that led to an entry, counted and written from the last one on. Assumes nothing.
use Rattle.std.specs.Prelude.{◌≡◌, refl, List, [], ◌∷◌, ◌++◌, ℕ, suc, ◌+◌, ◌-◌, ◌≤◌, ◌<◌, length, drop, get_or, set}
use Rattle.std.proofs.Common.{◌∙◌, ap, append_assoc, arith, length-append, length-set, length-drop, drop-cons, get_or-set_same, drop-set-lt}
use Rattle.trail.specs.Spells.{Spells, root, more}

-- a word led to the entry
pub record Traced (from : List ℕ) (entry : ℕ) : Type 0 where
  pub name : List ℕ
  pub word : List ℕ
  pub spells : Spells from name entry word
  pub in_from : entry < length from

-- n is the length of whatever led to the entry
abbrev pub Counted : (from : List ℕ) → (entry n : ℕ) → Type 0
Counted from entry n = (name w : List ℕ) → Spells from name entry w → n ≡ length w

-- a word led to the entry, and the buffer has room for it
pub record Spelled (from name : List ℕ) (entry room : ℕ) : Type 0 where
  pub word : List ℕ
  pub spells : Spells from name entry word
  pub fits : length word ≤ room
  pub in_from : entry < length from
  pub in_name : entry < length name

pub traced : {from name : List ℕ} {entry room : ℕ} → Spelled from name entry room → Traced from entry
traced {from} {name} p = record { name = name; word = p.word; spells = p.spells; in_from = p.in_from }

-- whatever led to the entry was written, and r is its length
pub record Wrote (from name : List ℕ) (entry : ℕ) (before after : List ℕ) (r : ℕ) : Type 0 where
  pub long : (w : List ℕ) → Spells from name entry w → r ≡ length w
  pub text : (w : List ℕ) → Spells from name entry w → after ≡ w ++ drop (length w) before

-- ---- one entry back

pub spells_none : (from name : List ℕ) (i : ℕ) (w : List ℕ) → Spells from name i w → i ≤ 0 → w ≡ []
spells_none from name i w (root e d) h = d
spells_none from name i w (more u p b c s) h = absurd (omega arith)

-- w is u with the entry's name behind it
pub record Back (from name : List ℕ) (i : ℕ) (w : List ℕ) : Type 0 where
  pub u : List ℕ
  pub less : get_or from i 0 < i
  pub split : w ≡ u ++ get_or name i 0 ∷ []
  pub spells : Spells from name (get_or from i 0) u

pub back : (from name : List ℕ) (i : ℕ) (w : List ℕ) → Spells from name i w → 0 < i → Back from name i w
back from name i w (root e d) h = absurd (omega arith)
back from name i w (more u p b c s) h = record { u = u; less = b; split = c; spells = s }

back_long : {from name : List ℕ} {i : ℕ} {w : List ℕ} (b : Back from name i w) → length w ≡ length b.u + 1
back_long {from} {name} {i} b = ap length b.split ∙ length-append b.u (get_or name i 0 ∷ [])

-- an entry has no more names than its number: each is met from an earlier one
spells_short : {from name : List ℕ} {i : ℕ} {w : List ℕ} → Spells from name i w → length w ≤ i
spells_short (root e d) = rw d (omega arith)
spells_short {from} {name} {i} (more u p b c s) =
    let h = spells_short s in
    omega (arith, ap length c, length-append u (get_or name i 0 ∷ []))

-- ---- counting

-- n names were counted, entry j is the next
pub record Counting (from : List ℕ) (entry n j : ℕ) : Type 0 where
  pub below : j ≤ entry
  pub count : (name w : List ℕ) → Spells from name entry w → (u : List ℕ) × Spells from name j u × (n + length u ≡ length w)

pub count_none : (from : List ℕ) (entry : ℕ) → Counting from entry 0 entry
count_none from entry = record { below = omega arith; count = λ name w s. (w, s, omega arith) }

module _ {from : List ℕ} {entry n j : ℕ} (p : Traced from entry) (g : Counting from entry n j) where
  -- fewer names were counted than the entry's number
  pub count_room : 0 < j → n < entry
  count_room h =
      let (u, s, e) = g.count p.name p.word p.spells in
      let b = back_long (back from p.name j u s h) in
      let f = spells_short p.spells in
      omega arith

  pub count_less : 0 < j → get_or from j 0 < j
  count_less h = let (u, s, e) = g.count p.name p.word p.spells in (back from p.name j u s h).less

  pub count_more : 0 < j → Counting from entry (n + 1) (get_or from j 0)
  count_more h = record {
    below = let l = count_less h in let b = g.below in omega arith;
    count = λ name w t. let (u, s, e) = g.count name w t in let b = back from name j u s h in (b.u, b.spells, omega (arith, back_long b));
  }

pub count_all : {from : List ℕ} {entry n j : ℕ} → Counting from entry n j → j ≤ 0 → Counted from entry n
count_all {from} {j = j} g h = λ name w t. let (u, s, e) = g.count name w t in omega (arith, ap length (spells_none from name j u s h))

-- ---- writing

-- entry i is the next, and its name goes before place k
pub record Writing (from name : List ℕ) (entry : ℕ) (before now : List ℕ) (k i : ℕ) : Type 0 where
  pub below : i ≤ entry
  pub same_length : length now ≡ length before
  pub rest : (w : List ℕ) → Spells from name entry w → (u : List ℕ) × Spells from name i u × (k ≡ length u) × (u ++ drop k now ≡ w ++ drop (length w) before)

pub write_none : {from : List ℕ} (name : List ℕ) {entry n : ℕ} (before : List ℕ) → Counted from entry n → Writing from name entry before before n entry
write_none {from} name {entry} {n} before g = record {
  below = omega arith;
  same_length = refl;
  rest = λ w t. let z = g name w t in (w, t, z, rw z);
}

-- a name before the rest
write_one : (u : List ℕ) (a k : ℕ) (now : List ℕ) → k ≡ length u → k < length now → u ++ drop k (set now k a) ≡ (u ++ a ∷ []) ++ drop (suc k) now
write_one u a k now e h =
    let d : drop k (set now k a) ≡ a ∷ drop (suc k) now =
    drop-cons (set now k a) k 0 (rw (length-set now k a) h) ∙ (rw (get_or-set_same now k a 0 h, drop-set-lt (suc k) now k a (omega arith))) in
    rw (d, append_assoc)

module _ {from name : List ℕ} {entry room : ℕ} {before now : List ℕ} {k i : ℕ} (p : Spelled from name entry room) (g : Writing from name entry before now k i) where
  pub write_less : 0 < i → get_or from i 0 < i
  write_less h = let (u, s, e, t) = g.rest p.word p.spells in (back from name i u s h).less

  pub write_some : 0 < i → 1 ≤ k
  write_some h = let (u, s, e, t) = g.rest p.word p.spells in let b = back_long (back from name i u s h) in omega arith

  pub write_room : 0 < i → room ≡ length before → k - 1 < length now
  write_room h l =
      let w = p.word in
      let (u, s, e, f) = g.rest w p.spells in
      let n = g.same_length in
      let r = p.fits in
      let m = write_some h in
      omega (arith, ap length f, length-append u (drop k now), length-append w (drop (length w) before), length-drop k now, length-drop (length w) before)

  pub write_more : 0 < i → k - 1 < length now → Writing from name entry before (set now (k - 1) (get_or name i 0)) (k - 1) (get_or from i 0)
  write_more h l = record {
    below = let m = write_less h in let b = g.below in omega arith;
    same_length = length-set now (k - 1) (get_or name i 0) ∙ g.same_length;
    rest = λ w t.
        let (u, s, e, f) = g.rest w t in
        let b = back from name i u s h in
        let c : k - 1 ≡ length b.u = omega (arith, back_long b) in
        let d : suc (k - 1) ≡ k = omega (arith, back_long b) in
        (b.u, b.spells, c, write_one b.u (get_or name i 0) (k - 1) now c l ∙ (rw (d, ← b.split) f));
  }

-- nothing is left to write
pub write_all : {from name : List ℕ} {entry n : ℕ} {before now : List ℕ} {k i : ℕ} → Counted from entry n
    → Writing from name entry before now k i → i ≤ 0 → Wrote from name entry before now n
write_all {from} {name} {entry} {n} {before} {now} {k} {i} c g l = record {
  long = λ w t. c name w t;
  text = λ w t.
      let (u, s, e, f) = g.rest w t in
      let z : u ≡ [] = spells_none from name i u s l in
      let y : k ≡ 0 = e ∙ ap length z in
      rw (z, y) at f;
}
