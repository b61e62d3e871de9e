-- A name tried from an entry, in the code's arrays. Assumes nothing.
use Rattle.std.specs.Prelude.{◌≡◌, refl, Option, Some, None, List, [], ◌∷◌, ◌++◌, ℕ, suc, ◌+◌, ◌-◌, ◌≤◌, ◌<◌, length, get_or, set, replicate}
use Rattle.std.proofs.Common.{sym, ◌∙◌, ap, inl, add-one, arith, eq-eqb, ne_eqb, length-set, length-append, get_or-set_same}
use Rattle.std.proofs.Math.Option.{Option as Maybe, none, some}
use Rattle.paper.specs.Basics.{sequence_places}
use Rattle.inclusion_laws.specs.Members.{blank, left_set}
use Rattle.inclusion_laws.specs.Search.{Entry, Queue, offer, expand, found}
use Rattle.inclusion_laws.specs.Invariant.{place}
use Rattle.inclusion_laws.proofs.Turns.{offered, tried}
use Rattle.inclusion_laws.specs.Pairs.{Pair, Inside, InsideRun, pairs}
use Rattle.inclusion_laws.proofs.Pairs.{good_inside}
use Rattle.pairs.specs.Number.{Paired, leads_to}
use Rattle.pairs.specs.Leads.{paired, numbered, leads_pair}
use Rattle.std.proofs.lemmas.List.{length-map, length-replicate}
use Rattle.trail.specs.declared.Entry.{Entry as Noted}
use Rattle.trail.specs.Entries.{mets, froms, names, no_entry, mets_set, froms_set, names_set}
use Rattle.trail.specs.Spells.{Spells, spells_set, spells_new}
use Rattle.breadth.specs.Turn.{go_begin}
use Rattle.breadth.specs.Going.{Blocks, sound_of, Queued, queued_set, queued_snoc, queue, Going, Trying}

module _ {old new : List ℕ} {E : ℕ} {seen met from name : List ℕ} {head tail p a : ℕ} (g : Trying old new E seen met from name head tail p a) where
  abbrev from_x : Maybe Pair
  from_x = (pairs old new).step g.x.pair a

  good : Inside old g.x.pair.was × InsideRun new g.x.pair.is
  good =
      let b = g.blocks in
      good_inside E b.new_elements old new b.old_run b.new_run b.some_names g.x.pair (g.expanding.base.fits g.x (inl (inl refl)))

  pub try_pair : Paired old new p
  try_pair = let b = g.blocks in let (i, j) = good in paired old new b.old_ready b.new_ready g.x.pair i j p g.here

  leads_step : leads_to old new p a ≡ numbered old new from_x
  leads_step = let b = g.blocks in let (i, j) = good in leads_pair old new b.old_ready b.new_ready g.x.pair i j p g.here a

  -- what is met stays in the arrays
  pub try_room : tail ≤ sequence_places
  try_room = let r = g.expanding.base.room in let b = g.behind in let e = g.ends in omega arith

  -- the answer from a queue on, the names above a still to be tried from the entry
  abbrev left_over : Queue Pair → Maybe (List ℕ)
  left_over s =
      let t : Queue Pair = expand (pairs old new) g.x (suc a) (E - suc a) s in
      found (pairs old new) E (sequence_places - suc head) t.seen t.todo

  -- one more name, the queue and the arrays as it leaves them
  tried_one : a < E → (seen₁ met₁ from₁ name₁ : List ℕ) (todo₁ : List (Entry Pair)) (tail₁ : ℕ)
      → offer (pairs old new) g.x a from_x (queue seen g.todo) ≡ queue seen₁ todo₁
      → Queued old new met₁ from₁ name₁ (suc head) todo₁ → Spells from₁ name₁ head g.x.word → suc head + length todo₁ ≡ tail₁
      → length met₁ ≡ sequence_places → length from₁ ≡ sequence_places → length name₁ ≡ sequence_places
      → Trying old new E seen₁ met₁ from₁ name₁ head tail₁ p (a + 1)
  tried_one h seen₁ met₁ from₁ name₁ todo₁ tail₁ e q s t m f n =
      let z : E - a ≡ suc (E - suc a) = omega arith in
      rw add-one (record {
        blocks = g.blocks;
        x = g.x;
        done = g.done;
        todo = todo₁;
        expanding = rw e at (offered (pairs old new) E sequence_places (sound_of old new E g.blocks) g.x g.done (queue seen g.todo) a g.expanding);
        queued = q;
        spelled = s;
        here = g.here;
        ends = t;
        behind = g.behind;
        up_to = h;
        answer = (rw z at g.answer) ∙ ap left_over e;
        met_long = m;
        from_long = f;
        name_long = n;
      })

  -- a pair to which a name leads has a number below 4,290
  pair_below : (y : Pair) → from_x ≡ some y → (pairs old new).number y < sequence_places
  pair_below y e =
      let f = sound_of old new E g.blocks in
      f.few y (f.goes g.x.pair y a (g.expanding.base.fits g.x (inl (inl refl))) e)

  same : a < E → offer (pairs old new) g.x a from_x (queue seen g.todo) ≡ queue seen g.todo → Trying old new E seen met from name head tail p (a + 1)
  same h e = tried_one h seen met from name g.todo tail e g.queued g.spelled g.ends g.met_long g.from_long g.name_long

  -- it leads nowhere
  pub try_nowhere : {r : Option ℕ} → a < E → r ≡ leads_to old new p a → r ≡ None → Trying old new E seen met from name head tail p (a + 1)
  try_nowhere {r} h e l = same h (go from_x (sym l ∙ e ∙ leads_step))
    where
      go : (o : Maybe Pair) → None ≡ numbered old new o → offer (pairs old new) g.x a o (queue seen g.todo) ≡ queue seen g.todo
      go none k = refl
      go (some y) k = cc

  -- it leads to a pair that was met
  pub try_met : {r : Option ℕ} (q : ℕ) → a < E → r ≡ leads_to old new p a → r ≡ Some q → ¬ (get_or seen q 0 ≡ 0) → Trying old new E seen met from name head tail p (a + 1)
  try_met q h e l n = same h (go from_x (sym l ∙ e ∙ leads_step))
    where
      go : (o : Maybe Pair) → Some q ≡ numbered old new o → offer (pairs old new) g.x a o (queue seen g.todo) ≡ queue seen g.todo
      go none k = refl
      go (some y) k = let d : q ≡ (pairs old new).number y = cc in rw (← d, ne_eqb (get_or seen q 0) 0 n)

  -- a pair's number is a place of the marks
  pub try_below : {r : Option ℕ} (q : ℕ) → r ≡ leads_to old new p a → r ≡ Some q → q < sequence_places
  try_below q e l = go from_x refl (sym l ∙ e ∙ leads_step)
    where
      go : (o : Maybe Pair) → from_x ≡ o → Some q ≡ numbered old new o → q < sequence_places
      go none d k = cc
      go (some y) d k = let b = pair_below y d in let e : q ≡ (pairs old new).number y = cc in omega arith

  pub try_marked : {r : Option ℕ} (q : ℕ) → r ≡ leads_to old new p a → r ≡ Some q → q < length seen
  try_marked q e l = let b = try_below q e l in let s = g.expanding.base.size in omega arith

  -- it leads to a new pair: there is room for it
  new_room : (q : ℕ) → q < sequence_places → get_or seen q 0 ≡ 0 → tail < sequence_places
  new_room q l n =
      let b = g.expanding.base in
      let k = left_set seen q (let s = b.size in omega arith) n in
      let r = b.room in
      let d = g.behind in
      let e = g.ends in
      omega arith

  pub new_places : {r : Option ℕ} (q : ℕ) → r ≡ leads_to old new p a → r ≡ Some q → get_or seen q 0 ≡ 0 → (tail < length met) × (tail < length from) × (tail < length name)
  new_places q e l n = let t = new_room q (try_below q e l) n in (omega (arith, g.met_long), omega (arith, g.from_long), omega (arith, g.name_long))

  pub try_new : {r : Option ℕ} (q : ℕ) → a < E → r ≡ leads_to old new p a → r ≡ Some q → get_or seen q 0 ≡ 0
      → Trying old new E (set seen q 1) (set met tail q) (set from tail head) (set name tail a) head (tail + 1) p (a + 1)
  try_new q h e l n = go from_x refl (sym l ∙ e ∙ leads_step)
    where
      go : (o : Maybe Pair) → from_x ≡ o → Some q ≡ numbered old new o
          → Trying old new E (set seen q 1) (set met tail q) (set from tail head) (set name tail a) head (tail + 1) p (a + 1)
      go none d k = cc
      go (some y) d c =
          let k : q ≡ (pairs old new).number y = cc in
          let t = new_room q (try_below q e l) n in
          let m = g.met_long in
          let f = g.from_long in
          let u = g.name_long in
          let b = g.ends in
          let v : Entry Pair = record { pair = y; word = g.x.word ++ a ∷ [] } in
          let i : head < tail = omega arith in
          let s : Spells (set from tail head) (set name tail a) tail v.word = spells_new from name tail head a (omega arith) (omega arith) g.spelled i in
          let w : offer (pairs old new) g.x a from_x (queue seen g.todo) ≡ queue (set seen q 1) (g.todo ++ v ∷ []) =
          ap (λ o. offer (pairs old new) g.x a o (queue seen g.todo)) d ∙ (rw (← k, eq-eqb (get_or seen q 0) 0 n)) in
          let q₁ = queued_set old new met from name g.todo (suc head) tail q head a g.queued (omega arith) in
          tried_one h (set seen q 1) (set met tail q) (set from tail head) (set name tail a) (g.todo ++ v ∷ []) (tail + 1) w
          (queued_snoc old new (set met tail q) (set from tail head) (set name tail a) g.todo (suc head) tail v q₁ b (get_or-set_same met tail q 0 (omega arith) ∙ k) s)
          (spells_set from name tail head a g.spelled i)
          (omega (arith, length-append g.todo (v ∷ [])))
          (length-set met tail q ∙ m)
          (length-set from tail head ∙ f)
          (length-set name tail a ∙ u)

  -- every name was tried
  pub try_all : E ≤ a → Going old new E seen met from name (head + 1) tail
  try_all h =
      let c : a ≡ E = let u = g.up_to in omega arith in
      let z : E - a ≡ 0 = omega arith in
      rw add-one (record {
        blocks = g.blocks;
        done = g.x ∷ g.done;
        todo = g.todo;
        lo = suc (place E g.x);
        stands = tried (pairs old new) E sequence_places (sound_of old new E g.blocks) g.x g.done (queue seen g.todo) (rw c at g.expanding);
        queued = g.queued;
        ends = g.ends;
        behind = ap suc g.behind;
        answer = rw z at g.answer;
        met_long = g.met_long;
        from_long = g.from_long;
        name_long = g.name_long;
      })

-- ---- the same of entries

module _ {old new : List ℕ} {E : ℕ} {seen : List ℕ} (es : List Noted) {head tail p a : ℕ} (g : Trying old new E seen (mets es) (froms es) (names es) head tail p a) where
  pub entry_here : head < length es
  entry_here = let r = try_room g in let e = g.ends in omega (arith, g.met_long, length-map es (λ (e : Noted). e.met))

  pub entry_room : {r : Option ℕ} (q : ℕ) → r ≡ leads_to old new p a → r ≡ Some q → get_or seen q 0 ≡ 0 → tail < length es
  entry_room q e l n = let (i, j, k) = new_places g q e l n in omega (arith, length-map es (λ (e : Noted). e.met))

  pub entry_new : {r : Option ℕ} (q : ℕ) → a < E → r ≡ leads_to old new p a → r ≡ Some q → get_or seen q 0 ≡ 0 → (x : Noted) → x ≡ record { met = q; from = head; name = a }
      → Trying old new E (set seen q 1) (mets (set es tail x)) (froms (set es tail x)) (names (set es tail x)) head (tail + 1) p (a + 1)
  entry_new q h e l n x i = rw (i, mets_set, froms_set, names_set) (try_new g q h e l n)

-- ---- the first entry

-- the entries as the search begins
abbrev pub started : List Noted
started = set (replicate sequence_places no_entry) 0 (record { met = 1; from = 0; name = 0 })

pub go_started : {old new : List ℕ} {E : ℕ} → Blocks old new E → Going old new E (set (blank sequence_places) 1 1) (mets started) (froms started) (names started) 0 1
go_started b =
    let long : length started ≡ sequence_places = length-set (replicate sequence_places no_entry) 0 (record { met = 1; from = 0; name = 0 }) ∙ length-replicate sequence_places no_entry in
    go_begin b (mets started) (froms started) (names started) refl (length-map started (λ (e : Noted). e.met) ∙ long) (length-map started (λ (e : Noted). e.from) ∙ long) (length-map started (λ (e : Noted). e.name) ∙ long)
