-- The turns of the search in the code's arrays. Assumes nothing.
use Rattle.std.specs.Prelude.{◌≡◌, true, false, not, ◌&&◌, ℕ, zero, suc, ◌+◌, ◌-◌, ◌≤◌, ◌<◌, length, get_or, set}
use Rattle.std.proofs.Math.Path.{refl}
use Rattle.std.proofs.Common.{sym, ◌∙◌, inl, inr, arith}
use Rattle.std.proofs.Math.Option.{none, some}
use mathlib.Core.List.{List, [], ◌∷◌}
use Rattle.paper.specs.Basics.{sequence_places}
use Rattle.inclusion_laws.specs.Members.{blank}
use Rattle.inclusion_laws.specs.Search.{Entry, found, searched}
use Rattle.inclusion_laws.specs.Turns.{Standing}
use Rattle.inclusion_laws.proofs.Turns.{taken}
use Rattle.inclusion_laws.proofs.Found.{begins_at}
use Rattle.inclusion_laws.specs.Pairs.{Pair, Inside, InsideRun, pairs, stops}
use Rattle.inclusion_laws.proofs.Pairs.{good_inside}
use Rattle.pairs.specs.Number.{old_at, new_at, Paired}
use Rattle.pairs.specs.Leads.{paired, losing_pair}
use Rattle.trail.specs.Spells.{Spells, root}
use Rattle.breadth.specs.Going.{Blocks, sound_of, Queued, queue, Going, Trying}

-- the search stands before an entry x
record Facing (old new : List ℕ) (E : ℕ) (seen met from name : List ℕ) (head tail : ℕ) : Type 0 where
  blocks : Blocks old new E
  x : Entry Pair
  rest : List (Entry Pair)
  done : List (Entry Pair)
  lo : ℕ
  stands : Standing (pairs old new) E sequence_places (sound_of old new E blocks) done (queue seen (x ∷ rest)) lo
  here : get_or met head 0 ≡ (pairs old new).number x.pair
  spelled : Spells from name head x.word
  queued : Queued old new met from name (suc head) rest
  ends : head + suc (length rest) ≡ tail
  behind : length done ≡ head
  answer : searched (pairs old new) E sequence_places ≡ found (pairs old new) E (sequence_places - head) seen (x ∷ rest)

module _ {old new : List ℕ} {E : ℕ} where
  -- ---- the start

  pub go_begin : Blocks old new E → (met from name : List ℕ) → get_or met 0 0 ≡ 1 → length met ≡ sequence_places → length from ≡ sequence_places → length name ≡ sequence_places
      → Going old new E (set (blank sequence_places) 1 1) met from name 0 1
  unfolding searched
  go_begin b met from name here met_long from_long name_long = record {
    blocks = b;
    done = [];
    todo = record { pair = (pairs old new).begin; word = [] } ∷ [];
    lo = 0;
    stands = begins_at (pairs old new) E sequence_places (sound_of old new E b);
    queued = (here, root refl refl, tt);
    ends = refl;
    behind = refl;
    answer = refl;
    met_long = met_long;
    from_long = from_long;
    name_long = name_long;
  }

  -- ---- the next entry

  module _ {seen met from name : List ℕ} {head tail : ℕ} (g : Going old new E seen met from name head tail) where
    facing : head < tail → Facing old new E seen met from name head tail
    facing h = go g.todo g.stands g.queued g.ends g.answer
      where
        go : (l : List (Entry Pair)) → Standing (pairs old new) E sequence_places (sound_of old new E g.blocks) g.done (queue seen l) g.lo
            → Queued old new met from name head l → head + length l ≡ tail → searched (pairs old new) E sequence_places ≡ found (pairs old new) E (sequence_places - head) seen l
            → Facing old new E seen met from name head tail
        go [] s q e a = absurd (omega arith)
        go (x ∷ rest) s (i, j, k) e a = record {
          blocks = g.blocks;
          x = x;
          rest = rest;
          done = g.done;
          lo = g.lo;
          stands = s;
          here = i;
          spelled = j;
          queued = k;
          ends = e;
          behind = g.behind;
          answer = a;
        }

    pub go_room : tail ≤ sequence_places
    go_room = let r = g.stands.base.room in let b = g.behind in let e = g.ends in omega arith

  module _ {seen met from name : List ℕ} {head tail : ℕ} (f : Facing old new E seen met from name head tail) where
    good : Inside old f.x.pair.was × InsideRun new f.x.pair.is
    good =
        let b = f.blocks in
        good_inside E b.new_elements old new b.old_run b.new_run b.some_names f.x.pair (f.stands.base.fits f.x (inr (inl refl)))

    fuel : sequence_places - head ≡ suc (sequence_places - suc head)
    fuel = let r = f.stands.base.room in let b = f.behind in let e = f.ends in omega arith

    facing_pair : Paired old new (get_or met head 0)
    facing_pair = let b = f.blocks in let (i, j) = good in paired old new b.old_ready b.new_ready f.x.pair i j (get_or met head 0) f.here

    facing_losing : stops old (old_at (get_or met head 0)) && not (stops new (new_at (get_or met head 0))) ≡ (pairs old new).losing f.x.pair
    facing_losing = let b = f.blocks in let (i, j) = good in losing_pair old new b.old_ready b.new_ready f.x.pair i j (get_or met head 0) f.here

  module _ {seen met from name : List ℕ} {head tail : ℕ} (g : Going old new E seen met from name head tail) where
    pub go_pair : head < tail → Paired old new (get_or met head 0)
    go_pair h = facing_pair (facing g h)

    -- no entry is left
    pub go_none : tail ≤ head → searched (pairs old new) E sequence_places ≡ none
    go_none h = go g.todo (sequence_places - head) g.ends g.answer
      where
        go : (l : List (Entry Pair)) (n : ℕ) → head + length l ≡ tail → searched (pairs old new) E sequence_places ≡ found (pairs old new) E n seen l
            → searched (pairs old new) E sequence_places ≡ none
        go [] zero e a = a
        go [] (suc n) e a = a
        go (x ∷ l) n e a = absurd (omega arith)

    -- the entry loses what led to it
    pub go_found : head < tail → stops old (old_at (get_or met head 0)) && not (stops new (new_at (get_or met head 0))) ≡ true
        → (w : List ℕ) × Spells from name head w × (length w < sequence_places) × (searched (pairs old new) E sequence_places ≡ some w)
    go_found h t =
        let f = facing g h in
        let l : (pairs old new).losing f.x.pair ≡ true = sym (facing_losing f) ∙ t in
        let k = f.stands.base.short f.x (inl refl) in
        let r = f.stands.base.room in
        (f.x.word, f.spelled, omega arith, f.answer ∙ (rw (fuel f, l)))

    -- it does not: names are tried from it
    pub go_take : head < tail → stops old (old_at (get_or met head 0)) && not (stops new (new_at (get_or met head 0))) ≡ false
        → Trying old new E seen met from name head tail (get_or met head 0) 0
    go_take h t =
        let f = facing g h in
        let l : (pairs old new).losing f.x.pair ≡ false = sym (facing_losing f) ∙ t in
        let z : E - 0 ≡ E = omega arith in
        let e = f.ends in
        record {
          blocks = f.blocks;
          x = f.x;
          done = f.done;
          todo = f.rest;
          expanding = taken (pairs old new) E sequence_places (sound_of old new E f.blocks) f.x f.done seen f.rest f.lo f.stands l;
          queued = f.queued;
          spelled = f.spelled;
          here = f.here;
          ends = omega arith;
          behind = f.behind;
          up_to = omega arith;
          answer = f.answer ∙ (rw (fuel f, l, z));
          met_long = g.met_long;
          from_long = g.from_long;
          name_long = g.name_long;
        }
