-- The search as it stands in the code's arrays: which entries are met, and what is left of the answer. Assumes nothing.
use Rattle.std.specs.Prelude.{◌≡◌, List, [], ◌∷◌, ◌++◌, ℕ, suc, ◌+◌, ◌-◌, ◌≤◌, length, get_or, set}
use Rattle.std.proofs.Common.{◌∙◌, arith, get_or-set_other}
use Rattle.table.specs.Run.{Ready}
use Rattle.paper.specs.Basics.{most_elements, sequence_places}
use Rattle.inclusion_laws.specs.Search.{Entry, Queue, expand, found, searched}
use Rattle.inclusion_laws.specs.Invariant.{Sound}
use Rattle.inclusion_laws.specs.Turns.{Expanding, Standing}
use Rattle.inclusion_laws.specs.Pairs.{Runnable, Pair, pairs}
use Rattle.inclusion_laws.proofs.Pairs.{sound}
use Rattle.trail.specs.Spells.{Spells, spells_set}

-- ---- what is asked of the two blocks

pub record Blocks (old new : List ℕ) (E : ℕ) : Type 0 where
  pub old_ready : Ready old
  pub new_ready : Ready new
  pub new_elements : ℕ
  pub old_run : Runnable E old
  pub new_run : Runnable new_elements new
  pub some_names : 1 ≤ E
  pub few : E ≤ most_elements

abbrev pub sound_of : (old new : List ℕ) (E : ℕ) → Blocks old new E → Sound (pairs old new) E sequence_places
sound_of old new E b = sound E b.new_elements old new b.old_run b.new_run b.some_names

-- ---- the entries in the arrays

-- the entries from i on are those of the list
abbrev pub Queued : (old new met from name : List ℕ) → ℕ → List (Entry Pair) → Type 0
Queued old new met from name i [] = Unit {0}
Queued old new met from name i (y ∷ l) = (get_or met i 0 ≡ (pairs old new).number y.pair) × Spells from name i y.word × Queued old new met from name (suc i) l

module _ (old new met from name : List ℕ) where
  pub queued_set : (l : List (Entry Pair)) (i t q h a : ℕ) → Queued old new met from name i l → i + length l ≤ t
      → Queued old new (set met t q) (set from t h) (set name t a) i l
  queued_set [] i t q h a g k = tt
  queued_set (y ∷ l) i t q h a (e, s, g) k =
      (get_or-set_other met t i q 0 (omega arith) ∙ e, spells_set from name t h a s (omega arith), queued_set l (suc i) t q h a g (omega arith))

  pub queued_snoc : (l : List (Entry Pair)) (i t : ℕ) (y : Entry Pair) → Queued old new met from name i l → i + length l ≡ t
      → get_or met t 0 ≡ (pairs old new).number y.pair → Spells from name t y.word → Queued old new met from name i (l ++ y ∷ [])
  queued_snoc [] i t y g k e s = let c : t ≡ i = omega arith in (rw c at e, rw c at s, tt)
  queued_snoc (z ∷ l) i t y (d, r, g) k e s = (d, r, queued_snoc l (suc i) t y g (omega arith) e s)

-- ---- where the search stands

abbrev pub queue : List ℕ → List (Entry Pair) → Queue Pair
queue seen todo = record { seen = seen; todo = todo }

-- entries before `head` are done, those before `tail` are met
pub record Going (old new : List ℕ) (E : ℕ) (seen met from name : List ℕ) (head tail : ℕ) : Type 0 where
  pub blocks : Blocks old new E
  pub done : List (Entry Pair)
  pub todo : List (Entry Pair)
  pub lo : ℕ
  pub stands : Standing (pairs old new) E sequence_places (sound_of old new E blocks) done (queue seen todo) lo
  pub queued : Queued old new met from name head todo
  pub ends : head + length todo ≡ tail
  pub behind : length done ≡ head
  pub answer : searched (pairs old new) E sequence_places ≡ found (pairs old new) E (sequence_places - head) seen todo
  pub met_long : length met ≡ sequence_places
  pub from_long : length from ≡ sequence_places
  pub name_long : length name ≡ sequence_places

-- names below a were tried from the entry `head`, of pair p
pub record Trying (old new : List ℕ) (E : ℕ) (seen met from name : List ℕ) (head tail p a : ℕ) : Type 0 where
  pub blocks : Blocks old new E
  pub x : Entry Pair
  pub done : List (Entry Pair)
  pub todo : List (Entry Pair)
  pub expanding : Expanding (pairs old new) E sequence_places (sound_of old new E blocks) x done (queue seen todo) a
  pub queued : Queued old new met from name (suc head) todo
  pub spelled : Spells from name head x.word
  pub here : p ≡ (pairs old new).number x.pair
  pub ends : suc head + length todo ≡ tail
  pub behind : length done ≡ head
  pub up_to : a ≤ E
  pub answer : searched (pairs old new) E sequence_places
      ≡ found (pairs old new) E (sequence_places - suc head) (expand (pairs old new) x a (E - a) (queue seen todo)).seen (expand (pairs old new) x a (E - a) (queue seen todo)).todo
  pub met_long : length met ≡ sequence_places
  pub from_long : length from ≡ sequence_places
  pub name_long : length name ≡ sequence_places
