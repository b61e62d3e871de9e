-- Item 12, "Will the new schema take our old patterns?": an element's content in two schemas or tables. Assumes nothing.
use Rattle.std.specs.Prelude.{◌≡◌, Bool, true, false, cond, not, ◌&&◌, ◌||◌, List, [], ◌∷◌, ◌++◌, ℕ, zero, suc, ◌≤◌, ltb, eqb, length, drop}
use Rattle.std.proofs.Math.Option.{Option, none, some}
use Rattle.paper.specs.Basics.{sequence_places, null}
use Rattle.paper.specs.Expressions.{Matches}
use Rattle.paper.specs.Schema.{Content, empty, text, model}
use Rattle.paper.specs.Table.{proper}
use Rattle.paper.specs.Rules.{Rules, of_table}

-- ---- "takes"

-- the child sequences, by their names, that the content of element e takes. EMPTY takes the one that has no child.
abbrev pub takes : Rules → ℕ → List ℕ → Bool
takes R e w = cond (eqb (R.kind e) 0) (null w) (R.describes e w)

-- The same as a statement, by what an expression means. A text is no child sequence, and is not compared.
abbrev pub Takes : Content → List ℕ → Type 0
Takes empty w = w ≡ []
Takes text w = ⊥
Takes (model e) w = Matches e w

-- "lost": the old one takes the sequence, the new one does not
abbrev pub lost : (old new : Rules) → ℕ → List ℕ → Bool
lost old new e w = takes old e w && not (takes new e w)

abbrev pub Lost : (old new : Content) → List ℕ → Type 0
Lost old new w = Takes old w × ¬ Takes new w

-- ---- "the shortest lost sequence, of equals the lowest by element numbers from the left"

-- u is v, or is lower where they first differ
abbrev pub not_above : List ℕ → List ℕ → Bool
not_above [] v = true
not_above (a ∷ u) [] = false
not_above (a ∷ u) (b ∷ v) = ltb a b || (eqb a b && not_above u v)

-- w is that of all the sequences of which L holds
pub record ShortestOf (L : List ℕ → Type 0) (w : List ℕ) : Type 0 where
  pub is_one : L w
  pub shortest : (v : List ℕ) → L v → length w ≤ length v
  pub lowest : (v : List ℕ) → L v → length v ≡ length w → not_above w v ≡ true

-- The same, found by trying the sequences in order: no pairs of states, no search. First the first answer of f b, f (b + 1), .., n
-- of them.
abbrev pub first_from : {A : Type 0} → ℕ → ℕ → (ℕ → Option A) → Option A
first_from b zero f = none
first_from b (suc n) f = elim (f b) [ none ↦ first_from (suc b) n f | some x ↦ some x ]

abbrev pub headed : ℕ → Option (List ℕ) → Option (List ℕ)
headed a none = none
headed a (some w) = some (a ∷ w)

-- the lowest sequence of n names below E of which L holds
abbrev pub lowest_of : ℕ → (List ℕ → Bool) → ℕ → Option (List ℕ)
lowest_of E L zero = cond (L []) (some []) none
lowest_of E L (suc n) = first_from 0 E (λ a. headed a (lowest_of E (λ w. L (a ∷ w)) n))

-- the shortest of fewer than `most` names, of equals the lowest
abbrev pub shortest_of : (most : ℕ) → ℕ → (List ℕ → Bool) → Option (List ℕ)
shortest_of most E L = first_from 0 most (lowest_of E L)

-- "Otherwise it writes the shortest lost sequence". None has 4,290 names or more, which is a promise.
unfoldable pub shortest_lost : (old new : Rules) → ℕ → Option (List ℕ)
shortest_lost old new e = shortest_of sequence_places old.elements (lost old new e)

-- ---- the call

-- its number, 1 for yes, the length of the sequence that is lost, and the sequence buffer as it is left
pub record Compared : Type 0 where
  pub number : ℕ
  pub takes_all : ℕ
  pub len : ℕ
  pub buffer : List ℕ

-- a refused call writes nothing
abbrev pub refused : ℕ → List ℕ → Compared
refused k s = record { number = k; takes_all = 0; len = 0; buffer = s }

-- "The answer is yes exactly if [..] Otherwise it writes the shortest lost sequence [..]; those [places] after the sequence keep
-- their contents."
abbrev pub answered : Option (List ℕ) → List ℕ → Compared
answered none s = record { number = 0; takes_all = 1; len = 0; buffer = s }
answered (some w) s = record { number = 0; takes_all = 0; len = length w; buffer = w ++ drop (length w) s }

-- not "a kind other than 0 or 2"
abbrev pub comparable : Rules → ℕ → Bool
comparable R e = eqb (R.kind e) 0 || eqb (R.kind e) 2

-- "element not below both E is 6; new 16, a kind other than 0 or 2 in either; buffer too short is 5": also where the answer would be
-- yes
unfoldable pub comparing : (old new : Rules) → ℕ → (buffer : List ℕ) → Compared
comparing old new e s =
    cond (not (ltb e old.elements && ltb e new.elements)) (refused 6 s)
    (cond (not (comparable old e && comparable new e)) (refused 16 s)
    (cond (ltb (length s) sequence_places) (refused 5 s)
    (answered (shortest_lost old new e) s)))

-- "Refusals in order: 13, old table first; [..]"
unfoldable pub compare : (old new : List ℕ) → ℕ → (buffer : List ℕ) → Compared
compare old new e s =
    cond (not (proper old)) (refused 13 s)
    (cond (not (proper new)) (refused 13 s)
    (comparing (of_table old) (of_table new) e s))
