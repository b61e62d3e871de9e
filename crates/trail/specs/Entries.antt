-- The entries of a search, part by part. Assumes nothing.
use Rattle.std.specs.Prelude.{◌≡◌, refl, List, [], ◌∷◌, ℕ, zero, suc, map, get_or, set}
use Rattle.std.proofs.lemmas.List.{map-set}
use Rattle.trail.specs.declared.Entry.{Entry}

-- what was met
abbrev pub mets : List Entry → List ℕ
mets l = map (λ e. e.met) l

-- the entries from which it was met
abbrev pub froms : List Entry → List ℕ
froms l = map (λ e. e.from) l

-- the names that led to it
abbrev pub names : List Entry → List ℕ
names l = map (λ e. e.name) l

-- ---- a part of one entry

-- an entry that is not there is taken for this one
abbrev pub no_entry : Entry
no_entry = record { met = 0; from = 0; name = 0 }

pub met_at : (l : List Entry) (i : ℕ) → get_or (mets l) i 0 ≡ (get_or l i no_entry).met
met_at [] i = refl
met_at (e ∷ l) zero = refl
met_at (e ∷ l) (suc i) = met_at l i

pub from_at : (l : List Entry) (i : ℕ) → get_or (froms l) i 0 ≡ (get_or l i no_entry).from
from_at [] i = refl
from_at (e ∷ l) zero = refl
from_at (e ∷ l) (suc i) = from_at l i

pub name_at : (l : List Entry) (i : ℕ) → get_or (names l) i 0 ≡ (get_or l i no_entry).name
name_at [] i = refl
name_at (e ∷ l) zero = refl
name_at (e ∷ l) (suc i) = name_at l i

-- ---- one more entry

pub mets_set : (l : List Entry) (i : ℕ) (e : Entry) → mets (set l i e) ≡ set (mets l) i e.met
mets_set l i e = map-set (λ e. e.met) l i e

pub froms_set : (l : List Entry) (i : ℕ) (e : Entry) → froms (set l i e) ≡ set (froms l) i e.from
froms_set l i e = map-set (λ e. e.from) l i e

pub names_set : (l : List Entry) (i : ℕ) (e : Entry) → names (set l i e) ≡ set (names l) i e.name
names_set l i e = map-set (λ e. e.name) l i e
