-- A name is noted behind the others if it is new. Assumes nothing.
use Rattle.std.specs.Prelude.{◌≡◌, refl, ◌≢◌, Bool, true, false, cond, List, [], ◌∷◌, ◌++◌, ℕ, ◌+◌, ◌≤◌, ◌<◌, eqb, length, take, set}
use Rattle.std.proofs.Common.{sym, ap, ◌∙◌, append-nil, arith, add-one, eq-eqb, ne_eqb, length-set, take-suc, get_or-set_same, length-take-le}
use Rattle.std.proofs.lemmas.List.{map-append, length-map, take-set-le}
use Rattle.paper.specs.Basics.{most_attributes}
use Rattle.paper.specs.Dtd.Letters.{Name, among}
use Rattle.paper.specs.Dtd.Numbering.{number_in}
use Rattle.dtd_names.specs.Named.{name_at, names_at}
use Rattle.dtd_rows.specs.Names.{number_of, number_none, with_name}

-- the attribute's number is that of the next name, or that of one that is there
pub record Noted (entry exit : List ℕ) (count attribute place r : ℕ) : Type 0 where
  pub places : exit ≡ cond (eqb attribute count) (set entry count place) entry
  pub many : r ≡ cond (eqb attribute count) (count + 1) count

module _ (entry : List ℕ) (count attribute place : ℕ) where
  pub noted_old : attribute ≢ count → Noted entry entry count attribute place count
  noted_old p = record { places = rw (ne_eqb attribute count p) refl; many = rw (ne_eqb attribute count p) refl }

  pub noted_new : attribute ≡ count → Noted entry (set entry count place) count attribute place (count + 1)
  noted_new p = record { places = rw (eq-eqb attribute count p) refl; many = rw (eq-eqb attribute count p) refl }

-- ---- what the names are then

module _ (text entry exit : List ℕ) (count attribute place r : ℕ) (c : Noted entry exit count attribute place r) (l : List Name) (a : Name)
    (same_names : names_at text (take count entry) ≡ l) (fits : count ≤ length entry) (z : attribute ≡ number_in l a) (low : attribute < most_attributes)
    (long : most_attributes ≤ length entry) (few : count ≤ most_attributes) (called : name_at text place ≡ a) where
  abbrev pub Result : Type 0
  Result = (names_at text (take r exit) ≡ with_name l a) × (r ≤ most_attributes) × (most_attributes ≤ length exit)

  many_names : length l ≡ count
  many_names = ap length (sym same_names) ∙ length-map (take count entry) (name_at text) ∙ length-take-le count entry fits

  pub noted_names : Result
  noted_names = by (among a l) refl
    where
      longer : count < length entry → names_at text (take (count + 1) (set entry count place)) ≡ l ++ a ∷ []
      longer h =
          let k : count < length (set entry count place) = rw (length-set entry count place) h in
          let q : take (count + 1) (set entry count place) ≡ take count entry ++ place ∷ [] =
          rw (add-one count, take-suc (set entry count place) count 0 k, take-set-le count entry count place (omega arith), get_or-set_same entry count place 0 h) refl in
          ap (names_at text) q ∙ map-append (name_at text) (take count entry) (place ∷ []) ∙ rw (same_names, called) refl

      by : (b : Bool) → among a l ≡ b → (names_at text (take r exit) ≡ l ++ cond b [] (a ∷ [])) × (r ≤ most_attributes) × (most_attributes ≤ length exit)
      by true p =
          let h = number_of l a p in
          let o = ne_eqb attribute count (λ e. omega (arith, many_names)) in
          rw (c.places, c.many, o) (same_names ∙ sym (append-nil l), few, long)
      by false p =
          let h = number_none l a p in
          let k : attribute ≡ count = z ∙ h ∙ many_names in
          rw (c.places, c.many, eq-eqb attribute count k) (longer (omega arith), omega arith, rw (length-set entry count place) long)
