-- Names in a row, one at a time. Assumes nothing.
use Rattle.std.specs.Prelude.{◌≡◌, refl, List, [], ◌∷◌, ◌++◌, ℕ, ◌+◌, ◌≤◌, ◌<◌, length, drop, get_or}
use Rattle.std.proofs.Common.{sym, ap, ◌∙◌, append_assoc, add-one, length-append, drop_of_length-le, drop-cons}
use Rattle.paper.specs.Dtd.Letters.{Name}
use Rattle.paper.specs.Dtd.Numbering.{listed}
use Rattle.dtd_names.specs.Named.{name_at, names_at}

-- a name, and byte 10
abbrev pub ended : Name → List ℕ
ended n = n ++ 10 ∷ []

pub length_ended : (n : Name) → length (ended n) ≡ length n + 1
length_ended n = length-append n (10 ∷ [])

pub listed_both : (l m : List Name) → listed (l ++ m) ≡ listed l ++ listed m
listed_both [] m = refl
listed_both (n ∷ l) m = ap (λ z. ended n ++ z) (listed_both l m) ∙ sym (append_assoc (ended n) (listed l) (listed m))

module _ (text names : List ℕ) where
  -- the list of the names from the j-th on
  abbrev pub list_from : ℕ → List ℕ
  list_from j = listed (names_at text (drop j names))

  module _ (j : ℕ) where
    pub list_next : j < length names → list_from j ≡ ended (name_at text (get_or names j 0)) ++ list_from (j + 1)
    list_next k =
        let e : drop j names ≡ get_or names j 0 ∷ drop (j + 1) names = drop-cons names j 0 k ∙ rw (add-one j) in
        ap (λ l. listed (names_at text l)) e

    pub list_end : length names ≤ j → list_from j ≡ []
    list_end k = ap (λ l. listed (names_at text l)) (drop_of_length-le names {i = j} k)
