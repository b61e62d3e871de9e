-- The length of a list of names, as far as there is room. Assumes nothing.
use Rattle.std.specs.Prelude.{◌≡◌, refl, Bool, true, false, cond, List, ◌++◌, ◌⊎◌, ℕ, ◌+◌, ◌-◌, ◌≤◌, ◌<◌, leb, length, get_or}
use Rattle.std.proofs.Common.{sym, ap, ◌∙◌, inl, inr, arith, leb-true, leb-false, le-leb, length-append}
use Rattle.std.proofs.lemmas.Bool.{lt-leb}
use Rattle.paper.specs.Dtd.Letters.{Name}
use Rattle.paper.specs.Dtd.Numbering.{listed}
use Rattle.dtd_names.specs.Named.{name_at, names_at}
use Rattle.dtd_list.specs.Lists.{ended, length_ended, listed_both, list_from, list_next, list_end}

-- n, if it is at most `room`; room + 1, if it is more
abbrev pub up_to : ℕ → ℕ → ℕ
up_to room n = cond (leb n room) n (room + 1)

pub record Counting (from room : ℕ) : Type 0 where
  pub within : from ≤ room
  pub small : room < 18446744073709551615

-- ---- names in a row

module _ (room : ℕ) where
  up_to_lem : (n : ℕ) → n ≤ room → n ≡ up_to room n
  up_to_lem n h = rw (le-leb n room h)

  over : (n : ℕ) → room < n → room + 1 ≡ up_to room n
  over n h = rw (lt-leb n room h)

module _ (text names : List ℕ) (from room : ℕ) where
  -- n bytes up to the j-th name
  pub record Summed (n j : ℕ) : Type 0 where
    pub turns : j ≤ length names
    pub within : n ≤ room
    pub all_is : from + length (list_from text names 0) ≡ n + length (list_from text names j)

  module _ (c : Counting from room) where
    pub summed_none : Summed from 0
    summed_none = record { turns = omega arith; within = c.within; all_is = refl }

    module _ (n j : ℕ) (s : Summed n j) where
      next_length : j < length names → length (list_from text names j) ≡ length (name_at text (get_or names j 0)) + 1 + length (list_from text names (j + 1))
      next_length k = ap length (list_next text names j k) ∙ length-append (ended (name_at text (get_or names j 0))) (list_from text names (j + 1))
          ∙ ap (λ z. z + length (list_from text names (j + 1))) (length_ended (name_at text (get_or names j 0)))

      module _ (name : ℕ) (k : j < length names) (e : name ≡ length (name_at text (get_or names j 0))) where
        pub summed_over : room - n ≤ name → room + 1 ≡ up_to room (from + length (listed (names_at text names)))
        summed_over h = over room (from + length (list_from text names 0)) (omega (arith, s.within, s.all_is, next_length k))

        pub summed_more : name < room - n → Summed (n + (name + 1)) (j + 1)
        summed_more h = record { turns = omega arith; within = omega (arith, s.within); all_is = omega (arith, s.all_is, next_length k) }

      pub summed_all : length names ≤ j → n ≡ up_to room (from + length (listed (names_at text names)))
      summed_all k =
          let e : from + length (list_from text names 0) ≡ n = omega (arith, s.all_is, ap length (list_end text names j k)) in
          up_to_lem room n s.within ∙ ap (up_to room) (sym e)

-- ---- elements, then attributes

module _ (room : ℕ) (l m : List Name) (n : ℕ) (e : n ≡ up_to room (0 + length (listed l))) where
  both_length : length (listed (l ++ m)) ≡ length (listed l) + length (listed m)
  both_length = ap length (listed_both l m) ∙ length-append (listed l) (listed m)

  -- what the first count tells
  told : ((n ≡ length (listed l)) × (length (listed l) ≤ room)) ⊎ ((n ≡ room + 1) × (room < length (listed l)))
  told = by (leb (0 + length (listed l)) room) refl e
    where
      by : (b : Bool) → leb (0 + length (listed l)) room ≡ b → n ≡ cond b (0 + length (listed l)) (room + 1)
          → ((n ≡ length (listed l)) × (length (listed l) ≤ room)) ⊎ ((n ≡ room + 1) × (room < length (listed l)))
      by true p q = inl (omega arith, omega (arith, leb-true (0 + length (listed l)) room p))
      by false p q = inr (q, omega (arith, leb-false (0 + length (listed l)) room p))

  pub both_over : room < n → n ≡ up_to room (length (listed (l ++ m)))
  both_over h = elim told [ inl (p, q) ↦ absurd (omega arith) | inr (p, q) ↦ p ∙ over room (length (listed (l ++ m))) (omega (arith, both_length)) ]

  pub both_up : (r : ℕ) → n ≤ room → r ≡ up_to room (n + length (listed m)) → r ≡ up_to room (length (listed (l ++ m)))
  both_up r h f =
      elim told [ inl (p, q) ↦ f ∙ ap (up_to room) (omega (arith, both_length)) | inr (p, q) ↦ absurd (omega arith) ]
