-- Names put into a buffer, one at a time. Assumes nothing.
use Rattle.std.specs.Prelude.{◌≡◌, refl, Bool, true, false, List, [], ◌∷◌, ◌++◌, ℕ, ◌+◌, ◌≤◌, ◌<◌, length, drop, set, get_or}
use Rattle.std.proofs.Common.{sym, ap, ◌∙◌, arith, length-append}
use Rattle.paper.specs.Dtd.Letters.{Name, is_more, begins}
use Rattle.paper.specs.Dtd.Numbering.{listed}
use Rattle.lines.specs.Put.{Put, put_length, put_both, put_as, put_one}
use Rattle.lines.specs.Putting.{Putting, putting_none, putting_more, putting_all}
use Rattle.dtd_words.specs.Places.{begins_inside}
use Rattle.dtd_names.specs.Named.{name_at, names_at}
use Rattle.dtd_names.specs.Lengths.{name_none, name_more}
use Rattle.dtd_list.specs.Lists.{ended, length_ended, listed_both, list_from, list_next, list_end}

-- the names fit into the buffer from a place on
abbrev pub Roomy : (text names out : List ℕ) (to : ℕ) → Type 0
Roomy text names out to = to + length (listed (names_at text names)) ≤ length out

-- ---- a name

module _ (text : List ℕ) (at : ℕ) (s : List ℕ) (to : ℕ) where
  abbrev pub Naming : (i k : ℕ) (t : List ℕ) → Type 0
  Naming i k t = Putting s to (ended (name_at text at)) k t (ended (name_at text i))

  pub naming_none : to + length (name_at text at) < length s → Naming at to s
  naming_none h = putting_none s to (ended (name_at text at)) (omega (arith, length_ended (name_at text at)))

  module _ (i k : ℕ) (t : List ℕ) (p : Naming i k t) where
    pub naming_room : k < length t
    naming_room = omega (arith, p.room, length_ended (name_at text i))

    module _ (b : Bool) (q : b ≡ begins is_more (drop i text)) where
      pub naming_inside : b ≡ true → i < length text
      naming_inside y = begins_inside is_more text i (sym q ∙ y)

      pub naming_more : b ≡ true → Naming (i + 1) (k + 1) (set t k (get_or text i 0))
      naming_more y =
          putting_more s to (ended (name_at text at)) k t (ended (name_at text i)) p (get_or text i 0 ∷ []) (ended (name_at text (i + 1))) (k + 1) (set t k (get_or text i 0))
          (ap ended (name_more text i (sym q ∙ y)))
          (put_one t k (get_or text i 0) naming_room)

      pub naming_all : b ≡ false → Put s to (ended (name_at text at)) (k + 1) (set t k 10)
      naming_all n =
          putting_all s to (ended (name_at text at)) (k + 1) (set t k 10) []
          (putting_more s to (ended (name_at text at)) k t (ended (name_at text i)) p (10 ∷ []) [] (k + 1) (set t k 10) (ap ended (name_none text i (sym q ∙ n))) (put_one t k 10 naming_room))
          refl

-- ---- names in a row

module _ (text names s : List ℕ) (to : ℕ) where
  abbrev pub Listing : (j k : ℕ) (t : List ℕ) → Type 0
  Listing j k t = Putting s to (list_from text names 0) k t (list_from text names j)

  module _ (r : Roomy text names s to) where
    pub listing_none : Listing 0 to s
    listing_none = putting_none s to (list_from text names 0) r

    module _ (j k : ℕ) (t : List ℕ) (p : Listing j k t) where
      module _ (h : j < length names) where
        pub listing_room : k + length (name_at text (get_or names j 0)) < length t
        listing_room =
            omega (arith, p.room, ap length (list_next text names j h), length-append (ended (name_at text (get_or names j 0))) (list_from text names (j + 1)), length_ended (name_at text (get_or names j 0)))

        pub listing_more : (n : ℕ) (u : List ℕ) → Put t k (ended (name_at text (get_or names j 0))) n u → Listing (j + 1) n u
        listing_more n u q =
            putting_more s to (list_from text names 0) k t (list_from text names j) p (ended (name_at text (get_or names j 0))) (list_from text names (j + 1)) n u
            (list_next text names j h)
            q

      pub listing_all : length names ≤ j → Put s to (listed (names_at text names)) k t
      listing_all h = putting_all s to (list_from text names 0) k t (list_from text names j) p (list_end text names j h)

-- ---- elements, then attributes

module _ (text elements attributes s : List ℕ) (b : length (listed (names_at text elements ++ names_at text attributes)) ≤ length s) where
  abbrev first : List Name
  first = names_at text elements

  abbrev second : List Name
  second = names_at text attributes

  both_fit : length (listed first) + length (listed second) ≤ length s
  both_fit = omega (arith, b, ap length (listed_both first second), length-append (listed first) (listed second))

  pub first_roomy : Roomy text elements s 0
  first_roomy = omega (arith, both_fit)

  module _ (k : ℕ) (t : List ℕ) (p : Put s 0 (listed first) k t) where
    pub second_roomy : Roomy text attributes t k
    second_roomy = omega (arith, both_fit, p.place, put_length p)

    pub both_put : (r : ℕ) (u : List ℕ) → Put t k (listed second) r u → Put s 0 (listed (first ++ second)) r u
    both_put r u q = put_as (put_both p q) (sym (listed_both first second))
