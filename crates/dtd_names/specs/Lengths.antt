-- A name at a place, byte by byte. Assumes nothing.
use Rattle.std.specs.Prelude.{◌≡◌, refl, true, false, List, [], ◌∷◌, ℕ, ◌+◌, drop, get_or}
use Rattle.std.proofs.Common.{sym, ap, ◌∙◌, add-one, drop-cons}
use Rattle.paper.specs.Dtd.Letters.{is_more, begins, run}
use Rattle.dtd_words.specs.Places.{begins_inside}
use Rattle.dtd_names.specs.Named.{name_at}

-- ---- a name, byte by byte

module _ (text : List ℕ) where
  pub name_none : (a : ℕ) → begins is_more (drop a text) ≡ false → name_at text a ≡ []
  name_none a p = by (drop a text) p
    where
      by : (s : List ℕ) → begins is_more s ≡ false → run is_more s ≡ []
      by [] p = refl
      by (b ∷ s) p = rw p

  pub name_more : (a : ℕ) → begins is_more (drop a text) ≡ true → name_at text a ≡ get_or text a 0 ∷ name_at text (a + 1)
  name_more a p =
      let h = begins_inside is_more text a p in
      let e = drop-cons text a 0 h in
      ap (run is_more) e ∙ rw (sym (ap (begins is_more) e) ∙ p, add-one a)
