-- "the first met from the front decides": a fault that is met stays, whatever is put behind the text. Assumes nothing.
--
-- Covered is every fault that the pass from the front meets before the text ends: the byte that cannot go on, a name or a model over a
-- limit, a second ID, an element or an attribute declared twice. t is the text from the fault on. Exempt is
-- * a text that ends too early: t is empty, and what follows may go on;
-- * a name or a kind that the text ends with: t is that word, and grows where x begins with a character of a name. Told by t alone: if t
--   is a name, x does not begin with such a character (`Settled`). That exempts a wrong keyword too, as long as nothing but characters of
--   a name stands behind the wrong byte. A model that the text ends with may get a suffix, which keeps it over its limits, and is covered;
-- * what is found at the end, and not in the pass: no element, an element that is named and not declared.
use Rattle.std.specs.Prelude.{◌≡◌, refl, ◌≢◌, Bool, true, false, ◌&&◌, ℕ, suc, ◌-◌}
use Rattle.std.proofs.Math.Path.{ap}
use Rattle.std.proofs.Common.{subst}
use Rattle.std.proofs.Math.Bool.{and-eq-true_iff}
use mathlib.Core.List.{List, [], ◌∷◌, ◌++◌, cons≢nil}
use native.Mathlib.Omega.{arith}
use Rattle.std.proofs.Math.ListN.{length, length-append}
use Rattle.paper.specs.Basics.{all}
use Rattle.paper.specs.Dtd.Letters.{is_first, is_more, begins, ascii}
use Rattle.paper.specs.Dtd.Readers.{stop}
use Rattle.paper.specs.Dtd.Reading.{reading}
use Rattle.paper.specs.Dtd.Imported.{completed, declared, import, names, spot}
use Rattle.basic_laws.specs.Bools.{clash}
use Rattle.dtd_laws.specs.Unique.{any}
use Rattle.dtd_stays_laws.specs.Stays.{Settled, Grows}
use Rattle.dtd_stays_laws.specs.Texts.{reading_stays}

-- ---- when the text from a fault on is settled

-- x does not go on with a name
pub settled_by_next : (x t : List ℕ) → t ≢ [] → begins is_more x ≡ false → Settled x t
settled_by_next x t e h = record { some = e; no_longer = λ p. h }

-- a byte at the fault or behind it is no character of a name
pub settled_by_byte : (x u v : List ℕ) (b : ℕ) → is_more b ≡ false → Settled x (u ++ b ∷ v)
settled_by_byte x u v b h = record { some = some u; no_longer = λ p. clash ((and-eq-true_iff (begins is_first (u ++ b ∷ v)) (all is_more (u ++ b ∷ v))).0 p).1 (none u) }
  where
    some : (u : List ℕ) → u ++ b ∷ v ≢ []
    some [] = cons≢nil
    some (c ∷ u) = cons≢nil

    and_right : (y z : Bool) → z ≡ false → y && z ≡ false
    and_right true z p = p
    and_right false z p = refl

    none : (u : List ℕ) → all is_more (u ++ b ∷ v) ≡ false
    none [] = rw h
    none (c ∷ u) = and_right (is_more c) (all is_more (u ++ b ∷ v)) (none u)

-- no name begins at the fault
pub settled_by_first : (x t : List ℕ) (b : ℕ) → is_first b ≡ false → Settled x (b ∷ t)
settled_by_first x t b h = record { some = cons≢nil; no_longer = λ p. clash ((and-eq-true_iff (is_first b) (all is_more (b ∷ t))).0 p).0 h }

-- ---- the law

module _ (s x t : List ℕ) (k : ℕ) (met : reading any s ≡ stop k t) (settled : Settled x t) where
  -- The pass from the front meets the same fault at the same byte ..
  pub pass_stays : reading any (s ++ x) ≡ stop k (t ++ x)
  pass_stays = subst (λ o. Grows x o (reading any (s ++ x))) met ((reading_stays x any {n = suc (length s)}).grows s (omega arith)) settled

  fault_before : declared s ≡ stop k t
  unfolding declared
  fault_before = ap (completed s) met

  -- .. and so the text is refused as before, with the same number at the same byte.
  pub fault_stays : declared (s ++ x) ≡ stop k (t ++ x)
  unfolding declared
  fault_stays = ap (completed (s ++ x)) pass_stays

  pub spot_stays : spot (s ++ x) ≡ spot s
  unfolding spot
  spot_stays = rw (fault_before, fault_stays) (ap (λ n. record { number = k; offset = n }) offsets)
    where
      offsets : length (s ++ x) - length (t ++ x) ≡ length s - length t
      offsets = let a = length-append s x in let b = length-append t x in omega arith

  -- The importer and the list of names answer as before.
  pub import_stays : (buffer : List ℕ) → import (s ++ x) buffer ≡ import s buffer
  unfolding import
  import_stays buffer = rw (fault_before, fault_stays)

  pub names_stay : (buffer : List ℕ) → names (s ++ x) buffer ≡ names s buffer
  unfolding names
  names_stay buffer = rw (fault_before, fault_stays)

-- ---- a name that the text ends with may grow

-- `a` is declared twice, at its second name ..
twice : spot (ascii "<!ELEMENT a EMPTY><!ELEMENT a") ≡ record { number = 14; offset = 28 }
unfolding reading declared spot
twice = refl

-- .. unless it is the beginning of another name
grown : spot (ascii "<!ELEMENT a EMPTY><!ELEMENT a" ++ ascii "b EMPTY>") ≡ record { number = 0; offset = 0 }
unfolding reading declared spot
grown = refl
