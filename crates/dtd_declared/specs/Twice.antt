-- A text that is read twice, told by the definition. Assumes nothing.
use Rattle.std.specs.Prelude.{◌≡◌, refl, ◌≢◌, Bool, false, Result, Ok, Err, List, [], ◌∷◌, ℕ, ◌≤◌, length, take}
use Rattle.std.proofs.Common.{sym, ◌∙◌, subst, arith, length-take-le}
use Rattle.std.proofs.Math.Path.{ap}
use Rattle.paper.specs.Basics.{most_elements, null}
use Rattle.paper.specs.Dtd.Letters.{Name, among}
use Rattle.paper.specs.Dtd.Declarations.{Declaration, element_names}
use Rattle.paper.specs.Dtd.Readers.{Read, stop, ok}
use Rattle.paper.specs.Dtd.Reading.{reading}
use Rattle.paper.specs.Dtd.Imported.{completed, declared}
use Rattle.dtd_laws.specs.Texts.{reading_exactly}
use Rattle.dtd_laws.specs.Unique.{any, unique}
use Rattle.paper.specs.declared.Refusal.TheVariants.{DtdText}
use Rattle.dtd_words.specs.declared.Fault.{Fault}
use Rattle.dtd_words.specs.Places.{At}
use Rattle.dtd_words.specs.Words.{Came}
use Rattle.dtd_names.specs.Named.{names_at}
use Rattle.dtd_texts.specs.declared.Reading.{Reading}
use Rattle.dtd_texts.specs.Turns.{Told, Holding}

-- what a reading came to, without the lists
pub came : (known : Name → Bool) (text : List ℕ) (r : Reading) (es cs qs ns hs ws : List ℕ) → Told known text (Ok r) es cs qs ns hs ws (reading known text)
    → Came text (Ok r.at) (reading known text)
came known text r es cs qs ns hs ws x = by (reading known text) x
  where
    by : (o : Read (List Declaration)) → Told known text (Ok r) es cs qs ns hs ws o → Came text (Ok r.at) o
    by (ok ds s) x = x.0
    by (stop k s) x = absurd x

pub failed : (known : Name → Bool) (text : List ℕ) (f : Fault) (es cs qs ns hs ws : List ℕ) → Told known text (Err f) es cs qs ns hs ws (reading known text)
    → Came text (Err f) (reading known text)
failed known text f es cs qs ns hs ws x = by (reading known text) x
  where
    by : (o : Read (List Declaration)) → Told known text (Err f) es cs qs ns hs ws o → Came text (Err f) o
    by (ok ds s) x = absurd x
    by (stop k s) x = x

module _ (text es cs qs ns hs ws : List ℕ) where
  -- what the first reading came to
  first : (o : Read (List Declaration)) → reading any text ≡ o → declared text ≡ completed text o
  unfolding declared
  first o e = ap (completed text) e

  pub stopped : (f : Fault) → Told any text (Err f) es cs qs ns hs ws (reading any text) → Told any text (Err f) es cs qs ns hs ws (declared text)
  stopped f x = by (reading any text) refl x
    where
      by : (o : Read (List Declaration)) → reading any text ≡ o → Told any text (Err f) es cs qs ns hs ws o → Told any text (Err f) es cs qs ns hs ws (declared text)
      by (stop k s) e y = rw (first (stop k s) e) y
      by (ok ds s) e y = absurd y

  module _ (f : Reading) (x : Told any text (Ok f) es cs qs ns hs ws (reading any text)) where
    -- the declarations of the first reading
    pub record Read_first : Type 0 where
      pub ds : List Declaration
      pub rest : List ℕ
      pub read : reading any text ≡ ok ds rest
      pub at : At text f.at rest
      pub holding : Holding any text ds f.at es cs qs ns hs ws f.elements f.attributes f.many

    read_first : Read_first
    read_first = by (reading any text) refl x
      where
        by : (o : Read (List Declaration)) → reading any text ≡ o → Told any text (Ok f) es cs qs ns hs ws o → Read_first
        by (ok ds s) e (y, w) = record { ds = ds; rest = s; read = e; at = y; holding = w }
        by (stop k s) e y = absurd y

    pub few : f.elements ≤ most_elements
    few = read_first.holding.few

    pub none : f.elements ≡ 0 → Told any text (Err (record { refusal = DtdText; at = f.at })) es cs qs ns hs ws (declared text)
    none z =
        let r = read_first in
        let i : element_names r.ds ≡ [] = sym r.holding.names ∙ ap (λ k. names_at text (take k es)) z in
        rw (first (ok r.ds r.rest) r.read, i) (refl, r.at)

    module _ (m : f.elements ≢ 0) (h : f.elements ≤ length es) where
      some : (r : Read_first) → null (element_names r.ds) ≡ false
      some r = by (take f.elements es) (length-take-le f.elements es h) (sym r.holding.names)
        where
          by : (l : List ℕ) → length l ≡ f.elements → element_names r.ds ≡ names_at text l → null (element_names r.ds) ≡ false
          by [] e i = absurd (m (sym e))
          by (a ∷ l) e i = rw i

      second : (r : Read_first) → declared text ≡ reading (λ n. among n (names_at text (take f.elements es))) text
      second r = first (ok r.ds r.rest) r.read ∙ rw (some r, ← r.holding.names)

      -- what the second reading came to
      pub undeclared : (g : Fault) → Came text (Err g) (reading (λ n. among n (names_at text (take f.elements es))) text)
          → Told any text (Err g) es cs qs ns hs ws (declared text)
      undeclared g y = rw (second read_first) (by (reading (λ n. among n (names_at text (take f.elements es))) text) y)
        where
          by : (q : Read (List Declaration)) → Came text (Err g) q → Told any text (Err g) es cs qs ns hs ws q
          by (stop k s) z = z
          by (ok ds s) z = absurd z

      pub taken : (e : ℕ) → Came text (Ok e) (reading (λ n. among n (names_at text (take f.elements es))) text) → Told any text (Ok f) es cs qs ns hs ws (declared text)
      taken e y = rw (second read_first) (by (reading (λ n. among n (names_at text (take f.elements es))) text) refl y)
        where
          r : Read_first
          r = read_first

          by : (q : Read (List Declaration)) → reading (λ n. among n (names_at text (take f.elements es))) text ≡ q → Came text (Ok e) q → Told any text (Ok f) es cs qs ns hs ws q
          by (stop k s) e z = absurd z
          by (ok ds s) e z =
              let (a, b, c) = (reading_exactly any text r.ds r.rest).0 r.read in
              let (a2, b2, c2) = (reading_exactly (λ n. among n (names_at text (take f.elements es))) text ds s).0 e in
              let d : r.ds ≡ ds = unique a a2 in
              let v : r.rest ≡ s = sym b ∙ b2 in
              (subst (λ t. At text f.at t) v r.at, subst (λ t. Holding any text t f.at es cs qs ns hs ws f.elements f.attributes f.many) d r.holding)
