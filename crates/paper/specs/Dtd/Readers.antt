-- The smallest readers of a text: words, white space, names, kinds, comments. A reader takes bytes from the front and gives a value and
-- the text that is left, or a refusal's number and the text from what is at fault on. Assumes nothing.
use Rattle.std.specs.Prelude.{Bool, cond, not, ◌&&◌, List, [], ◌∷◌, ℕ, zero, suc, eqb, length}
use Rattle.paper.specs.Dtd.Letters.{is_white, is_first, is_more, Name, begins, run, past}
use Rattle.paper.specs.Dtd.Letters.{alone, first_of_two, first_of_three, first_of_four, later, second, third, hyphen, hash}
use Rattle.paper.specs.Dtd.Letters.{word_cdata, word_id, word_required, word_implied}
use Rattle.paper.specs.Dtd.Declarations.{Suffix, once, maybe, many, several, Kind, cdata, id, idref, idrefs, Status, required, implied}

pub data Read (A : Type 0) : Type 0 where
  stop : ℕ → List ℕ → Read A
  ok : A → List ℕ → Read A

abbrev pub Reader : Type 0 → Type 0
Reader A = List ℕ → Read A

-- "14 at the byte that cannot go on"
abbrev pub outside : ℕ
outside = 14

module _ {A : Type 0} where
  abbrev pub pure : A → Reader A
  pure a s = ok a s

  -- refused, with what is at fault here
  abbrev pub refuse : Reader A
  refuse s = stop outside s

  -- by the byte in front
  abbrev pub if_at : (ℕ → Bool) → Reader A → Reader A → Reader A
  if_at P m m' s = cond (begins P s) (m s) (m' s)

infixl 10 ◌>>=◌ ◌>>◌
module _ {A B : Type 0} where
  abbrev pub onward : Read A → (A → Reader B) → Read B
  onward (stop k s) f = stop k s
  onward (ok a s) f = f a s

  abbrev pub ◌>>=◌ : Reader A → (A → Reader B) → Reader B
  ◌>>=◌ m f = λ s. onward (m s) f

  abbrev pub ◌>>◌ : Reader A → Reader B → Reader B
  ◌>>◌ m m' = λ s. onward (m s) (λ a. m')

module _ {A : Type 0} where
  -- what m reads must pass the test, else it is refused with that number, at its first byte
  abbrev pub tested : ℕ → (A → Bool) → Reader A → Reader A
  tested k P m s = onward (m s) (λ a r. cond (P a) (ok a r) (stop k s))

  -- Recursion goes by a bound that falls with every byte; more than the text's length is never too small.
  abbrev pub bounded : (ℕ → Reader A) → Reader A
  bounded m s = m (suc (length s)) s

-- ---- words, white space, names

abbrev pub literal : List ℕ → Reader (Unit {0})
literal [] s = ok tt s
literal (b ∷ l) [] = stop outside []
literal (b ∷ l) (c ∷ s) = cond (eqb b c) (literal l s) (stop outside (c ∷ s))

abbrev pub mark : ℕ → Reader (Unit {0})
mark b = literal (b ∷ [])

abbrev pub byte : (ℕ → Bool) → Reader ℕ
byte P [] = stop outside []
byte P (b ∷ s) = cond (P b) (ok b s) (stop outside (b ∷ s))

abbrev pub S? : Reader (Unit {0})
S? s = ok tt (past is_white s)

abbrev pub S : Reader (Unit {0})
S = if_at is_white S? refuse

-- "a name is the longest run of name characters"
abbrev pub name : Reader Name
name = if_at is_first (λ s. ok (run is_more s) (past is_more s)) refuse

-- a word ends here: no character of a name follows
abbrev pub word_end : Reader (Unit {0})
word_end = if_at is_more refuse (pure tt)

abbrev pub suffix : Reader Suffix
suffix [] = ok once []
suffix (b ∷ s) = cond (eqb b 63) (ok maybe s) (cond (eqb b 42) (ok many s) (cond (eqb b 43) (ok several s) (ok once (b ∷ s))))

-- ---- kinds and statuses

-- those bytes, and the value; and no character of a name after them
abbrev pub spelled : {A : Type 0} → List ℕ → A → Reader A
spelled l a = do
  literal l
  pure a

abbrev pub whole : {A : Type 0} → List ℕ → A → Reader A
whole l a = do
  literal l
  word_end
  pure a

-- "CDATA", or "ID" and then nothing, "REF" or "REFS"
abbrev pub reference : Reader Kind
reference = do
  literal (82 ∷ 69 ∷ 70 ∷ [])
  if_at (eqb 83) (whole (83 ∷ []) idrefs) (whole [] idref)

abbrev pub keyed : Reader Kind
keyed = do
  literal word_id
  if_at (eqb 82) reference (whole [] id)

abbrev pub kind : Reader Kind
kind = if_at (eqb 67) (whole word_cdata cdata) keyed

-- "#", and then "REQUIRED" or "IMPLIED"
abbrev pub status : Reader Status
status = do
  mark hash
  if_at (eqb 82) (spelled word_required required) (spelled word_implied implied)

-- ---- comments

-- a character that is no hyphen
abbrev pub two : Reader ℕ
two = do
  a ← byte first_of_two
  byte later

abbrev pub three : Reader ℕ
three = do
  a ← byte first_of_three
  b ← byte (second a)
  byte (third a b)

abbrev pub four : Reader ℕ
four = do
  a ← byte first_of_four
  b ← byte (second a)
  c ← byte later
  byte later

abbrev pub char : Reader ℕ
char = if_at first_of_two two (if_at first_of_three three (if_at first_of_four four (byte (λ a. alone a && not (eqb a hyphen)))))

-- at a hyphen: `-->`, or the hyphen, a character and the rest of the comment
abbrev pub hyphened : Reader (Unit {0}) → Reader (Unit {0})
hyphened m = do
  mark hyphen
  if_at (eqb hyphen) (literal (45 ∷ 62 ∷ [])) (char >> m)

-- from behind `<!--` to behind `-->`
abbrev pub inside : (bound : ℕ) → Reader (Unit {0})
inside zero = refuse
inside (suc bound) = if_at (eqb hyphen) (hyphened (inside bound)) (char >> inside bound)
