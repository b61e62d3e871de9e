-- "Files of seven-bit groups": one number, and document files with their reader and writer. Assumes nothing.
use Rattle.std.specs.Prelude.{◌≡◌, refl, cond, List, [], ◌∷◌, ◌++◌, map, ℕ, zero, suc, ◌+◌, ◌-◌, ◌*◌, ◌/◌, ◌%◌, min, leb, ltb, eqb, length, drop}
use Rattle.paper.specs.Basics.{most_tokens, all, concat}

-- ---- one number

-- "the largest, 2,097,151"
abbrev pub largest : ℕ
largest = 2097151

-- "A number is one to three bytes. Each byte carries seven bits, lowest group first; the top bit is set in all bytes but the
-- last. Only the shortest form counts"
unfoldable pub bytes_of : ℕ → List ℕ
bytes_of n =
    cond (ltb n 128) (n ∷ [])
    (cond (ltb n 16384) ((128 + n % 128) ∷ (n / 128) ∷ [])
    ((128 + n % 128) ∷ (128 + n / 128 % 128) ∷ (n / 16384) ∷ []))

-- what stands at the front of a list of bytes
pub data Front : Type 0 where
  broken : Front
  -- a number, and the bytes after it
  got : ℕ → List ℕ → Front

-- "Broken: a file ending inside a number, a fourth byte called for, or a last byte of 0 in a number of several bytes"
-- v: what the bytes before carry
abbrev pub third : ℕ → List ℕ → Front
third v [] = broken
third v (c ∷ r) = cond (eqb c 0) broken (cond (ltb c 128) (got (v + c * 16384) r) broken)

abbrev pub second : ℕ → List ℕ → Front
second v [] = broken
second v (b ∷ r) = cond (eqb b 0) broken (cond (ltb b 128) (got (v + b * 128) r) (third (v + (b - 128) * 128) r))

unfoldable pub front : List ℕ → Front
front [] = broken
front (a ∷ r) = cond (ltb a 128) (got a r) (second (a - 128) r)

-- "127 is one byte, 128 is `128 1`, the largest, 2,097,151, is `255 255 127`. Broken: [..] (`128 0`)."
examples : (bytes_of 127 ≡ 127 ∷ []) × (bytes_of 128 ≡ 128 ∷ 1 ∷ []) × (bytes_of largest ≡ 255 ∷ 255 ∷ 127 ∷ []) × (front (128 ∷ 0 ∷ []) ≡ broken)
unfolding bytes_of front
examples = (refl, refl, refl, refl)

-- ---- a document file

-- "A document file is the document's tokens as numbers and nothing else."
abbrev pub file_of : List ℕ → List ℕ
file_of tokens = concat (map bytes_of tokens)

-- what comes of reading or writing: a refusal's number, or the tokens or bytes
pub data Result : Type 0 where
  refused : ℕ → Result
  made : List ℕ → Result

abbrev pub put : ℕ → Result → Result
put n (refused k) = refused k
put n (made l) = made (n ∷ l)

-- "Reader: from the front, the first of a broken number (1) or a token for which there is no place [..] (5), decides; a
-- number's form comes before its place." "an empty file is zero tokens". `room` is the number of places left.
abbrev pub tokens_in : ℕ → List ℕ → Result
tokens_in zero [] = made []
tokens_in zero (b ∷ s) = elim (front (b ∷ s)) [ broken ↦ refused 1 | got n r ↦ refused 5 ]
tokens_in (suc room) [] = made []
tokens_in (suc room) (b ∷ s) = elim (front (b ∷ s)) [ broken ↦ refused 1 | got n r ↦ put n (tokens_in room r) ]

-- "no place, in the lent buffer or past 8,192"
unfoldable pub reading : (file buffer : List ℕ) → Result
reading file buffer = tokens_in (min (length buffer) most_tokens) file

-- "Writer, of every token in the slice lent: over 8,192 tokens (5), then a token over 2,097,151 (4), then too little room (5)."
unfoldable pub writing : (tokens buffer : List ℕ) → Result
writing tokens buffer =
    cond (ltb most_tokens (length tokens)) (refused 5)
    (cond (all (λ t. leb t largest) tokens)
    (cond (leb (length (file_of tokens)) (length buffer)) (made (file_of tokens)) (refused 5))
    (refused 4))

-- ---- the two calls

-- "reader and writer [answer] a number and the count of tokens or bytes, 0 when refused". With it, every place of the buffer.
pub record Counted : Type 0 where
  pub number : ℕ
  pub count : ℕ
  pub buffer : List ℕ

-- "Places after the last token read keep their contents." "Bytes after the last one written keep their contents."
-- "Refusals leave everything lent as it was"
abbrev pub counted : Result → List ℕ → Counted
counted (refused k) buffer = record { number = k; count = 0; buffer = buffer }
counted (made l) buffer = record { number = 0; count = length l; buffer = l ++ drop (length l) buffer }

unfoldable pub read : (file buffer : List ℕ) → Counted
read file buffer = counted (reading file buffer) buffer

unfoldable pub write : (tokens buffer : List ℕ) → Counted
write tokens buffer = counted (writing tokens buffer) buffer
