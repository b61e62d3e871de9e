-- What is known of an outcome whose number is 0. Assumes nothing.
use Rattle.std.specs.Prelude.{◌≡◌, refl, Bool, true, false, cond, List, ℕ, ◌≤◌, min, leb, ltb, length, take, drop}
use Rattle.std.proofs.Common.{sym, ap, ◌∙◌, arith, le_refl, ltb-false, le-ltb, le-leb}
use Rattle.std.proofs.Math.Seq.{take-append_seam}
use Rattle.paper.specs.Basics.{most_tokens}
use Rattle.paper.specs.Files.{largest, file_of, Result, refused, made, tokens_in, reading, writing, Counted, counted, read, write}
use Rattle.numbers.specs.At.{front_small}
use Rattle.numbers.specs.Laws.{bytes, bytes_rest, Holds, none, more, holds_one, holds_file, tokens_back, tokens_made, tokens_refused}
use Rattle.docfile.specs.Outcome.{small}

-- the tokens read or the bytes written: the first places of the buffer, as many as are counted
abbrev pub content : Counted → List ℕ
content o = take o.count o.buffer

-- a call that made l
pub record Made (l : List ℕ) (o : Counted) : Type 0 where
  pub number : o.number ≡ 0
  pub count : o.count ≡ length l
  pub content : take o.count o.buffer ≡ l

counted_made : (l buffer : List ℕ) → Made l (counted (made l) buffer)
counted_made l buffer = record { number = refl; count = refl; content = take-append_seam l (drop (length l) buffer) }

-- ---- the reader

pub record ReadDone (file : List ℕ) (o : Counted) : Type 0 where
  pub tokens : List ℕ
  pub holds : Holds file tokens
  pub few : length tokens ≤ most_tokens
  pub result : Made tokens o

-- a reader that is done has read what the file holds
pub read_done : (file buffer : List ℕ) {o : Counted} → o ≡ read file buffer → o.number ≡ 0 → ReadDone file o
unfolding read reading
read_done file buffer e z = rw e (go (tokens_in (min (length buffer) most_tokens) file) refl (rw e at z))
  where
    go : (r : Result) → tokens_in (min (length buffer) most_tokens) file ≡ r → (counted r buffer).number ≡ 0 → ReadDone file (counted r buffer)
    go (refused k) p z = absurd (omega (arith, tokens_refused (min (length buffer) most_tokens) file k p))
    go (made l) p z =
        let (h, n) = tokens_made (min (length buffer) most_tokens) file l p in
        record { tokens = l; holds = h; few = omega arith; result = counted_made l buffer }

-- ---- the writer

pub record WriteDone (tokens : List ℕ) (o : Counted) : Type 0 where
  pub few : length tokens ≤ most_tokens
  pub fit : small tokens ≡ true
  pub result : Made (file_of tokens) o

-- a writer that is done has written the file of its tokens
pub write_done : (tokens buffer : List ℕ) {o : Counted} → o ≡ write tokens buffer → o.number ≡ 0 → WriteDone tokens o
unfolding write writing
write_done tokens buffer e z = rw e (go (ltb most_tokens (length tokens)) (small tokens) (leb (length (file_of tokens)) (length buffer)) refl refl (rw e at z))
  where
    go : (a b c : Bool) → ltb most_tokens (length tokens) ≡ a → small tokens ≡ b
        → (counted (cond a (refused 5) (cond b (cond c (made (file_of tokens)) (refused 5)) (refused 4))) buffer).number ≡ 0
        → WriteDone tokens (counted (cond a (refused 5) (cond b (cond c (made (file_of tokens)) (refused 5)) (refused 4))) buffer)
    go true b c p q z = absurd (omega arith)
    go false false c p q z = absurd (omega arith)
    go false true false p q z = absurd (omega arith)
    go false true true p q z = record { few = ltb-false most_tokens (length tokens) p; fit = q; result = counted_made (file_of tokens) buffer }

-- ---- one after the other

-- numbers that bytes hold are small
holds_small : {s l : List ℕ} → bytes s ≡ true → Holds s l → small l ≡ true
holds_small h none = refl
holds_small {s} h (more {n = n} p q) = rw (le-leb n largest (front_small s h p)) (holds_small (bytes_rest s h p) q)

-- the file of the tokens that were read is the file
pub file_back : {file : List ℕ} {o : Counted} → bytes file ≡ true → ReadDone file o → file_of (content o) ≡ file
file_back h d = ap file_of d.result.content ∙ sym (holds_file h d.holds)

-- the tokens that are read of what was written are the tokens written
pub same_tokens : {tokens : List ℕ} {w o : Counted} → WriteDone tokens w → (d : ReadDone (content w) o) → d.tokens ≡ tokens
same_tokens {tokens} e d =
    let n : ℕ = length tokens in
    holds_one (rw e.result.content at d.holds) (tokens_made n (file_of tokens) tokens (tokens_back tokens n e.fit (le_refl n))).0

-- what was read is written where there is room for the file
pub writes : {file : List ℕ} (room : List ℕ) {o w : Counted} → bytes file ≡ true → ReadDone file o → w ≡ write (content o) room → length file ≤ length room → w.number ≡ 0
unfolding write writing
writes {file} room {o} h d e k =
    let f : length (file_of d.tokens) ≤ length room = rw (← holds_file h d.holds) k in
    rw (e, d.result.content, le-ltb most_tokens (length d.tokens) d.few, holds_small h d.holds, le-leb (length (file_of d.tokens)) (length room) f)

-- what was written is read where there is a place for each token
pub reads : {tokens : List ℕ} (places : List ℕ) {w o : Counted} → WriteDone tokens w → o ≡ read (content w) places → length tokens ≤ length places → o.number ≡ 0
unfolding read reading
reads {tokens} places d e k = rw (e, d.result.content, tokens_back tokens (min (length places) most_tokens) d.fit (omega (arith, d.few)))
