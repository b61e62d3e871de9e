-- What the calls of document files promise, of any outcomes o that their contracts allow: o ≡ read .., o ≡ write .. Assumes nothing.
use Rattle.std.specs.Prelude.{◌≡◌, true, List, ℕ, ◌≤◌, length}
use Rattle.std.proofs.Common.{ap, ◌∙◌}
use Rattle.paper.specs.Files.{file_of, Counted, read, write}
use Rattle.numbers.specs.Laws.{bytes}
use Rattle.docfile.specs.Done.{content, ReadDone, read_done, file_back, reads, WriteDone, write_done, same_tokens, writes}

-- ---- there and back

-- Reading a file and writing the tokens read: where both calls are done, the bytes written are those of the file, and as many.
pub read_write : (file places room : List ℕ) (o w : Counted) → bytes file ≡ true
    → o ≡ read file places → o.number ≡ 0
    → w ≡ write (content o) room → w.number ≡ 0
    → (content w ≡ file) × (w.count ≡ length file)
read_write file places room o w h r z c y =
    let e : WriteDone (content o) w = write_done (content o) room c y in
    let f : file_of (content o) ≡ file = file_back h (read_done file places r z) in
    (e.result.content ∙ f, e.result.count ∙ ap length f)

-- Writing tokens and reading the bytes written: where both calls are done, the tokens read are those written, and as many.
pub write_read : (tokens room places : List ℕ) (w o : Counted)
    → w ≡ write tokens room → w.number ≡ 0
    → o ≡ read (content w) places → o.number ≡ 0
    → (content o ≡ tokens) × (o.count ≡ length tokens)
write_read tokens room places w o c y r z =
    let d : ReadDone (content w) o = read_done (content w) places r z in
    let f : d.tokens ≡ tokens = same_tokens (write_done tokens room c y) d in
    (d.result.content ∙ f, d.result.count ∙ ap length f)

-- After a call that is done, the call back is done where it has room: for the bytes of the file, for the tokens.
pub read_write_done : (file places room : List ℕ) (o w : Counted) → bytes file ≡ true
    → o ≡ read file places → o.number ≡ 0
    → w ≡ write (content o) room → length file ≤ length room → w.number ≡ 0
read_write_done file places room o w h r z c k = writes room h (read_done file places r z) c k

pub write_read_done : (tokens room places : List ℕ) (w o : Counted)
    → w ≡ write tokens room → w.number ≡ 0
    → o ≡ read (content w) places → length tokens ≤ length places → o.number ≡ 0
write_read_done tokens room places w o c y r k = reads places (write_done tokens room c y) r k
