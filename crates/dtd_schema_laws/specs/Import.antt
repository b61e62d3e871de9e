-- What the calls on a text come to: done exactly for a text that is taken, with room, and then with what it is turned into.
-- Assumes nothing.
use Rattle.std.specs.Prelude.{◌≡◌, refl, ◌↔◌, ◌⊎◌, Bool, true, false, cond, ◌&&◌, List, ◌++◌, ℕ, ◌≤◌, ◌<◌, leb, ltb, length, drop}
use Rattle.std.proofs.Common.{ap, inl, inr, arith, leb-true, le-leb, ltb-true, lt-ltb}
use Rattle.std.proofs.Math.Bool.{and-eq-true_iff}
use Rattle.paper.specs.Files.{Counted, refused, made, counted}
use Rattle.paper.specs.Dtd.Declarations.{Declaration}
use Rattle.paper.specs.Dtd.Readers.{Read, stop, ok}
use Rattle.paper.specs.Dtd.Numbering.{names_of}
use Rattle.paper.specs.Dtd.Imported.{declared, worded, schema_file, import, names}
use Rattle.dtd_laws.specs.Taken.{Taken, taken_exactly, taken_whole}
use Rattle.dtd_laws.specs.Refusals.{refused_with}

-- f: what is written of the declarations
module _ (f : List Declaration → List ℕ) (s buffer : List ℕ) where
  abbrev call : Read (List Declaration) → Counted
  call o = counted (worded f o buffer) buffer

  -- there is room for what is written, and its count has 32 bits
  abbrev pub Room : List Declaration → Type 0
  Room ds = (length (f ds) ≤ length buffer) × (length (f ds) < 4294967296)

  room_of : (ds : List Declaration) (b : Bool) → leb (length (f ds)) (length buffer) && ltb (length (f ds)) 4294967296 ≡ b
      → (counted (cond b (made (f ds)) (refused 5)) buffer).number ≡ 0 → Room ds
  room_of ds true p e =
      let (i, j) = (and-eq-true_iff (leb (length (f ds)) (length buffer)) (ltb (length (f ds)) 4294967296)).0 p in
      (leb-true (length (f ds)) (length buffer) i, ltb-true (length (f ds)) 4294967296 j)
  room_of ds false p e = absurd (omega arith)

  -- The call is done exactly if the text is taken and there is room.
  done_of : (o : Read (List Declaration)) → declared s ≡ o → (call o).number ≡ 0 → (ds : List Declaration) × Taken s ds × Room ds
  done_of (stop k t) p e = other (refused_with s t k p)
    where
      other : (k ≡ 14) ⊎ (k ≡ 2) → (ds : List Declaration) × Taken s ds × Room ds
      other (inl q) = absurd (omega arith)
      other (inr q) = absurd (omega arith)
  done_of (ok ds t) p e =
      (ds, (taken_exactly s ds).0 (t, p), room_of ds (leb (length (f ds)) (length buffer) && ltb (length (f ds)) 4294967296) refl e)

  -- what it then leaves
  left_of : (ds : List Declaration) → Taken s ds → Room ds → call (declared s) ≡ counted (made (f ds)) buffer
  left_of ds t (p, q) = rw (taken_whole s ds t, le-leb (length (f ds)) (length buffer) p, lt-ltb (length (f ds)) 4294967296 q)

-- The importer is done exactly if the text is taken and there is room for its file ..
pub import_done : (s buffer : List ℕ) → ((import s buffer).number ≡ 0) ↔ ((ds : List Declaration) × Taken s ds × Room schema_file s buffer ds)
unfolding import
import_done s buffer = (done_of schema_file s buffer (declared s) refl, λ (ds, t, r). ap (λ o. o.number) (left_of schema_file s buffer ds t r))

-- .. and then its answer is the count of the file's bytes, and the buffer begins with the file; "Bytes after a done file stay."
pub import_left : (s buffer : List ℕ) (ds : List Declaration) → Taken s ds → Room schema_file s buffer ds
    → import s buffer ≡ record { number = 0; count = length (schema_file ds); buffer = schema_file ds ++ drop (length (schema_file ds)) buffer }
unfolding import
import_left s buffer ds t r = left_of schema_file s buffer ds t r

-- The same of the list of names.
pub names_done : (s buffer : List ℕ) → ((names s buffer).number ≡ 0) ↔ ((ds : List Declaration) × Taken s ds × Room names_of s buffer ds)
unfolding names
names_done s buffer = (done_of names_of s buffer (declared s) refl, λ (ds, t, r). ap (λ o. o.number) (left_of names_of s buffer ds t r))

pub names_left : (s buffer : List ℕ) (ds : List Declaration) → Taken s ds → Room names_of s buffer ds
    → names s buffer ≡ record { number = 0; count = length (names_of ds); buffer = names_of ds ++ drop (length (names_of ds)) buffer }
unfolding names
names_left s buffer ds t r = left_of names_of s buffer ds t r
