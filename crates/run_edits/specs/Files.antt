-- What a file as the system answered counts as. Assumes nothing.
use Rattle.std.specs.Prelude.{◌≡◌, refl, Bool, true, false, ◌&&◌, List, ℕ}
use Rattle.std.proofs.Math.Option.{Option, some}
use Rattle.paper.specs.Program.{opened, lines_of, printed}
use Rattle.lines.specs.Put.{Put, put_as}
use Rattle.program.specs.Stages.{given}
use Rattle.input_files.specs.declared.File.{File}
use Rattle.input_files.specs.Files.{readable, front}

-- "a file .. not to be opened": one that cannot be read is as one that is not there
abbrev pub content : File → Option (List ℕ)
content f = given (readable f) (front f)

third_missing : (x y : Bool) → x && y && false ≡ false
third_missing true true = refl
third_missing true false = refl
third_missing false y = refl

second_missing : (x y : Bool) → x && false && y ≡ false
second_missing true y = refl
second_missing false y = refl

-- one file that is not there is as three that are not there
one_missing : (a b c : Bool) (schema doc edits : List ℕ)
    → printed (given ((a && b) && c) schema) (given ((a && b) && c) doc) (given ((a && b) && c) edits) ≡ printed (given a schema) (given b doc) (given c edits)
unfolding printed lines_of
one_missing true true true schema doc edits = refl
one_missing true true false schema doc edits = rw (third_missing (opened (some schema)) (opened (some doc)))
one_missing true false c schema doc edits = rw (second_missing (opened (some schema)) (opened (given c edits)))
one_missing false b c schema doc edits = refl

-- what is printed of the bytes that were read is what is printed of the files
pub all_printed : (schema doc edits : File) {a b c : Bool} {before after : List ℕ} {next : ℕ} → a ≡ readable schema → b ≡ readable doc → c ≡ readable edits
    → Put before 0 (printed (given ((a && b) && c) (front schema)) (given ((a && b) && c) (front doc)) (given ((a && b) && c) (front edits))) next after
    → Put before 0 (printed (content schema) (content doc) (content edits)) next after
all_printed schema doc edits p q r l =
    put_as l (rw (p, q, r) (one_missing (readable schema) (readable doc) (readable edits) (front schema) (front doc) (front edits)))
