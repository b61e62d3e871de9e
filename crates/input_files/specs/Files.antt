-- A file as the system answered. Assumes nothing.
use Rattle.std.specs.Prelude.{◌≡◌, Bool, ◌&&◌, List, ℕ, take}
use Rattle.io.specs.Counts.{IsPrefixLen}
use Rattle.input_files.specs.declared.Name.{Name}
use Rattle.input_files.specs.declared.File.{File}

-- the file of that name, its bytes at the front of its room
pub record Holds (name : Name) (f : File) : Type 0 where
  pub named : f.name ≡ name
  pub counts : IsPrefixLen f.len f.bytes

-- it was opened, and no read of it failed
abbrev pub readable : File → Bool
readable f = f.opened && f.whole

-- the bytes that were read
abbrev pub front : File → List ℕ
front f = take f.len f.bytes
