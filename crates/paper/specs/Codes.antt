-- The numbers of refusals, operations, kinds and statuses, which code has as enums. Assumes nothing.
use Rattle.std.specs.Prelude.{ℕ, ◌≡◌, ◌≢◌, Result, Ok, Err}
use Rattle.paper.specs.declared.Refusal.{Refusal}
use Rattle.paper.specs.declared.Refusal.TheVariants.{Broken, Schema, Ambiguous, Shape, Room, Place, Name, Attributes, Content, Root, IdTwice, NoId, Table, DtdText, Counts, NotCompared}
use Rattle.paper.specs.declared.Operation.{Operation}
use Rattle.paper.specs.declared.Operation.TheVariants.{Insert, Remove, Replace, Set, Drop}
use Rattle.paper.specs.declared.NoOperation.{NoOperation}
use Rattle.paper.specs.declared.Kind.{Kind}
use Rattle.paper.specs.declared.Kind.TheVariants.{Cdata, Id, Idref, Idrefs}
use Rattle.paper.specs.declared.Status.{Status}
use Rattle.paper.specs.declared.Status.TheVariants.{Required, Implied, Fixed}
use Rattle.paper.specs.declared.Fault.{Fault}

abbrev pub number_of : Refusal → ℕ
number_of Broken = 1
number_of Schema = 2
number_of Ambiguous = 3
number_of Shape = 4
number_of Room = 5
number_of Place = 6
number_of Name = 7
number_of Attributes = 8
number_of Content = 9
number_of Root = 10
number_of IdTwice = 11
number_of NoId = 12
number_of Table = 13
number_of DtdText = 14
number_of Counts = 15
number_of NotCompared = 16

-- 0, or the number of the refusal
abbrev pub said : {A : Type 0} → Result A Refusal → ℕ
said (Ok x) = 0
said (Err r) = number_of r

-- "The check answers number and place": 0 and 0, or those of the fault
abbrev pub told : {A : Type 0} → Result A Fault → ℕ × ℕ
told (Ok x) = (0, 0)
told (Err f) = (number_of f.refusal, f.place)

-- 1 insert, 2 remove, 3 replace, 4 set, 5 drop
abbrev pub operation_of : Operation → ℕ
operation_of Insert = 1
operation_of Remove = 2
operation_of Replace = 3
operation_of Set = 4
operation_of Drop = 5

abbrev pub Operates : ℕ → Result Operation NoOperation → Type 0
Operates n (Ok o) = n ≡ operation_of o
Operates n (Err e) = (o : Operation) → n ≢ operation_of o

-- 0 CDATA, 1 ID, 2 IDREF, 3 IDREFS
abbrev pub kind_of : Kind → ℕ
kind_of Cdata = 0
kind_of Id = 1
kind_of Idref = 2
kind_of Idrefs = 3

-- 0 required, 1 implied, 2 fixed
abbrev pub status_of : Status → ℕ
status_of Required = 0
status_of Implied = 1
status_of Fixed = 2
