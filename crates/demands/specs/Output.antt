-- The edit program's output, as a call, and what is promised of it; proofs/ has the proofs. Assumes nothing.
use Rattle.std.specs.Prelude.{Bool, List, ℕ}
use Rattle.paper.specs.Program.{printed}
use Rattle.contracts.specs.{Call}
use Rattle.lines.specs.Put.{Put}
use Rattle.program.specs.Stages.{given as file}
use Rattle.program.proofs.output.Kinds as output-kinds
use Rattle.program.proofs.output.Reads as output

-- whether the files were opened, the three files, and the buffer
pub record Files : Type 0 where
  pub opened : Bool
  pub schema : List ℕ
  pub doc : List ℕ
  pub edits : List ℕ
  pub out : List ℕ

-- the number of bytes, and the buffer
abbrev pub program_output : Call Files (ℕ × List ℕ)
program_output = record {
  lifetimes = 4;
  ps = output-kinds.ps;
  r = output-kinds.r;
  Asked = output.Asked;
  Learnt = output.Learnt;
  input = λ κs given. record { opened = given.0; schema = given.1.0.now; doc = given.1.1.0.now; edits = given.1.1.1.0.now; out = given.1.1.1.1.0.now };
  outcome = λ κs result after. (result, after.1.1.1.1.0.now);
}

-- what is put into the buffer is what the paper says is printed
abbrev pub Printed : Files → ℕ × List ℕ → Type 0
Printed i o = Put i.out 0 (printed (file i.opened i.schema) (file i.opened i.doc) (file i.opened i.edits)) o.0 o.1
