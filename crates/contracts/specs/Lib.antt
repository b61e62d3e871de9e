-- A function's contract, as it stands, told as a relation from input to outcome. Assumes nothing.
use Rattle.std.specs.Prelude.{◌≡◌, List, ℕ}
use contract.Lifetimes.{Lfts}
use denote.Triple.Clauses.{AtExit}
use borrow.Fn.Kinds.{ParamKind, ResultKind, Dens, res_t, ended_of, In, Out}

-- A function: its parameters and its result, what its contract asks of a caller and what it tells one (the names `ps`, `r`, `Asked`
-- and `Learnt` that the prover makes of the function), and how an input and an outcome are read from a call: from the parameters as
-- they were given, and from the result and the parameters as they are after the call.
pub record Call (I O : Type 0) : Type 3 where
  pub lifetimes : ℕ
  pub ps : List (ParamKind lifetimes)
  pub r : ResultKind lifetimes
  pub Asked : In lifetimes ps
  pub Learnt : Out lifetimes ps r
  pub input : (κs : Lfts lifetimes) → Dens κs ps → I
  pub outcome : (κs : Lfts lifetimes) → (res_t r κs).Denot → AtExit (ended_of lifetimes ps r) κs → O

module _ {I O : Type 0} (c : Call I O) where
  -- the contract asks nothing of a caller
  abbrev pub TakesAll : Type 0
  TakesAll = (κs : Lfts c.lifetimes) (given : Dens κs c.ps) → c.Asked κs given

  -- the contract allows a call with this input and this outcome
  pub record Allows (i : I) (o : O) : Type 0 where
    pub κs : Lfts c.lifetimes
    pub given : Dens κs c.ps
    pub result : (res_t c.r κs).Denot
    pub after : AtExit (ended_of c.lifetimes c.ps c.r) κs
    pub its_input : c.input κs given ≡ i
    pub its_outcome : c.outcome κs result after ≡ o
    pub told : c.Learnt κs given result after

  -- what a call's contract tells of it holds of its input and its outcome
  pub allowed : (P : I → O → Type 0)
      → ((κs : Lfts c.lifetimes) (given : Dens κs c.ps) (result : (res_t c.r κs).Denot) (after : AtExit (ended_of c.lifetimes c.ps c.r) κs)
      → c.Learnt κs given result after → P (c.input κs given) (c.outcome κs result after))
      → (i : I) (o : O) → Allows i o → P i o
  allowed P h i o a = rw (a.its_input, a.its_outcome) at (h a.κs a.given a.result a.after a.told)
