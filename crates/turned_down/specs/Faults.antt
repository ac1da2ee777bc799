-- A fault of programs, and what it is to turn it down.
--
--   Fault      ==  programs of one kind, a contract of theirs, and what a faulty one does
--   fault C D  ==  the fault D, against the contract C
--   Turned f   ==  some program does it, and no program that does it meets the contract
pub record Fault : Type 1 where
  pub Program : Type 0
  pub Meets : Program → Type 0
  pub Does : Program → Type 0

abbrev pub fault : {Program : Type 0} → (Program → Type 0) → (Program → Type 0) → Fault
fault {Program} C D = record { Program = Program; Meets = C; Does = D }

pub record Turned (f : Fault) : Type 0 where
  pub example : f.Program
  pub done : f.Does example
  pub refused : (p : f.Program) → f.Does p → f.Meets p → ⊥
