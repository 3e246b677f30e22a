-- The programs of a netlist: which one a row goes by, and what is asked of each. This project's.
use Rattle.std.specs.Prelude.{◌≡◌, ℕ, ◌+◌, ◌<◌, ◌≤◌, List, [], length, All, get_or}
use Rattle.net_core.specs.Netlist.{Netlist}
use Rattle.net_sim.specs.declared.cells.CellPorts.{CellPorts}
use Rattle.net_steps.specs.Operations.{AreBelow, AreMade}
use Rattle.net_steps.specs.Runs.{all_operations}
use Rattle.net_steps.specs.Steps.{IsAssumed}
use Rattle.net_steps.specs.declared.clashes.Clash.{Clash}
use Rattle.net_steps.specs.declared.other.Other.{Other as OtherCell}
use Rattle.net_row.specs.Program.{IsProgram, steps_in}
use Rattle.net_row.specs.declared.program.Program.{Program}
use Rattle.net_row.specs.declared.programs.Programs.{Programs}

-- the case with this place; past the last the general one
abbrev pub program_at : Programs → ℕ → Program
program_at programs place = get_or programs.cases.items place programs.general

-- each is a program of the netlist with these cells, for the rows in which what it assumes holds
pub record AreProgramsOf (n : Netlist) (cells : List CellPorts) (programs : Programs) : Type 0 where
  pub general : IsProgram n cells programs.general
  pub cases : All (IsProgram n cells) programs.cases.items

-- ---- slots

-- each slot that is named is one of those before this one
abbrev pub AreSlots : ℕ → List ℕ → Type 0
AreSlots count slots = All (λ slot. slot < count) slots

-- each slot that is named is there, and each operand of a step lies below it
pub record IsSound (base : ℕ) (program : Program) (others : List OtherCell) : Type 0 where
  pub below : AreBelow others program.choices.items base (steps_in program)
  pub ports : AreSlots (base + length (steps_in program)) program.ports.items
  pub next : AreSlots (base + length (steps_in program)) program.next.items
  pub clashes : All (λ (clash : Clash). (clash.first < base + length (steps_in program)) × (clash.second < base + length (steps_in program)))
      program.clashes.items
  pub places : All (AreSlots (base + length (steps_in program))) program.places.items

-- it is sound, and there are slots enough for its steps
pub record IsFit (base room : ℕ) (others : List OtherCell) (program : Program) : Type 0 where
  pub within : base + length (steps_in program) ≤ room
  pub sound : IsSound base program others

-- all are, as are the steps by which a case is guessed; the general one is for any row
pub record AreFit (base : ℕ) (others : List OtherCell) (programs : Programs) : Type 0 where
  pub general : IsFit base programs.room others programs.general
  pub any : programs.general.assumed.items ≡ []
  pub cases : All (IsFit base programs.room others) programs.cases.items
  pub opening_within : base + length (all_operations programs.opening.items) ≤ programs.room
  pub opening_below : AreBelow others [] base (all_operations programs.opening.items)

-- the slots are those of a row of the program: its steps make them, and what it assumes holds
pub record IsRunOf (base : ℕ) (program : Program) (others : List OtherCell) (slots : List ℕ) : Type 0 where
  pub made : AreMade others program.choices.items base (steps_in program) slots
  pub assumed : IsAssumed slots program.assumed.items
