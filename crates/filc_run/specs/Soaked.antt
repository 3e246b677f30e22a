-- The soak: many transactions through a pipeline of eight multiplications and additions, and what their run adds up to. This project's.
use Rattle.std.specs.Prelude.{◌≡◌, ℕ, zero, suc, ◌+◌, ◌*◌, ◌/◌, ◌%◌, ◌^◌, List, [], ◌∷◌, ◌++◌, codes}
use Rattle.std.specs.List.{sum_by}
use Rattle.hw_names.specs.Name.{Text}
use Rattle.hw_prims.specs.Row.{Trace}
use Rattle.net_core.specs.NetRun.{NetRun}
use Rattle.net_core.specs.Netlist.{Netlist}
use Rattle.fil_ast.specs.Signature.{component_signature}
use Rattle.fil_ast.specs.Tree.{TimeAt, DataPort, ValueTree, InputValue, OutputValue, Literal, Giving, Statement, New, Call, Both, Connect, Component, Design}
use Rattle.fil_driven.specs.Shown.{computed}
use Rattle.fil_driven.specs.TxDrive.{driven_by}
use Rattle.stim_read.specs.TxRun.{Transaction, TxRun}
use Rattle.filc_report.specs.Runs.{no_loads}
use Rattle.filc_report.specs.Sums.{over_rows, ports_in, summary_text, wrapped}
use Rattle.filc_stop.specs.Outcome.{Outcome, done_with}
use Rattle.filc_run.specs.Meant.{rows_taken}
use Rattle.filc_run.specs.Traced.{IsNetOf}

-- ---- the design

-- so many rows after the start
abbrev pub after : ℕ → TimeAt
after rows = record { event = codes "G"; plus = rows }

-- a data port of 32 bits, in the one row that comes so many after the start
abbrev pub word_in : ℕ → Text → DataPort
word_in row name = record { from = after row; to = after (row + 1); name = name; width = 32 }

-- a component with the event `G: 1` and its interface port `go`
abbrev pub pipeline : Text → List DataPort → List DataPort → List Statement → Component
pipeline name ins outs body =
    record {
      name = name;
      events = record { name = codes "G"; delay = 1 } ∷ [];
      interfaces = record { event = codes "G"; name = codes "go"; width = 1 } ∷ [];
      ins = ins;
      outs = outs;
      body = body;
    }

-- an invocation that starts so many rows after the start, with these arguments
abbrev pub given_in : ℕ → List ValueTree → Giving
given_in row args = record { times = after row ∷ []; args = args }

-- the output of an invocation
abbrev pub out_of : Text → ValueTree
out_of invocation = OutputValue invocation (codes "out")

-- a times b plus c, two rows later
abbrev pub step : Component
step =
    pipeline (codes "Step") (word_in 0 (codes "a") ∷ word_in 0 (codes "b") ∷ word_in 0 (codes "c") ∷ []) (word_in 2 (codes "out") ∷ []) (
    New (codes "M") (codes "FastMult") (32 ∷ [])
    ∷ New (codes "D1") (codes "Delay") (32 ∷ [])
    ∷ New (codes "D2") (codes "Delay") (32 ∷ [])
    ∷ New (codes "A") (codes "Add") (32 ∷ [])
    ∷ Call (codes "p") (codes "M") (given_in 0 (InputValue (codes "a") ∷ InputValue (codes "b") ∷ []))
    ∷ Call (codes "c1") (codes "D1") (given_in 0 (InputValue (codes "c") ∷ []))
    ∷ Call (codes "c2") (codes "D2") (given_in 1 (out_of (codes "c1") ∷ []))
    ∷ Call (codes "s") (codes "A") (given_in 2 (out_of (codes "p") ∷ out_of (codes "c2") ∷ []))
    ∷ Connect (codes "out") (out_of (codes "s"))
    ∷ [])

-- stage j of eight, of this name: the value times 2j + 3, plus j
abbrev pub stage : Text → ℕ → ValueTree → Statement
stage name j value = Both name (codes "Step") [] (given_in (2 * j) (value ∷ Literal 32 (2 * j + 3) ∷ Literal 32 j ∷ []))

-- what comes out of the last stage
abbrev pub soak_out : DataPort
soak_out = word_in 16 (codes "out")

-- eight stages, each on what the one before gives
abbrev pub soak : Component
soak =
    pipeline (codes "Soak") (word_in 0 (codes "a") ∷ []) (soak_out ∷ []) (
    stage (codes "s0") 0 (InputValue (codes "a"))
    ∷ stage (codes "s1") 1 (out_of (codes "s0"))
    ∷ stage (codes "s2") 2 (out_of (codes "s1"))
    ∷ stage (codes "s3") 3 (out_of (codes "s2"))
    ∷ stage (codes "s4") 4 (out_of (codes "s3"))
    ∷ stage (codes "s5") 5 (out_of (codes "s4"))
    ∷ stage (codes "s6") 6 (out_of (codes "s5"))
    ∷ stage (codes "s7") 7 (out_of (codes "s6"))
    ∷ Connect (codes "out") (out_of (codes "s7"))
    ∷ [])

abbrev pub soak_design : Design
soak_design = step ∷ soak ∷ []

-- ---- the transactions

-- the number after one: a linear congruential generator of 64 bits
abbrev pub next_number : ℕ → ℕ
next_number number = (6364136223846793005 * number + 1442695040888963407) % 2 ^ 64

-- the transaction with this number, which starts in this row: its input has the low 32 bits
abbrev pub soak_transaction : ℕ → ℕ → Transaction
soak_transaction number start = record { event = 0; start = start; values = number % 2 ^ 32 ∷ []; widths = 32 ∷ [] }

-- so many transactions, the first with this number and in this row; each next one starts a row later, and one more where the highest bit of its own
-- number is 1
abbrev pub transactions_from : ℕ → ℕ → ℕ → List Transaction
transactions_from zero number start = []
transactions_from (suc count) number start =
    soak_transaction number start ∷ transactions_from count (next_number number) (start + (1 + next_number number / 2 ^ 63))

-- the first has their count as its number, and starts in row 0
abbrev pub soak_transactions : ℕ → List Transaction
soak_transactions count = transactions_from count count 0

-- inputs are 0 where no transaction gives a value
abbrev pub soak_run : ℕ → TxRun
soak_run count = record { transactions = soak_transactions count; idle = 0 }

abbrev pub soak_rows : ℕ → ℕ
soak_rows count = rows_taken soak (soak_transactions count)

-- ---- what comes of it

-- what the transactions compute, by plain dataflow, added up
abbrev pub soak_sum : ℕ → ℕ
soak_sum count = wrapped (sum_by (computed soak_design soak soak_out) (soak_transactions count))

-- the values of all ports of the netlist in all rows of its run, added up
abbrev pub soak_ports : Netlist → Trace → ℕ → ℕ
soak_ports net trace rows = wrapped (over_rows (ports_in net) trace rows)

-- the text of a netlist that keeps what the design promises, an empty line, and what that netlist's run adds up to, as so many transactions drive it
pub record Soaks (count : ℕ) (made : Text) (o : Outcome) : Type 0 where
  pub net : Netlist
  pub made_net : IsNetOf soak_design net made
  pub trace : Trace
  pub is_run : NetRun net (soak_rows count) (driven_by (component_signature soak) (soak_run count)) no_loads (soak_rows count) trace
  pub outcome : o ≡ done_with (made ++ 10 ∷ [] ++ summary_text count (soak_rows count) (soak_sum count) (soak_ports net trace (soak_rows count)))
