-- What `flow` and `timeline` print of the transactions of a Filament design's top component. This project's.
use Rattle.std.specs.Prelude.{ℕ, suc, List, [], ◌∷◌, ◌++◌, codes, decimal, flat_map, map, take}
use Rattle.hw_names.specs.Name.{Text}
use Rattle.fil_ast.specs.Flow.{Named}
use Rattle.fil_ast.specs.Holds.{Start, Hold, holds_of}
use Rattle.fil_ast.specs.Transactions.{transaction_flow}
use Rattle.fil_ast.specs.Tree.{Component, Design}
use Rattle.fil_ast.specs.Wires.{whole_scope}
use Rattle.stim_read.specs.TxRun.{Transaction}
use Rattle.filc_load.specs.StimulusFile.{event_name}
use Rattle.filc_report.specs.Rows.{line_text}

-- ---- flow

-- a line: a number, then ports with their values
abbrev pub named_line : ℕ → List Named → Text
named_line number ports = line_text number (map (λ (p : Named). p.name) ports) (map (λ (p : Named). p.value) ports)

-- the line of a transaction: its number, then the outputs of its event with the values that it computes
abbrev pub flow_line : Design → Component → ℕ → Transaction → Text
flow_line design c number t = named_line number (transaction_flow design c (event_name c t.event) t.values)

-- the lines of transactions, numbered from here on
abbrev pub flow_lines : Design → Component → ℕ → List Transaction → Text
flow_lines design c number [] = []
flow_lines design c number (t ∷ transactions) = flow_line design c number t ++ flow_lines design c (suc number) transactions

-- ---- timeline

abbrev pub start_of : Component → Transaction → Start
start_of c t = record { event = event_name c t.event; row = t.start }

-- a line: the instance, the rows from and to which it is held, the invocation that holds it, and the number of the transaction
abbrev pub hold_line : Hold → Text
hold_line h =
    h.inst ++ codes " " ++ decimal h.from ++ codes " " ++ decimal h.to ++ codes " " ++ h.call ++ codes " " ++ decimal h.tx ++ 10 ∷ []

-- the lines of what transactions hold in component n of a design
abbrev pub hold_lines : Design → ℕ → Component → List Transaction → Text
hold_lines design n c transactions = flat_map hold_line (holds_of (whole_scope (take n design) c) (map (start_of c) transactions))
