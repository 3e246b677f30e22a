-- The rows of a Filament component's outputs under transactions, as the source means them. This project's, after Filament, PLDI 2023.
use Rattle.std.specs.Prelude.{ℕ, zero, suc, List, [], ◌++◌}
use Rattle.hw_names.specs.Name.{Text}
use Rattle.fil_ast.specs.Signature.{component_signature}
use Rattle.fil_ast.specs.Tree.{Component, Design}
use Rattle.fil_driven.specs.Shown.{meant_line}
use Rattle.stim_read.specs.TxEvents.{events_of}
use Rattle.stim_read.specs.TxRun.{Transaction, run_rows}

-- as many rows as the transactions take
abbrev pub rows_taken : Component → List Transaction → ℕ
rows_taken c transactions = run_rows (events_of (component_signature c)).events transactions

-- the rows of the first cycles, each a line
abbrev pub meant_lines : Design → Component → List Transaction → ℕ → Text
meant_lines comps c transactions zero = []
meant_lines comps c transactions (suc row) = meant_lines comps c transactions row ++ meant_line comps c transactions row

-- all rows
abbrev pub meant_text : Design → Component → List Transaction → Text
meant_text comps c transactions = meant_lines comps c transactions (rows_taken c transactions)
