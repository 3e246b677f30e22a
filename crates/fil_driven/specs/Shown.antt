-- What is shown of a component's outputs, row by row, where transactions drive it: of a netlist's run, and of the source. This project's, after
-- Filament, PLDI 2023.
use Rattle.std.specs.Prelude.{ℕ, List, [], ◌∷◌, ◌++◌, flat_map, codes, decimal}
use Rattle.std.specs.Option.{option_map_or}
use Rattle.hw_names.specs.Name.{Text}
use Rattle.hw_prims.specs.Row.{Row}
use Rattle.fil_ast.specs.Behaviours.{event_named}
use Rattle.fil_ast.specs.Flow.{value_named}
use Rattle.fil_ast.specs.Signature.{SigPort, sig_port}
use Rattle.fil_ast.specs.Transactions.{transaction_flow}
use Rattle.fil_ast.specs.Tree.{DataPort, Component, Design}
use Rattle.stim_read.specs.TxRun.{Transaction}
use Rattle.fil_driven.specs.TxDrive.{covering}

-- ---- of a run

-- an output's value is shown in the rows of its intervals, and a dash elsewhere
abbrev pub shown_value : List Transaction → ℕ → SigPort → ℕ → Text
shown_value transactions row p value = option_map_or (λ t. decimal value) (covering p row transactions) (codes "-")

-- the cycle, then each of these outputs
abbrev pub outputs_line : List Transaction → List SigPort → ℕ → Row → Text
outputs_line transactions outs cycle row =
    decimal cycle ++ flat_map (λ (p : SigPort). codes " " ++ p.name ++ codes "=" ++ shown_value transactions cycle p (row p.name)) outs ++ 10 ∷ []

-- ---- of the source

-- what a transaction computes for an output of its event
abbrev pub computed : Design → Component → DataPort → Transaction → ℕ
computed comps c p t = value_named (transaction_flow comps c (event_named c t.event) t.values) p.name

-- the value that the transaction computes in whose interval the row lies, and a dash where there is none
abbrev pub meant_value : Design → Component → List Transaction → ℕ → DataPort → Text
meant_value comps c transactions cycle p =
    option_map_or (λ t. decimal (computed comps c p t)) (covering (sig_port c.events p) cycle transactions) (codes "-")

-- the cycle, then each output as the source means it
abbrev pub meant_line : Design → Component → List Transaction → ℕ → Text
meant_line comps c transactions cycle =
    decimal cycle ++ flat_map (λ (p : DataPort). codes " " ++ p.name ++ codes "=" ++ meant_value comps c transactions cycle p) c.outs ++ 10 ∷ []
