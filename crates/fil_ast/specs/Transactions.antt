-- What a transaction computes: the flow of its component, seen at the ports of the transaction's event. This project's, after Filament, PLDI 2023.
use Rattle.std.specs.Prelude.{ℕ, Bool, List, [], ◌∷◌, drop, slice_index, if◌then◌else◌, bytes_eq}
use Rattle.hw_names.specs.Name.{Text}
use Rattle.fil_ast.specs.Flow.{Named, flow}
use Rattle.fil_ast.specs.Tree.{DataPort, Component, Design}

-- a data port's interval goes by this event
abbrev pub is_of_event : Text → DataPort → Bool
is_of_event event p = bytes_eq p.from.event event

-- values for all of these inputs: the given ones for those of the event, in their order, and 0 for those of other events
abbrev pub inputs_given : Text → List DataPort → List ℕ → List ℕ
inputs_given event [] values = []
inputs_given event (p ∷ ports) values =
    if is_of_event event p then slice_index values 0 ∷ inputs_given event ports (drop 1 values) else 0 ∷ inputs_given event ports values

-- those of these outputs, with their values, that are of the event
abbrev pub outputs_shown : Text → List DataPort → List ℕ → List Named
outputs_shown event (p ∷ ports) (v ∷ values) =
    if is_of_event event p then record { name = p.name; value = v } ∷ outputs_shown event ports values else outputs_shown event ports values
outputs_shown event ports values = []

-- what a transaction on the event gives, with a value for each data input of the event: the event's outputs, in their order
abbrev pub transaction_flow : Design → Component → Text → List ℕ → List Named
transaction_flow comps c event values = outputs_shown event c.outs (flow comps c (inputs_given event c.ins values))
