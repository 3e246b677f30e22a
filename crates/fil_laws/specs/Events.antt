-- Events don't feed one another: what an output has goes by the inputs of its own event alone. Filament, PLDI 2023; the laws are this project's.
use Rattle.std.specs.Prelude.{◌≡◌, ℕ, List, [], ◌∷◌, length, take, slice_get, if◌then◌else◌, Some}
use Rattle.std.specs.List.{AllZip}
use Rattle.hw_names.specs.Name.{Path, Text}
use Rattle.hw_prims.specs.Row.{Trace}
use Rattle.hw_prims.specs.Timed.{AreLegalTransactions, Behaviour, Transaction}
use Rattle.net_core.specs.Circuit.{Circuit, IsRun}
use Rattle.net_core.specs.NetRun.{net_circuit}
use Rattle.net_core.specs.Netlist.{Netlist}
use Rattle.fil_ast.specs.Behaviours.{IsGiven, component_behaviour}
use Rattle.fil_ast.specs.Flow.{flow}
use Rattle.fil_ast.specs.Rules.{FilRules}
use Rattle.fil_ast.specs.Transactions.{is_of_event, outputs_shown, transaction_flow}
use Rattle.fil_ast.specs.Tree.{DataPort, Component, Design}
use Rattle.fil_promise.specs.Refines.{CarriesList, CarriesLists, GiveInputs}
use Rattle.fil_lower.specs.Separate.{AreAlike}

-- values of these ports, place by place, that are the same at each port of the event
abbrev pub AgreeOn : Text → List DataPort → List ℕ → List ℕ → Type 0
AgreeOn event ports values others = (k : ℕ) (p : DataPort) → slice_get ports k ≡ Some p → p.from.event ≡ event → slice_get values k ≡ slice_get others k

-- inputs that agree on an event give outputs that agree on it, whatever the inputs of other events have
abbrev pub EventsStayApart : Type 0
EventsStayApart =
    (comps : Design) (n : ℕ) (c : Component) → FilRules comps → slice_get comps n ≡ Some c →
    (event : Text) (values others : List ℕ) → length values ≡ length c.ins → length others ≡ length c.ins → AgreeOn event c.ins values others →
    AgreeOn event c.outs (flow comps c values) (flow comps c others)

-- those of these ports' values that stand at ports of the event, in their order
abbrev pub values_at : Text → List DataPort → List ℕ → List ℕ
values_at event (p ∷ ports) (v ∷ values) = if is_of_event event p then v ∷ values_at event ports values else values_at event ports values
values_at event ports values = []

-- so a transaction computes the flow of its own values and any others: the 0 at inputs of other events stands for whatever is there
abbrev pub OtherInputsAreFree : Type 0
OtherInputsAreFree =
    (comps : Design) (n : ℕ) (c : Component) → FilRules comps → slice_get comps n ≡ Some c →
    (event : Text) (values : List ℕ) → length values ≡ length c.ins →
    transaction_flow comps c event (values_at event c.ins values) ≡ outputs_shown event c.outs (flow comps c values)

-- transactions that differ in values for inputs of other events alone give the instance at each path such transactions
abbrev pub GivenListsStayAlike : Type 0
GivenListsStayAlike =
    (comps : Design) (n : ℕ) (c : Component) (txs others : List Transaction) → FilRules comps → slice_get comps n ≡ Some c →
    AllZip (AreAlike (component_behaviour (take n comps) c).sig) txs others →
    (path : Path) (b : Behaviour) (given given' : List Transaction) → IsGiven comps b given n txs path → IsGiven comps b given' n others path →
    AllZip (AreAlike b.sig) given given'

-- as in `CarriesLists`, but whatever values transactions have for inputs of other events
abbrev pub CarriesAnyValues : Design → ℕ → Component → Circuit → Type 0
CarriesAnyValues comps number c circuit =
    (txs : List Transaction) → AreLegalTransactions (component_behaviour (take number comps) c).sig txs →
    (asked : ℕ) (inputs : Trace) (loads : Text → List ℕ) (height : ℕ) (trace : Trace) → IsRun circuit asked inputs loads height trace →
    GiveInputs (component_behaviour (take number comps) c) asked inputs txs → CarriesList comps number circuit txs asked height trace

-- so nothing is lost where lists are asked for whose transactions have values for their own event alone
abbrev pub OwnValuesSuffice : Type 0
OwnValuesSuffice =
    (comps : Design) (number : ℕ) (c : Component) (net : Netlist) → FilRules comps → slice_get comps number ≡ Some c →
    CarriesLists comps number c (net_circuit net) → CarriesAnyValues comps number c (net_circuit net)
