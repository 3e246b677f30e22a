-- Which cells the assignments of a lowered component drive: registers, instances, and no cell.
use Rattle.std.proofs.Common.{◌≡◌, ℕ, zero, suc, false, List, [], ◌∷◌, flat_map, All, Option, Some, None, refl, ap, ◌∙◌}
use Rattle.std.specs.Option.{option_map_or}
use Rattle.std.specs.Prelude.{Contains, bytes_eq, codes, slice_index_or}
use Rattle.std.proofs.lemmas.Bool.{and_left, and_right}
use Rattle.std.proofs.lemmas.List.Elements.{All-append, All-cons, All-nil, All-weaker, Contains-append_left, Contains-append_right}
use Rattle.hw_names.specs.Name.{Text}
use Rattle.net_core.specs.declared.net.Src.TheVariants.{Port, Lit}
use Rattle.cal_ast.specs.Laws.{is_cell, local_values}
use Rattle.cal_ast.specs.Tree.{PortName, Assignment, own, port_of}
use Rattle.fil_ast.specs.Scope.{Instance, Invocation, instance_signature}
use Rattle.fil_ast.specs.Signature.{SigEvent, SigPort, Signature}
use Rattle.fil_ast.specs.Tree.{Event, Statement, New, Call, Both, Connect, ValueTree}
use Rattle.fil_fsm.specs.Chain.{bit_of, chain_sets, takes}
use Rattle.fil_lower.specs.inside.Lowering.{Lowering, all_registers, argument_set, argument_sets, connection_set, go_of, register_sets, registers_of, start_set, start_sets, start_sets_from, starting_bits}
use Rattle.fil_lower.proofs.ListLemmas.{contains_none}
use Rattle.fil_lower.proofs.NameLemmas.{other_name}
use Rattle.fil_lower.proofs.ValueLemmas.{IsElsewhere, flat_none, flat_values, no_values}
use Rattle.fil_share.proofs.ListLemmas.{Contains-here, Contains-there}

-- ---- ports that differ

pub other_cell : (a b : Text) → (a ≡ b → ⊥) → is_cell (Some a) (Some b) ≡ false
other_cell a b apart = other_name a b apart

-- an assignment of another cell drives another port
pub elsewhere_by : (see : PortName → ℕ) (p : PortName) (cell : Option Text) → is_cell cell p.cell ≡ false → (a : Assignment) → a.dst.cell ≡ cell → IsElsewhere see p a
elsewhere_by see p cell apart a is = and_left (is_cell a.dst.cell p.cell) (bytes_eq a.dst.pin p.pin) (ap (λ x. is_cell x p.cell) is ∙ apart)

pub elsewhere_pin : (see : PortName → ℕ) (p : PortName) (a : Assignment) → (a.dst.pin ≡ p.pin → ⊥) → IsElsewhere see p a
elsewhere_pin see p a apart = and_right (is_cell a.dst.cell p.cell) (bytes_eq a.dst.pin p.pin) (other_name a.dst.pin p.pin apart)

-- ---- the cells that are driven

abbrev pub DrivesCell : Option Text → Assignment → Type 0
DrivesCell cell a = a.dst.cell ≡ cell

abbrev pub DrivesOne : List Text → Assignment → Type 0
DrivesOne names a = (name : Text) × Contains names name × (a.dst.cell ≡ Some name)

pub chain_cells : (bit : PortName) (names : List Text) → All (DrivesOne names) (chain_sets bit names)
chain_cells bit [] = All-nil (DrivesOne [])
chain_cells bit (name ∷ names) =
    let here : Contains (name ∷ names) name = Contains-here name names in
    let taken : Assignment = record { dst = port_of name (codes "in"); guard = None; src = Port bit } in
    let written : Assignment = record { dst = port_of name (codes "write_en"); guard = None; src = Lit 1 1 } in
    All-append (DrivesOne (name ∷ names)) (takes bit name) (chain_sets (bit_of name) names)
    (All-cons (DrivesOne (name ∷ names)) taken (written ∷ []) (name, here, refl) (All-cons (DrivesOne (name ∷ names)) written [] (name, here, refl) (All-nil (DrivesOne (name ∷ names)))))
    (All-weaker (DrivesOne names) (DrivesOne (name ∷ names)) (λ a d. (d.0, Contains-there name names d.0 d.1, d.2)) (chain_sets (bit_of name) names) (chain_cells (bit_of name) names))

pub argument_cells : (l : Lowering) (v : Invocation) (ports : List SigPort) (args : List ValueTree) → All (DrivesCell (Some v.inst)) (argument_sets l v ports args)
argument_cells l v [] args = All-nil (DrivesCell (Some v.inst))
argument_cells l v (q ∷ ports) [] = All-nil (DrivesCell (Some v.inst))
argument_cells l v (q ∷ ports) (arg ∷ args) =
    All-cons (DrivesCell (Some v.inst)) (argument_set l v q arg) (argument_sets l v ports args) refl (argument_cells l v ports args)

start_cell : (inst go : Text) (bits : List PortName) → All (DrivesCell (Some inst)) (start_set inst go bits)
start_cell inst go [] = All-nil (DrivesCell (Some inst))
start_cell inst go (bit ∷ bits) = All-cons (DrivesCell (Some inst)) _ [] refl (All-nil (DrivesCell (Some inst)))

abbrev pub start_sets_of : Lowering → Text → ℕ → Option Text → List Assignment
start_sets_of l inst k go = option_map_or (λ go. start_set inst go (starting_bits l inst k)) go []

start_cells_of : (l : Lowering) (inst : Text) (k : ℕ) (go : Option Text) → All (DrivesCell (Some inst)) (start_sets_of l inst k go)
start_cells_of l inst k None = All-nil (DrivesCell (Some inst))
start_cells_of l inst k (Some go) = start_cell inst go (starting_bits l inst k)

start_cells_from : (l : Lowering) (inst : Text) (k : ℕ) (events : List SigEvent) → All (DrivesCell (Some inst)) (start_sets_from l inst k events)
start_cells_from l inst k [] = All-nil (DrivesCell (Some inst))
start_cells_from l inst k (e ∷ events) =
    All-append (DrivesCell (Some inst)) (start_sets_of l inst k e.go) (start_sets_from l inst (suc k) events) (start_cells_of l inst k e.go) (start_cells_from l inst (suc k) events)

pub start_cells : (l : Lowering) (i : Instance) → All (DrivesCell (Some i.name)) (start_sets l i)
start_cells l i = by (instance_signature l.scope i.name)
  where
    by : (o : Option Signature) → All (DrivesCell (Some i.name)) (option_map_or (λ (sig : Signature). start_sets_from l i.name 0 sig.events) o [])
    by None = All-nil (DrivesCell (Some i.name))
    by (Some sig) = start_cells_from l i.name 0 sig.events

pub connection_cells : (l : Lowering) (s : Statement) → All (DrivesCell None) (connection_set l s)
connection_cells l (Connect output value) = All-cons (DrivesCell None) _ [] refl (All-nil (DrivesCell None))
connection_cells l (New name made params) = All-nil (DrivesCell None)
connection_cells l (Call name inst gives) = All-nil (DrivesCell None)
connection_cells l (Both name made params gives) = All-nil (DrivesCell None)

-- ---- registers

-- a register of an event is a register
pub among_lists : (lists : List (List Text)) (k : ℕ) (name : Text) → Contains (slice_index_or lists k []) name → Contains (flat_map (λ names. names) lists) name
among_lists [] k name has = absurd (contains_none name has)
among_lists (names ∷ lists) zero name has = Contains-append_left names (flat_map (λ names. names) lists) name has
among_lists (names ∷ lists) (suc k) name has = Contains-append_right names (flat_map (λ names. names) lists) name (among_lists lists k name has)

-- a port of no register is not driven by them
pub registers_elsewhere : (see : PortName → ℕ) (p : PortName) (l : Lowering) → ((name : Text) → Contains (all_registers l) name → is_cell (Some name) p.cell ≡ false) → (events : List Event) → local_values see p (register_sets l events) ≡ []
registers_elsewhere see p l apart events =
    flat_values see p (λ (e : Event). option_map_or (λ go. chain_sets (own go) (registers_of l e.name)) (go_of l e.name) []) events
    ∙ flat_none (λ (e : Event). local_values see p (option_map_or (λ go. chain_sets (own go) (registers_of l e.name)) (go_of l e.name) [])) events (λ k e at. of_event e.name (go_of l e.name))
  where
    of_event : (event : Text) (go : Option Text) → local_values see p (option_map_or (λ go. chain_sets (own go) (registers_of l event)) go []) ≡ []
    of_event event None = refl
    of_event event (Some go) =
        no_values see p (chain_sets (own go) (registers_of l event))
        (All-weaker (DrivesOne (registers_of l event)) (IsElsewhere see p)
        (λ a d. elsewhere_by see p (Some d.0) (apart d.0 (among_lists l.registers _ d.0 d.1)) a d.2) (chain_sets (own go) (registers_of l event)) (chain_cells (own go) (registers_of l event)))
