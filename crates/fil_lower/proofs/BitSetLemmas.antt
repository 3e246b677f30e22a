-- Guards of lowered assignments ask whether one of some bits is 1.
use Rattle.std.proofs.Common.{ℕ, suc, ◌-◌, List, [], ◌∷◌, ◌++◌, codes, get_or, flat_map, All, Option, Some, None, option_map}
use Rattle.std.specs.Option.{option_and_then, option_map_or}
use Rattle.std.proofs.lemmas.List.Elements.{All-append, All-cons, All-nil}
use Rattle.hw_names.specs.Name.{Text}
use Rattle.net_core.specs.declared.net.Src.TheVariants.{Port, Lit}
use Rattle.cal_ast.specs.Tree.{PortName, Assignment, own, port_of}
use Rattle.fil_ast.specs.Scope.{Instance, Invocation, instance_signature}
use Rattle.fil_ast.specs.Signature.{SigEvent, SigPort, Signature}
use Rattle.fil_ast.specs.Timeline.{Interval, interval_at}
use Rattle.fil_ast.specs.Tree.{Component, Design, Event, Statement, New, Call, Both, Connect, ValueTree}
use Rattle.fil_fsm.specs.Chain.{bit_of, chain_sets, takes}
use Rattle.fil_share.proofs.ListLemmas.{All-flat_map}
use Rattle.fil_lower.specs.Lowers.{AsksForBits, Always, Never, OfOne, OfSome, IsBitGuarded}
use Rattle.fil_lower.specs.inside.Lowering.{Lowering, Registers, any_of, argument_set, argument_sets, bits_from, connection_set, during, go_of, inputs_of_callee, invocation_sets, lowered_sets, lowered_value, lowering_with, register_sets, registers_of, start_set, start_sets, start_sets_from, starting_bits}

asks_any : (bits : List PortName) → AsksForBits (Some (any_of bits))
asks_any [] = Never
asks_any (bit ∷ []) = OfOne bit
asks_any (bit ∷ next ∷ bits) = OfSome bit next bits

one_set : (a : Assignment) → AsksForBits a.guard → All IsBitGuarded (a ∷ [])
one_set a is = All-cons IsBitGuarded a [] is (All-nil IsBitGuarded)

of_chain : (bit : PortName) (registers : List Text) → All IsBitGuarded (chain_sets bit registers)
of_chain bit [] = All-nil IsBitGuarded
of_chain bit (name ∷ registers) =
    let input : Assignment = record { dst = port_of name (codes "in"); guard = None; src = Port bit } in
    let enable : Assignment = record { dst = port_of name (codes "write_en"); guard = None; src = Lit 1 1 } in
    All-append IsBitGuarded (takes bit name) (chain_sets (bit_of name) registers) (All-cons IsBitGuarded input (enable ∷ []) Always (one_set enable Always)) (of_chain (bit_of name) registers)

of_start : (inst go : Text) (bits : List PortName) → All IsBitGuarded (start_set inst go bits)
of_start inst go [] = All-nil IsBitGuarded
of_start inst go (bit ∷ bits) = one_set (record { dst = port_of inst go; guard = Some (any_of (bit ∷ bits)); src = Lit 1 1 }) (asks_any (bit ∷ bits))

module _ (l : Lowering) where
  asks_during : (o : Option Interval) → AsksForBits (option_and_then (during l) o)
  asks_during None = Always
  asks_during (Some i) = by (go_of l i.event)
    where
      by : (o : Option Text) → AsksForBits (option_map (λ (go : Text). any_of (bits_from l i.event i.from (i.to - i.from))) o)
      by None = Always
      by (Some go) = asks_any (bits_from l i.event i.from (i.to - i.from))

  of_arguments : (v : Invocation) (ports : List SigPort) (args : List ValueTree) → All IsBitGuarded (argument_sets l v ports args)
  of_arguments v [] args = All-nil IsBitGuarded
  of_arguments v (port ∷ ports) [] = All-nil IsBitGuarded
  of_arguments v (port ∷ ports) (arg ∷ args) =
      All-cons IsBitGuarded (argument_set l v port arg) (argument_sets l v ports args) (asks_during (interval_at v.gives.times port)) (of_arguments v ports args)

  of_registers : (events : List Event) → All IsBitGuarded (register_sets l events)
  of_registers events =
      All-flat_map IsBitGuarded (λ (e : Event). option_map_or (λ (go : Text). chain_sets (own go) (registers_of l e.name)) (go_of l e.name) []) events (λ k d within. by (get_or events k d).name (go_of l (get_or events k d).name))
    where
      by : (event : Text) (o : Option Text) → All IsBitGuarded (option_map_or (λ (go : Text). chain_sets (own go) (registers_of l event)) o [])
      by event None = All-nil IsBitGuarded
      by event (Some go) = of_chain (own go) (registers_of l event)

  starts_from : (inst : Text) (k : ℕ) (events : List SigEvent) → All IsBitGuarded (start_sets_from l inst k events)
  starts_from inst k [] = All-nil IsBitGuarded
  starts_from inst k (e ∷ events) =
      All-append IsBitGuarded (option_map_or (λ (go : Text). start_set inst go (starting_bits l inst k)) e.go []) (start_sets_from l inst (suc k) events) (by e.go) (starts_from inst (suc k) events)
    where
      by : (o : Option Text) → All IsBitGuarded (option_map_or (λ (go : Text). start_set inst go (starting_bits l inst k)) o [])
      by None = All-nil IsBitGuarded
      by (Some go) = of_start inst go (starting_bits l inst k)

  of_starts : (i : Instance) → All IsBitGuarded (start_sets l i)
  of_starts i = by (instance_signature l.scope i.name)
    where
      by : (o : Option Signature) → All IsBitGuarded (option_map_or (λ (sig : Signature). start_sets_from l i.name 0 sig.events) o [])
      by None = All-nil IsBitGuarded
      by (Some sig) = starts_from i.name 0 sig.events

  of_connection : (s : Statement) → All IsBitGuarded (connection_set l s)
  of_connection (Connect output value) = one_set (record { dst = own output; guard = None; src = lowered_value l value }) Always
  of_connection (New name made params) = All-nil IsBitGuarded
  of_connection (Call name inst gives) = All-nil IsBitGuarded
  of_connection (Both name made params gives) = All-nil IsBitGuarded

pub sets_ask : (earlier : Design) (c : Component) (registers : Registers) → All IsBitGuarded (lowered_sets (lowering_with earlier c registers))
sets_ask earlier c registers =
    let l : Lowering = lowering_with earlier c registers in
    let by_registers = register_sets l c.events in
    let by_invocations = flat_map (invocation_sets l) l.scope.invocations in
    let by_starts = flat_map (start_sets l) l.scope.instances in
    let by_connections = flat_map (connection_set l) c.body in
    let first = of_registers l c.events in
    let second =
    All-flat_map IsBitGuarded (invocation_sets l) l.scope.invocations
    (λ k d within. let v = get_or l.scope.invocations k d in of_arguments l v (inputs_of_callee l v.inst) v.gives.args) in
    let third = All-flat_map IsBitGuarded (start_sets l) l.scope.instances (λ k d within. of_starts l (get_or l.scope.instances k d)) in
    let last = All-flat_map IsBitGuarded (connection_set l) c.body (λ k d within. of_connection l (get_or c.body k d)) in
    All-append IsBitGuarded (by_registers ++ by_invocations ++ by_starts) by_connections
    (All-append IsBitGuarded (by_registers ++ by_invocations) by_starts (All-append IsBitGuarded by_registers by_invocations first second) third) last
