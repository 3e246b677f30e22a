use Rattle.std.proofs.Common.{◌≡◌, ◌+◌, List, map, flat_map, Some, None, refl, sym, ap, ◌∙◌, arith}
use Rattle.hw_names.proofs.NameLemmas.{length-KeepsTexts, text_of-slice_get}
use Rattle.hw_names.specs.Name.{text_of}
use Rattle.cal_ast.specs.declared.tree.CalPort.{CalPort}
use Rattle.fil_ast.specs.Signature.{interface_of}
use Rattle.fil_ast.specs.Tree.{Component, interface_tree}
use Rattle.fil_ast.specs.declared.tree.GoPort.{GoPort}
use Rattle.fil_fsm.proofs.FreshLemmas.{KeepsTexts-trans}
use Rattle.fil_fsm.specs.Chain.{IsShiftRegister}
use Rattle.fil_fsm.specs.Registers.{PartsHaveNumbers}
use Rattle.fil_lower.specs.inside.Lowering.{wanted_by}
use Rattle.fil_lower.specs.inside.Place.{ShowsEvent, greatest, unregistered}
use Rattle.fil_lower.proofs.EventLemmas.{with_register, without_register}
use Rattle.fil_lower.proofs.PlaceLemmas.{both_ok, own_shown}
use Rattle.fil_lower.proofs.bits.event_parts.Goals as goal

pub last_bit-requires : goal.last_bit-requires
last_bit-requires c = let (scope, shows) = c.requires.body in (unregistered scope, shows)

pub shift_register-requires-clause-numbers : goal.shift_register-requires-clause-numbers
shift_register-requires-clause-numbers c = (tt, omega (arith, length-KeepsTexts c.args.body.now.names.now c.args.names.now c.requires.names, c.in-Some.ensures.numbered))

pub returns-in-Some-clause-parts : goal.returns-in-Some-clause-parts
returns-in-Some-clause-parts c = λ scope shows.
    let names = c.args.body.now.names.now in
    let old = c.args.names.now in
    let new = c.shift_register.new.names in
    let event = text_of names c.args.event in
    let go : CalPort = record { cell = None; port = c.in-Some.port } in
    let named = text_of-slice_get names c.args.event c.text-event.result.now c.text-event.ensures in
    let found : interface_of scope.comp.interfaces event ≡ Some (text_of names c.in-Some.port) =
    ap (λ (c : Component). interface_of c.interfaces event) shows.comp ∙ ap (λ (gs : List GoPort). interface_of (map (interface_tree names) gs) event) (sym c.deref.ensures.value)
    ∙ ap (interface_of (map (interface_tree names) c.deref.result.now)) named ∙ sym c.in-Some.ensures.found in
    let last : c.last_bit.result ≡ greatest (flat_map (wanted_by (unregistered scope) event) scope.invocations) =
    c.last_bit.ensures.value (unregistered scope) shows ∙ ap (λ t. greatest (flat_map (wanted_by (unregistered scope) t) scope.invocations)) (sym named) in
    both_ok (IsShiftRegister old new go (c.last_bit.result + 1)) (PartsHaveNumbers new) (ShowsEvent old new scope event) c.shift_register.result
    (λ parts chain numbers.
    with_register old new scope event parts go (text_of names c.in-Some.port) c.last_bit.result found
    (own_shown names new (KeepsTexts-trans names old new c.requires.names c.shift_register.ensures.kept) go c.in-Some.port refl c.in-Some.ensures.numbered) last chain numbers)
    c.shift_register.ensures.chain c.shift_register.ensures.numbers

pub returns-in-None-clause-parts : goal.returns-in-None-clause-parts
returns-in-None-clause-parts c = λ scope shows.
    let names = c.args.body.now.names.now in
    let event = text_of names c.args.event in
    let named = text_of-slice_get names c.args.event c.text-event.result.now c.text-event.ensures in
    let found : interface_of scope.comp.interfaces event ≡ None =
    ap (λ (c : Component). interface_of c.interfaces event) shows.comp ∙ ap (λ (gs : List GoPort). interface_of (map (interface_tree names) gs) event) (sym c.deref.ensures.value)
    ∙ ap (interface_of (map (interface_tree names) c.deref.result.now)) named ∙ sym c.in-None.ensures.found in
    without_register c.args.names.now c.args.names.now scope event _ found c.new.ensures.items c.new-in-None.ensures.items c.new-in-None-2.ensures.items
