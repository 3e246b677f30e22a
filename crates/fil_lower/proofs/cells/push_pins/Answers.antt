use Rattle.std.proofs.Common.{◌≡◌, ◌++◌, ◌∷◌, [], List, All, map, take, get_or, slice_get, Some, sym, ap, subst, ◌∙◌, append_assoc}
use Rattle.std.proofs.lemmas.List.{map-append}
use Rattle.std.proofs.lemmas.List.Elements.{All-push}
use Rattle.hw_prims.specs.Table.{Pin, pin}
use Rattle.cal_ast.specs.Numbers.{PinHasNumber}
use Rattle.cal_ast.specs.Tree.{pin_tree}
use Rattle.cal_ast.specs.declared.tree.CalPin.{CalPin}
use Rattle.fil_ast.specs.Tree.{DataPort, port_tree}
use Rattle.fil_ast.specs.declared.tree.FilPort.{FilPort}
use Rattle.fil_lower.proofs.StepLemmas.{map_next, some_read}
use Rattle.fil_lower.proofs.cells.push_pins.Goals as goal

no_port : FilPort
no_port = record { from = record { event = record { 0 = 0 }; plus = 0 }; to = record { event = record { 0 = 0 }; plus = 0 }; name = record { 0 = 0 }; width = 0 }

pub loop-port-preserved : goal.loop-port-preserved
unfolding no_port
loop-port-preserved c =
    let ports = c.args.ports.now in
    let i = c.loop-port.port-index in
    let x = get_or ports i no_port in
    let at : slice_get ports i ≡ Some x = some_read ports i no_port c.loop-port-test.true in
    record {
      pins = λ names.
          let of : DataPort → Pin = λ (p : DataPort). pin p.name p.width in
          let old = map (pin_tree names) c.args.pins.now.items in
          let so_far = map of (map (port_tree names) (take i ports)) in
          ap (map (pin_tree names)) c.in_ok-push.ensures.items ∙ map-append (pin_tree names) c.loop-port.pins.items _
          ∙ ap (λ ps. ps ++ of (port_tree names x) ∷ []) (c.loop-port.invariant.pins names)
          ∙ append_assoc old so_far (of (port_tree names x) ∷ [])
          ∙ ap (λ ps. old ++ ps) (sym (ap (map of) (map_next (port_tree names) ports i x at) ∙ map-append of (map (port_tree names) (take i ports)) (port_tree names x ∷ [])));
      numbers = λ names known before.
          let N : List CalPin → Type 0 = All (PinHasNumber names) in
          subst N (sym c.in_ok-push.ensures.items) (All-push (PinHasNumber names) c.loop-port.pins.items _ (c.loop-port.invariant.numbers names known before) (known i no_port c.loop-port-test.true).2);
    }
