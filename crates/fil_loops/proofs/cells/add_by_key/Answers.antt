use Rattle.std.proofs.Common.{◌≡◌, ◌<◌, [], Some, get_or, length, sym, ap, subst, ◌∙◌, arith}
use Rattle.std.specs.Prelude.{OnOk}
use Rattle.std.proofs.lemmas.Option.{same_Some, slice_get-get_or}
use Rattle.hw_names.specs.Name.{Text, dotted}
use Rattle.fil_loops.specs.inside.CellPins.{AddsInstances}
use Rattle.fil_loops.proofs.CellPinLemmas.{adds_none, adds_one}
use Rattle.fil_loops.proofs.cells.add_by_key.Goals as goal

pub returns-in_default : goal.returns-in_default
returns-in_default c full at = adds_none c.args.ports.now.instances full c.args.node c.args.entries.now.items (c.in_default.ensures.none full at)

pub returns-then-instance-instances : goal.returns-then-instance-instances
returns-then-instance-instances c full at =
    let instances = c.args.ports.now.instances in
    let instance = c.in-Some.instance in
    let port = c.in-Some._port.now in
    let within : instance < length instances = omega (arith, c.if-instance-instances.true, c.instances.ensures.count) in
    let inst = get_or instances instance [] in
    let at_inst = slice_get-get_or instances instance [] within in
    let is : full ≡ dotted inst port = same_Some full (dotted inst port) (sym at ∙ c.in-Some.ensures.some inst at_inst) in
    rw c.in_ok-push.ensures.items (adds_one instances c.requires.dotless c.requires.distinct instance inst port at_inst full c.args.node c.args.entries.now.items is)

pub returns : goal.returns
returns c full at =
    let name = c.deref.result.now in
    let same : name ≡ full = same_Some name full (ap Some c.deref.ensures.value ∙ sym c.in_ok-name.ensures ∙ at) in
    subst (λ (t : Text). OnOk c.add_instances.result (AddsInstances c.args.ports.now.instances t c.args.node c.args.entries.now.items c.add_instances.new.entries.items)) same c.add_instances.ensures
