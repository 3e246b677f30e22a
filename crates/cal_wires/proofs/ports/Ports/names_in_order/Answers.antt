use Rattle.std.proofs.Common.{◌≡◌, List, Option, length, map, ap, subst, ◌∙◌, arith}
use Rattle.std.specs.Prelude.{IfSome}
use Rattle.std.proofs.lemmas.List.{length-map}
use Rattle.std.proofs.lemmas.Result.{IfOk-weaker}
use Rattle.hw_names.specs.Name.{Text}
use Rattle.hw_short.specs.Order.{TellOrder}
use Rattle.cal_wires.specs.Nodes.{PortList}
use Rattle.cal_wires.specs.NodeOrder.{full_name_in}
use Rattle.cal_wires.proofs.NodeOrderLemmas.{all_fit, keys_tell, tell_nodes}
use Rattle.cal_wires.proofs.ports.Ports.names_in_order.Goals as goal

pub short_names-requires : goal.short_names-requires
short_names-requires c =
    let keys = c.self.inside.set.keys in
    let are : c.deref.result.now ≡ map full_name_in keys = c.deref.ensures.value ∙ c.in_ok-full.ensures ∙ ap (map full_name_in) c.as_slice.ensures.keys in
    record {
      fit = all_fit (length c.self.inside.texts.all) keys c.deref.result.now are c.self.invariant.0;
      room = omega (arith, ap length are, length-map keys full_name_in, c.self.invariant.2);
    }

pub returns-in-Some : goal.returns-in-Some
returns-in-Some c =
    let texts = c.self.inside.texts.all in
    let keys = c.self.inside.set.keys in
    let named = c.deref.result.now in
    let names = c.in-Some.names in
    let are : named ≡ map full_name_in keys = c.deref.ensures.value ∙ c.in_ok-full.ensures ∙ ap (map full_name_in) c.as_slice.ensures.keys in
    let told : TellOrder texts named names = subst (λ (o : Option (List Text)). IfSome o (TellOrder texts named)) c.in-Some.is c.in_ok-names.ensures in
    tell_nodes texts keys named c.args.self.now.keys names are (ap (λ (v : PortList). v.keys) c.self.view_is) c.self.invariant.0 told

pub returns : goal.returns
returns c = IfOk-weaker c.keys.result _ _ (λ names same. keys_tell c.args.self.now.keys names same) c.keys.ensures
