use Rattle.std.proofs.Common.{◌≡◌, List, Option, length, map, ap, sym, subst, ◌∙◌, arith}
use Rattle.std.specs.Prelude.{All, IfSome}
use Rattle.std.proofs.lemmas.List.{length-map}
use Rattle.std.proofs.lemmas.Result.{IfOk-weaker}
use Rattle.hw_names.specs.Name.{Text}
use Rattle.hw_short.specs.Order.{IsFit, TellOrder}
use Rattle.hw_short.specs.declared.full_name.FullName.{FullName}
use Rattle.fil_loops.specs.inside.Ports.{PortList, full_of}
use Rattle.fil_loops.proofs.OrderLemmas.{all_full_fit, full_tell, keys_tell}
use Rattle.fil_loops.proofs.ports.Ports.names_in_order.Goals as goal

pub short_names-requires : goal.short_names-requires
short_names-requires c =
    let texts = c.self.inside.texts.all in
    let keys = c.self.inside.set.keys in
    let listed = c.deref.result.now in
    let full_is : listed ≡ map full_of keys = c.deref.ensures.value ∙ c.in_ok-full.ensures ∙ ap (map full_of) c.as_slice.ensures.keys in
    record {
      fit = subst (All (IsFit (length texts))) (sym full_is) (all_full_fit texts keys c.self.invariant.0);
      room = omega (arith, ap length full_is, length-map keys full_of, c.self.invariant.2);
    }

pub returns-in-Some : goal.returns-in-Some
returns-in-Some c =
    let texts = c.self.inside.texts.all in
    let keys = c.self.inside.set.keys in
    let names = c.in-Some.names in
    let listed = c.deref.result.now in
    let full_is : listed ≡ map full_of keys = c.deref.ensures.value ∙ c.in_ok-full.ensures ∙ ap (map full_of) c.as_slice.ensures.keys in
    let found : TellOrder texts listed names = subst (λ (o : Option (List Text)). IfSome o (TellOrder texts listed)) c.in-Some.is c.in_ok-names.ensures in
    keys_tell texts keys c.args.self.now.names names (ap (λ (v : PortList). v.names) c.self.view_is) (subst (λ (l : List FullName). TellOrder texts l names) full_is found)

pub returns : goal.returns
returns c = IfOk-weaker c.full_names.result _ _ (λ names same. full_tell c.args.self.now.names names same) c.full_names.ensures
