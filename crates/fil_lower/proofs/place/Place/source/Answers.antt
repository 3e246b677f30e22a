use Rattle.std.proofs.Common.{◌≡◌, [], ap, sym, subst, ◌∙◌, arith}
use Rattle.std.specs.Option.{option_map_or}
use Rattle.hw_names.proofs.NameLemmas.{length-KeepsTexts, text_of-KeepsTexts, text_of-slice_get}
use Rattle.hw_names.specs.Name.{text_of}
use Rattle.net_core.specs.declared.net.Src.TheVariants.{Port}
use Rattle.cal_ast.specs.Tree.{port_of, port_tree}
use Rattle.fil_ast.specs.Numbers.{ValueHasNumbers}
use Rattle.fil_ast.specs.Scope.{Invocation, invocation_named}
use Rattle.fil_ast.specs.Tree.{value_tree}
use Rattle.fil_ast.specs.declared.tree.Value.{Value}
use Rattle.fil_lower.specs.inside.Lowering.{lowered_value}
use Rattle.fil_lower.proofs.PlaceLemmas.{port_has, port_shown}
use Rattle.fil_lower.proofs.place.Place.source.Goals as goal

pub returns-in-Out-clause-source : goal.returns-in-Out-clause-source
returns-in-Out-clause-source c = λ l shows.
    let own = c.args.self.now.body.now.names.now in
    let names = c.args.self.now.names.now in
    let V : Value → Type 0 = ValueHasNumbers own in
    let numbers = subst V c.in-Out.is c.requires.value in
    let invocation = text_of own c.in-Out.invocation in
    let named = text_of-slice_get own c.in-Out.invocation c.text.result.now c.text.ensures in
    let inst = c.inst-inst.ensures.shown own l.scope.invocations shows.body.calls ∙ ap (λ t. option_map_or (λ (v : Invocation). v.inst) (invocation_named l.scope.invocations t) []) (sym named) in
    let made = port_shown own names shows.kept c.port_of.result c.inst-inst.result c.in-Out.port (text_of own c.in-Out.port) c.port_of.ensures
    (c.inst-inst.ensures.numbered own l.scope.invocations shows.body.calls) (text_of-KeepsTexts own names c.in-Out.port shows.kept numbers.1) in
    let P : Value → Type 0 = λ v. Port (port_tree names c.port_of.result) ≡ lowered_value l (value_tree own v) in
    subst P (sym c.in-Out.is) (ap Port (made ∙ ap (λ t. port_of t (text_of own c.in-Out.port)) inst))

pub returns-in-Out-clause-numbers : goal.returns-in-Out-clause-numbers
returns-in-Out-clause-numbers c =
    let (l, shows, known) = c.requires.known in
    let own = c.args.self.now.body.now.names.now in
    let names = c.args.self.now.names.now in
    let V : Value → Type 0 = ValueHasNumbers own in
    let numbers = subst V c.in-Out.is c.requires.value in
    port_has own names shows.kept c.port_of.result c.inst-inst.result c.in-Out.port c.port_of.ensures
    (c.inst-inst.ensures.numbered own l.scope.invocations shows.body.calls) (omega (arith, length-KeepsTexts own names shows.kept, numbers.1))
