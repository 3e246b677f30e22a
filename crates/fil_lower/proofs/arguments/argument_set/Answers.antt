use Rattle.std.proofs.Common.{Contains, Option, ap, ap₂, sym, subst, ◌∙◌}
use Rattle.std.proofs.lemmas.List.Elements.{All-contains}
use Rattle.hw_names.specs.Name.{Text}
use Rattle.net_core.specs.Guard.{GuardTree, source_tree}
use Rattle.net_core.specs.declared.net.Src.{Src}
use Rattle.cal_ast.specs.Tree.{Assignment, PortName, port_tree}
use Rattle.fil_sig.specs.Seen.{seen_port}
use Rattle.fil_lower.specs.inside.Parts.{IsNamedPort, invocation_shown}
use Rattle.fil_lower.proofs.KnownLemmas.{callee_port}
use Rattle.fil_lower.proofs.PlaceLemmas.{port_has, port_shown}
use Rattle.fil_lower.proofs.arguments.argument_set.Goals as goal

pub number_of-requires : goal.number_of-requires
number_of-requires c =
    let (l, shows, among, input, known) = c.requires.known in
    let names = c.args.place.now.names.now in
    let v = invocation_shown c.args.place.now.body.now.names.now c.args.call.now in
    let p = seen_port c.args.port.now in
    let (sig, signed, has) = callee_port l v.inst p input in
    let C : Text → Type 0 = Contains names in
    subst C (sym c.bytes.ensures) (All-contains (IsNamedPort names) sig.ins p (shows.ports v.inst sig signed).inputs has)

pub returns-clause-set : goal.returns-clause-set
returns-clause-set c = λ l shows.
    let own = c.args.place.now.body.now.names.now in
    let names = c.args.place.now.names.now in
    let of : PortName → Option (GuardTree PortName) → Src PortName → Assignment = λ dst guard src. record { dst = dst; guard = guard; src = src } in
    let dst = port_shown own names shows.kept c.port_of.result c.args.call.now.inst c.number_of.result c.args.port.now.name c.port_of.ensures c.requires.call.inst (c.number_of.ensures.text ∙ c.bytes.ensures) in
    let guard = c.in_ok-guard.ensures.guard l shows in
    ap₂ (λ dst guard. of dst guard (source_tree (port_tree names) c.source.result)) dst guard ∙ ap (of _ _) (c.source.ensures.source l shows)

pub returns-clause-numbers : goal.returns-clause-numbers
returns-clause-numbers c =
    let (l, shows, among, input, known) = c.requires.known in
    let own = c.args.place.now.body.now.names.now in
    let names = c.args.place.now.names.now in
    (port_has own names shows.kept c.port_of.result c.args.call.now.inst c.number_of.result c.port_of.ensures c.requires.call.inst c.number_of.ensures.numbered, c.in_ok-guard.ensures.numbers, c.source.ensures.numbers)
