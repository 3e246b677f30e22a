use Rattle.std.proofs.Common.{◌<◌, ◌++◌, ◌∷◌, [], List, All, length, map, Some, Option, sym, ap, ap₂, subst, ◌∙◌, arith}
use Rattle.std.proofs.lemmas.Bool.Decides.{nat_tests}
use Rattle.std.proofs.lemmas.List.{length-map, map-append}
use Rattle.std.proofs.lemmas.List.Elements.{All-push}
use Rattle.hw_names.specs.Name.{text_of}
use Rattle.net_core.specs.Guard.{GuardTree}
use Rattle.net_core.specs.declared.net.Src.TheVariants.{Lit}
use Rattle.cal_ast.specs.Numbers.{SetHasNumbers}
use Rattle.cal_ast.specs.Tree.{Assignment, PortName, assignment_tree, port_tree}
use Rattle.cal_ast.specs.declared.tree.Assign.{Assign}
use Rattle.fil_lower.proofs.PlaceLemmas.{port_has, port_shown}
use Rattle.fil_lower.proofs.UseNumberLemmas.{start_alone}
use Rattle.fil_lower.proofs.starts.push_start.Goals as goal

pub returns-in_ok-push-clause-sets : goal.returns-in_ok-push-clause-sets
returns-in_ok-push-clause-sets c =
    let own = c.args.place.now.body.now.names.now in
    let names = c.args.place.now.names.now in
    let bits = c.args.bits.now in
    let ports = map (port_tree names) bits in
    let some : 0 < length bits = grind (arith, nat_tests, c.is_empty.ensures, c.if-not-is_empty.true) in
    let more : 0 < length ports = omega (arith, length-map bits (port_tree names), some) in
    let of : PortName → Option (GuardTree PortName) → Assignment = λ dst guard. record { dst = dst; guard = guard; src = Lit 1 1 } in
    let dst = port_shown own names c.requires.kept c.port_of.result c.args.inst c.number_of.result c.args.go.now c.port_of.ensures c.requires.inst (c.number_of.ensures.text ∙ c.bytes.ensures) in
    ap (map (assignment_tree names)) c.in_ok-push.ensures.items ∙ map-append (assignment_tree names) c.args.sets.now.items _
    ∙ ap (λ (a : Assignment). map (assignment_tree names) c.args.sets.now.items ++ a ∷ []) (ap₂ of dst (ap Some (c.in_ok-any_of.ensures.shown names)))
    ∙ ap (λ sets. map (assignment_tree names) c.args.sets.now.items ++ sets) (sym (start_alone (text_of own c.args.inst) c.args.go.now ports more))

pub returns-in_ok-push-clause-numbers : goal.returns-in_ok-push-clause-numbers
returns-in_ok-push-clause-numbers c = λ known.
    let own = c.args.place.now.body.now.names.now in
    let names = c.args.place.now.names.now in
    let A : List Assign → Type 0 = All (SetHasNumbers names) in
    subst A (sym c.in_ok-push.ensures.items) (All-push (SetHasNumbers names) c.args.sets.now.items _ known
    (port_has own names c.requires.kept c.port_of.result c.args.inst c.number_of.result c.port_of.ensures c.requires.inst c.number_of.ensures.numbered, c.in_ok-any_of.ensures.numbers names c.requires.bits, tt))
