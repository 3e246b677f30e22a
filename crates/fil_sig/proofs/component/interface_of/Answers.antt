use Rattle.std.proofs.Common.{◌<◌, List, length, map, get_or, Option, Some, bytes_eq, refl, sym, ap, ◌∙◌}
use Rattle.hw_names.specs.Name.{Text, text_of}
use Rattle.hw_names.proofs.NameLemmas.{text_of-slice_get}
use Rattle.fil_ast.specs.Signature.{interface_of}
use Rattle.fil_ast.specs.Tree.{interface_tree}
use Rattle.fil_ast.specs.declared.tree.GoPort.{GoPort}
use Rattle.fil_sig.proofs.ListLemmas.{found_at, missed_at}
use Rattle.fil_sig.proofs.component.interface_of.Goals as goal

no_port : GoPort
no_port = record { event = record { 0 = 0 }; name = record { 0 = 0 }; width = 0 }

pub returns-then-eq-clause-found : goal.returns-then-eq-clause-found
unfolding no_port
returns-then-eq-clause-found c =
    let names = c.args.names.now in
    let gos = c.args.gos.now in
    let event = c.args.event.now in
    let i = c.loop-go.go-index in
    let within : i < length gos = c.loop-go-test.true in
    let test = λ (g : GoPort). bytes_eq (text_of names g.event) event in
    let yes = ap (λ t. bytes_eq t event) (text_of-slice_get names (get_or gos i no_port).event c.text.result.now c.text.ensures) ∙ sym c.eq.ensures ∙ c.if-eq.true in
    sym (found_at (λ (gs : List GoPort). interface_of (map (interface_tree names) gs) event) test (λ (g : GoPort). Some (text_of names g.name)) (λ (o : Option Text). o) (λ g gs. refl) gos i no_port within yes)
    ∙ c.loop-go.invariant

pub loop-go-preserved : goal.loop-go-preserved
unfolding no_port
loop-go-preserved c =
    let names = c.args.names.now in
    let gos = c.args.gos.now in
    let event = c.args.event.now in
    let i = c.loop-go.go-index in
    let within : i < length gos = c.loop-go-test.true in
    let test = λ (g : GoPort). bytes_eq (text_of names g.event) event in
    let no = ap (λ t. bytes_eq t event) (text_of-slice_get names (get_or gos i no_port).event c.text.result.now c.text.ensures) ∙ sym c.eq.ensures ∙ c.if-eq.false in
    sym (missed_at (λ (gs : List GoPort). interface_of (map (interface_tree names) gs) event) test (λ (g : GoPort). Some (text_of names g.name)) (λ (o : Option Text). o) (λ g gs. refl) gos i no_port within no)
    ∙ c.loop-go.invariant
