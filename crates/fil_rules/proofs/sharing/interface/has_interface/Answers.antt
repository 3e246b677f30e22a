use Rattle.std.proofs.Common.{◌≡◌, ◌≤◌, List, length, get_or, slice_get, Some, bytes_eq, sym, ap, ◌∙◌, arith}
use Rattle.std.proofs.lemmas.Option.{slice_get-get_or}
use Rattle.std.proofs.lemmas.Slice.Eq.{bytes_eq-Decides}
use Rattle.hw_names.specs.Name.{text_of}
use Rattle.hw_names.proofs.NameLemmas.{text_of-slice_get}
use Rattle.fil_ast.specs.Sharing.{HasInterface}
use Rattle.fil_ast.specs.Tree.{component_tree}
use Rattle.fil_ast.specs.declared.tree.GoPort.{GoPort}
use Rattle.fil_sig.proofs.ListLemmas.{told_false, told_true}
use Rattle.fil_place.proofs.EachLemmas.{each_more}
use Rattle.fil_place.proofs.GeneralLemmas.{clash}
use Rattle.fil_rules.proofs.MarkedLemmas.{IsNoPort, no_port, port_there}
use Rattle.fil_rules.proofs.sharing.interface.has_interface.Goals as goal

no_go : GoPort
no_go = record { event = record { 0 = 0 }; name = record { 0 = 0 }; width = 0 }

pub returns-then-eq : goal.returns-then-eq
unfolding no_go
returns-then-eq c =
    let names = c.args.names.now in
    let comp = c.args.comp.now in
    let event = c.args.event.now in
    let i = c.loop-go.go-index in
    let listed = c.deref-go-items.result.now in
    let g = get_or listed i no_go in
    let here : slice_get comp.gos.items i ≡ Some g = ap (λ (gs : List GoPort). slice_get gs i) (sym c.deref-go-items.ensures.value) ∙ slice_get-get_or listed i no_go c.loop-go-test.true in
    let yes = ap (λ t. bytes_eq t event) (text_of-slice_get names g.event c.text.result.now c.text.ensures) ∙ sym c.eq.ensures ∙ c.if-eq.true in
    told_true (HasInterface (component_tree names comp) event) (port_there names comp event i g here ((bytes_eq-Decides (text_of names g.event) event).0 yes))

pub loop-go-preserved : goal.loop-go-preserved
unfolding no_go
loop-go-preserved c =
    let names = c.args.names.now in
    let comp = c.args.comp.now in
    let event = c.args.event.now in
    let i = c.loop-go.go-index in
    let listed = c.deref-go-items.result.now in
    let g = get_or listed i no_go in
    let here : slice_get comp.gos.items i ≡ Some g = ap (λ (gs : List GoPort). slice_get gs i) (sym c.deref-go-items.ensures.value) ∙ slice_get-get_or listed i no_go c.loop-go-test.true in
    let no = ap (λ t. bytes_eq t event) (text_of-slice_get names g.event c.text.result.now c.text.ensures) ∙ sym c.eq.ensures ∙ c.if-eq.false in
    each_more (IsNoPort names comp event) comp.gos.items i g here c.loop-go.invariant
    (λ same. clash (bytes_eq (text_of names g.event) event) ((bytes_eq-Decides (text_of names g.event) event).1 same) no)

pub returns : goal.returns
returns c =
    let names = c.args.names.now in
    let comp = c.args.comp.now in
    let event = c.args.event.now in
    let end : length comp.gos.items ≤ c.loop-go.go-index = omega (arith, ap length c.deref-go-items.ensures.value) in
    told_false (HasInterface (component_tree names comp) event) (no_port names comp event c.loop-go.go-index end c.loop-go.invariant)
