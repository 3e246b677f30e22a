use Rattle.std.proofs.Common.{◌≡◌, ◌+◌, not, is_some, List, All, Contains, length, take, get_or, subst, sym, ap, ◌∙◌, arith}
use Rattle.std.proofs.Math.Seq.{take-length}
use Rattle.std.proofs.lemmas.Bool.Decides.{not_from_Decides}
use Rattle.std.proofs.lemmas.List.Elements.{All-more, All-get_or}
use Rattle.hw_names.specs.Name.{Text, text_of}
use Rattle.hw_names.proofs.NameLemmas.{text_of-slice_get}
use Rattle.fil_ast.specs.Connections.{ConnectsAll}
use Rattle.fil_ast.specs.Tree.{component_tree}
use Rattle.fil_ast.specs.declared.tree.FilPort.{FilPort}
use Rattle.fil_sig.proofs.ListLemmas.{told_false, told_true}
use Rattle.fil_rules.proofs.ConnectLemmas.{all_connected, each_connected}
use Rattle.fil_rules.proofs.connections.connects_all.Goals as goal

no_port : FilPort
no_port = record { from = record { event = record { 0 = 0 }; plus = 0 }; to = record { event = record { 0 = 0 }; plus = 0 }; name = record { 0 = 0 }; width = 0 }

pub returns-then-is_none : goal.returns-then-is_none
unfolding no_port
returns-then-is_none c are =
    let names = c.args.names.now in
    let comp = c.args.comp.now in
    let ports = c.deref-port-items.result.now in
    let i = c.loop-port.port-index in
    let P : FilPort → Type 0 = λ p. Contains c.args.connected.now (text_of names p.name) in
    let A : List FilPort → Type 0 = All P in
    let named = text_of-slice_get names (get_or ports i no_port).name c.text.result.now c.text.ensures in
    let C : Text → Type 0 = Contains c.args.connected.now in
    told_false (ConnectsAll (component_tree names comp)) (λ all.
    let each = subst A (sym c.deref-port-items.ensures.value) (each_connected names comp c.args.connected.now are all) in
    let here = subst C named (All-get_or P ports i no_port c.loop-port-test.true each) in
    not_from_Decides (is_some c.find.result) c.find.ensures.present (c.is_none.ensures ∙ ap not c.if-is_none.true) here)

pub loop-port-preserved : goal.loop-port-preserved
unfolding no_port
loop-port-preserved c =
    let names = c.args.names.now in
    let comp = c.args.comp.now in
    let ports = c.deref-port-items.result.now in
    let i = c.loop-port.port-index in
    let P : FilPort → Type 0 = λ p. Contains c.args.connected.now (text_of names p.name) in
    let T : List FilPort → Type 0 = λ ps. All P (take i ps) in
    let U : List FilPort → Type 0 = λ ps. All P (take (i + 1) ps) in
    let named = text_of-slice_get names (get_or ports i no_port).name c.text.result.now c.text.ensures in
    let C : Text → Type 0 = Contains c.args.connected.now in
    let some = c.is_none.ensures ∙ ap not c.if-is_none.false in
    subst U c.deref-port-items.ensures.value
    (All-more P ports i no_port c.loop-port-test.true (subst T (sym c.deref-port-items.ensures.value) c.loop-port.invariant) (subst C (sym named) (c.find.ensures.present.0 some)))

pub returns : goal.returns
returns c are =
    let names = c.args.names.now in
    let comp = c.args.comp.now in
    let outs = comp.outs.items in
    let P : FilPort → Type 0 = λ p. Contains c.args.connected.now (text_of names p.name) in
    let A : List FilPort → Type 0 = All P in
    let end : c.loop-port.port-index ≡ length outs = omega (arith, ap length c.deref-port-items.ensures.value) in
    told_true (ConnectsAll (component_tree names comp))
    (all_connected names comp c.args.connected.now are (subst A (ap (λ k. take k outs) end ∙ take-length outs) c.loop-port.invariant))
