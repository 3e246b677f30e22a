use Rattle.std.proofs.Common.{◌≡◌, List, All, length, take, get_or, bytes_eq, subst, sym, ap, ◌∙◌, arith}
use Rattle.std.proofs.Math.Seq.{take-length}
use Rattle.std.proofs.lemmas.List.Elements.{All-more, All-get_or}
use Rattle.std.proofs.lemmas.Slice.Eq.{bytes_eq-Decides}
use Rattle.hw_names.proofs.NameLemmas.{text_of-slice_get}
use Rattle.fil_ast.specs.Tree.{port_tree}
use Rattle.fil_ast.specs.Typing.{IsInterval}
use Rattle.fil_ast.specs.declared.tree.FilPort.{FilPort}
use Rattle.fil_sig.proofs.ListLemmas.{told_false, told_true}
use Rattle.fil_sig.proofs.shape.are_intervals.Goals.{then-not-one_event-via-then-not-one_event, then-not-one_event-via-else-not-one_event+then-port}
use Rattle.fil_sig.proofs.shape.are_intervals.Goals as goal

no_port : FilPort
no_port = record { from = record { event = record { 0 = 0 }; plus = 0 }; to = record { event = record { 0 = 0 }; plus = 0 }; name = record { 0 = 0 }; width = 0 }

pub returns-then-not-one_event : goal.returns-then-not-one_event
unfolding no_port
returns-then-not-one_event c =
    let names = c.args.names.now in
    let ports = c.args.ports.now in
    let i = c.loop-port.port-index in
    let P : FilPort → Type 0 = λ port. IsInterval (port_tree names port) in
    let port = get_or ports i no_port in
    let from = text_of-slice_get names port.from.event c.text.result.now c.text.ensures in
    let to = text_of-slice_get names port.to.event c.text-in-loop-port.result.now c.text-in-loop-port.ensures in
    told_false (All P ports) (λ all.
    let here = All-get_or P ports i no_port c.loop-port-test.true all in
    let same : bytes_eq c.text.result.now c.text-in-loop-port.result.now ≡ _ = (bytes_eq-Decides c.text.result.now c.text-in-loop-port.result.now).1 (sym from ∙ here.0 ∙ to) in
    elim c.then-not-one_event.branch [ then-not-one_event-via-then-not-one_event w ↦ (let e = c.eq-one_event.ensures in let f = w.if-not-one_event.true in absurd (cc)) | then-not-one_event-via-else-not-one_event+then-port w ↦ (let late = w.if-port.true in let early = here.1 in absurd (omega arith)) ])

pub loop-port-preserved : goal.loop-port-preserved
unfolding no_port
loop-port-preserved c =
    let names = c.args.names.now in
    let ports = c.args.ports.now in
    let i = c.loop-port.port-index in
    let P : FilPort → Type 0 = λ port. IsInterval (port_tree names port) in
    let port = get_or ports i no_port in
    let from = text_of-slice_get names port.from.event c.text.result.now c.text.ensures in
    let to = text_of-slice_get names port.to.event c.text-in-loop-port.result.now c.text-in-loop-port.ensures in
    let same = (bytes_eq-Decides c.text.result.now c.text-in-loop-port.result.now).0 (sym c.eq-one_event.ensures ∙ c.if-not-one_event.false) in
    All-more P ports i no_port c.loop-port-test.true c.loop-port.invariant (from ∙ same ∙ sym to, c.if-port.false)

pub returns : goal.returns
returns c =
    let names = c.args.names.now in
    let ports = c.args.ports.now in
    let P : FilPort → Type 0 = λ port. IsInterval (port_tree names port) in
    let A : List FilPort → Type 0 = All P in
    let end : c.loop-port.port-index ≡ length ports = omega arith in
    told_true (All P ports) (subst A (ap (λ k. take k ports) end ∙ take-length ports) c.loop-port.invariant)
