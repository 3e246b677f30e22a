use Rattle.std.proofs.Common.{◌≡◌, List, All, length, take, subst, ap, ◌∙◌, arith}
use Rattle.std.proofs.Math.Seq.{take-length}
use Rattle.std.proofs.lemmas.List.Elements.{All-get_or, All-more}
use Rattle.fil_ast.specs.declared.tree.FilPort.{FilPort}
use Rattle.fil_sig.proofs.ListLemmas.{told_false, told_true}
use Rattle.fil_place.proofs.GeneralLemmas.{clash}
use Rattle.fil_rules.proofs.ShortLemmas.{Short}
use Rattle.fil_rules.proofs.timeline.are_short.Goals as goal

no_port : FilPort
no_port = record { from = record { event = record { 0 = 0 }; plus = 0 }; to = record { event = record { 0 = 0 }; plus = 0 }; name = record { 0 = 0 }; width = 0 }

pub returns-then-not-is_short : goal.returns-then-not-is_short
unfolding no_port
returns-then-not-is_short c =
    let P = Short c.args.names.now c.args.comp.now in
    let ports = c.args.ports.now in
    told_false (All P ports)
    (λ all. clash c.is_short.result (c.is_short.ensures.1 (All-get_or P ports c.loop-port.port-index no_port c.loop-port-test.true all)) c.if-not-is_short.true)

pub loop-port-preserved : goal.loop-port-preserved
unfolding no_port
loop-port-preserved c =
    All-more (Short c.args.names.now c.args.comp.now) c.args.ports.now c.loop-port.port-index no_port c.loop-port-test.true c.loop-port.invariant (c.is_short.ensures.0 c.if-not-is_short.false)

pub returns : goal.returns
returns c =
    let ports = c.args.ports.now in
    let P = Short c.args.names.now c.args.comp.now in
    let A : List FilPort → Type 0 = All P in
    let end : c.loop-port.port-index ≡ length ports = omega arith in
    told_true (All P ports) (subst A (ap (λ k. take k ports) end ∙ take-length ports) c.loop-port.invariant)
