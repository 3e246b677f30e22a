use Rattle.std.proofs.Common.{List, [], take, sym, ap₂, subst, subst₂, ◌∙◌}
use Rattle.std.specs.List.{AllZip}
use Rattle.std.proofs.lemmas.List.{take_all, take_more}
use Rattle.std.proofs.Math.Pow.{pow_pos}
use Rattle.hw_bits.proofs.WidthLemmas.{low_bits-of_lt}
use Rattle.fil_ast.specs.Tree.{Literal}
use Rattle.fil_ast.specs.declared.tree.FilPort.{FilPort}
use Rattle.fil_flow.specs.inside.Body.{IsSourceOf}
use Rattle.fil_flow.specs.declared.plan.Source.{Source}
use Rattle.fil_flow.proofs.PairLemmas.{zip_push}
use Rattle.fil_flow.proofs.planning.zeros.Goals as goal

abbrev IsZero : FilPort → Source → Type 0
IsZero p = IsSourceOf [] (Literal p.width 0)

pub loop-port-init : goal.loop-port-init
loop-port-init c =
    let Z : List Source → Type 0 = AllZip IsZero [] in
    subst Z (sym c.new-found.ensures.items) tt

pub loop-port-preserved : goal.loop-port-preserved
loop-port-preserved c =
    let ports = c.args.ports.now in
    let n = c.loop-port.port-index in
    subst₂ (AllZip IsZero) (sym (take_more ports n _ c.loop-port-test.true)) (sym c.in_ok-push.ensures.items)
    (zip_push IsZero (take n ports) c.loop-port.found.items _ _ c.loop-port.invariant (ap₂ Literal (sym c.wrap.ensures.width) (sym (c.wrap.ensures.value ∙ low_bits-of_lt _ 0 (pow_pos _)))))

pub returns : goal.returns
returns c =
    let Z : List FilPort → Type 0 = λ ports. AllZip IsZero ports c.loop-port.found.items in
    subst Z (take_all c.loop-port.port-index c.args.ports.now c.loop-port-test.false) c.loop-port.invariant
