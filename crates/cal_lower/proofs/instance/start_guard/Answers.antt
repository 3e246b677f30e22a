use Rattle.std.proofs.Common.{[], ◌∷◌, codes}
use Rattle.net_core.specs.Guard.{Negates}
use Rattle.cal_ast.specs.Numbers.{PortHasNumbers}
use Rattle.cal_ast.specs.Tree.{own, port_tree}
use Rattle.cal_lower.specs.inside.Pieces.{busy_name, over_name, reads, shown}
use Rattle.cal_lower.proofs.GrownLemmas.{shows_kept}
use Rattle.cal_lower.proofs.InstanceLemmas.{three_guards}
use Rattle.cal_lower.proofs.StableLemmas.{KeepsTexts-trans}
use Rattle.cal_lower.proofs.instance.start_guard.Goals as goal

pub returns-clause-guard : goal.returns-clause-guard
returns-clause-guard c =
    let first = c.own.new.self.names in
    let second = c.port.new.self.names in
    let names = c.port-2.new.self.names in
    let kept = c.port-2.ensures.kept.names in
    let go_port = shows_kept PortHasNumbers port_tree first names (own (codes "go")) c.in_ok-go.go (KeepsTexts-trans first second names c.port.ensures.kept.names kept) c.in_ok-go.ensures.port in
    let busy_port = shows_kept PortHasNumbers port_tree second names (shown busy_name) c.in_ok-busy.busy kept c.in_ok-busy.ensures.port in
    let go = c.in_ok-reads.ensures names (own (codes "go")) go_port in
    let busy = c.in_ok-negate.ensures names (reads (shown busy_name)) (c.in_ok-reads-2.ensures names (shown busy_name) busy_port) in
    let over = c.in_ok-negate-2.ensures names (reads (shown over_name)) (c.in_ok-reads-3.ensures names (shown over_name) c.in_ok-over.ensures.port) in
    let one = reads (own (codes "go")) in
    let two = Negates (reads (shown busy_name)) in
    let three = Negates (reads (shown over_name)) in
    c.all_of.ensures names (one ∷ two ∷ three ∷ [])
    (three_guards names one two three c.in_ok-reads.field-0 c.in_ok-negate.field-0 c.in_ok-negate-2.field-0 c.new-guards.result.items c.push.new.self.items c.push-2.new.self.items c.push-3.new.self.items
    c.new-guards.ensures.items c.in_ok-push.ensures.items c.in_ok-push-2.ensures.items c.in_ok-push-3.ensures.items go busy over)
