use Rattle.std.proofs.Common.{IfOk, sym, subst, ◌∙◌}
use Rattle.net_core.specs.Guard.{GuardTree}
use Rattle.cal_ast.specs.Tree.{PortName}
use Rattle.cal_lower.specs.inside.Parts.{tested_guard}
use Rattle.cal_lower.specs.inside.Pieces.{reads}
use Rattle.cal_lower.specs.inside.Shown.{ShowsGuard}
use Rattle.cal_lower.proofs.GatherLemmas.{again_over, port_later}
use Rattle.cal_lower.proofs.SizeLemmas.{plan}
use Rattle.cal_lower.proofs.ends.again.Goals as goal

pub returns-in_ok-reads-clause-guard : goal.returns-in_ok-reads-clause-guard
returns-in_ok-reads-clause-guard c = λ source item begin bit number begin_is bit_is.
    let old = c.args.labels.now.names in
    let new = c.tested.new.labels.names in
    let k = c.args.at.number in
    let G : GuardTree PortName → Type 0 = λ t. IfOk c.both.result (ShowsGuard new t) in
    let read = c.in_ok-reads.ensures new bit (port_later old new c.tested.ensures.kept.names bit c.args.port bit_is) in
    subst G (again_over k bit (plan source item c.args.body.now.control.now) (reads begin) (sym (c.is_over.ensures source item) ∙ c.if-is_over.true))
    (c.both.ensures new (tested_guard k (reads begin)) (reads bit) (c.in_ok-tested.ensures.guard begin begin_is) read)
