use Rattle.std.proofs.Common.{◌+◌, Option, Some, option_map, sym, ap, ap₂, ◌∙◌}
use Rattle.fil_ast.specs.Signature.{Delay}
use Rattle.fil_ast.specs.Timeline.{hold_of}
use Rattle.fil_ast.specs.Tree.{TimeAt, time_tree}
use Rattle.fil_share.specs.Uses.{shown_use}
use Rattle.fil_share.proofs.UseLemmas.{no_time, time_there, with_time}
use Rattle.fil_share.proofs.uses.use_of.Goals as goal

pub returns-in_err-start-clause-meaning : goal.returns-in_err-start-clause-meaning
returns-in_err-start-clause-meaning c names e is =
    ap (option_map (shown_use names)) c.from_residual.ensures
    ∙ no_time names c.args.at.now c.args.call c.args.inst c.args.number e c.get.result c.get.ensures.lookup c.in_err-start.was

pub returns-clause-meaning : goal.returns-clause-meaning
returns-clause-meaning c names e is =
    let at = c.args.at.now in
    let k = c.args.number in
    let start = c.in_ok-start.field-0 in
    with_time names at c.args.call c.args.inst k e c.get.result start c.get.ensures.lookup c.in_ok-start.was (Some c.in_ok-rows.rows)
    (sym c.in_ok-rows.was ∙ c.rows_held.ensures.value names
    ∙ ap₂ (λ (d : Delay) (t : Option TimeAt). hold_of d (time_tree names start.now) t) (sym is) (time_there names at (k + 1) c.get-2.result c.get-2.ensures.lookup))
