use Rattle.cal_ast.specs.Tree as calyx
use Rattle.fil_ast.specs.Tree.{design_of}
use Rattle.fil_net.proofs.PlainLemmas.{written_plain}
use Rattle.fil_cal.proofs.TextLemmas.{lowered_text}
use Rattle.fil_cal.proofs.text.calyx_of.Goals as goal

pub returns : goal.returns
returns c =
    let comps = design_of c.args.ok.now in
    lowered_text comps (calyx.design_of c.in_ok-wired.wired.design) c.print_calyx.result (c.in_ok-wired.ensures.lowers (written_plain comps c.requires)) c.requires c.print_calyx.ensures.text
