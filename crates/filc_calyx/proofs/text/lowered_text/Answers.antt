use Rattle.std.proofs.Common.{ℕ, Vec, Global, sym, subst}
use Rattle.std.specs.Prelude.{IfOk}
use Rattle.cal_ast.specs.Tree.{design_of}
use Rattle.cal_ast.specs.declared.tree.CalDesign.{CalDesign}
use Rattle.cal_net.specs.Lowers.{IsLoweredText}
use Rattle.cal_ast.specs.Written.{DesignIsWritten}
use Rattle.filc_load.proofs.CalLemmas.{some_comps}
use Rattle.filc_calyx.proofs.text.lowered_text.Goals as goal

pub new-requires-clause-component : goal.new-requires-clause-component
new-requires-clause-component c = some_comps c.args.design.now.design c.requires.written

pub calyx_of-requires : goal.calyx_of-requires
calyx_of-requires c = subst (λ (d : CalDesign). DesignIsWritten (design_of d)) (sym c.new.ensures) c.requires.written

pub returns : goal.returns
returns c = subst (λ (d : CalDesign). IfOk c.calyx_of.result (λ (text : Vec ℕ Global). IsLoweredText (design_of d) text.items)) c.new.ensures c.calyx_of.ensures
