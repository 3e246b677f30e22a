use Rattle.std.proofs.Common.{All, take}
use Rattle.hw_names.specs.Name.{text_of}
use Rattle.cal_ast.specs.Naming.{BindsKnownOut}
use Rattle.cal_ast.specs.Tree.{out_tree}
use Rattle.cal_ast.specs.declared.tree.OutBind.{OutBind}
use Rattle.cal_place.specs.Around.{comp_at, design_at, names_at}
use Rattle.cal_rules.proofs.naming.bind_known_outs.Given as goal

abbrev pub invariant-loop-bind : goal.invariant-loop-bind
invariant-loop-bind l = All (λ (x : OutBind). BindsKnownOut (design_at l.place) (comp_at l.place) (text_of (names_at l.place) l.cell) (out_tree (names_at l.place) x)) (take l.bind-index l.outs)
