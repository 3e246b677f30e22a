use Rattle.std.proofs.Common.{◌≡◌, ℕ, ◌<◌, slice_get, codes, Some}
use Rattle.cal_ast.specs.Tree.{Component, design_of}
use Rattle.filc_calyx.proofs.top.top_of.Given as goal

-- no component so far is named main
abbrev pub invariant-loop-number : goal.invariant-loop-number
invariant-loop-number l = (m : ℕ) (d : Component) → m < l.number → slice_get (design_of l.design) m ≡ Some d → ¬ (d.name ≡ codes "main")
