use Rattle.std.proofs.Common.{◌≡◌, ℕ, All, length, take, slice_get, Some}
use Rattle.hw_names.specs.Name.{KeepsTexts}
use Rattle.cal_ast.specs.Numbers.{ComponentHasNumbers}
use Rattle.cal_ast.specs.Tree as calyx
use Rattle.cal_ast.specs.declared.tree.CalComp.{CalComp}
use Rattle.fil_ast.specs.Naming.{component_names}
use Rattle.fil_ast.specs.Tree.{Component, design_of}
use Rattle.fil_lower.specs.inside.Lowering.{IsLoweredTo}
use Rattle.fil_lower.proofs.lower.lower_fil.Given as goal

-- the components so far
abbrev pub invariant-loop-number : goal.invariant-loop-number
invariant-loop-number l = record {
  kept : KeepsTexts l.ok.names l.names;
  known : l.known ≡ component_names (take l.number (design_of l.ok));
  count : length l.comps.items ≡ l.number;
  numbers : All (ComponentHasNumbers l.names) l.comps.items;
  lowered : (n : ℕ) (c : Component) (low : CalComp) → slice_get (design_of l.ok) n ≡ Some c → slice_get l.comps.items n ≡ Some low → IsLoweredTo (take n (design_of l.ok)) c (calyx.component_tree l.names low);
}
