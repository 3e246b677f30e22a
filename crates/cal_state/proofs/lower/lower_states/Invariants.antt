use Rattle.std.proofs.Common.{List, drop, map, take}
use Rattle.hw_names.specs.Name.{KeepsTexts}
use Rattle.cal_ast.specs.Tree.{design_of}
use Rattle.cal_lower.specs.inside.Lowered.{lowered}
use Rattle.cal_state.specs.inside.Encoded.{encoded}
use Rattle.cal_state.specs.inside.Making.{ShowComponents}
use Rattle.cal_state.proofs.lower.lower_states.Given as goal

-- the components that are still to come, and what was made of those before
abbrev pub invariant-loop-source : goal.invariant-loop-source
invariant-loop-source l = record {
  kept : KeepsTexts l.initial.names l.names;
  left : ShowComponents l.names (map lowered (drop l.source-index (design_of l.plain.design))) l.left.items;
  made : ShowComponents l.names (map encoded (take l.source-index (design_of l.plain.design))) l.comps.items;
}
