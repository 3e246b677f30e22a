-- A lowered design keeps what its source has.
use Rattle.std.proofs.Common.{List}
use Rattle.cal_ast.specs.Holes.{ActivityRule}
use Rattle.cal_ast.specs.NoInvoke.{IsPlainDesign}
use Rattle.cal_ast.specs.Plain.{HasPlainTree}
use Rattle.cal_ast.specs.Tree.{Design}
use Rattle.cal_lower.specs.ReplacesControl.{ReplacesControl}
use Rattle.cal_lower.specs.inside.Lowered.{IsLoweringOf}
use Rattle.cal_lower.proofs.HoleLemmas.{lowerings_are_holes}
use Rattle.cal_lower.proofs.KeepLemmas.{lowerings_keep_runs}
use Rattle.cal_lower.proofs.PlainNameLemmas.{lowerings_are_plain}
use Rattle.cal_lower.proofs.ShapeLemmas.{lowerings_keep_shape}

pub lowering_replaces : (source answer : Design) (rules : List ActivityRule) → HasPlainTree source → IsPlainDesign source → IsLoweringOf source answer rules → ReplacesControl source answer rules
lowering_replaces source answer rules names plain is = record {
  shape = lowerings_keep_shape source answer rules plain is;
  holes = lowerings_are_holes source answer rules names plain is;
  runs = lowerings_keep_runs source answer rules names plain is;
  plain = λ groups. lowerings_are_plain source answer rules names groups plain is;
}
