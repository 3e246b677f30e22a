-- Lines of groups and of wires, with names as texts. This project's.
use Rattle.std.specs.Prelude.{List}
use Rattle.hw_names.specs.Name.{Text}
use Rattle.cal_ast.specs.Tree.{assignment_tree, done_tree, group_tree}
use Rattle.cal_parse.specs.declared.group.GroupLine as code
use Rattle.cal_parse.specs.declared.group.GroupLine.TheVariants as lines
use Rattle.cal_parse.specs.declared.group.Wire as wire_code
use Rattle.cal_parse.specs.declared.group.Wire.TheVariants as wires
use Rattle.cal_parse.specs.Grammar.{GroupLine, AssignmentLine, LineOfDone, Wire, GroupWire, AssignmentWire}

abbrev pub line_tree : List Text → code.GroupLine → GroupLine
line_tree names (lines.Set a) = AssignmentLine (assignment_tree names a)
line_tree names (lines.Done d) = LineOfDone (done_tree names d)

abbrev pub wire_tree : List Text → wire_code.Wire → Wire
wire_tree names (wires.Group g) = GroupWire (group_tree names g)
wire_tree names (wires.Set a) = AssignmentWire (assignment_tree names a)
