-- What holds of a control statement by its kind. This project's.
use Rattle.std.specs.Prelude.{List, Option}
use Rattle.hw_names.specs.Name.{Text}
use Rattle.cal_ast.specs.Tree.{PortName, InBinding, OutBinding, Statement, Enable, If, While, Invoke}

-- what holds of the group's name, if the statement is an enable
abbrev pub IfEnable : Statement → (Text → Type 0) → Type 0
IfEnable (Enable name) P = P name
IfEnable s P = Unit {0}

-- what holds of the port and the combinational group of the condition, if the statement has one
abbrev pub IfCondition : Statement → (PortName → Option Text → Type 0) → Type 0
IfCondition (If port by s t) P = P port by
IfCondition (While port by s) P = P port by
IfCondition s P = Unit {0}

-- what holds of the cell and the bindings, if the statement is an invoke
abbrev pub IfInvoke : Statement → (Text → List InBinding → List OutBinding → Type 0) → Type 0
IfInvoke (Invoke cell ins outs) P = P cell ins outs
IfInvoke s P = Unit {0}
