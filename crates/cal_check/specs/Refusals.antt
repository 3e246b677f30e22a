-- What a refusal of a design tells. This project's.
use Rattle.hw_names.specs.Name.{text_of}
use Rattle.cal_ast.specs.Rules.{IsRefusal}
use Rattle.cal_ast.specs.Tree.{design_of}
use Rattle.cal_ast.specs.declared.tree.CalDesign.{CalDesign}
use Rattle.cal_check.specs.declared.refusal.CalEnd.{CalEnd}
use Rattle.cal_check.specs.declared.refusal.CalEnd.TheVariants.{Refused, Memory}

-- rule, component, item and ports are those of the first broken rule; want of memory tells nothing
abbrev pub TellsRefusal : CalDesign → CalEnd → Type 0
TellsRefusal d (Refused rule comp item ports) = IsRefusal (design_of d) (text_of d.names comp) item ports.items rule
TellsRefusal d Memory = Unit {0}
