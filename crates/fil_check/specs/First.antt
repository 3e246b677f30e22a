-- What a refusal tells: the first broken rule of a design. This project's.
use Rattle.hw_names.specs.Name.{text_of}
use Rattle.fil_ast.specs.Refusal.{IsRefusal}
use Rattle.fil_ast.specs.Tree.{design_of}
use Rattle.fil_ast.specs.declared.tree.FilDesign.{FilDesign}
use Rattle.fil_rules.specs.Least.{evidence_of}
use Rattle.fil_check.specs.declared.rules.FilEnd.{FilEnd}
use Rattle.fil_check.specs.declared.rules.FilEnd.TheVariants as design

-- rule, component, item and evidence are those of the first broken rule
abbrev pub TellsFirst : FilDesign → FilEnd → Type 0
TellsFirst d (design.Refused rule comp item evidence) = IsRefusal (design_of d) (text_of d.names comp) item (evidence_of evidence) rule
TellsFirst d design.Memory = Unit {0}
