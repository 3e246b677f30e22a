-- How the end of a component becomes that of its design. This project's.
use Rattle.std.specs.Prelude.{◌≡◌}
use Rattle.hw_names.specs.declared.names.NameId.{NameId}
use Rattle.fil_ast.specs.Tree.{Component, Design}
use Rattle.fil_rules.specs.Least.{evidence_of}
use Rattle.fil_rules.specs.LeastRule.{number_of}
use Rattle.fil_rules.specs.declared.rules.CompEnd.{CompEnd}
use Rattle.fil_rules.specs.declared.rules.CompEnd.TheVariants as component
use Rattle.fil_check.specs.declared.rules.FilEnd.{FilEnd}
use Rattle.fil_check.specs.declared.rules.FilEnd.TheVariants as design
use Rattle.fil_rules.specs.FirstItem.{IsFirstItem}

-- the end of the component of this name, as its design's end
abbrev pub ComponentIs : NameId → CompEnd → FilEnd → Type 0
ComponentIs comp (component.Broken item broken) end = end ≡ design.Refused (number_of broken.rule) comp item broken.evidence
ComponentIs comp component.Memory end = end ≡ design.Memory

-- the refusal names the component, and tells its first item, the least rule and what it shows; want of memory tells nothing
abbrev pub TellsComponent : Design → Component → NameId → FilEnd → Type 0
TellsComponent earlier c name (design.Refused rule comp item evidence) = (comp ≡ name) × IsFirstItem earlier c item rule (evidence_of evidence)
TellsComponent earlier c name design.Memory = Unit {0}
