-- How a component ends that breaks a rule, as the end of its design. This project's.
use Rattle.std.specs.Prelude.{◌≡◌, ◌+◌, [], Vec}
use Rattle.std.specs.declared.alloc.Global.{Global}
use Rattle.hw_names.specs.Name.{Text}
use Rattle.hw_names.specs.declared.names.NameId.{NameId}
use Rattle.cal_rules.specs.LeastRule.{place_of}
use Rattle.cal_check.specs.declared.refusal.CalEnd.{CalEnd}
use Rattle.cal_check.specs.declared.refusal.CalEnd.TheVariants.{Refused, Memory}
use Rattle.cal_rules.specs.declared.rule.CompEnd.{CompEnd}
use Rattle.cal_rules.specs.declared.rule.CompEnd.TheVariants as component

-- the end of the component of this name, as its design's end
abbrev pub ComponentIs : NameId → CompEnd → CalEnd → Type 0
ComponentIs comp (component.Broken item rule) end = (ports : Vec Text Global) × (end ≡ Refused (place_of rule + 1) comp item ports) × (ports.items ≡ [])
ComponentIs comp component.Memory end = end ≡ Memory
