use Rattle.std.proofs.Common.{Option, option_map, ap, sym}
use Rattle.hw_names.specs.Name.{text_of}
use Rattle.hw_names.specs.declared.names.NameId.{NameId}
use Rattle.cal_ast.specs.Sides.{read_side}
use Rattle.cal_rules.proofs.sides.read_side.Goals as goal

pub returns-in-None : goal.returns-in-None
returns-in-None c names = ap (λ (o : Option NameId). read_side (option_map (text_of names) o)) (sym c.in-None.is)

pub returns-in-Some : goal.returns-in-Some
returns-in-Some c names = ap (λ (o : Option NameId). read_side (option_map (text_of names) o)) (sym c.in-Some.is)
