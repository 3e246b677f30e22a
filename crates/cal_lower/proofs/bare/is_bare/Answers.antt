use Rattle.std.proofs.Common.{◌∙◌}
use Rattle.cal_ast.specs.declared.tree.ControlPart.TheVariants as parts
use Rattle.cal_lower.proofs.DoneLemmas.{bare_by}
use Rattle.cal_lower.proofs.bare.is_bare.Goals as goal

pub returns-in-Absent : goal.returns-in-Absent
returns-in-Absent c = bare_by c.args.names.now c.args.comp.now parts.Absent c.in-Absent.is

pub drives_done-requires : goal.drives_done-requires
drives_done-requires c = c.requires.sets

pub returns-in-Empty : goal.returns-in-Empty
returns-in-Empty c = c.drives_done.ensures ∙ bare_by c.args.names.now c.args.comp.now parts.Empty c.in-Empty.is

pub returns-in-Body : goal.returns-in-Body
returns-in-Body c = bare_by c.args.names.now c.args.comp.now (parts.Body c.in-Body.field-0) c.in-Body.is
