use Rattle.std.proofs.lemmas.Bool.Decides.{not_from_Decides}
use Rattle.cal_ast.specs.Items.{TheSignature}
use Rattle.cal_place.specs.Around.{KeepsAt}
use Rattle.cal_rules.proofs.LeastLemmas.{all_kept, is_C1, is_C4}
use Rattle.cal_rules.proofs.item.at_signature.Goals as goal

pub returns-then-not-has_new_names : goal.returns-then-not-has_new_names
returns-then-not-has_new_names c =
    is_C1 (KeepsAt c.args.place.now (TheSignature)) (not_from_Decides c.has_new_names.result c.has_new_names.ensures c.if-not-has_new_names.true)

pub returns-then-not-has_widths : goal.returns-then-not-has_widths
returns-then-not-has_widths c =
    is_C4 (KeepsAt c.args.place.now (TheSignature)) (c.has_new_names.ensures.0 c.if-not-has_new_names.false) tt tt (not_from_Decides c.has_widths.result c.has_widths.ensures c.if-not-has_widths.true)

pub returns : goal.returns
returns c =
    all_kept (KeepsAt c.args.place.now (TheSignature)) (c.has_new_names.ensures.0 c.if-not-has_new_names.false) tt tt (c.has_widths.ensures.0 c.if-not-has_widths.false) tt tt tt tt tt tt tt
