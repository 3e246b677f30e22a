use Rattle.std.proofs.Common.{◌++◌, List, [], length, map, subst}
use Rattle.std.specs.Prelude.{flat_map}
use Rattle.cal_ast.specs.Items.{items_before_control}
use Rattle.cal_ast.specs.Plan.{plan_of}
use Rattle.cal_ast.specs.Tree.{component_tree, group_tree}
use Rattle.cal_ast.specs.declared.tree.Group.{Group}
use Rattle.cal_lower.specs.inside.Lowered.{group_pieces, instance_pieces, plan_pieces}
use Rattle.cal_lower.specs.inside.Making.{ShowsParts}
use Rattle.cal_lower.specs.inside.Shown.{ShowsPieces}
use Rattle.cal_lower.specs.declared.made.Parts.{Parts}
use Rattle.cal_lower.proofs.GrownLemmas.{labels_texts, pieces_kept}
use Rattle.cal_lower.proofs.InstanceLemmas.{can_section, groups_can, groups_number, labels_in_three, numbered_items}
use Rattle.cal_lower.proofs.MakingLemmas.{none_made}
use Rattle.cal_lower.proofs.StableLemmas.{KeepsTexts-trans}
use Rattle.cal_lower.proofs.instance.control_pieces.Goals as goal

pub make-requires : goal.make-requires
make-requires c =
    let (source, can) = c.requires.comp in
    let names = c.args.labels.now.names in
    let comp = c.args.comp.now in
    numbered_items names comp c.deref.result.now c.deref.ensures.value (groups_number source names comp can)

pub push_groups-requires : goal.push_groups-requires
push_groups-requires c =
    let (source, can) = c.requires.comp in
    let comp = c.args.comp.now in
    let first = c.args.labels.now in
    let second = c.push_plan.new.labels in
    let third = c.push_instance.new.labels in
    let plan = plan_of (component_tree source comp) in
    let item = length (items_before_control (component_tree source comp)) in
    let none : Parts = record { pieces = c.new.result; acts = c.in_ok-make.field-0 } in
    let begun : ShowsParts first.names none_made none = record { pieces = c.new.ensures first.names; acts = c.in_ok-make.ensures.nothing first.names } in
    let shows = c.in_ok-push_plan.ensures.made source item none_made (can_section source first.names comp can) begun in
    record {
      texts = labels_texts second third c.push_instance.ensures.kept (labels_texts first second c.push_plan.ensures.kept c.requires.texts);
      groups = (
        source,
        plan,
        groups_can source first.names second.names third.names comp plan c.push_plan.new.parts c.in_ok-make.field-0.groups c.deref.result.now c.deref-2.result.now can c.push_plan.ensures.kept.names c.push_instance.ensures.kept.names shows
            c.push_plan.ensures.groups c.in_ok-make.ensures.named c.deref.ensures.value c.deref-2.ensures.value,
      );
    }

pub returns-in_err-append-clause-kept : goal.returns-in_err-append-clause-kept
returns-in_err-append-clause-kept c =
    labels_in_three c.args.labels.now c.push_plan.new.labels c.push_instance.new.labels c.push_groups.new.labels c.push_plan.ensures.kept c.push_instance.ensures.kept c.push_groups.ensures.kept

pub returns-clause-kept : goal.returns-clause-kept
returns-clause-kept c =
    labels_in_three c.args.labels.now c.push_plan.new.labels c.push_instance.new.labels c.push_groups.new.labels c.push_plan.ensures.kept c.push_instance.ensures.kept c.push_groups.ensures.kept

pub returns-clause-pieces : goal.returns-clause-pieces
returns-clause-pieces c = λ source can.
    let comp = c.args.comp.now in
    let first = c.args.labels.now.names in
    let second = c.push_plan.new.labels.names in
    let third = c.push_instance.new.labels.names in
    let fourth = c.push_groups.new.labels.names in
    let plan = plan_of (component_tree source comp) in
    let item = length (items_before_control (component_tree source comp)) in
    let none : Parts = record { pieces = c.new.result; acts = c.in_ok-make.field-0 } in
    let begun : ShowsParts first none_made none = record { pieces = c.new.ensures first; acts = c.in_ok-make.ensures.nothing first } in
    let shows = c.in_ok-push_plan.ensures.made source item none_made (can_section source first comp can) begun in
    let all = groups_can source first second third comp plan c.push_plan.new.parts c.in_ok-make.field-0.groups c.deref.result.now c.deref-2.result.now can c.push_plan.ensures.kept.names c.push_instance.ensures.kept.names shows
    c.push_plan.ensures.groups c.in_ok-make.ensures.named c.deref.ensures.value c.deref-2.ensures.value in
    let here = c.in_ok-push_instance.ensures.pushed source item [] (c.new-pieces.ensures second) in
    let groups = c.in_ok-push_groups.ensures.pushed source plan (instance_pieces plan) all here in
    let G : List Group → Type 0 = λ gs. ShowsPieces fourth (instance_pieces plan ++ flat_map (group_pieces plan) (map (group_tree source) gs)) c.push_groups.new.pieces in
    let kept = KeepsTexts-trans second third fourth c.push_instance.ensures.kept.names c.push_groups.ensures.kept.names in
    c.in_ok-append.ensures fourth (instance_pieces plan ++ flat_map (group_pieces plan) (map (group_tree source) comp.groups.items)) (plan_pieces plan) (subst G c.deref-2.ensures.value groups)
    (pieces_kept second fourth (plan_pieces plan) c.push_plan.new.parts.pieces kept shows.pieces)
