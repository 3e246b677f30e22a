use Rattle.std.proofs.Common.{◌<◌, length, subst}
use Rattle.cal_ast.specs.Holes.{rule_trees}
use Rattle.cal_ast.specs.Plain.{HasPlainTree}
use Rattle.cal_ast.specs.Rules.{CalRules}
use Rattle.cal_ast.specs.Tree.{design_of}
use Rattle.cal_ast.specs.Written.{DesignIsWritten}
use Rattle.cal_ast.specs.declared.lowered.HoleDesign.{HoleDesign}
use Rattle.cal_ast.specs.declared.lowered.WireDesign.{WireDesign}
use Rattle.cal_ast.specs.declared.tree.CalDesign.{CalDesign}
use Rattle.cal_group.specs.RemovesGroups.{RemovesGroups}
use Rattle.cal_net.proofs.MadeLemmas.{ok_from, some_made}
use Rattle.cal_net.proofs.PlainLemmas.{written_plain}
use Rattle.cal_net.proofs.WireLemmas.{wires_are_plain, wires_are_written, wires_lower_control}
use Rattle.cal_net.specs.Lowers.{LowersControl}
use Rattle.cal_net.proofs.wires.wires_of.Goals as goal

pub lower_states-requires-clause-names : goal.lower_states-requires-clause-names
lower_states-requires-clause-names c = c.in_ok-plain.ensures.expands.plain (written_plain (design_of c.args.ok.now) c.requires)

pub lower_states-requires-clause-plain : goal.lower_states-requires-clause-plain
lower_states-requires-clause-plain c = c.in_ok-plain.ensures.expands.no_invokes

pub remove_groups-requires-clause-hole : goal.remove_groups-requires-clause-hole
remove_groups-requires-clause-hole c = c.in_ok-holes.ensures.states.replaces.holes

-- the wires are those of the design without control
abbrev IsRemoved : HoleDesign → WireDesign → Type 0
IsRemoved holes wires = RemovesGroups (design_of holes.design) (rule_trees holes.design.names holes.acts.items) (design_of wires.design)

pub returns-clause-some : goal.returns-clause-some
returns-clause-some c =
    let rules = subst (λ (d : CalDesign). CalRules (design_of d)) c.design-design.ensures.same c.design-design.ensures.rules in
    let source = design_of c.args.ok.now in let holes = c.in_ok-holes.holes in
    ok_from (IsRemoved holes) (λ (w : WireDesign). 0 < length w.design.comps.items)
    (λ w removes. some_made source w.design c.requires
    (wires_lower_control source (design_of c.in_ok-plain.plain.design) (design_of holes.design) (design_of w.design) (rule_trees holes.design.names holes.acts.items) c.in_ok-plain.ensures.expands c.in_ok-holes.ensures.states removes rules c.requires).shape)
    c.remove_groups.result c.remove_groups.ensures.removes

pub returns-clause-lowers : goal.returns-clause-lowers
returns-clause-lowers c =
    let rules = subst (λ (d : CalDesign). CalRules (design_of d)) c.design-design.ensures.same c.design-design.ensures.rules in
    let source = design_of c.args.ok.now in let holes = c.in_ok-holes.holes in
    ok_from (IsRemoved holes) (λ (w : WireDesign). LowersControl source (design_of w.design))
    (λ w removes. wires_lower_control source (design_of c.in_ok-plain.plain.design) (design_of holes.design) (design_of w.design) (rule_trees holes.design.names holes.acts.items) c.in_ok-plain.ensures.expands c.in_ok-holes.ensures.states removes rules c.requires)
    c.remove_groups.result c.remove_groups.ensures.removes

pub returns-clause-plain : goal.returns-clause-plain
returns-clause-plain c =
    let source = design_of c.args.ok.now in let holes = c.in_ok-holes.holes in
    ok_from (IsRemoved holes) (λ (w : WireDesign). HasPlainTree (design_of w.design))
    (λ w removes. wires_are_plain source (design_of c.in_ok-plain.plain.design) (design_of holes.design) (design_of w.design) (rule_trees holes.design.names holes.acts.items) c.in_ok-plain.ensures.expands c.in_ok-holes.ensures.states removes c.requires)
    c.remove_groups.result c.remove_groups.ensures.removes

pub returns-clause-written : goal.returns-clause-written
returns-clause-written c =
    let source = design_of c.args.ok.now in let holes = c.in_ok-holes.holes in
    ok_from (IsRemoved holes) (λ (w : WireDesign). DesignIsWritten (design_of w.design))
    (λ w removes. wires_are_written source (design_of c.in_ok-plain.plain.design) (design_of holes.design) (design_of w.design) (rule_trees holes.design.names holes.acts.items) c.in_ok-plain.ensures.expands c.in_ok-holes.ensures.states removes c.requires)
    c.remove_groups.result c.remove_groups.ensures.removes
