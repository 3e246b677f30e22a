use Rattle.std.proofs.Common.{◌≡◌, Ok, refl, ap}
use Rattle.std.proofs.lemmas.Bool.Decides.{not_from_Decides}
use Rattle.fil_ast.specs.Evidence as shown
use Rattle.fil_ast.specs.Rules.{Rule, F1, F2, F3, F5, F6, AtSignature}
use Rattle.fil_ast.specs.Tree.{Design, Component, component_tree}
use Rattle.fil_rules.specs.declared.rules.Rule.TheVariants as code_rule
use Rattle.fil_rules.proofs.LeastLemmas.{all_thirteen, ends_by, first_four, none_yet, one_more_rule}
use Rattle.fil_rules.proofs.signature.judge_signature.Goals as goal

-- a rule at the signature
abbrev keeps_at : Design → Component → Rule → Type 0
keeps_at earlier c rule = AtSignature rule earlier c

-- it shows nothing where it is broken
abbrev shows_nothing : Rule → shown.Evidence → Type 0
shows_nothing rule evidence = evidence ≡ shown.Nothing

pub returns-then-not-branch-clause-broken : goal.returns-then-not-branch-clause-broken
returns-then-not-branch-clause-broken c earlier same =
    let keeps = keeps_at earlier (component_tree c.args.around.now.names.now c.args.around.now.comp.now) in
    ends_by keeps shows_nothing 0 F1 code_rule.F1 refl refl (none_yet keeps)
    (c.in_ok-has_new_names.ensures.broken (ap Ok c.if-not-branch.true) earlier same) refl c.breaks.result c.breaks.ensures

pub returns-then-not-branch-2-clause-broken : goal.returns-then-not-branch-2-clause-broken
returns-then-not-branch-2-clause-broken c earlier same =
    let keeps = keeps_at earlier (component_tree c.args.around.now.names.now c.args.around.now.comp.now) in
    let new_names = c.in_ok-has_new_names.ensures.kept (ap Ok c.if-not-branch.false) earlier same in
    ends_by keeps shows_nothing 1 F2 code_rule.F2 refl refl (one_more_rule keeps 0 F1 refl (none_yet keeps) new_names)
    (not_from_Decides c.in_ok-names_events.field-0 c.in_ok-names_events.ensures c.if-not-branch-2.true) refl c.breaks-then-not-branch-2.result c.breaks-then-not-branch-2.ensures

pub returns-then-not-has_widths-clause-broken : goal.returns-then-not-has_widths-clause-broken
returns-then-not-has_widths-clause-broken c earlier same =
    let keeps = keeps_at earlier (component_tree c.args.around.now.names.now c.args.around.now.comp.now) in
    let new_names = c.in_ok-has_new_names.ensures.kept (ap Ok c.if-not-branch.false) earlier same in
    let known = c.in_ok-names_events.ensures.0 c.if-not-branch-2.false in
    ends_by keeps shows_nothing 2 F3 code_rule.F3 refl refl (one_more_rule keeps 1 F2 refl (one_more_rule keeps 0 F1 refl (none_yet keeps) new_names) known)
    (not_from_Decides c.has_widths.result (c.has_widths.ensures c.args.around.now.names.now) c.if-not-has_widths.true) refl c.breaks-then-not-has_widths.result c.breaks-then-not-has_widths.ensures

pub returns-then-not-branch-3-clause-broken : goal.returns-then-not-branch-3-clause-broken
returns-then-not-branch-3-clause-broken c earlier same =
    let keeps = keeps_at earlier (component_tree c.args.around.now.names.now c.args.around.now.comp.now) in
    let new_names = c.in_ok-has_new_names.ensures.kept (ap Ok c.if-not-branch.false) earlier same in
    let known = c.in_ok-names_events.ensures.0 c.if-not-branch-2.false in
    let widths = (c.has_widths.ensures c.args.around.now.names.now).0 c.if-not-has_widths.false in
    ends_by keeps shows_nothing 4 F5 code_rule.F5 refl refl (first_four keeps new_names known widths tt)
    (not_from_Decides c.in_ok-has_shape.field-0 c.in_ok-has_shape.ensures c.if-not-branch-3.true) refl c.breaks-then-not-branch-3.result c.breaks-then-not-branch-3.ensures

pub returns-then-not-has_short_ports-clause-broken : goal.returns-then-not-has_short_ports-clause-broken
returns-then-not-has_short_ports-clause-broken c earlier same =
    let keeps = keeps_at earlier (component_tree c.args.around.now.names.now c.args.around.now.comp.now) in
    let new_names = c.in_ok-has_new_names.ensures.kept (ap Ok c.if-not-branch.false) earlier same in
    let known = c.in_ok-names_events.ensures.0 c.if-not-branch-2.false in
    let widths = (c.has_widths.ensures c.args.around.now.names.now).0 c.if-not-has_widths.false in
    let shape = c.in_ok-has_shape.ensures.0 c.if-not-branch-3.false in
    ends_by keeps shows_nothing 5 F6 code_rule.F6 refl refl (one_more_rule keeps 4 F5 refl (first_four keeps new_names known widths tt) shape)
    (not_from_Decides c.has_short_ports.result c.has_short_ports.ensures c.if-not-has_short_ports.true) refl c.breaks-then-not-has_short_ports.result c.breaks-then-not-has_short_ports.ensures

pub returns-clause-kept : goal.returns-clause-kept
returns-clause-kept c earlier same =
    all_thirteen (keeps_at earlier (component_tree c.args.around.now.names.now c.args.around.now.comp.now))
    (c.in_ok-has_new_names.ensures.kept (ap Ok c.if-not-branch.false) earlier same)
    (c.in_ok-names_events.ensures.0 c.if-not-branch-2.false)
    ((c.has_widths.ensures c.args.around.now.names.now).0 c.if-not-has_widths.false)
    tt
    (c.in_ok-has_shape.ensures.0 c.if-not-branch-3.false)
    (c.has_short_ports.ensures.0 c.if-not-has_short_ports.false)
    tt tt tt tt tt tt tt
