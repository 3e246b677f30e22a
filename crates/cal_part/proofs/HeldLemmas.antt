-- A design that is part of another runs there as it does by itself.
use Rattle.std.proofs.Common.{◌++◌, sym, ◌∙◌}
use Rattle.std.specs.Prelude.{Contains}
use Rattle.hw_names.specs.Name.{Text}
use Rattle.cal_ast.proofs.InstanceLemmas.{component_at-design}
use Rattle.cal_ast.proofs.ListLemmas.{Contains-map}
use Rattle.cal_ast.specs.CalRun.{bare}
use Rattle.cal_ast.specs.Rules.{CalRules}
use Rattle.cal_ast.specs.Tree.{Component, Design}
use Rattle.cal_part.specs.RunBelow.{row_below, rows_below, loads_below}
use Rattle.cal_part.specs.HeldDesign.{holding}
use Rattle.cal_part.specs.Laws.{FrontIsWiredBelow, HeldConflicts, HeldRuns}
use Rattle.cal_part.specs.RenamedDesign.{IsRenaming, renamed, renamed_design}
use Rattle.cal_part.specs.SameHierarchy.{IsSameBelow, HaveSameRuns}
use Rattle.cal_part.proofs.BelowLemmas.{sub_runs}
use Rattle.cal_part.proofs.ConflictLemmas.{conflicts_below}
use Rattle.cal_part.proofs.FrontLemmas.{front_keeps_rules, same_below-equal}
use Rattle.cal_part.proofs.PlaceLemmas.{same_below-trans}
use Rattle.cal_part.proofs.RenamedLemmas.{renamed_is_same, renamed_keeps_rules}
use Rattle.cal_part.proofs.SameLemmas.{same_below}

pub front_is_wired_below : FrontIsWiredBelow
front_is_wired_below front more wired c in_front =
    let kept = front_keeps_rules front more wired.rules in
    record {
      bare = λ below d at. wired.bare d (component_at-design front c below d in_front (sym (kept.hierarchy c in_front below) ∙ at));
      no_groups = λ below d at. wired.no_groups d (component_at-design front c below d in_front (sym (kept.hierarchy c in_front below) ∙ at));
    }

-- the held design's runs are those of the whole from the component's new name
held_same : (held more : Design) (rename : Text → Text) → IsRenaming held rename → CalRules held → (c : Component) → Contains held c → HaveSameRuns held c (holding held rename more) (renamed rename c)
held_same held more rename renaming rules c in_held =
    let front = renamed_design rename held in
    let design = front ++ more in
    let there : Contains front (renamed rename c) = Contains-map (renamed rename) held c in_held in
    let kept = front_keeps_rules front more (renamed_keeps_rules held rename renaming rules) in
    let after : IsSameBelow front (renamed rename c) design (renamed rename c) = same_below-equal front design (renamed rename c) (renamed rename c) (λ below. sym (kept.hierarchy (renamed rename c) there below)) in
    same_below held design c (renamed rename c)
    (same_below-trans held front design c (renamed rename c) (renamed rename c) (renamed_is_same held rename renaming rules c in_held) after)

pub held_runs : HeldRuns
held_runs held more rename top c path whole is asked inputs loads height trace run =
    let same = held_same held more rename is.renaming is.rules c is.has in
    let below = sub_runs (holding held rename more) top (renamed rename c) path is.at whole bare is.acts asked inputs loads height trace run in
    record {
      run = (same.bare_runs height (rows_below path trace) (loads_below path loads) height (rows_below path trace)).1 below.run;
      states = below.states;
      conflicts = λ t port conflict. below.conflicts t port ((same.bare_conflicts t (row_below path (trace t)) port).0 conflict);
    }

pub held_conflicts : HeldConflicts
held_conflicts held more rename top c path whole is t row port below conflict =
    let same = held_same held more rename is.renaming is.rules c is.has in
    let there = conflicts_below (holding held rename more) top (renamed rename c) path is.at whole bare is.acts t row port below conflict in
    (there.0, there.1, (same.bare_conflicts t (row_below path row) there.0).1 there.2)
