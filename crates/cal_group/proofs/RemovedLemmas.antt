-- Groups that have become guarded wires: the components keep their faces, and the wires give what the groups give where their rules are true.
use Rattle.std.proofs.Common.{◌≡◌, ℕ, Bool, true, false, ◌||◌, List, [], ◌∷◌, ◌++◌, map, Option, Some, refl, sym, ap, ◌∙◌}
use Rattle.std.specs.Prelude.{Contains, codes, flat_map, if◌then◌else◌}
use Rattle.std.specs.List.{AllZip}
use Rattle.std.proofs.lemmas.List.{append-nil}
use Rattle.std.proofs.lemmas.List.Elements.{All-nil}
use Rattle.hw_names.specs.Name.{Text, Path}
use Rattle.hw_prims.specs.Row.{Row}
use Rattle.net_core.specs.Guard.{GuardTree, holds}
use Rattle.cal_ast.proofs.InstanceLemmas.{component_at-design}
use Rattle.cal_ast.proofs.ListLemmas.{Contains-at, Contains-here, Contains-there}
use Rattle.cal_ast.proofs.LookupLemmas.{bare_inputs, bare_outputs}
use Rattle.cal_ast.specs.CalRun.{bare, look, values_for}
use Rattle.cal_ast.specs.Holes.{ActivityRule, IsHoleDesign, guarded_set, rule_holds, sets_by_rule, by_rules}
use Rattle.cal_ast.specs.Instances.{component_at}
use Rattle.cal_ast.specs.Keeping.{AddsNoStates, IsAddedCell, IsStatelessCell}
use Rattle.cal_ast.specs.Ports.{is_bare, is_bare_by, is_own, drives_done}
use Rattle.cal_ast.specs.Tree.{PortName, Assignment, GroupDef, ControlSection, Absent, Empty, Body, Component, Design}
use Rattle.cal_group.proofs.MappedLemmas.{KeepsFaces, runs_before}
use Rattle.cal_group.proofs.RuleOfLemmas.{has_rule}
use Rattle.cal_group.proofs.ValueLemmas.{values-append, values-flat, values-guarded}
use Rattle.cal_group.specs.inside.Laws.{RemovedKeepsRuns, RemovedKeepsStates}
use Rattle.cal_group.specs.inside.Removed.{ruled_sets, removed}

-- ---- bare components stay bare

done_more : (sets more : List Assignment) → drives_done sets ≡ true → drives_done (sets ++ more) ≡ true
done_more [] more drives = absurd (cc)
done_more (a ∷ sets) more drives = by (is_own (codes "done") a.dst) (done_more sets more) drives
  where
    by : (b : Bool) → (drives_done sets ≡ true → drives_done (sets ++ more) ≡ true) → (b || drives_done sets) ≡ true → (b || drives_done (sets ++ more)) ≡ true
    by true later e = refl
    by false later e = later e

bare_more : (control : ControlSection) (sets more : List Assignment) → is_bare_by control sets ≡ true → is_bare_by control (sets ++ more) ≡ true
bare_more Absent sets more is = refl
bare_more Empty sets more is = done_more sets more is
bare_more (Body s) sets more is = absurd (cc)

module _ (design : Design) (rules : List ActivityRule) (hole : IsHoleDesign design rules) where
  pub removed_bare : (c : Component) → Contains design c → is_bare (removed design rules c) ≡ true
  removed_bare c has = bare_more c.control c.sets (flat_map (ruled_sets design rules c) c.groups) (hole.bare c has)

  pub removed_faces : KeepsFaces design (removed design rules)
  removed_faces = record {
    names = λ c. refl;
    ins = λ c. refl;
    outs = λ c. refl;
    cells = λ c. refl;
    bare = λ c has. removed_bare c has ∙ sym (hole.bare c has);
  }

  -- ---- runs

  group_values : (path : Path) (port : Text) (row : Row) (c : Component) → Contains design c → (g : GroupDef) → Contains c.groups g
      → values_for path port row (sets_by_rule design rules path c row g) ≡ values_for path port row (ruled_sets design rules c g)
  group_values path port row c has g of_c =
      let rule = has_rule design rules hole c g has of_c in
      ap (λ (o : Option (GuardTree PortName)). values_for path port row (if rule_holds path row o then g.sets else [])) rule.is
      ∙ sym (values-guarded path port row rule.when (holds (look path row) rule.when) refl g.sets)
      ∙ ap (λ (o : Option (GuardTree PortName)). values_for path port row (map (guarded_set o) g.sets)) (sym rule.is)

  same_values : (top : Component) → Contains design top → (path : Path) (c : Component) → component_at design top path ≡ Some c → (port : Text) (t : ℕ) (row : Row)
      → values_for path port row ((by_rules design rules).sets path c t row) ≡ values_for path port row (bare.sets path (removed design rules c) t row)
  same_values top has_top path c at port t row =
      let has = component_at-design design top path c has_top at in
      values-append path port row c.sets (flat_map (sets_by_rule design rules path c row) c.groups)
      ∙ ap (λ (values : List ℕ). values_for path port row c.sets ++ values)
      (values-flat path port row (sets_by_rule design rules path c row) (ruled_sets design rules c) c.groups (λ g of_c. group_values path port row c has g of_c))
      ∙ sym (values-append path port row c.sets (flat_map (ruled_sets design rules c) c.groups))

  -- ---- shape

  adds_none : (c : Component) → Contains design c → AddsNoStates c (removed design rules c)
  adds_none c has = record {
    shape = record {
      name = refl;
      ins = sym (bare_inputs c (hole.bare c has));
      outs = sym (bare_outputs c (hole.bare c has));
      added = [];
      cells = sym (append-nil c.cells);
      are_added = All-nil IsAddedCell;
    };
    stateless = All-nil IsStatelessCell;
  }

zip_map : {X Y : Type 0} (R : X → Y → Type 0) (f : X → Y) (xs : List X) → ((x : X) → Contains xs x → R x (f x)) → AllZip R xs (map f xs)
zip_map R f [] each = tt
zip_map R f (x ∷ xs) each = (each x (Contains-here x xs), zip_map R f xs (λ y has. each y (Contains-there x xs y has)))

pub removed_keeps_runs : RemovedKeepsRuns
removed_keeps_runs design rules hole n c at asked inputs loads height trace stop run =
    let has = Contains-at design n c at in
    runs_before design (removed design rules) (removed_faces design rules hole) c has (by_rules design rules) bare
    (same_values design rules hole c has) (λ path d there t. refl) asked inputs loads height trace stop run

pub removed_keeps_states : RemovedKeepsStates
removed_keeps_states design rules hole = zip_map AddsNoStates (removed design rules) design (adds_none design rules hole)
