-- What a design keeps whose invokes have become groups, and one whose groups have become wires.
use Rattle.std.proofs.Common.{◌≡◌, ℕ, List, [], ◌∷◌, length, map, slice_get, Contains, Some, refl, sym, ap, subst, ◌∙◌}
use Rattle.std.specs.Prelude.{option_map}
use Rattle.std.specs.List.{AllZip}
use Rattle.std.proofs.lemmas.Option.{same_Some, slice_get-map}
use Rattle.cal_ast.proofs.ListLemmas.{Contains-here, Contains-there}
use Rattle.cal_ast.proofs.WrittenLists.{all_map, map_some}
use Rattle.cal_ast.specs.CalRun.{StoppedBareRun}
use Rattle.cal_ast.specs.Holes.{ActivityRule, HoleRun, IsHoleDesign}
use Rattle.cal_ast.specs.Items.{items_before_control}
use Rattle.cal_ast.specs.Keeping.{KeepsCells, KeepsRuns}
use Rattle.cal_ast.specs.Rules.{CalRules}
use Rattle.cal_ast.specs.Schedule.{Run}
use Rattle.cal_ast.specs.Tree.{Component, Design}
use Rattle.cal_ast.specs.Written.{ComponentIsWritten, DesignIsWritten}
use Rattle.cal_group.specs.Expands.{Expands, ExpandsComponent}
use Rattle.cal_group.specs.RemovesGroups.{RemovesGroups}
use Rattle.cal_group.specs.inside.Expanded.{expanded, expanded_design}
use Rattle.cal_group.specs.inside.Removed.{removed, removed_design}
use Rattle.cal_group.proofs.ExpandedLemmas.{expanded_faces, expanded_keeps_runs}
use Rattle.cal_group.proofs.ManyLemmas.{as_many_in_section}
use Rattle.cal_group.proofs.PlainDesignLemmas.{expanded_is_plain}
use Rattle.cal_group.proofs.PlainNameLemmas.{expanded_has_plain_groups, expanded_is_plain_tree, removed_is_plain_tree}
use Rattle.cal_group.proofs.RemovedLemmas.{removed_keeps_runs}
use Rattle.cal_group.proofs.WiredLemmas.{removed_is_wired}
use Rattle.cal_group.proofs.WrittenInvokes.{expanded_written}
use Rattle.cal_group.proofs.WrittenRemoval.{design_removed}

-- what is made of each component stands in its place
zip_made : (R : Component → Component → Type 0) (f : Component → Component) (cs : Design) → ((c : Component) → Contains cs c → R c (f c)) → AllZip R cs (map f cs)
zip_made R f [] each = tt
zip_made R f (c ∷ cs) each = (each c (Contains-here c cs), zip_made R f cs (λ d has. each d (Contains-there c cs d has)))

made_at : (f : Component → Component) (cs : Design) (n : ℕ) (c d : Component) → slice_get cs n ≡ Some c → slice_get (map f cs) n ≡ Some d → f c ≡ d
made_at f cs n c d at at_made = same_Some (f c) d (sym (slice_get-map f cs n ∙ ap (option_map f) at) ∙ at_made)

-- ---- invokes

module _ (source : Design) (rules : CalRules source) where
  expands_component : (c : Component) → Contains source c → ExpandsComponent c (expanded source c)
  expands_component c has =
      let many = as_many_in_section (length (items_before_control c)) c.control in
      record {
        keeps = record { name = refl; ins = refl; outs = refl; cells = refl };
        bare = (expanded_faces source).bare c has;
        statements = many.all;
        in_pars = many.parallel_ones;
      }

  expands_runs : (n : ℕ) (c d : Component) → slice_get source n ≡ Some c → slice_get (expanded_design source) n ≡ Some d → KeepsRuns (Run (expanded_design source) d) (Run source c)
  expands_runs n c d at at_made =
      subst (λ (x : Component). KeepsRuns (Run (expanded_design source) x) (Run source c)) (made_at (expanded source) source n c d at at_made) (expanded_keeps_runs source rules n c at)

  expanded_expands : Expands source (expanded_design source)
  expanded_expands = record {
    components = zip_made ExpandsComponent (expanded source) source expands_component;
    no_invokes = expanded_is_plain source rules;
    runs = expands_runs;
    plain = expanded_is_plain_tree source;
    plain_groups = expanded_has_plain_groups source;
    written = λ is. (map_some (expanded source) source is.0, all_map ComponentIsWritten ComponentIsWritten (expanded source) (expanded_written source) source is.1);
  }

pub expands : (source answer : Design) → CalRules source → answer ≡ expanded_design source → Expands source answer
expands source answer rules is = subst (Expands source) (sym is) (expanded_expands source rules)

-- ---- groups

module _ (source : Design) (rules : List ActivityRule) (hole : IsHoleDesign source rules) where
  removes_runs : (n : ℕ) (c d : Component) → slice_get source n ≡ Some c → slice_get (removed_design source rules) n ≡ Some d → KeepsRuns (StoppedBareRun (removed_design source rules) d) (HoleRun source rules c)
  removes_runs n c d at at_made =
      subst (λ (x : Component). KeepsRuns (StoppedBareRun (removed_design source rules) x) (HoleRun source rules c)) (made_at (removed source rules) source n c d at at_made)
      (removed_keeps_runs source rules hole n c at)

  removed_removes : RemovesGroups source rules (removed_design source rules)
  removed_removes = record {
    components = zip_made KeepsCells (removed source rules) source (λ c has. record { name = refl; ins = refl; outs = refl; cells = refl });
    wired = removed_is_wired source rules hole;
    runs = removes_runs;
    plain = removed_is_plain_tree source rules;
    written = λ is are. design_removed source rules are is;
  }

pub removes_groups : (source : Design) (rules : List ActivityRule) (wires : Design) → IsHoleDesign source rules → wires ≡ removed_design source rules → RemovesGroups source rules wires
removes_groups source rules wires hole is = subst (RemovesGroups source rules) (sym is) (removed_removes source rules hole)
