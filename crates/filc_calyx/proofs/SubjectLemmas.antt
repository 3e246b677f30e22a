-- What is scheduled: the top of a design, from its names and its control.
use Rattle.std.proofs.Common.{◌≡◌, ℕ, [], Some, refl, sym, ap, subst, ◌∙◌}
use Rattle.std.specs.Prelude.{Contains, option_map, slice_get}
use Rattle.std.proofs.lemmas.Option.{same_Some, slice_get-map}
use Rattle.net_core.specs.Netlist.{Netlist}
use Rattle.net_core.specs.Rules.{PortLine, port_names, ports_of}
use Rattle.net_core.specs.declared.stimulus.CycleList.{CycleList}
use Rattle.cal_ast.proofs.ListLemmas.{Contains-at, Contains-map}
use Rattle.cal_ast.specs.Instances.{port_name}
use Rattle.cal_ast.specs.Numbers.{ComponentHasNumbers, HasNumbers}
use Rattle.cal_ast.specs.Rules.{CalRules}
use Rattle.cal_ast.specs.Top.{IsTop}
use Rattle.cal_ast.specs.Tree.{Component, Design, component_tree, design_of}
use Rattle.cal_ast.specs.declared.tree.CalComp.{CalComp}
use Rattle.cal_ast.specs.declared.tree.CalDesign.{CalDesign}
use Rattle.cal_net.specs.Face.{face}
use Rattle.cal_net.specs.Refining.{RefinesFrom, RefinesTop}
use Rattle.cal_walk.proofs.ControlsLemmas.{comp_numbers}
use Rattle.cal_walk.specs.Planning.{IsControlOf}
use Rattle.cal_walk.specs.declared.planning.Controlled.{Controlled}
use Rattle.stim_read.specs.CycleRun.{run_seen}
use Rattle.filc_calyx.proofs.FaceLemmas.{look_alike, same_outputs}
use Rattle.filc_load.proofs.CostLemmas.{one_number}
use Rattle.filc_calyx.specs.Means.{Driven}
use Rattle.filc_calyx.specs.Scheduled.{IsDriven}
use Rattle.filc_calyx.specs.inside.Scheduling.{CanSchedule}

-- two components with the number of the top are one
one_top : (design : Design) (m n : ℕ) (c e : Component) → IsTop design m → IsTop design n → slice_get design m ≡ Some c → slice_get design n ≡ Some e → c ≡ e
one_top design m n c e is is' at at' = same_Some c e (sym at ∙ ap (slice_get design) (one_number design m n is is') ∙ at')

module _ (d : CalDesign) (number : ℕ) (is_top : IsTop (design_of d) number) (comp : CalComp) (at : slice_get d.comps.items number ≡ Some comp) where
  abbrev design : Design
  design = design_of d

  abbrev top : Component
  top = component_tree d.names comp

  here : slice_get design number ≡ Some top
  here = slice_get-map (component_tree d.names) d.comps.items number ∙ ap (option_map (component_tree d.names)) at

  -- a netlist of the design shows what this top does
  pub refines_from : (n : Netlist) → RefinesTop design n → RefinesFrom design top n
  refines_from n refines = subst (λ (c : Component). RefinesFrom design c n) (one_top design refines.number number refines.top top refines.is_top is_top refines.at here) refines.refines

  -- what is driven under a list is this top
  pub driven_is : (list : CycleList) (driven : Driven) → IsDriven d list driven → driven ≡ record { design = design; top = top; run = run_seen list }
  driven_is list driven is =
      let is_top' = subst (λ (x : Design). IsTop x is.number) is.design_is is.is_top in
      let at' = subst (λ (x : Design). slice_get x is.number ≡ Some driven.top) is.design_is is.at in
      let same : driven.top ≡ top = one_top design is.number number driven.top top is_top' is_top at' here in
      λ i. record { design = is.design_is i; top = same i; run = is.run_is i }

  -- its control can be walked beside the run of the netlist
  pub can_schedule : CalRules design → HasNumbers d → (n : Netlist) → RefinesFrom design top n → (control : Controlled) → (control.comp.now ≡ comp) × IsControlOf d.names top control → CanSchedule design top d.names n control
  can_schedule rules numbers n refines control is =
      let numbered : ComponentHasNumbers d.names control.comp.now = subst (ComponentHasNumbers d.names) (sym is.0) (comp_numbers d numbers number comp at) in
      let same : component_tree d.names control.comp.now ≡ top = ap (component_tree d.names) is.0 in
      record {
        outs = same_outputs n (face top) (look_alike design top n refines);
        numbers = numbered;
        comp = same;
        control_is = is.1;
        walks = λ started. record {
          rules = rules;
          in_design = Contains-at design number top here;
          started = started;
          numbers = numbered;
          comp = same;
          control_is = is.1;
          has_ports = λ p known.
              let has = refines.ports (port_name [] p) (record { path = []; c = top; at = refl; p = p; known = known; named = refl }) in
              subst (Contains (port_names (ports_of n))) has.named (Contains-map (λ (q : PortLine). q.name) (ports_of n) has.line has.among);
        };
      }
