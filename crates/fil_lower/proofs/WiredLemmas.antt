-- In each run of a lowered design wires do what bodies say, at each path.
use Rattle.std.proofs.Common.{◌≡◌, ◌≢◌, ◌↔◌, ℕ, zero, suc, ◌<◌, Bool, true, false, List, [], ◌∷◌, map, flat_map, take, slice_get, Contains, Option, Some, refl, sym, ap, subst, ◌∙◌, arith}
use Rattle.std.specs.Option.{option_map_or}
use Rattle.std.specs.Prelude.{AllPairs, bytes_eq, if◌then◌else◌}
use Rattle.std.proofs.lemmas.Option.{none-some, same_Some, slice_get_within}
use Rattle.std.proofs.lemmas.Slice.Eq.{bytes_eq-Decides}
use Rattle.hw_names.specs.Name.{Text}
use Rattle.hw_prims.specs.Row.{Trace}
use Rattle.hw_prims.specs.Timed.{TimedPort}
use Rattle.net_core.specs.Circuit.{settled}
use Rattle.cal_ast.specs.CalRun.{BareRun}
use Rattle.cal_ast.specs.Tree as calyx
use Rattle.fil_ast.specs.Behaviours.{timed_port}
use Rattle.fil_ast.specs.Connections.{ConnectsOnce, connected_at}
use Rattle.fil_ast.specs.Flow.{connected_to}
use Rattle.fil_ast.specs.Items.{scope_after}
use Rattle.fil_ast.specs.Plain.{HasPlainTree}
use Rattle.fil_ast.specs.Rules.{F1, FilRules}
use Rattle.fil_ast.specs.Scope.{Scope, Invocation, output_of}
use Rattle.fil_ast.specs.Signature.{SigPort, Signature, sig_port}
use Rattle.fil_ast.specs.Tree.{Component, Design, Statement, ValueTree, New, Call, Both, Connect}
use Rattle.fil_ast.specs.Wires.{whole_scope}
use Rattle.fil_share.proofs.ListLemmas.{Contains-there}
use Rattle.fil_share.proofs.MakesLemmas.{at_statement}
use Rattle.fil_share.proofs.OwnLemmas.{AllPairs-mapped, names_of, some_there}
use Rattle.fil_lower.specs.Wires.{ComponentRun, Drives, DrivesAlone, HasWires, IsInterfaceOf, IsWiredDesign, Starts, component_run, value_seen}
use Rattle.fil_lower.specs.inside.Lowered.{IsLowered, LoweredRun, drives, source_in}
use Rattle.fil_lower.specs.inside.Lowering.{IsLoweringOf}
use Rattle.fil_lower.specs.inside.Plan.{Literal, Plan, Use}
use Rattle.fil_lower.specs.inside.PlanOf.{Resolved, callee_of, plan_of, resolved_calls, source_of}
use Rattle.fil_lower.proofs.AvailableLemmas.{found_passes}
use Rattle.fil_lower.proofs.CallLemmas.{found_among}
use Rattle.fil_lower.proofs.DriveLemmas.{Excludes, one_where}
use Rattle.fil_lower.proofs.NewNameLemmas.{invocations_distinct}
use Rattle.fil_lower.proofs.PlainLemmas.{plain_designs}
use Rattle.fil_lower.proofs.SlotLemmas.{zip_pairs}
use Rattle.fil_lower.proofs.SourceLemmas.{known_stays}
use Rattle.fil_lower.proofs.StandLemmas.{lowerings_show_by}
use Rattle.fil_lower.proofs.TimedAsLemmas.{contains_map, place_of}
use Rattle.fil_lower.proofs.TimedInstances.{of_signature}
use Rattle.fil_lower.proofs.WireLemmas.{AreFed, IsPair, all_pairs, drives_where, fed_where, given_by_test, pair_of, pairs_unmap, plan_rows, starts_planned, starts_told, value_planned}

-- ---- connections

-- what is connected to an output first
connected_first : (body : List Statement) (k : ℕ) (output : Text) (value : ValueTree) → slice_get body k ≡ Some (Connect output value) → ¬ Contains (flat_map connected_at (take k body)) output → connected_to body output ≡ Some value
connected_first [] k output value at absent = absurd (none-some (Connect output value) at)
connected_first (s ∷ body) zero output value at absent = first s (same_Some s (Connect output value) at)
  where
    first : (t : Statement) → t ≡ Connect output value → connected_to (t ∷ body) output ≡ Some value
    first t is = subst (λ (u : Statement). connected_to (u ∷ body) output ≡ Some value) (sym is) (ap (λ (b : Bool). if b then Some value else connected_to body output) ((bytes_eq-Decides output output).1 refl))
connected_first (New name made params ∷ body) (suc k) output value at absent = connected_first body k output value at absent
connected_first (Call name inst gives ∷ body) (suc k) output value at absent = connected_first body k output value at absent
connected_first (Both name made params gives ∷ body) (suc k) output value at absent = connected_first body k output value at absent
connected_first (Connect name other ∷ body) (suc k) output value at absent = by (bytes_eq name output) refl (connected_first body k output value at (λ there. absent (Contains-there name (flat_map connected_at (take k body)) output there)))
  where
    by : (b : Bool) → bytes_eq name output ≡ b → connected_to body output ≡ Some value → (if b then Some other else connected_to body output) ≡ Some value
    by true same later = absurd (absent (0, omega arith, (bytes_eq-Decides name output).0 same))
    by false differs later = later

module _ (comps : Design) (rules : FilRules comps) (n : ℕ) (c : Component) (here : slice_get comps n ≡ Some c) (run : ComponentRun) where
  abbrev earlier : Design
  earlier = take n comps

  abbrev scope : Scope
  scope = whole_scope earlier c

  abbrev plan : Plan
  plan = plan_of earlier c

  -- ---- from the plan to the text

  module _ (feeds : Use → Text → ℕ → Bool) (low : IsLowered plan (plan_rows comps rules n c here run feeds)) where
    abbrev low_rows : LoweredRun
    low_rows = plan_rows comps rules n c here run feeds

    low_fed : AreFed comps rules n c here run feeds
    low_fed = record { fed = low.fed; always = low.always }

    module _ (r : ℕ) (below : r < run.height) where
      -- of the plan's invocations one alone drives, where one alone gives a value
      one_drives : (inst port : Text) (v : Invocation) (value : ValueTree) → DrivesAlone scope run inst port r v value → (p : TimedPort) → p.name ≡ port → Contains (callee_of earlier c inst).sig.ins p →
          AllPairs (Excludes (drives low_rows inst p.name r)) plan.uses
      one_drives inst port v value only p is_name has =
          let test = drives low_rows inst p.name r in
          let D : Invocation → Invocation → Type 0 = λ w y. w.name ≢ y.name in
          let is_v : (w : Invocation) (x : Resolved) → IsPair comps rules n c here run feeds w x → test x.call ≡ true → w ≡ v =
          λ w x pair passes.
          (let g = given_by_test comps rules n c here run feeds low_fed r below w x pair inst p has passes in
          only.alone w g.0 (subst (λ (name : Text). Drives scope run inst name r w g.0) is_name g.1)) in
          AllPairs-mapped (Excludes test) (λ (x : Resolved). x.call) (resolved_calls earlier c)
          (zip_pairs (IsPair comps rules n c here run feeds) D (λ (x u : Resolved). Excludes test x.call u.call) scope.invocations (resolved_calls earlier c) (all_pairs comps rules n c here run feeds)
          (pairs_unmap (λ (a b : Text). a ≢ b) (λ (w : Invocation). w.name) scope.invocations (invocations_distinct earlier c (names_of comps rules n c here)))
          (λ w y x u pair_w pair_y differ passes also. differ (ap (λ (z : Invocation). z.name) (is_v w x pair_w passes ∙ sym (is_v y u pair_y also)))))

      arguments : (inst port : Text) (v : Invocation) (value : ValueTree) → DrivesAlone scope run inst port r v value → run.trace r (run.cell inst port) ≡ value_seen scope run (run.trace r) value
      arguments inst port v value only =
          let m = pair_of comps rules n c here run feeds v only.drives.invoked in
          let told = fed_where comps rules n c here run feeds low_fed r below v m.0 m.1 inst port value only.drives in
          let p = told.p in
          let has : Contains (callee_of earlier c inst).sig.ins p = subst (λ (name : Text). Contains (callee_of earlier c name).sig.ins p) only.drives.of_inst told.has in
          let passes : drives low_rows inst p.name r m.0.call ≡ true =
          ap (λ (name : Text). drives low_rows inst name r m.0.call) told.is_name ∙ drives_where comps rules n c here run feeds low_fed r below v m.0 m.1 inst port value only.drives in
          ap (λ (name : Text). run.trace r (run.cell inst name)) (sym told.is_name)
          ∙ low.driven r below inst p has
          ∙ ap settled (one_where (drives low_rows inst p.name r) (λ (call : Use). source_in low_rows (run.trace r) (call.args p.name)) plan.uses m.0.call (one_drives inst port v value only p told.is_name has) m.1.has_call passes)
          ∙ sym (told.seen (run.trace r))

      starts : (inst : Text) (k : ℕ) (go : Text) → IsInterfaceOf scope inst k go → (run.trace r (run.cell inst go) ≡ 1) ↔ Starts scope run inst k r
      starts inst k go of =
          let is = of_signature comps rules n c here inst of.signature of.signed in
          let same : of.signature ≡ is.sig = same_Some of.signature is.sig (sym of.signed ∙ is.signed) in
          let e = is.is_timed.go_is k of.event go (ap (λ (s : Signature). slice_get s.events k) (sym same) ∙ of.at) of.has in
          let w = low.started r below inst k e.0 go e.1 e.2 in
          (λ on. starts_told comps rules n c here run feeds inst k r (w.0 on), λ s. w.1 (starts_planned comps rules n c here run feeds inst k r s))

      outputs : (output : Text) (value : ValueTree) → Contains c.body (Connect output value) → run.trace r (run.own output) ≡ value_seen scope run (run.trace r) value
      outputs output value has =
          let place = place_of c.body (Connect output value) has in
          let k = place.0 in
          let within = slice_get_within c.body k (Connect output value) place.1 in
          let known = (names_of comps rules n c here).known_names k (Connect output value) place.1 in
          let once : ConnectsOnce (scope_after earlier c (take k c.body)) (take k c.body) (Connect output value) = at_statement comps rules n c here k (Connect output value) place.1 8 F1 (omega arith) in
          let o = some_there (output_of (scope_after earlier c (take k c.body)) output) known.0 in
          let outs = map (sig_port c.events) c.outs in
          let test = λ (q : SigPort). bytes_eq q.name output in
          let is_name : o.0.name ≡ output = (bytes_eq-Decides o.0.name output).0 (found_passes test outs o.0 o.1) in
          let there = contains_map timed_port outs o.0 (found_among test outs o.0 o.1) in
          ap (λ (name : Text). run.trace r (run.own name)) (sym is_name)
          ∙ low.connected r below (timed_port o.0) there
          ∙ ap (λ (name : Text). source_in low_rows (run.trace r) (plan.outputs name)) is_name
          ∙ ap (λ (x : Option ValueTree). source_in low_rows (run.trace r) (option_map_or (source_of (resolved_calls earlier c)) x (Literal 0))) (connected_first c.body k output value place.1 once.0)
          ∙ sym (value_planned comps rules n c here run feeds k (omega (arith, within)) (resolved_calls earlier c) (known_stays comps rules n c here k) value known.1 (run.trace r))

    pub low_wires : HasWires scope run
    low_wires = record { arguments = arguments; starts = starts; outputs = outputs }

-- ---- designs

pub lowerings_have_wires :
    (comps : Design) (design : calyx.Design) → FilRules comps → HasPlainTree comps → IsLoweringOf comps design → (number : ℕ) (low : calyx.Component) → slice_get design number ≡ Some low →
    (asked : ℕ) (inputs : Trace) (loads : Text → List ℕ) (height : ℕ) (trace : Trace) → BareRun design low asked inputs loads height trace → IsWiredDesign comps number height trace
lowerings_have_wires comps design rules plain lowered number low at_low asked inputs loads height trace run =
    let shows = lowerings_show_by plain_designs comps design rules plain lowered number low at_low asked inputs loads height trace run in
    record {
      wires = λ n path c stands here. let l = shows.components n path c stands here in low_wires comps rules n c here (component_run path height trace) l.0 l.1;
      primitives = shows.primitives;
    }
