-- Each run of a design with states is one of its source: the states of threads bring control through its rows as the source's does.
use Rattle.std.proofs.Common.{◌≡◌, ◌⊎◌, inl, inr, ℕ, ◌<◌, ◌≤◌, ◌^◌, List, [], ◌∷◌, ◌++◌, map, Bool, true, false, ◌==◌, Option, Some, refl, sym, ap, subst, ◌∙◌, lit<, arith}
use Rattle.std.specs.Prelude.{Contains, codes, flat_map, if◌then◌else◌}
use Rattle.std.proofs.lemmas.Fmt.{decimal_injective}
use Rattle.std.proofs.lemmas.List.Elements.{All-contains, Contains-append_cases, Contains-append_left, Contains-append_right}
use Rattle.hw_names.specs.Name.{Text, Path}
use Rattle.hw_prims.specs.Row.{Trace}
use Rattle.net_core.specs.Circuit.{settled}
use Rattle.net_core.specs.Guard.{holds}
use Rattle.cal_ast.proofs.InstanceLemmas.{component_at-design}
use Rattle.cal_ast.proofs.ListLemmas.{Contains-here, Contains-there, Contains-map, Contains-flat_map}
use Rattle.cal_ast.specs.Actors.{Actor, GroupNamed}
use Rattle.cal_ast.specs.CalRun.{look, cal_circuit, IsStoppedRun}
use Rattle.cal_ast.specs.Holes.{ActivityRule, by_rules}
use Rattle.cal_ast.specs.Instances.{component_at}
use Rattle.cal_ast.specs.NoInvoke.{IsPlainDesign}
use Rattle.cal_ast.specs.Plain.{HasPlainTree}
use Rattle.cal_ast.specs.Plan.{Plan, plan_of}
use Rattle.cal_ast.specs.Ports.{is_bare}
use Rattle.cal_ast.specs.Schedule.{view_at, go_at}
use Rattle.cal_ast.specs.Spans.{View}
use Rattle.cal_ast.specs.Tree.{PortName, DoneLine, GroupDef, Component, Design}
use Rattle.cal_walk.specs.Left.{is_over}
use Rattle.cal_walk.specs.Stages.{Progress, progress_at, acts_now, is_done_now, enabled_now, tested_now}
use Rattle.cal_token.proofs.TestLemmas.{and_true}
use Rattle.cal_token.specs.inside.Tokens.{size}
use Rattle.cal_lower.specs.inside.Added.{extended}
use Rattle.cal_lower.specs.inside.Laws.{KeepsRunsFromEach}
use Rattle.cal_lower.specs.inside.Lowered.{HasFewParts, acts_guard, acts_wire, done_wire, group_pieces, plan_pieces, rules_from}
use Rattle.cal_lower.specs.inside.Parts.{part_pieces}
use Rattle.cal_lower.specs.inside.Pieces.{Piece, Wire, piece, acts_name, start_name, over_name, shown, is_set, is_done}
use Rattle.cal_lower.proofs.ControlLemmas.{is_on_row, acts_now-is, over_is, enabled_is, tested_is}
use Rattle.cal_lower.proofs.ExtendedLemmas.{AreNamed, answer}
use Rattle.cal_lower.proofs.GroupActsLemmas.{ShowsDones, done_is, dones_are, acts_guard_is}
use Rattle.cal_lower.proofs.ListLemmas.{each_at, each_from}
use Rattle.cal_lower.proofs.PartLemmas.{shows_bit, is_driven, EachEnabled}
use Rattle.cal_lower.proofs.PlaceLemmas.{Apart, plan_apart}
use Rattle.cal_lower.proofs.RunKeptLemmas.{ActsAsControl, FollowsControl, runs_kept}
use Rattle.cal_lower.proofs.ShownLemmas.{IsAddedPiece, wire_is, wire_shows, register_opens, register_follows}
use Rattle.cal_state.specs.inside.Encoded.{encoded, instance_wires, over_state, wires}
use Rattle.cal_state.specs.inside.Laws.{StatesKeepRuns}
use Rattle.cal_state.specs.inside.States.{as_wires, is_in, thread_cell, width_of}
use Rattle.cal_state.specs.inside.Threads.{plan_places}
use Rattle.cal_state.proofs.AddedStateLemmas as added
use Rattle.cal_state.proofs.AddedStateLemmas.{encoding, design_is, encoding_made, encoding_named, thread_added, thread_made, wire_added}
use Rattle.cal_state.proofs.RegisterLemmas.{IsWire, all_wires}
use Rattle.cal_state.proofs.StateControlLemmas as control
use Rattle.cal_state.proofs.StateControlLemmas.{ShowsStates, plan_wires}

-- a value of one bit
settled_bit : (b : Bool) → settled (if b then 1 ∷ [] else []) ≡ (if settled (if b then 1 ∷ [] else []) == 1 then 1 else 0)
settled_bit true = refl
settled_bit false = refl

module _ (source : Design) (tree : HasPlainTree source) (plain : IsPlainDesign source) (top : Component) (asked : ℕ) (inputs : Trace) (loads : Text → List ℕ) (height : ℕ)
    (trace : Trace) (stop : Option Text)
    (run : IsStoppedRun (cal_circuit (answer encoding source) (extended encoding top) (by_rules (answer encoding source) (rules_from 0 source))) asked inputs loads height trace stop)
    (path : Path) (c : Component) (at : component_at source top path ≡ Some c) (in_design : Contains source c) (full : is_bare c ≡ false) (few : size (plan_of c) ≤ 2 ^ 64) where
  own : AreNamed encoding c
  own = encoding_named source tree plain c in_design few

  abbrev plan : Plan
  plan = plan_of c

  abbrev seen : ℕ → PortName → ℕ
  seen t = look path (trace t)

  abbrev view : View
  view = view_at source path c height trace

  abbrev go : ℕ → Bool
  go = go_at path trace

  -- ---- where wires stand

  abbrev group_part : List Piece
  group_part = flat_map (group_pieces plan) c.groups

  abbrev state_part : List Piece
  state_part = as_wires (plan_pieces plan) (plan_places plan)

  in_plan : (p : Piece) → Contains (plan_wires plan) p → Contains (wires c) p
  in_plan p has = elim (Contains-append_cases (instance_wires plan) state_part p has) [
    | inl first ↦ Contains-append_left (instance_wires plan ++ group_part) state_part p (Contains-append_left (instance_wires plan) group_part p first)
    | inr last ↦ Contains-append_right (instance_wires plan ++ group_part) state_part p last
  ]

  in_group : (g : GroupDef) (p : Piece) → Contains c.groups g → Contains (group_pieces plan g) p → Contains (wires c) p
  in_group g p of has =
      Contains-append_left (instance_wires plan ++ group_part) state_part p
      (Contains-append_right (instance_wires plan) group_part p (Contains-flat_map (group_pieces plan) c.groups g p of has))

  has_acts : (g : GroupDef) → Contains c.groups g → Contains (wires c) (acts_wire plan g)
  has_acts g of = in_group g (acts_wire plan g) of (Contains-here (acts_wire plan g) (map done_wire g.dones))

  has_done : (g : GroupDef) (d : DoneLine) → Contains c.groups g → Contains g.dones d → Contains (wires c) (done_wire d)
  has_done g d of has =
      in_group g (done_wire d) of (Contains-there (acts_wire plan g) (map done_wire g.dones) (done_wire d) (Contains-map done_wire g.dones d has))

  is_added : (p : Piece) → Contains (wires c) p → IsAddedPiece encoding c p
  is_added p has = wire_added source tree plain c in_design few p has

  -- ---- what rows show

  its_wire : (p : Piece) → Contains (wires c) p → (t : ℕ) → t < height → shows_bit (seen t) p.name ≡ is_driven (seen t) p
  its_wire p has t within =
      wire_shows encoding encoding_made source tree plain top asked inputs loads height trace stop run path c at in_design full own p (is_added p has)
      (each_at IsWire (wires c) p (all_wires c) has) t within

  shows : ShowsStates plan height seen
  shows = record {
    wires = λ t within.
        each_from (λ (p : Piece). shows_bit (seen t) p.name ≡ is_driven (seen t) p) (plan_wires plan) (λ p has. its_wire p (in_plan p has) t within);
    opens = λ thread has within.
        register_opens encoding encoding_made source tree plain top asked inputs loads height trace stop run path c at in_design full own (thread_cell thread) (width_of thread)
        (thread_added source tree plain c in_design few thread has) (thread_made thread) within;
    follows = λ thread has t within.
        register_follows encoding encoding_made source tree plain top asked inputs loads height trace stop run path c at in_design full own (thread_cell thread) (width_of thread)
        (thread_added source tree plain c in_design few thread has) (thread_made thread) t within (added.thread_enabled c few (seen t) thread has)
        ∙ ap settled (added.thread_alone c few (seen t) thread (codes "in"));
  }

  dones : (t : ℕ) → t < height → ShowsDones source tree plain c in_design path trace t
  dones t within g d of has = its_wire (done_wire d) (has_done g d of has) t within

  known : (t : ℕ) → t < height → EachEnabled (λ actor. holds (seen t) (is_done actor) ≡ view.done actor t) plan
  known t within = dones_are source tree plain c in_design path height trace t (dones t within)

  pieces_apart : Apart (plan_pieces plan)
  pieces_apart = by (is_over plan) (plan_apart (2 ^ 64) (λ i j one other e. decimal_injective i j one other e) plan (is_set start_name) few)
    where
      by : (b : Bool) → Apart (part_pieces 0 plan (is_set start_name)) → Apart (if b then [] else part_pieces 0 plan (is_set start_name))
      by true apart = tt
      by false apart = apart

  -- ---- control

  stands : (t : ℕ) → t < height → control.Rests plan few pieces_apart view.done height seen shows known t ⊎ control.Goes plan few pieces_apart view.done height seen shows known t
  stands t within = control.stands_before plan few pieces_apart view.done height seen shows known t (omega (arith, within))

  abbrev over_wire : Piece
  over_wire = piece Wire over_name (is_in (over_state plan))

  has_over : Contains (wires c) over_wire
  has_over = in_plan over_wire (Contains-append_left (instance_wires plan) state_part over_wire (2, lit< tt, refl))

  -- the wire of its done row shows 1 in it, and 0 in other rows
  over_shows : (t : ℕ) → t < height → seen t (shown over_name) ≡ (if is_done_now (progress_at view go plan t) then 1 else 0)
  over_shows t within =
      let value : seen t (shown over_name) ≡ settled (if holds (seen t) (is_in (over_state plan)) then 1 ∷ [] else []) =
      wire_is encoding encoding_made source tree plain top asked inputs loads height trace stop run path c at in_design full own over_wire (is_added over_wire has_over) refl t within in
      value ∙ settled_bit (holds (seen t) (is_in (over_state plan))) ∙ sym (ap (λ x. if x == 1 then 1 else 0) value)
      ∙ ap (λ x. if x then 1 else 0)
      (control.over_shows plan few pieces_apart view.done height seen shows known t within (stands t within)
      ∙ over_is plan view go height (control.bits plan few pieces_apart view.done height seen shows known) (control.are plan few pieces_apart view.done height seen shows known) t within)

  -- the wire of a group shows where it acts
  acts_is : (g : GroupDef) → Contains c.groups g → (t : ℕ) → t < height
      → shows_bit (seen t) (acts_name g.name) ≡ acts_now plan (progress_at view go plan t) (GroupNamed g.name) (go t) (view.done (GroupNamed g.name) t)
  acts_is g of t within =
      let actor : Actor = GroupNamed g.name in
      let x : Progress = progress_at view go plan t in
      let are = control.are plan few pieces_apart view.done height seen shows known in
      its_wire (acts_wire plan g) (has_acts g of) t within ∙ and_true (holds (seen t) (acts_guard plan g))
      ∙ acts_guard_is source tree plain c in_design g of (seen t) (is_on_row x (go t)) (tested_now plan x actor) (enabled_now plan x actor) (view.done actor t)
      (control.enables_same plan few pieces_apart view.done height seen shows known t within (stands t within) actor
      ∙ enabled_is plan view go height (control.bits plan few pieces_apart view.done height seen shows known) are t actor within)
      (control.tests_same plan few pieces_apart view.done height seen shows known t within (stands t within) actor
      ∙ tested_is plan view go height (control.bits plan few pieces_apart view.done height seen shows known) are t actor within)
      (λ comb. done_is source tree plain c in_design path height trace t (dones t within) g of comb)
      ∙ sym (acts_now-is plan x actor (go t) (view.done actor t))

  pub control_followed : ActsAsControl encoding source height trace path c
  control_followed = record {
    ruled = acts_is;
    done = over_shows;
    few_drives = λ name pin plain_pin none t within.
        added.few_drives c few (seen t) (added.wires_apart source tree plain c in_design few)
        (λ thread has. control.few_values plan few pieces_apart view.done height seen shows known t within thread has) name pin;
  }

pub states_keep_runs : StatesKeepRuns
states_keep_runs source answer rules tree plain is =
    let A : Design → Type 0 = λ a. KeepsRunsFromEach source a rules in
    let R : List ActivityRule → Type 0 = λ r. KeepsRunsFromEach source (map encoded source) r in
    let B : Design → Type 0 = λ a. KeepsRunsFromEach source a (rules_from 0 source) in
    let few = λ (c : Component) (has : Contains source c). All-contains HasFewParts source c is.few has in
    let follows : FollowsControl encoding source = λ top top_in asked inputs loads height trace stop run path c at full.
    let in_design : Contains source c = component_at-design source top path c top_in at in
    control_followed source tree plain top asked inputs loads height trace stop run path c at in_design full (few c in_design) in
    subst A (sym is.design) (subst R (sym is.acting) (subst B (sym (design_is source))
    (runs_kept encoding encoding_made source tree plain (λ c has full. encoding_named source tree plain c has (few c has)) follows)))
