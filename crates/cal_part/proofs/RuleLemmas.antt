-- The rules at a place of a component see the design through the component's ports alone: a component that looks the same in another design keeps them.
use Rattle.std.proofs.Common.{◌≡◌, List, ◌++◌, true, false, Option, Some, None, refl, sym, ap, ◌∙◌, subst, subst₂}
use Rattle.std.specs.Prelude.{All, IfSome, IsSome, codes, option_map}
use Rattle.std.proofs.lemmas.List.Elements.{All-weaker}
use Rattle.hw_names.specs.Name.{Text, AreDistinct}
use Rattle.hw_prims.specs.Table.{Pin, pin_names}
use Rattle.net_core.specs.Graph.{option_ports, source_ports}
use Rattle.net_core.specs.Guard.{GuardTree, GuardTrees, Reads, Compares, Negates, AllOf, AnyOf, NoGuards, MoreGuards}
use Rattle.net_core.specs.declared.net.Src.{Src}
use Rattle.net_core.specs.declared.net.Src.TheVariants.{Port, Lit}
use Rattle.cal_ast.specs.Controlling.{IsOnlyDone, EnablesGroup, HasCondition, IsCondition, BindsInput, BindsOutput, CanInvoke, Invokes, group_named}
use Rattle.cal_ast.specs.Naming.{GroupNaming, Unreserved, AnyName, IsNewGroup, IsKnownPort, NamesKnown, DoneNamesKnown, StatementNamesKnown, InvokeNamesKnown, BindsKnownIn, BindsKnownOut}
use Rattle.cal_ast.specs.Ports.{SidedPin, is_bare, inputs_in, outputs_in, side_in, width_in}
use Rattle.cal_ast.specs.Rules.{Rule, C1, C2, C4, C5, C6, C7, C8, C9, C10, C11, AtGroup, AtAssignment, AtDone, AtStatement}
use Rattle.cal_ast.specs.Sides.{IsDestination, IsSource, ReadsSources, DoneReadsSources, StatementDrives, StatementReads}
use Rattle.cal_ast.specs.Statement.{IfEnable, IfCondition, IfInvoke}
use Rattle.cal_ast.specs.Tree.{PortName, own, port_of, Assignment, DoneLine, GroupDef, InBinding, OutBinding, Component, Design, Statement, Enable, Seq, Par, If, While, Invoke}
use Rattle.cal_ast.specs.Typing.{HasWidth, HasWidths, source_width, GuardAgrees, GuardsAgree, OptionAgrees, WidthsAgree, DoneAgrees, StatementAgrees, InAgrees, OutAgrees}
use Rattle.cal_part.proofs.PlaceLemmas.{LooksAlike, bare_alike, inputs_alike, outputs_alike}
use Rattle.cal_part.proofs.SameLemmas.{side_alike, destination_alike}

-- ---- statements by their kinds

if_condition : (s : Statement) (P Q : PortName → Option Text → Type 0) → ((port : PortName) (by : Option Text) → P port by → Q port by) → IfCondition s P → IfCondition s Q
if_condition (If port by s t) P Q f h = f port by h
if_condition (While port by s) P Q f h = f port by h
if_condition (Enable name) P Q f h = tt
if_condition (Seq ss) P Q f h = tt
if_condition (Par ss) P Q f h = tt
if_condition (Invoke cell ins outs) P Q f h = tt

if_invoke : (s : Statement) (P Q : Text → List InBinding → List OutBinding → Type 0) → ((cell : Text) (ins : List InBinding) (outs : List OutBinding) → P cell ins outs → Q cell ins outs) → IfInvoke s P → IfInvoke s Q
if_invoke (Invoke cell ins outs) P Q f h = f cell ins outs h
if_invoke (If port by s t) P Q f h = tt
if_invoke (While port by s) P Q f h = tt
if_invoke (Enable name) P Q f h = tt
if_invoke (Seq ss) P Q f h = tt
if_invoke (Par ss) P Q f h = tt

module _ (design : Design) (c : Component) (other : Design) (d : Component) (like : LooksAlike design c other d) where
  pub bare_same : is_bare c ≡ is_bare d
  bare_same = bare_alike c d like.sets like.control

  width_same : (p : PortName) → width_in design c p ≡ width_in other d p
  width_same p = ap (option_map (λ (q : SidedPin). q.pin.width)) (like.ports p)

  known : (p : PortName) → IsKnownPort design c p → IsKnownPort other d p
  known p is = subst (λ (o : Option SidedPin). IsSome o) (like.ports p) is

  pub source_kept : (p : PortName) → IsSource design c p → IsSource other d p
  source_kept p is = sym (side_alike design c other d like p) ∙ is

  all_known : (ports : List PortName) → All (IsKnownPort design c) ports → All (IsKnownPort other d) ports
  all_known ports all = All-weaker (IsKnownPort design c) (IsKnownPort other d) known ports all

  all_sources : (ports : List PortName) → All (IsSource design c) ports → All (IsSource other d) ports
  all_sources ports all = All-weaker (IsSource design c) (IsSource other d) source_kept ports all

  -- ---- the signature

  pub ports_distinct : AreDistinct (pin_names (inputs_in c ++ outputs_in c)) → AreDistinct (pin_names (inputs_in d ++ outputs_in d))
  ports_distinct h =
      subst₂ (λ (ins outs : List Pin). AreDistinct (pin_names (ins ++ outs))) (inputs_alike c d like.ins bare_same) (outputs_alike c d like.outs bare_same) h

  pub widths_kept : HasWidths design c → HasWidths other d
  widths_kept h = record {
    ins = subst (λ (pins : List Pin). All HasWidth pins) like.ins h.ins;
    outs = subst (λ (pins : List Pin). All HasWidth pins) like.outs h.outs;
    go = λ control. sym (width_same (own (codes "go"))) ∙ h.go (bare_same ∙ control);
    done = λ control. sym (width_same (own (codes "done"))) ∙ h.done (bare_same ∙ control);
  }

  pub new_group_kept : (naming : GroupNaming) (before : List GroupDef) (g : GroupDef) → IsNewGroup naming c before g → IsNewGroup naming d before g
  new_group_kept Unreserved before g h = (h.0, λ control. h.1 (bare_same ∙ control))
  new_group_kept AnyName before g h = (h.0, tt)

  -- ---- guards and sources

  source_width_same : (s : Src PortName) → source_width design c s ≡ source_width other d s
  source_width_same (Port p) = width_same p
  source_width_same (Lit width value) = refl

  mutual
    guard_kept : (g : GuardTree PortName) → GuardAgrees design c g → GuardAgrees other d g
    guard_kept (Reads s) h = (h.0, sym (source_width_same s) ∙ h.1)
    guard_kept (Compares op a b) h = (h.0, h.1, sym (source_width_same a) ∙ h.2 ∙ source_width_same b)
    guard_kept (Negates g) h = guard_kept g h
    guard_kept (AllOf gs) h = guards_kept gs h
    guard_kept (AnyOf gs) h = guards_kept gs h

    guards_kept : (gs : GuardTrees PortName) → GuardsAgree design c gs → GuardsAgree other d gs
    guards_kept NoGuards h = tt
    guards_kept (MoreGuards g gs) h = (guard_kept g h.0, guards_kept gs h.1)

  option_kept : (o : Option (GuardTree PortName)) → OptionAgrees design c o → OptionAgrees other d o
  option_kept None h = tt
  option_kept (Some g) h = guard_kept g h

  -- ---- assignments and done lines

  names_known_kept : (a : Assignment) → NamesKnown design c a → NamesKnown other d a
  names_known_kept a h = record { dst = known a.dst h.dst; guard = all_known (option_ports a.guard) h.guard; src = all_known (source_ports a.src) h.src }

  widths_agree_kept : (a : Assignment) → WidthsAgree design c a → WidthsAgree other d a
  widths_agree_kept a h = record {
    literal = h.literal;
    sides = sym (width_same a.dst) ∙ h.sides ∙ source_width_same a.src;
    guard = option_kept a.guard h.guard;
  }

  reads_kept : (a : Assignment) → ReadsSources design c a → ReadsSources other d a
  reads_kept a h = (all_sources (option_ports a.guard) h.0, all_sources (source_ports a.src) h.1)

  done_known_kept : (g : GroupDef) (line : DoneLine) → DoneNamesKnown design c g line → DoneNamesKnown other d g line
  done_known_kept g line h = record { group = h.group; guard = all_known (option_ports line.guard) h.guard; src = all_known (source_ports line.src) h.src }

  done_agrees_kept : (line : DoneLine) → DoneAgrees design c line → DoneAgrees other d line
  done_agrees_kept line h = record { literal = h.literal; guard = option_kept line.guard h.guard }

  done_reads_kept : (line : DoneLine) → DoneReadsSources design c line → DoneReadsSources other d line
  done_reads_kept line h = (all_sources (option_ports line.guard) h.0, all_sources (source_ports line.src) h.1)

  only_done_kept : (g : GroupDef) (before : List DoneLine) (line : DoneLine) → IsOnlyDone design c g before line → IsOnlyDone other d g before line
  only_done_kept g before line h = λ acts. ((h acts).0, sym (source_width_same line.src) ∙ (h acts).1)

  -- ---- control statements

  invoke_known_kept : (cell : Text) (ins : List InBinding) (outs : List OutBinding) → InvokeNamesKnown design c cell ins outs → InvokeNamesKnown other d cell ins outs
  invoke_known_kept cell ins outs h = record {
    known = like.cells cell h.known;
    inputs =
        All-weaker (BindsKnownIn design c cell) (BindsKnownIn other d cell) (λ b is. (known (port_of cell b.pin) is.0, all_known (source_ports b.src) is.1)) ins h.inputs;
    outputs = All-weaker (BindsKnownOut design c cell) (BindsKnownOut other d cell) (λ b is. (known (port_of cell b.pin) is.0, known b.dst is.1)) outs h.outputs;
  }

  statement_known_kept : (s : Statement) → StatementNamesKnown design c s → StatementNamesKnown other d s
  statement_known_kept s h = record {
    condition = if_condition s (λ port by. IsKnownPort design c port) (λ port by. IsKnownPort other d port) (λ port by is. known port is) h.condition;
    invoke = if_invoke s (InvokeNamesKnown design c) (InvokeNamesKnown other d) invoke_known_kept h.invoke;
  }

  statement_agrees_kept : (s : Statement) → StatementAgrees design c s → StatementAgrees other d s
  statement_agrees_kept s h =
      if_invoke s (λ cell ins outs. All (InAgrees design c cell) ins × All (OutAgrees design c cell) outs) (λ cell ins outs. All (InAgrees other d cell) ins × All (OutAgrees other d cell) outs)
      (λ cell ins outs both. (
        All-weaker (InAgrees design c cell) (InAgrees other d cell) (λ b is. (is.0, sym (width_same (port_of cell b.pin)) ∙ is.1 ∙ source_width_same b.src)) ins both.0,
        All-weaker (OutAgrees design c cell) (OutAgrees other d cell) (λ b is. sym (width_same (port_of cell b.pin)) ∙ is ∙ width_same b.dst) outs both.1,
      )) h

  statement_drives_kept : (s : Statement) → StatementDrives design c s → StatementDrives other d s
  statement_drives_kept s h =
      if_invoke s (λ cell ins outs. All (λ (b : OutBinding). IsDestination design c b.dst) outs) (λ cell ins outs. All (λ (b : OutBinding). IsDestination other d b.dst) outs)
      (λ cell ins outs all. All-weaker (λ (b : OutBinding). IsDestination design c b.dst) (λ (b : OutBinding). IsDestination other d b.dst) (λ b is. destination_alike design c other d like b.dst is) outs all) h

  statement_reads_kept : (s : Statement) → StatementReads design c s → StatementReads other d s
  statement_reads_kept s h = record {
    condition = if_condition s (λ port by. IsSource design c port) (λ port by. IsSource other d port) (λ port by is. source_kept port is) h.condition;
    invoke =
        if_invoke s (λ cell ins outs. All (λ (b : InBinding). All (IsSource design c) (source_ports b.src)) ins) (λ cell ins outs. All (λ (b : InBinding). All (IsSource other d) (source_ports b.src)) ins)
        (λ cell ins outs all. All-weaker (λ (b : InBinding). All (IsSource design c) (source_ports b.src)) (λ (b : InBinding). All (IsSource other d) (source_ports b.src)) (λ b is. all_sources (source_ports b.src) is) ins all) h.invoke;
  }

  enables_kept : (s : Statement) → EnablesGroup c s → EnablesGroup d s
  enables_kept s h =
      subst (λ (groups : List GroupDef). IfEnable s (λ name. (g : GroupDef) × (group_named groups name ≡ Some g) × (g.comb ≡ false))) like.groups h

  condition_kept : (s : Statement) → HasCondition design c s → HasCondition other d s
  condition_kept s h =
      if_condition s (IsCondition design c) (IsCondition other d) (λ port by is. record {
        group =
            subst (λ (groups : List GroupDef). IfSome by (λ name. (g : GroupDef) × (group_named groups name ≡ Some g) × (g.comb ≡ true))) like.groups is.group;
        bit = sym (width_same port) ∙ is.bit;
      }) h

  side_kept : (p : PortName) → side_in other d p ≡ side_in design c p
  side_kept p = sym (side_alike design c other d like p)

  can_invoke_kept : (cell : Text) (ins : List InBinding) (outs : List OutBinding) → CanInvoke design c cell ins outs → CanInvoke other d cell ins outs
  can_invoke_kept cell ins outs h = record {
    go = h.go;
    starts = sym (like.starts cell) ∙ h.starts;
    go_side = side_kept (port_of cell h.go) ∙ h.go_side;
    go_bit = sym (width_same (port_of cell h.go)) ∙ h.go_bit;
    done_side = side_kept (port_of cell (codes "done")) ∙ h.done_side;
    done_bit = sym (width_same (port_of cell (codes "done"))) ∙ h.done_bit;
    inputs = All-weaker (BindsInput design c cell h.go) (BindsInput other d cell h.go) (λ b is. (side_kept (port_of cell b.pin) ∙ is.0, is.1)) ins h.inputs;
    outputs = All-weaker (BindsOutput design c cell) (BindsOutput other d cell) (λ b is. side_kept (port_of cell b.pin) ∙ is) outs h.outputs;
    once = h.once;
  }

  invokes_kept : (s : Statement) → Invokes design c s → Invokes other d s
  invokes_kept s h = if_invoke s (CanInvoke design c) (CanInvoke other d) can_invoke_kept h

  -- ---- each rule at each place

  pub at_group : (naming : GroupNaming) (before : List GroupDef) (g : GroupDef) (rule : Rule) → AtGroup rule naming c before g → AtGroup rule naming d before g
  at_group naming before g C1 h = new_group_kept naming before g h
  at_group naming before g C7 h = h
  at_group naming before g rule h = tt

  pub at_assignment : (a : Assignment) (rule : Rule) → AtAssignment rule design c a → AtAssignment rule other d a
  at_assignment a C2 h = names_known_kept a h
  at_assignment a C4 h = widths_agree_kept a h
  at_assignment a C5 h = destination_alike design c other d like a.dst h
  at_assignment a C6 h = reads_kept a h
  at_assignment a rule h = tt

  pub at_done : (g : GroupDef) (before : List DoneLine) (line : DoneLine) (rule : Rule) → AtDone rule design c g before line → AtDone rule other d g before line
  at_done g before line C2 h = done_known_kept g line h
  at_done g before line C4 h = done_agrees_kept line h
  at_done g before line C6 h = done_reads_kept line h
  at_done g before line C7 h = only_done_kept g before line h
  at_done g before line C8 h = h
  at_done g before line rule h = tt

  pub at_statement : (s : Statement) (rule : Rule) → AtStatement rule design c s → AtStatement rule other d s
  at_statement s C2 h = statement_known_kept s h
  at_statement s C4 h = statement_agrees_kept s h
  at_statement s C5 h = statement_drives_kept s h
  at_statement s C6 h = statement_reads_kept s h
  at_statement s C9 h = enables_kept s h
  at_statement s C10 h = condition_kept s h
  at_statement s C11 h = invokes_kept s h
  at_statement s rule h = tt
