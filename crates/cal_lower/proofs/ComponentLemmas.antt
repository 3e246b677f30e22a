-- A component without control, made of copies of the source's parts and of what stands for its control, and the rules of its groups.
use Rattle.std.proofs.Common.{◌≡◌, ℕ, ◌+◌, ◌<◌, ◌≤◌, Bool, true, false, List, [], ◌∷◌, ◌++◌, length, map, take, get_or, All, Some, Vec, Global, refl, sym, ap, ap₂, subst, ◌∙◌, append_assoc, codes}
use Rattle.std.specs.Prelude.{flat_map, slice_get, if◌then◌else◌}
use Rattle.std.specs.List.{AllZip}
use Rattle.std.proofs.lemmas.List.{map-append, take_all}
use Rattle.std.proofs.lemmas.List.Elements.{All-weaker}
use Rattle.hw_names.proofs.NameLemmas.{text_of-KeepsTexts}
use Rattle.hw_names.specs.Name.{KeepsTexts, Text, text_of}
use Rattle.hw_names.specs.declared.names.NameId.{NameId}
use Rattle.hw_prims.specs.Table.{Pin}
use Rattle.net_core.specs.Guard.{GuardTree}
use Rattle.net_core.specs.Numbers.{IsNumberOf}
use Rattle.net_core.specs.declared.net.Guard.{Guard}
use Rattle.cal_ast.specs.Holes.{ActivityRule, rule_tree}
use Rattle.cal_ast.specs.Numbers.{CellHasNumbers, ComponentHasNumbers, ControlHasNumbers, GroupHasNumbers, InHasNumbers, OutHasNumbers, PinHasNumber, SetHasNumbers, StatementHasNumbers, StatementsHaveNumbers, RuleHasNumbers}
use Rattle.cal_ast.specs.Ports.{drives_done, inputs_in, is_bare, is_bare_by, outputs_in, with_pin}
use Rattle.cal_ast.specs.Tree.{Absent, Assignment, CellDef, Component, GroupDef, PortName, assignment_tree, cell_tree, component_tree, control_tree, group_tree, pin_tree}
use Rattle.cal_ast.specs.declared.lowered.ActRule.{ActRule}
use Rattle.cal_ast.specs.declared.tree.Assign.{Assign}
use Rattle.cal_ast.specs.declared.tree.CalCell.{CalCell}
use Rattle.cal_ast.specs.declared.tree.CalComp.{CalComp}
use Rattle.cal_ast.specs.declared.tree.CalPin.{CalPin}
use Rattle.cal_ast.specs.declared.tree.CalPort.{CalPort}
use Rattle.cal_ast.specs.declared.tree.Control.{Control, Row_of-Control, end_of-Control, more_of-Control}
use Rattle.cal_ast.specs.declared.tree.Control as control
use Rattle.cal_ast.specs.declared.tree.ControlPart.{ControlPart}
use Rattle.cal_ast.specs.declared.tree.ControlPart.TheVariants as part
use Rattle.cal_ast.specs.declared.tree.Group.{Group}
use Rattle.cal_ast.specs.declared.tree.InBind.{InBind}
use Rattle.cal_ast.specs.declared.tree.OutBind.{OutBind}
use Rattle.cal_copy.specs.inside.Copies.{IsCellCopy, IsSetCopy}
use Rattle.cal_lower.specs.inside.Labels.{KeepsLabels}
use Rattle.cal_lower.specs.inside.Lowered.{lowered, rule_of, with_registers}
use Rattle.cal_lower.specs.inside.Making.{ShowRules, rule_when}
use Rattle.cal_lower.specs.inside.Pieces.{Piece, piece_cell, piece_sets}
use Rattle.cal_lower.specs.inside.Shown.{ShowAll, Shows, ShowsGuard}
use Rattle.cal_lower.specs.declared.labels.Labels.{Labels}
use Rattle.cal_lower.proofs.CopiedLemmas.{cells_copied, sets_copied}
use Rattle.cal_lower.proofs.GrownLemmas.{labels_trans, show_all_kept, show_append, show_push}
use Rattle.cal_lower.proofs.InstanceLemmas.{labels_in_three}
use Rattle.cal_lower.proofs.NextLemmas.{at_index, map_next}
use Rattle.cal_lower.proofs.StableLemmas.{KeepsTexts-trans, by_numbers, cells_numbers, groups_numbers, id_number, pins_kept, pins_numbers, port_numbers, sets_kept, sets_numbers, source_numbers}

-- names that are added in four steps
pub labels_in_four : (a b c d e : Labels) → KeepsLabels a b → KeepsLabels b c → KeepsLabels c d → KeepsLabels d e → KeepsLabels a e
labels_in_four a b c d e first second third fourth = labels_trans a d e (labels_in_three a b c d first second third) fourth

-- ---- numbers of a component, where names are added

module _ (old new : List Text) (kept : KeepsTexts old new) where
  mutual
    statement_numbers : (s : Control) → StatementHasNumbers old s → StatementHasNumbers new s
    statement_numbers (control.Enable g) known = id_number old new kept g known
    statement_numbers (control.Seq' shape ss) known = statements_numbers ss known
    statement_numbers (control.Par' shape ss) known = statements_numbers ss known
    statement_numbers (control.If' port by p s q t) known =
        (port_numbers old new kept port known.0, by_numbers old new kept by known.1, statement_numbers s known.2, statement_numbers t known.3)
    statement_numbers (control.While' port by p s) known = (port_numbers old new kept port known.0, by_numbers old new kept by known.1, statement_numbers s known.2)
    statement_numbers (control.Invoke cell ins outs) known = (
      id_number old new kept cell known.0,
      All-weaker (InHasNumbers old) (InHasNumbers new) (λ (b : InBind) has. (id_number old new kept b.port has.0, source_numbers old new kept b.src has.1)) ins.items known.1,
      All-weaker (OutHasNumbers old) (OutHasNumbers new) (λ (b : OutBind) has. (id_number old new kept b.port has.0, port_numbers old new kept b.dst has.1)) outs.items known.2,
    )

    statements_numbers : {m : _} (ss : Row_of-Control m) → StatementsHaveNumbers old ss → StatementsHaveNumbers new ss
    statements_numbers end_of-Control known = tt
    statements_numbers (more_of-Control s ss) known = (statement_numbers s known.0, statements_numbers ss known.1)

  section_numbers : (section : ControlPart) → ControlHasNumbers old section → ControlHasNumbers new section
  section_numbers part.Absent known = tt
  section_numbers part.Empty known = tt
  section_numbers (part.Body s) known = statement_numbers s known

  pub component_numbers : (c : CalComp) → ComponentHasNumbers old c → ComponentHasNumbers new c
  component_numbers c known = record {
    name = id_number old new kept c.name known.name;
    ins = pins_numbers old new kept c.ins.items known.ins;
    outs = pins_numbers old new kept c.outs.items known.outs;
    cells = cells_numbers old new kept c.cells.items known.cells;
    groups = groups_numbers old new kept c.groups.items known.groups;
    sets = sets_numbers old new kept c.sets.items known.sets;
    control = section_numbers c.control known.control;
  }

  bare_by_kept : (section : ControlPart) (a b : List Assignment) → a ≡ b → is_bare_by (control_tree new section) a ≡ is_bare_by (control_tree old section) b
  bare_by_kept part.Absent a b same = refl
  bare_by_kept part.Empty a b same = ap drives_done same
  bare_by_kept (part.Body s) a b same = refl

  -- whether control starts it stays the same
  pub bare_kept : (c : CalComp) → ComponentHasNumbers old c → is_bare (component_tree new c) ≡ is_bare (component_tree old c)
  bare_kept c known = bare_by_kept c.control (map (assignment_tree new) c.sets.items) (map (assignment_tree old) c.sets.items) (sets_kept old new kept c.sets.items known.sets)

-- ---- parts

-- the pins of the source
pub pins_copied : (source names : List Text) → KeepsTexts source names → (xs copies : List CalPin) → copies ≡ xs → All (PinHasNumber source) xs → ShowAll PinHasNumber pin_tree names (map (pin_tree source) xs) copies
pins_copied source names kept xs copies same known =
    let P : List CalPin → Type 0 = ShowAll PinHasNumber pin_tree names (map (pin_tree source) xs) in
    subst P (sym same) (record {
      trees = λ later more. pins_kept source later (KeepsTexts-trans source names later kept more) xs known;
      numbers = λ later more. pins_numbers source later (KeepsTexts-trans source names later kept more) xs known;
    })

-- they have numbers of the names later
pub pins_at : (source first names : List Text) → KeepsTexts source first → KeepsTexts first names → (xs items : List CalPin) → items ≡ xs → All (PinHasNumber source) xs → All (PinHasNumber names) items
pins_at source first names from kept xs items same known =
    let P : List CalPin → Type 0 = All (PinHasNumber names) in
    subst P (sym same) (pins_numbers source names (KeepsTexts-trans source first names from kept) xs known)

-- the ports of a component that isn't bare
module _ (c : Component) (full : is_bare c ≡ false) where
  pub ins_with_go : with_pin (codes "go") c.ins ≡ inputs_in c
  ins_with_go = sym (ap (λ (b : Bool). if b then c.ins else with_pin (codes "go") c.ins) full)

  pub outs_with_done : with_pin (codes "done") c.outs ≡ outputs_in c
  outs_with_done = sym (ap (λ (b : Bool). if b then c.outs else with_pin (codes "done") c.outs) full)

  pub lowered_full : with_registers c ≡ lowered c
  lowered_full = sym (ap (λ (b : Bool). if b then record c { control = Absent } else with_registers c) full)

pub lowered_bare : (c : Component) → is_bare c ≡ true → record c { control = Absent } ≡ lowered c
lowered_bare c bare = sym (ap (λ (b : Bool). if b then record c { control = Absent } else with_registers c) bare)

-- ---- the whole

module _ (source names : List Text) (kept : KeepsTexts source names) (id : NameId) (known : IsNumberOf source id) where
  pub component_made : (I O : List Pin) (C : List CellDef) (G : List GroupDef) (S : List Assignment)
      (ins outs : Vec CalPin Global) (cells : Vec CalCell Global) (groups : Vec Group Global) (sets : Vec Assign Global)
      → ShowAll PinHasNumber pin_tree names I ins.items → ShowAll PinHasNumber pin_tree names O outs.items → ShowAll CellHasNumbers cell_tree names C cells.items
      → ShowAll GroupHasNumbers group_tree names G groups.items → ShowAll SetHasNumbers assignment_tree names S sets.items
      → Shows ComponentHasNumbers component_tree names
      (record { name = text_of source id; ins = I; outs = O; cells = C; groups = G; sets = S; control = Absent })
      (record { name = id; ins = ins; outs = outs; cells = cells; groups = groups; sets = sets; control = part.Absent })
  component_made I O C G S ins outs cells groups sets is_ins is_outs is_cells is_groups is_sets =
      let of : Text → List Pin → List Pin → List CellDef → List GroupDef → List Assignment → Component = λ name i o c g s.
      record { name = name; ins = i; outs = o; cells = c; groups = g; sets = s; control = Absent } in
      record {
        tree = λ later more.
            let text = text_of-KeepsTexts source later id (KeepsTexts-trans source names later kept more) known in
            let cs = map (cell_tree later) cells.items in
            let gs = map (group_tree later) groups.items in
            let ss = map (assignment_tree later) sets.items in
            ap₂ (λ (name : Text) (i : List Pin). of name i (map (pin_tree later) outs.items) cs gs ss) text (is_ins.trees later more)
            ∙ ap₂ (λ (o : List Pin) (c : List CellDef). of (text_of source id) I o c gs ss) (is_outs.trees later more) (is_cells.trees later more)
            ∙ ap₂ (λ (g : List GroupDef) (s : List Assignment). of (text_of source id) I O C g s) (is_groups.trees later more) (is_sets.trees later more);
        numbers = λ later more. record {
          name = id_number source later (KeepsTexts-trans source names later kept more) id known;
          ins = is_ins.numbers later more;
          outs = is_outs.numbers later more;
          cells = is_cells.numbers later more;
          groups = is_groups.numbers later more;
          sets = is_sets.numbers later more;
          control = tt;
        };
      }

-- ---- rules

-- an element that a loop has of a vector, and all of them
pub index_of : {X : Type 0} (items xs : List X) (k : ℕ) (x : X) → items ≡ xs → k < length items → x ≡ get_or items k x → slice_get xs k ≡ Some x
index_of items xs k x same within is =
    let P : List _ → Type 0 = λ l. slice_get l k ≡ Some x in
    subst P same (at_index items k x within is)

pub taken : {X : Type 0} (items xs : List X) (k : ℕ) → items ≡ xs → length items ≤ k → take k xs ≡ xs
taken items xs k same past =
    let P : List _ → Type 0 = λ l. take k l ≡ l in
    subst P same (take_all k items past)

module _ (source : List Text) (n : ℕ) (c : Component) (list : List ActivityRule) where
  -- the rules with those of these groups
  abbrev pub rules_shown : List Text → List Group → List ActRule → Type 0
  rules_shown names groups rules = ShowRules names (list ++ map (rule_of n c) (map (group_tree source) groups)) rules

  rule_shown : (names : List Text) (kept : KeepsTexts source names) (id : NameId) (when : Guard CalPort) (tree : GuardTree PortName) → IsNumberOf source id → ShowsGuard names tree when
      → Shows RuleHasNumbers rule_tree names (record { comp = n; group = text_of source id; when = tree }) (record { comp = n; group = id; when = when })
  rule_shown names kept id when tree known shown = record {
    tree = λ later more.
        ap₂ (λ (g : Text) (w : GuardTree PortName). record { comp = n; group = g; when = w }) (text_of-KeepsTexts source later id (KeepsTexts-trans source names later kept more) known) (shown.tree later more);
    numbers = λ later more. (id_number source later (KeepsTexts-trans source names later kept more) id known, shown.numbers later more);
  }

  -- one rule more
  pub rules_more : (old new : List Text) (groups : List Group) (k : ℕ) (g : Group) (rules later_rules : List ActRule) (when : Guard CalPort) (bare : Bool) (text : Text) → KeepsTexts source new → KeepsTexts old new
      → slice_get groups k ≡ Some g → IsNumberOf source g.name → bare ≡ is_bare c → text ≡ text_of source g.name → ShowsGuard new (rule_when bare text) when
      → later_rules ≡ rules ++ (record { comp = n; group = g.name; when = when }) ∷ [] → rules_shown old (take k groups) rules → rules_shown new (take (k + 1) groups) later_rules
  rules_more old new groups k g rules later_rules when bare text from kept at known is_b is_t shown pushed so_far =
      let before : List ActivityRule = map (rule_of n c) (map (group_tree source) (take k groups)) in
      let rule : ActRule = record { comp = n; group = g.name; when = when } in
      let tree : ActivityRule = rule_of n c (group_tree source g) in
      let W : GuardTree PortName → Type 0 = λ t. ShowsGuard new t when in
      let guard = subst W (ap₂ rule_when is_b is_t) shown in
      let here : Shows RuleHasNumbers rule_tree new tree rule = rule_shown new from g.name when (rule_when (is_bare c) (text_of source g.name)) known guard in
      let all = show_push RuleHasNumbers rule_tree new (list ++ before) rules tree rule (show_all_kept RuleHasNumbers rule_tree old new (list ++ before) rules kept so_far) here in
      let same : (list ++ before) ++ tree ∷ [] ≡ list ++ map (rule_of n c) (map (group_tree source) (take (k + 1) groups)) =
      append_assoc list before (tree ∷ [])
      ∙ ap (λ (l : List ActivityRule). list ++ l)
      (sym (map-append (rule_of n c) (map (group_tree source) (take k groups)) (group_tree source g ∷ [])) ∙ ap (map (rule_of n c)) (sym (map_next (group_tree source) groups k g at))) in
      let T : List ActivityRule → Type 0 = λ l. ShowRules new l later_rules in
      let R : List ActRule → Type 0 = ShowRules new ((list ++ before) ++ tree ∷ []) in
      subst T same (subst R (sym pushed) all)

-- ---- cells and assignments of the source, and then those that stand for control

module _ (source names later : List Text) (from : KeepsTexts source names) (kept : KeepsTexts names later) (pieces : List Piece) where
  pub cells_whole : (xs items copies more all : List CalCell) → items ≡ xs → AllZip IsCellCopy items copies → All (CellHasNumbers source) xs → ShowAll CellHasNumbers cell_tree names (map piece_cell pieces) more
      → all ≡ copies ++ more → ShowAll CellHasNumbers cell_tree later (map (cell_tree source) xs ++ map piece_cell pieces) all
  cells_whole xs items copies more all same zip known shown is =
      let Z : List CalCell → Type 0 = λ l. AllZip IsCellCopy l copies in
      let A : List CalCell → Type 0 = ShowAll CellHasNumbers cell_tree later (map (cell_tree source) xs ++ map piece_cell pieces) in
      let own = cells_copied source names from xs copies (subst Z same zip) known in
      let both = show_append CellHasNumbers cell_tree names (map (cell_tree source) xs) (map piece_cell pieces) copies more own shown in
      subst A (sym is) (show_all_kept CellHasNumbers cell_tree names later (map (cell_tree source) xs ++ map piece_cell pieces) (copies ++ more) kept both)

  -- the last one drives `done`, and is made under further names
  pub sets_whole : (mid : List Text) (first : KeepsTexts names mid) (last : KeepsTexts mid later) (xs items copies more all whole : List Assign) (tree : Assignment) (set : Assign) → items ≡ xs → AllZip IsSetCopy items copies
      → All (SetHasNumbers source) xs → ShowAll SetHasNumbers assignment_tree names (flat_map piece_sets pieces) more → Shows SetHasNumbers assignment_tree mid tree set → all ≡ copies ++ more → whole ≡ all ++ set ∷ []
      → ShowAll SetHasNumbers assignment_tree later (map (assignment_tree source) xs ++ flat_map piece_sets pieces ++ tree ∷ []) whole
  sets_whole mid first last xs items copies more all whole tree set same zip known shown set_shown is is_whole =
      let Z : List Assign → Type 0 = λ l. AllZip IsSetCopy l copies in
      let trees = map (assignment_tree source) xs ++ flat_map piece_sets pieces in
      let A : List Assign → Type 0 = ShowAll SetHasNumbers assignment_tree mid trees in
      let W : List Assign → Type 0 = ShowAll SetHasNumbers assignment_tree later (trees ++ tree ∷ []) in
      let own = sets_copied source names from xs copies (subst Z same zip) known in
      let both = show_append SetHasNumbers assignment_tree names (map (assignment_tree source) xs) (flat_map piece_sets pieces) copies more own shown in
      let so_far = subst A (sym is) (show_all_kept SetHasNumbers assignment_tree names mid trees (copies ++ more) first both) in
      subst W (sym is_whole) (show_all_kept SetHasNumbers assignment_tree mid later (trees ++ tree ∷ []) (all ++ set ∷ []) last (show_push SetHasNumbers assignment_tree mid trees all tree set so_far set_shown))
