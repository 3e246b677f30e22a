-- The control of an instance as a whole: where it starts, runs and ends, and the pieces of its plan.
use Rattle.std.proofs.Common.{◌≡◌, ◌⊎◌, inl, inr, ℕ, Bool, true, false, List, [], ◌∷◌, ◌++◌, All, Contains, get_or, sym, ap, subst, ◌∙◌, append_assoc}
use Rattle.std.specs.Prelude.{if◌then◌else◌}
use Rattle.std.proofs.lemmas.List.Elements.{All-weaker}
use Rattle.hw_names.proofs.NameLemmas.{text_of-KeepsTexts}
use Rattle.hw_names.specs.Name.{KeepsTexts, Text, text_of}
use Rattle.net_core.specs.Guard.{GuardTree}
use Rattle.net_core.specs.Numbers.{IsNumberOf}
use Rattle.net_core.specs.declared.net.Guard.{Guard}
use Rattle.cal_ast.specs.Actors.{GroupNamed}
use Rattle.cal_ast.specs.Numbers.{GroupHasNumbers, GuardHasNumbers}
use Rattle.cal_ast.specs.Plan.{Plan, section_plan}
use Rattle.cal_ast.specs.Tree.{PortName, control_tree}
use Rattle.cal_ast.specs.declared.tree.CalComp.{CalComp}
use Rattle.cal_ast.specs.declared.tree.CalPort.{CalPort}
use Rattle.cal_ast.specs.declared.tree.ControlPart.{ControlPart}
use Rattle.cal_ast.specs.declared.tree.ControlPart.TheVariants as parts
use Rattle.cal_ast.specs.declared.tree.Group.{Group}
use Rattle.cal_walk.specs.Left.{is_over}
use Rattle.cal_lower.specs.inside.Labels.{KeepsLabels}
use Rattle.cal_lower.specs.inside.Making.{CanLowerGroup, Made, ShowsParts, ShowsPlan, part_made, plan_made, with_made}
use Rattle.cal_lower.specs.inside.Parts.{part_pieces}
use Rattle.cal_lower.specs.inside.Pieces.{Piece, is_set, start_name}
use Rattle.cal_lower.specs.inside.Shown.{ShowsGuard, ShowsGuards, seen_guard}
use Rattle.cal_lower.specs.inside.Statements.{CanLowerComponent, CanLowerSection}
use Rattle.cal_lower.specs.declared.acts.Acts.{Acts}
use Rattle.cal_lower.specs.declared.labels.Labels.{Labels}
use Rattle.cal_lower.specs.declared.made.Parts.{Parts}
use Rattle.cal_lower.proofs.GrownLemmas.{acts_kept, labels_trans, show_one, show_push}
use Rattle.cal_lower.proofs.MakingLemmas.{Alike, alike_sym, alike_trans, none_made, shows_alike, with_none, with_second}
use Rattle.cal_lower.proofs.OverLemmas.{over_enabling, over_testing}
use Rattle.cal_lower.proofs.StableLemmas.{KeepsTexts-trans, id_number}

-- names that are added in three steps
pub labels_in_three : (a b c d : Labels) → KeepsLabels a b → KeepsLabels b c → KeepsLabels c d → KeepsLabels a d
labels_in_three a b c d first second third = labels_trans a c d (labels_trans a b c first second) third

-- three guards in a list
pub three_guards : (names : List Text) (one two three : GuardTree PortName) (g h i : Guard CalPort) (none first second third : List (Guard CalPort)) → none ≡ [] → first ≡ none ++ g ∷ []
    → second ≡ first ++ h ∷ [] → third ≡ second ++ i ∷ [] → ShowsGuard names one g → ShowsGuard names two h → ShowsGuard names three i → ShowsGuards names (one ∷ two ∷ three ∷ []) third
three_guards names one two three g h i none first second third e f s t is_one is_two is_three =
    let P : List (Guard CalPort) → Type 0 = ShowsGuards names (one ∷ two ∷ three ∷ []) in
    let items : third ≡ g ∷ h ∷ i ∷ [] =
    t ∙ ap (λ (l : List (Guard CalPort)). l ++ i ∷ []) (s ∙ ap (λ (l : List (Guard CalPort)). l ++ h ∷ []) (f ∙ ap (λ (l : List (Guard CalPort)). l ++ g ∷ []) e)) in
    subst P (sym items)
    (show_push GuardHasNumbers seen_guard names (one ∷ two ∷ []) (g ∷ h ∷ []) three i
    (show_push GuardHasNumbers seen_guard names (one ∷ []) (g ∷ []) two h (show_one GuardHasNumbers seen_guard names one g is_one) is_two) is_three)

-- three pieces, one after another
pub three_more : (list : List Piece) (a b c : Piece) → ((list ++ a ∷ []) ++ b ∷ []) ++ c ∷ [] ≡ list ++ (a ∷ b ∷ c ∷ [])
three_more list a b c = append_assoc (list ++ a ∷ []) (b ∷ []) (c ∷ []) ∙ append_assoc list (a ∷ []) (b ∷ c ∷ [])

-- ---- the parts of a plan

module _ (names : List Text) (made : Made) (p : Plan) where
  -- one that takes no row has none
  pub plan_of_nothing : (parts : Parts) → is_over p ≡ true → ShowsParts names made parts → ShowsParts names (with_made made (plan_made p)) parts
  plan_of_nothing parts over shows =
      let nothing_made : Alike (plan_made p) none_made = record {
        pieces = ap (λ (b : Bool). if b then [] else part_pieces 0 p (is_set start_name)) over;
        enabled = λ group. over_enabling 0 p (is_set start_name) (GroupNamed group) over;
        tested = λ group. over_testing 0 p (is_set start_name) (GroupNamed group) over;
      } in
      let same : Alike (with_made made (plan_made p)) made = alike_trans (with_made made (plan_made p)) (with_made made none_made) made (with_second made (plan_made p) none_made nothing_made) (with_none made) in
      shows_alike names made (with_made made (plan_made p)) parts (alike_sym (with_made made (plan_made p)) made same) shows

  -- and that of any other one starts where control does
  pub plan_of_part : (parts : Parts) → is_over p ≡ false → ShowsParts names (with_made made (part_made 0 p (is_set start_name))) parts → ShowsParts names (with_made made (plan_made p)) parts
  plan_of_part parts lasts shows =
      let of : List Piece → Made = λ l. record { pieces = l; enabled = (plan_made p).enabled; tested = (plan_made p).tested } in
      let P : List Piece → Type 0 = λ l. ShowsParts names (with_made made (of l)) parts in
      subst P (sym (ap (λ (b : Bool). if b then [] else part_pieces 0 p (is_set start_name)) lasts)) shows

-- a section with no statement takes no row
pub over_section : (names : List Text) (item : ℕ) (section : ControlPart) → (section ≡ parts.Absent) ⊎ (section ≡ parts.Empty) → is_over (section_plan item (control_tree names section)) ≡ true
over_section names item section (inl absent) = ap (λ (s : ControlPart). is_over (section_plan item (control_tree names s))) absent
over_section names item section (inr empty) = ap (λ (s : ControlPart). is_over (section_plan item (control_tree names s))) empty

-- ---- what can be lowered

module _ (source names : List Text) (comp : CalComp) (can : CanLowerComponent source names comp) where
  pub can_section : CanLowerSection source names comp.control
  can_section = record { kept = can.kept; numbers = can.numbers.control; no_invoke = can.no_invoke }

  pub groups_number : All (λ (group : Group). IsNumberOf names group.name) comp.groups.items
  groups_number =
      All-weaker (GroupHasNumbers source) (λ (group : Group). IsNumberOf names group.name) (λ group known. id_number source names can.kept group.name known.name) comp.groups.items can.numbers.groups

-- the groups of a component, for which the guards of its plan were gathered
can_group : (source before names : List Text) (plan : Plan) (acts : Acts) (group : Group) → KeepsTexts source before → KeepsTexts before names → GroupHasNumbers source group
    → Contains acts.groups (text_of before group.name) → ShowsPlan names plan acts → CanLowerGroup source names plan acts group
can_group source before names plan acts group first kept numbers known shown = record {
  kept = KeepsTexts-trans source before names first kept;
  numbers = numbers;
  known = let C : Text → Type 0 = Contains acts.groups in subst C (text_of-KeepsTexts source before group.name first numbers.name) known;
  shown = shown;
}

can_groups : (source before names : List Text) (plan : Plan) (acts : Acts) (groups : List Group) → KeepsTexts source before → KeepsTexts before names → All (GroupHasNumbers source) groups
    → All (λ (group : Group). Contains acts.groups (text_of before group.name)) groups → ShowsPlan names plan acts → All (CanLowerGroup source names plan acts) groups
can_groups source before names plan acts groups first kept numbers known shown k d within =
    can_group source before names plan acts (get_or groups k d) first kept (numbers k d within) (known k d within) shown

pub groups_can : (source first second third : List Text) (comp : CalComp) (plan : Plan) (made : Parts) (known : List Text) (items later_items : List Group) → CanLowerComponent source first comp
    → KeepsTexts first second → KeepsTexts second third → ShowsParts second (with_made none_made (plan_made plan)) made → made.acts.groups ≡ known
    → All (λ (group : Group). Contains known (text_of first group.name)) items → items ≡ comp.groups.items → later_items ≡ comp.groups.items → All (CanLowerGroup source third plan made.acts) later_items
groups_can source first second third comp plan made known items later_items can one other shows same all is is_later =
    let K : List Text → Type 0 = λ ks. All (λ (group : Group). Contains ks (text_of first group.name)) items in
    let I : List Group → Type 0 = λ gs. All (λ (group : Group). Contains made.acts.groups (text_of first group.name)) gs in
    let L : List Group → Type 0 = All (CanLowerGroup source third plan made.acts) in
    let shown : ShowsPlan third plan made.acts = acts_kept second third (plan_made plan).enabled (plan_made plan).tested made.acts other shows.acts in
    subst L (sym is_later)
    (can_groups source first third plan made.acts comp.groups.items can.kept (KeepsTexts-trans first second third one other) can.numbers.groups (subst I is (subst K (sym same) all)) shown)

-- the same of the groups in another place
pub numbered_items : (names : List Text) (comp : CalComp) (items : List Group) → items ≡ comp.groups.items → All (λ (group : Group). IsNumberOf names group.name) comp.groups.items → All (λ (group : Group). IsNumberOf names group.name) items
numbered_items names comp items is all = let A : List Group → Type 0 = All (λ (group : Group). IsNumberOf names group.name) in subst A (sym is) all
