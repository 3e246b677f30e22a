-- Where all instances from a component down are wires alone, what acts there is the continuous assignments, under control too.
use Rattle.std.proofs.Common.{◌≡◌, ℕ, ◌+◌, List, [], ◌∷◌, ◌++◌, length, map, true, false, refl, sym, ap, ap₂, ◌∙◌, append_assoc, arith}
use Rattle.std.specs.Prelude.{flat_map}
use Rattle.std.proofs.lemmas.List.{append-nil}
use Rattle.cal_ast.specs.Actors.{ActorGroup, own_group, invoked_group, actor_groups}
use Rattle.cal_ast.specs.Invoking.{InvokeDef, invokes_among, invokes_in}
use Rattle.cal_ast.specs.Items.{Item, TheSignature, TheCell, TheAssignment, TheStatement, each, each_after, group_items, control_statements}
use Rattle.cal_ast.specs.Ports.{is_bare, is_bare_by}
use Rattle.cal_ast.specs.Schedule.{sets_of_actor}
use Rattle.cal_ast.specs.Tree.{CellDef, Assignment, GroupDef, Statement, ControlSection, Absent, Empty, Body, Component, Design}
use Rattle.cal_part.specs.Laws.{BareIsBare, ScheduledIsBare}

-- the items after the cells
abbrev pub items_after_cells : List GroupDef → List Assignment → ControlSection → List Item
items_after_cells groups sets control =
    flat_map (λ (items : List Item). items) (each group_items groups) ++ (map TheAssignment sets ++ map TheStatement (control_statements control))

-- cells are counted, and are no invokes
past_cells : (k : ℕ) (before cells : List CellDef) (rest : List Item) → invokes_among k (each_after TheCell before cells ++ rest) ≡ invokes_among (k + length cells) rest
past_cells k before [] rest = let same : k ≡ k + 0 = omega arith in ap (λ (n : ℕ). invokes_among n rest) same
past_cells k before (cell ∷ cells) rest =
    let same : (k + 1) + length cells ≡ k + length (cell ∷ cells) = omega arith in
    past_cells (k + 1) (before ++ cell ∷ []) cells rest ∙ ap (λ (n : ℕ). invokes_among n rest) same

pub invokes_past_cells : (c : Component) → invokes_in c ≡ invokes_among (1 + length c.cells) (items_after_cells c.groups c.sets c.control)
invokes_past_cells c =
    let cells = each TheCell c.cells in
    let groups = flat_map (λ (items : List Item). items) (each group_items c.groups) in
    let sets = map TheAssignment c.sets in
    let statements = map TheStatement (control_statements c.control) in
    ap (λ (items : List Item). invokes_among 0 (TheSignature ∷ items)) (append_assoc (cells ++ groups) sets statements ∙ append_assoc cells groups (sets ++ statements))
    ∙ past_cells 1 [] c.cells (groups ++ (sets ++ statements))

no_sets : (k : ℕ) (sets : List Assignment) → invokes_among k (map TheAssignment sets ++ []) ≡ []
no_sets k [] = refl
no_sets k (a ∷ sets) = no_sets (k + 1) sets

-- a bare component has no control statement
pub no_statements : (control : ControlSection) (sets : List Assignment) → is_bare_by control sets ≡ true → control_statements control ≡ []
no_statements Absent sets is = refl
no_statements Empty sets is = refl
no_statements (Body s) sets is = absurd (cc)

no_invokes : (c : Component) → is_bare c ≡ true → c.groups ≡ [] → invokes_in c ≡ []
no_invokes c bare none =
    invokes_past_cells c
    ∙ ap₂ (λ (groups : List GroupDef) (statements : List Statement). invokes_among (1 + length c.cells) (flat_map (λ (items : List Item). items) (each group_items groups) ++ (map TheAssignment c.sets ++ map TheStatement statements))) none (no_statements c.control c.sets bare)
    ∙ no_sets (1 + length c.cells) c.sets

-- such a component has no actors
no_actors : (design : Design) (c : Component) → is_bare c ≡ true → c.groups ≡ [] → actor_groups design c ≡ []
no_actors design c bare none =
    ap₂ (λ (groups : List GroupDef) (invokes : List InvokeDef). map own_group groups ++ map (invoked_group design c) invokes) none (no_invokes c bare none)

pub bare_is_bare : BareIsBare
bare_is_bare design c path = record { sets = λ below d at t row. refl; done = λ below d at control t. refl }

pub scheduled_is_bare : ScheduledIsBare
scheduled_is_bare design c path wired acts is_done = record {
  sets = λ below d at t row.
      sym (ap (λ (actors : List ActorGroup). d.sets ++ flat_map (sets_of_actor (λ actor. acts (path ++ below) actor t)) actors) (no_actors design d (wired.bare below d at) (wired.no_groups below d at)) ∙ append-nil d.sets);
  done = λ below d at control t. let apart : true ≡ false = sym (wired.bare below d at) ∙ control in absurd (cc);
}
