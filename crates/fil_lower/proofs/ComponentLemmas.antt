-- A component that is lowered, and those before it, in names that grow.
use Rattle.std.proofs.Common.{◌≡◌, ℕ, zero, suc, ◌⊎◌, List, [], ◌∷◌, ◌++◌, length, map, flat_map, get_or, slice_get, All, Contains, Some, inl, inr, refl, sym, ap, ap₂, subst, ◌∙◌, arith}
use Rattle.std.proofs.lemmas.List.Elements.{All-cons, All-contains, All-nil, All-weaker}
use Rattle.std.proofs.lemmas.Option.{none-some, same_Some}
use Rattle.hw_names.proofs.NameLemmas.{Contains-slice_get, slice_get-text_of}
use Rattle.hw_names.specs.Name.{KeepsTexts, Text, text_of}
use Rattle.hw_names.specs.declared.names.NameId.{NameId}
use Rattle.cal_ast.specs.Numbers as calyx_numbers
use Rattle.cal_ast.specs.Tree as calyx
use Rattle.cal_ast.specs.Tree.{Absent, Assignment, CellDef, control_tree, group_tree}
use Rattle.cal_ast.specs.declared.tree.CalComp.{CalComp}
use Rattle.fil_ast.specs.Naming.{instance_names}
use Rattle.fil_ast.specs.Numbers.{IsNumberOf, StatementHasNumbers}
use Rattle.fil_ast.specs.Scope.{Instance, Scope, instances_at}
use Rattle.fil_ast.specs.Tree.{Component, Design, component_tree, statement_tree}
use Rattle.fil_ast.specs.Wires.{whole_scope}
use Rattle.fil_ast.specs.declared.tree.FilComp.{FilComp}
use Rattle.fil_ast.specs.declared.tree.Stmt.{Stmt}
use Rattle.fil_ast.specs.declared.tree.Stmt.TheVariants as stmts
use Rattle.fil_fsm.proofs.FreshLemmas.{Contains-KeepsTexts}
use Rattle.fil_fsm.specs.Chain.{register}
use Rattle.fil_promise.specs.Refines.{inputs_of, outputs_of}
use Rattle.fil_share.proofs.ListLemmas.{All-flat_map}
use Rattle.fil_sig.proofs.ListLemmas.{All-mapped}
use Rattle.fil_lower.specs.inside.Lowering.{HasEnoughBits, HasNewRegisters, IsLoweredTo, Lowering, Registers, lowered_cell, lowered_component, lowered_sets}
use Rattle.fil_lower.specs.inside.Place.{AreNew, ShowsBody}
use Rattle.fil_lower.specs.declared.body.Body.{Body}
use Rattle.fil_lower.proofs.KeptLemmas.{component_kept, component_numbers}

-- the parts are those of the lowered component
pub same_component : (l : Lowering) (own : List Text) (comp : FilComp) (cells : List CellDef) (sets : List Assignment) → l.scope.comp ≡ component_tree own comp
    → cells ≡ map lowered_cell l.scope.instances ++ flat_map (map register) l.registers → sets ≡ lowered_sets l
    → record { name = text_of own comp.name; ins = inputs_of (component_tree own comp); outs = outputs_of (component_tree own comp); cells = cells; groups = []; sets = sets; control = Absent } ≡ lowered_component l
same_component l own comp cells sets is_comp is_cells is_sets =
    let of : Component → List CellDef → List Assignment → calyx.Component = λ c cells sets.
    record { name = c.name; ins = inputs_of c; outs = outputs_of c; cells = cells; groups = []; sets = sets; control = Absent } in
    ap₂ (of (component_tree own comp)) is_cells is_sets ∙ ap (λ c. of c (map lowered_cell l.scope.instances ++ flat_map (map register) l.registers) (lowered_sets l)) (sym is_comp)

-- a component with these registers is lowered
pub lowered_by : (body : Body) (scope : Scope) (shows : ShowsBody body scope) (registers : Registers) (low : calyx.Component) → HasEnoughBits (record { scope = scope; registers = registers })
    → HasNewRegisters (record { scope = scope; registers = registers }) → low ≡ lowered_component (record { scope = scope; registers = registers }) → IsLoweredTo scope.comps scope.comp low
lowered_by body scope shows registers low enough new is =
    let with : Scope → Lowering = λ s. record { scope = s; registers = registers } in
    let whole : scope ≡ whole_scope scope.comps scope.comp = shows.whole ∙ ap (λ comps. whole_scope comps scope.comp) (sym (ap (λ (s : Scope). s.comps) shows.whole)) in
    record {
      registers = registers;
      enough = subst (λ (s : Scope). HasEnoughBits (with s)) whole enough;
      new = subst (λ (s : Scope). HasNewRegisters (with s)) whole new;
      is = is ∙ ap (λ (s : Scope). lowered_component (with s)) whole;
    }

-- the names of instances are among the names of the Filament design
module _ (names : List Text) where
  abbrev pub IsKnown : Instance → Type 0
  IsKnown i = Contains names i.name

  named : (id : NameId) → IsNumberOf names id → Contains names (text_of names id)
  named id known = Contains-slice_get names id.0 _ (slice_get-text_of names id known)

  instances_of : (s : Stmt) → StatementHasNumbers names s → All IsKnown (instances_at (statement_tree names s))
  instances_of (stmts.New name made params) known = All-cons IsKnown _ [] (named name known.0) (All-nil IsKnown)
  instances_of (stmts.Both name made params times args) known = All-cons IsKnown _ [] (named name known.0) (All-nil IsKnown)
  instances_of (stmts.Call name inst times args) known = All-nil IsKnown
  instances_of (stmts.Set dst value) known = All-nil IsKnown

instances_known : (body : Body) (scope : Scope) → ShowsBody body scope → All (IsKnown body.names.now) scope.instances
instances_known body scope shows =
    let own = body.names.now in
    let P : Scope → Type 0 = λ s. All (IsKnown own) s.instances in
    let B : Component → Type 0 = λ c. All (λ s. All (IsKnown own) (instances_at s)) c.body in
    let each : B (component_tree own body.comp.now) =
    All-mapped (λ s. All (IsKnown own) (instances_at s)) (statement_tree own) body.comp.now.body.items (λ k d within. instances_of own (get_or body.comp.now.body.items k d) (shows.numbers.body k d within)) in
    subst P (sym shows.whole) (All-flat_map (IsKnown own) instances_at scope.comp.body (subst B (sym shows.comp) each))

-- registers that are new to the names are new
pub new_registers : (body : Body) (scope : Scope) (shows : ShowsBody body scope) (names : List Text) (registers : Registers) → KeepsTexts body.names.now names
    → AreNew names (flat_map (λ few. few) registers) → HasNewRegisters (record { scope = scope; registers = registers })
new_registers body scope shows names registers kept new = record {
  generated = new.generated;
  distinct = new.distinct;
  fresh = All-weaker (λ name. ¬ Contains names name) (λ name. ¬ Contains (instance_names scope.instances) name)
      (λ name absent there.
      let known = All-contains (Contains body.names.now) (instance_names scope.instances) name (All-mapped (Contains body.names.now) (λ (i : Instance). i.name) scope.instances (instances_known body scope shows)) there in
      absent (Contains-KeepsTexts body.names.now names name kept known))
      (flat_map (λ few. few) registers) new.fresh;
}

-- ---- components before

pub lowered_bare : (earlier : Design) (c : Component) (names : List Text) (low : CalComp) → IsLoweredTo earlier c (calyx.component_tree names low)
    → (map (group_tree names) low.groups.items ≡ []) × (control_tree names low.control ≡ Absent)
lowered_bare earlier c names low lowered = (ap (λ (d : calyx.Component). d.groups) lowered.is, ap (λ (d : calyx.Component). d.control) lowered.is)

module _ (old new : List Text) (kept : KeepsTexts old new) (earlier : Design) (c : Component) (low : CalComp) (known : calyx_numbers.ComponentHasNumbers old low) (lowered : IsLoweredTo earlier c (calyx.component_tree old low)) where
  pub lowered_kept : IsLoweredTo earlier c (calyx.component_tree new low)
  lowered_kept =
      let (groups, control) = lowered_bare earlier c old low lowered in
      subst (IsLoweredTo earlier c) (sym (component_kept old new kept low known groups control)) lowered

  pub numbers_kept : calyx_numbers.ComponentHasNumbers new low
  numbers_kept = let (groups, control) = lowered_bare earlier c old low lowered in component_numbers old new kept low known groups control

-- an element of a list with one more
pub one_more : {X : Type 0} (xs : List X) (x : X) (n : ℕ) (y : X) → slice_get (xs ++ x ∷ []) n ≡ Some y → (slice_get xs n ≡ Some y) ⊎ ((n ≡ length xs) × (x ≡ y))
one_more [] x zero y at = inr (refl, same_Some x y at)
one_more [] x (suc n) y at = absurd (none-some y at)
one_more (z ∷ xs) x zero y at = inl at
one_more (z ∷ xs) x (suc n) y at = elim (one_more xs x n y at) [ inl before ↦ inl before | inr last ↦ inr (omega (arith, last.0), last.1) ]

pub mapped_at : {X Y : Type 0} (f : X → Y) (xs : List X) (n : ℕ) (y : Y) → slice_get (map f xs) n ≡ Some y → (x : X) × (slice_get xs n ≡ Some x) × (f x ≡ y)
mapped_at f [] n y at = absurd (none-some y at)
mapped_at f (x ∷ xs) zero y at = (x, refl, same_Some (f x) y at)
mapped_at f (x ∷ xs) (suc n) y at = mapped_at f xs n y at
