use Rattle.std.proofs.Common.{◌++◌, List, All, map, flat_map, sym, ap, ap₂, subst, ◌∙◌}
use Rattle.std.specs.declared.alloc.Global.{Global}
use Rattle.std.specs.Prelude.{Vec}
use Rattle.std.proofs.lemmas.List.{map-append}
use Rattle.std.proofs.lemmas.List.Elements.{All-append, All-weaker}
use Rattle.std.proofs.lemmas.Result.{IfOk-weaker}
use Rattle.hw_names.specs.Name.{KeepsTexts}
use Rattle.cal_ast.specs.Numbers.{CellHasNumbers}
use Rattle.cal_ast.specs.Tree.{Assignment, cell_tree}
use Rattle.cal_ast.specs.declared.tree.CalCell.{CalCell}
use Rattle.cal_ast.specs.declared.tree.CalPort.{CalPort}
use Rattle.fil_ast.specs.Scope.{Scope, instances_at}
use Rattle.fil_ast.specs.Tree.{Component}
use Rattle.fil_fsm.proofs.FreshLemmas.{KeepsTexts-trans}
use Rattle.fil_lower.specs.inside.Lowering.{Lowering, connection_set, invocation_sets, lowered_cell, start_sets}
use Rattle.fil_lower.specs.inside.Place.{ShowsBits}
use Rattle.fil_lower.proofs.ComponentLemmas.{lowered_by, new_registers, same_component}
use Rattle.fil_lower.proofs.KeptLemmas.{cell_numbers, cells_kept}
use Rattle.fil_lower.proofs.PortNameLemmas.{NamesPorts-kept}
use Rattle.fil_lower.proofs.component.lower_component.Goals as goal

pub push_sets-requires : goal.push_sets-requires
push_sets-requires c =
    let (scope, shows) = c.requires.body in
    let own = c.args.body.now.names.now in
    let first = c.add_port_names.new.names in
    let second = c.instance_cells.new.names in
    let third = c.make.new.names in
    let registers = c.in_ok-registers.ensures.made scope shows in
    let l : Lowering = record { scope = scope; registers = registers.registers } in
    let one : KeepsTexts own first = KeepsTexts-trans own c.args.names.now first c.requires.names c.add_port_names.ensures.kept in
    let two : KeepsTexts first third = KeepsTexts-trans first second third c.instance_cells.ensures.kept c.make.ensures.kept in
    let B : List (Vec CalPort Global) → Type 0 = ShowsBits third l in (
      l,
      record {
        body = shows;
        kept = KeepsTexts-trans own first third one two;
        ports = λ inst sig signed. NamesPorts-kept first third two sig (c.in_ok-add_port_names.ensures.named scope shows.instances inst sig signed);
        enough = registers.enough;
        bits = subst B (sym c.as_slice.ensures.value) registers.bits;
      },
    )

pub returns-clause-numbers : goal.returns-clause-numbers
returns-clause-numbers c =
    let (scope, shows) = c.requires.body in
    let own = c.args.body.now.names.now in
    let first = c.add_port_names.new.names in
    let second = c.instance_cells.new.names in
    let third = c.make.new.names in
    let registers = c.in_ok-registers.ensures.made scope shows in
    let one : KeepsTexts own first = KeepsTexts-trans own c.args.names.now first c.requires.names c.add_port_names.ensures.kept in
    let two : KeepsTexts first third = KeepsTexts-trans first second third c.instance_cells.ensures.kept c.make.ensures.kept in
    let C : List CalCell → Type 0 = All (CellHasNumbers third) in
    let cells = All-weaker (CellHasNumbers second) (CellHasNumbers third) (cell_numbers second third c.make.ensures.kept) c.in_ok-cells.cells.items c.in_ok-cells.ensures.numbers in
    c.bare_component.ensures.numbers third (KeepsTexts-trans own first third one two) shows.numbers
    (subst C (sym c.in_ok-append.ensures.items) (All-append (CellHasNumbers third) c.in_ok-cells.cells.items c.in_ok-registers.field-0.cells.items cells registers.cell_numbers))
    (c.push_sets.ensures.numbers registers.set_numbers)

pub returns-clause-lowered : goal.returns-clause-lowered
returns-clause-lowered c = λ scope shows.
    let own = c.args.body.now.names.now in
    let comp = c.args.body.now.comp.now in
    let first = c.add_port_names.new.names in
    let second = c.instance_cells.new.names in
    let third = c.make.new.names in
    let registers = c.in_ok-registers.ensures.made scope shows in
    let l : Lowering = record { scope = scope; registers = registers.registers } in
    let one : KeepsTexts own first = KeepsTexts-trans own c.args.names.now first c.requires.names c.add_port_names.ensures.kept in
    let two : KeepsTexts first third = KeepsTexts-trans first second third c.instance_cells.ensures.kept c.make.ensures.kept in
    let kept = KeepsTexts-trans own first third one two in
    let B : List (Vec CalPort Global) → Type 0 = ShowsBits third l in
    let sets =
    c.in_ok-push_sets.ensures.sets l (record {
      body = shows;
      kept = kept;
      ports = λ inst sig signed. NamesPorts-kept first third two sig (c.in_ok-add_port_names.ensures.named scope shows.instances inst sig signed);
      enough = registers.enough;
      bits = subst B (sym c.as_slice.ensures.value) registers.bits;
    })
    ∙ ap (λ (xs : List Assignment). xs ++ flat_map (invocation_sets l) scope.invocations ++ flat_map (start_sets l) scope.instances ++ flat_map (connection_set l) scope.comp.body) registers.sets in
    let instances = ap (λ (c : Component). flat_map instances_at c.body) (sym shows.comp) ∙ ap (λ (s : Scope). s.instances) (sym shows.whole) in
    let cells =
    ap (map (cell_tree third)) c.in_ok-append.ensures.items ∙ map-append (cell_tree third) c.in_ok-cells.cells.items c.in_ok-registers.field-0.cells.items
    ∙ ap₂ ◌++◌ (cells_kept second third c.make.ensures.kept c.in_ok-cells.cells.items c.in_ok-cells.ensures.numbers ∙ c.in_ok-cells.ensures.cells ∙ ap (map lowered_cell) instances)
    registers.cells in
    let before = KeepsTexts-trans own first second one c.instance_cells.ensures.kept in
    IfOk-weaker c.bare_component.result _ _
    (λ low is. lowered_by c.args.body.now scope shows registers.registers _ registers.enough (new_registers c.args.body.now scope shows second registers.registers before registers.new_names)
    (is ∙ same_component l own comp _ _ shows.comp cells sets))
    (c.bare_component.ensures.component third kept shows.numbers)
