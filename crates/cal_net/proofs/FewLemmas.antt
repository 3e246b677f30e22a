-- Control becomes few registers in a netlist, too; nothing else that is added has a state.
use Rattle.std.proofs.Common.{◌≡◌, ◌⊎◌, ◌∙◌, Bool, true, false, List, [], ◌∷◌, ◌++◌, codes, Contains, Option, Some, length, drop, refl, sym, ap, ap₂, subst, inl, inr}
use Rattle.std.specs.Prelude.{All, option_and_then}
use Rattle.std.specs.List.{AllZip}
use Rattle.std.proofs.Math.Seq.{drop-append_seam}
use Rattle.std.proofs.lemmas.Bool.{false≢true}
use Rattle.std.proofs.lemmas.List.{append-nil}
use Rattle.std.proofs.lemmas.List.Elements.{All-contains, All-nil, Contains-append_cases}
use Rattle.std.proofs.lemmas.Option.{same_Some}
use Rattle.std.proofs.lemmas.Slice.Eq.{bytes_eq-Decides}
use Rattle.hw_names.specs.Name.{Path}
use Rattle.hw_prims.specs.Table.{is_primitive, prim_names, prim_of}
use Rattle.net_core.specs.Netlist.{CellLine, Netlist}
use Rattle.cal_ast.proofs.InstanceLemmas.{component_at-design, component_at-step}
use Rattle.cal_ast.proofs.ListLemmas.{Contains-at}
use Rattle.cal_ast.proofs.LookupLemmas.{part_in-Some, part_of-Some, primitive_of-Some}
use Rattle.cal_ast.specs.Instances.{component_at}
use Rattle.cal_ast.specs.Keeping.{AddsNoStates, IsAddedCell, IsSourceCell, IsStatelessCell, KeepsComponentShape, flat_cell}
use Rattle.cal_ast.specs.Plain.{HasPlainTree, IsPlainCell, IsPlainComponent}
use Rattle.cal_ast.specs.Ports.{cell_named, is_bare, part_of}
use Rattle.cal_ast.specs.Tree.{CellDef, Component, Design}
use Rattle.cal_ast.specs.Registers.{AreFewRegisters, HasFewRegisters, is_register}
use Rattle.net_flat.specs.Flattened.{HasCells}
use Rattle.cal_net.proofs.ShapeLemmas.{cell_named-cases, instance_paired, paired_left, parts_paired}
use Rattle.cal_net.specs.Refining.{HasFewControlRegisters, IsControlCell, IsStatelessLine}

-- a component that keeps its cells gets no state
pub adds_no_states : (c d : Component) → KeepsComponentShape c d → d.cells ≡ c.cells → AddsNoStates c d
adds_no_states c d kept cells = record {
  shape = record { name = kept.name; ins = kept.ins; outs = kept.outs; added = []; cells = cells ∙ sym (append-nil c.cells); are_added = All-nil IsAddedCell };
  stateless = All-nil IsStatelessCell;
}

-- ---- in a netlist

-- a component whose control has become few registers, or which gets no cell with a state
abbrev pub AddsFew : Component → Component → Type 0
AddsFew c d = (is_bare c ≡ false → HasFewRegisters c d) × (is_bare c ≡ true → AddsNoStates c d)

-- the same, with its shape kept
abbrev pub KeepsFew : Component → Component → Type 0
KeepsFew c d = KeepsComponentShape c d × AddsFew c d

-- the cells of the answer after those of the source
abbrev added_cells : Component → Component → List CellDef
added_cells c d = drop (length c.cells) d.cells

added_are : (c d : Component) (added : List CellDef) → d.cells ≡ c.cells ++ added → added_cells c d ≡ added
added_are c d added is = ap (drop (length c.cells)) is ∙ drop-append_seam c.cells added

cells_are : (c d : Component) → KeepsComponentShape c d → d.cells ≡ c.cells ++ added_cells c d
cells_are c d shape = shape.cells ∙ ap (λ (added : List CellDef). c.cells ++ added) (sym (added_are c d shape.added shape.cells))

few_added : (c d : Component) → AddsFew c d → is_bare c ≡ false → AreFewRegisters c (added_cells c d)
few_added c d adds full = let few = adds.0 full in subst (AreFewRegisters c) (sym (added_are c d few.added few.cells)) few.are

stateless_added : (c d : Component) → AddsFew c d → is_bare c ≡ true → All IsStatelessCell (added_cells c d)
stateless_added c d adds bare = let none = adds.1 bare in subst (All IsStatelessCell) (sym (added_are c d none.shape.added none.shape.cells)) none.stateless

-- each of them is made of a primitive
register_is_primitive : is_primitive (codes "std_reg") ≡ true
unfolding prim_names is_primitive
register_is_primitive = refl

stateless_is_primitive : (cell : CellDef) → IsStatelessCell cell → is_primitive cell.made ≡ true
stateless_is_primitive cell of = primitive_of-Some cell of.0 of.1

few_are_primitives : (c : Component) (added : List CellDef) (cell : CellDef) → AreFewRegisters c added → Contains added cell → is_primitive cell.made ≡ true
few_are_primitives c added cell are has = by (is_register cell) refl
  where
    by : (b : Bool) → is_register cell ≡ b → is_primitive cell.made ≡ true
    by true is = ap is_primitive ((bytes_eq-Decides cell.made (codes "std_reg")).0 is) ∙ register_is_primitive
    by false other = stateless_is_primitive cell (are.no_others cell has other)

added_is_primitive : (c d : Component) (cell : CellDef) → AddsFew c d → Contains (added_cells c d) cell → is_primitive cell.made ≡ true
added_is_primitive c d cell adds has = by (is_bare c) refl
  where
    by : (b : Bool) → is_bare c ≡ b → is_primitive cell.made ≡ true
    by true bare = stateless_is_primitive cell (All-contains IsStatelessCell (added_cells c d) cell (stateless_added c d adds bare) has)
    by false full = few_are_primitives c (added_cells c d) cell (few_added c d adds full) has

module _ (source wires : Design) (pairs : AllZip KeepsFew source wires) (plain : HasPlainTree wires) where
  -- what stands at a path of the wires stands there in the source, since no cell that is added is an instance
  instance_of_source : (path : Path) (c d f : Component) → KeepsFew c d → component_at wires d path ≡ Some f → (e : Component) × (component_at source c path ≡ Some e) × KeepsFew e f
  instance_of_source [] c d f is at = (c, refl, subst (KeepsFew c) (same_Some d f at) is)
  instance_of_source (cell ∷ path) c d f is at =
      let part = component_at-step wires d cell path f at in
      let found = part_in-Some wires d cell part.0 part.1 in
      elim (cell_named-cases c.cells (added_cells c d) cell found.0 (subst (λ (cells : List CellDef). cell_named cells cell ≡ Some found.0) (cells_are c d is.0) found.1)) [
        | inl own ↦
            let other = paired_left KeepsFew (λ c d is. is.0) (part_of source found.0) (part_of wires found.0) part.0 (parts_paired KeepsFew (λ c d is. is.0) source wires pairs found.0) found.2 in
            let rest = instance_of_source path other.0 part.0 f other.2 part.2 in
            (rest.0, ap (option_and_then (λ (x : Component). component_at source x path)) (ap (option_and_then (part_of source)) own ∙ other.1) ∙ rest.1, rest.2)
        | inr added ↦ absurd (false≢true (sym (part_of-Some wires found.0 part.0 found.2).0 ∙ added_is_primitive c d found.0 is.1 added))
      ]

  module _ (c d : Component) (is : KeepsFew c d) (among : Contains wires d) (n : Netlist) (cells : HasCells wires d n) where
    -- what is added at a path
    abbrev added_between : Option Component → Option Component → List CellDef
    added_between (Some e) (Some f) = added_cells e f
    added_between e f = []

    abbrev added_at : Path → List CellDef
    added_at path = added_between (component_at source c path) (component_at wires d path)

    added_there : (path : Path) (e f : Component) → component_at source c path ≡ Some e → component_at wires d path ≡ Some f → added_at path ≡ added_cells e f
    added_there path e f at at_wires = ap₂ added_between at at_wires

    few_there : (path : Path) (e : Component) → component_at source c path ≡ Some e → is_bare e ≡ false → AreFewRegisters e (added_at path)
    few_there path e at full =
        let there = instance_paired KeepsFew (λ c d is. is.0) source wires pairs path c d e is at in
        subst (AreFewRegisters e) (sym (added_there path e there.0 at there.1)) (few_added e there.0 there.2.1 full)

    -- the netlist's cell is one of a component of the wires
    module _ (line : CellLine) (path : Path) (f : Component) (cell : CellDef) (at : component_at wires d path ≡ Some f) (has : Contains f.cells cell) (is_line : line ≡ flat_cell path cell) where
      added_known : (e : Component) → component_at source c path ≡ Some e → AddsFew e f → Contains (added_cells e f) cell → IsStatelessLine line ⊎ IsControlCell source c added_at line
      added_known e at_source adds added = by (is_bare e) refl
        where
          by : (b : Bool) → is_bare e ≡ b → IsStatelessLine line ⊎ IsControlCell source c added_at line
          by true bare =
              let of = All-contains IsStatelessCell (added_cells e f) cell (stateless_added e f adds bare) added in
              inl (of.0, ap (λ (l : CellLine). prim_of l.prim l.params) is_line ∙ of.1, of.2)
          by false full = inr (record {
            path = path;
            c = e;
            at = at_source;
            started = full;
            cell = cell;
            has = subst (λ (all : List CellDef). Contains all cell) (sym (added_there path e f at_source at)) added;
            plain = All-contains IsPlainCell f.cells cell (All-contains IsPlainComponent wires f plain (component_at-design wires d path f among at)).cells has;
            is = is_line;
          })

      line_known : is_primitive cell.made ≡ true → IsSourceCell source c line ⊎ (IsStatelessLine line ⊎ IsControlCell source c added_at line)
      line_known primitive =
          let of = instance_of_source path c d f is at in
          elim (Contains-append_cases of.0.cells (added_cells of.0 f) cell (subst (λ (all : List CellDef). Contains all cell) (cells_are of.0 f of.2.0) has)) [
            | inl own ↦ inl (record { path = path; c = of.0; at = of.1; cell = cell; has = own; primitive = primitive; is = is_line })
            | inr added ↦ inr (added_known of.0 of.1 of.2.1 added)
          ]

    pub few_control_registers : HasFewControlRegisters source c n
    few_control_registers = record {
      added = added_at;
      few = few_there;
      cells = λ line has.
          let of = cells.only line has in
          line_known line of.0 of.1 of.2 of.3 of.4 of.6 of.5;
    }
