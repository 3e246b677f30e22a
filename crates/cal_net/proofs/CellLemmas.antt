-- The cells of a flattened design are those of each design whose shape it keeps, and some of lowering's.
use Rattle.std.proofs.Common.{◌≡◌, ◌⊎◌, true, false, ◌&&◌, Bool, List, [], ◌∷◌, ◌++◌, Contains, Some, refl, sym, ap, subst, inl, inr, ◌∙◌}
use Rattle.std.proofs.lemmas.List.Elements.{All-contains, Contains-append_cases, Contains-append_left, Contains-push}
use Rattle.hw_names.proofs.NameLemmas.{plain_append}
use Rattle.hw_names.specs.Name.{Path, Text}
use Rattle.hw_prims.specs.Table.{is_memory, is_primitive}
use Rattle.net_core.specs.Netlist.{CellLine, Netlist}
use Rattle.cal_ast.proofs.InstanceLemmas.{component_at-design, plain_path}
use Rattle.cal_ast.proofs.ListLemmas.{Contains-none}
use Rattle.cal_ast.specs.Instances.{component_at}
use Rattle.cal_ast.specs.Keeping.{HasSourceCells, IsAddedCell, IsLoweringCell, IsSourceCell, KeepsComponentShape, KeepsShape, flat_cell, is_top}
use Rattle.cal_ast.specs.Naming.{IsReserved}
use Rattle.cal_ast.specs.Plain.{HasPlainTree, IsPlainCell, IsPlainComponent}
use Rattle.cal_ast.specs.Tree.{CellDef, Component, Design}
use Rattle.net_flat.specs.Flattened.{HasCells}
use Rattle.cal_net.proofs.ShapeLemmas.{instance_back, instance_kept}

-- ---- cells that are not shown

pub no_second : (b : Bool) → (b && false) ≡ false
no_second true = refl
no_second false = refl

hidden_below : (path : Path) (cell : CellDef) (segment : Text) → Contains path segment → (flat_cell path cell).shown ≡ false
hidden_below [] cell segment has = absurd (Contains-none segment has)
hidden_below (s ∷ path) cell segment has = refl

hidden_unless_memory : (path : Path) (cell : CellDef) → is_memory cell.made ≡ false → (flat_cell path cell).shown ≡ false
hidden_unless_memory path cell no_memory = ap (λ (memory : Bool). is_top path && cell.external && memory) no_memory ∙ no_second (is_top path && cell.external)

-- ---- cells

module _ (source wires : Design) (shape : KeepsShape source wires) (plain : HasPlainTree wires) where
  module _ (c d : Component) (is : KeepsComponentShape c d) (among : Contains wires d) (n : Netlist) (cells : HasCells wires d n) where
    cell_among : (line : CellLine) → IsSourceCell source c line → Contains n.cells line
    cell_among line of =
        let there = instance_kept source wires shape of.path c d of.c is of.at in
        let has : Contains there.0.cells of.cell
        = subst (λ (xs : List CellDef). Contains xs of.cell) (sym there.2.cells) (Contains-append_left of.c.cells there.2.added of.cell of.has) in
        subst (Contains n.cells) (sym of.is) (cells.all of.path there.0 of.cell there.1 has of.primitive)

    module _ (line : CellLine) (path : Path) (f : Component) (cell : CellDef) (at : component_at wires d path ≡ Some f) (has : Contains f.cells cell) (primitive : is_primitive cell.made ≡ true) (is_line : line ≡ flat_cell path cell) where
      lowering_line : (segment : Text) → Contains (path ++ cell.name ∷ []) segment → IsReserved segment → (flat_cell path cell).shown ≡ false → IsLoweringCell line
      lowering_line segment named reserved hidden = record {
        path = path;
        name = cell.name;
        named = ap (λ (l : CellLine). l.name) is_line;
        plain =
            plain_append path cell.name (plain_path wires d path f plain among at)
            (All-contains IsPlainCell f.cells cell (All-contains IsPlainComponent wires f plain (component_at-design wires d path f among at)).cells has);
        segment = segment;
        among = named;
        reserved = reserved;
        not_shown = ap (λ (l : CellLine). l.shown) is_line ∙ hidden;
      }

      line_known : IsSourceCell source c line ⊎ IsLoweringCell line
      line_known =
          elim (instance_back source wires shape path c d f is at) [
            | inl from ↦ elim (Contains-append_cases from.e.cells from.keeps.added cell (subst (λ (xs : List CellDef). Contains xs cell) from.keeps.cells has)) [
              | inl own ↦ inl (record { path = path; c = from.e; at = from.at; cell = cell; has = own; primitive = primitive; is = is_line })
              | inr added ↦
                  let of = All-contains IsAddedCell from.keeps.added cell from.keeps.are_added added in
                  inr (lowering_line cell.name (Contains-push path cell.name) of.named (hidden_unless_memory path cell of.no_memory))
            ]
            | inr in_added ↦
                inr (lowering_line in_added.segment (Contains-append_left path (cell.name ∷ []) in_added.segment in_added.among) in_added.reserved
                (hidden_below path cell in_added.segment in_added.among))
          ]

    pub source_cells : HasSourceCells source c n
    source_cells = record {
      all = cell_among;
      only = λ line has. (let f = cells.only line has in line_known line f.0 f.1 f.2 f.3 f.4 f.5 f.6);
    }
