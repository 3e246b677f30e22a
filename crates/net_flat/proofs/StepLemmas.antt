-- What a port of a listing reads, a port of an instance reads there.
use Rattle.std.proofs.Common.{◌≡◌, inl, inr, List, [], ◌∷◌, filter, Contains, Some, option_and_then, refl, sym, ap, subst, ◌∙◌}
use Rattle.std.proofs.lemmas.List.Elements.{All-contains}
use Rattle.hw_names.specs.Name.{Text, Path, dotted, full_name}
use Rattle.hw_prims.specs.Table.{prim_of, is_primitive}
use Rattle.hw_prims.specs.declared.prim.Primitive.{Primitive}
use Rattle.net_core.specs.Graph as net
use Rattle.net_core.specs.Netlist.{CellLine, SetLine, Netlist}
use Rattle.cal_ast.proofs.InstanceLemmas.{component_at-design}
use Rattle.cal_ast.proofs.ListLemmas.{Contains-at, Contains-cases_first, Contains-from_map, Contains-from_flat_map}
use Rattle.cal_ast.proofs.LookupLemmas.{cell_named-itself}
use Rattle.cal_ast.specs.FlatWires.{FlatReads}
use Rattle.cal_ast.specs.Instances.{component_at, port_name}
use Rattle.cal_ast.specs.Keeping.{flat_cell}
use Rattle.cal_ast.specs.Naming.{Unreserved}
use Rattle.cal_ast.specs.Ports.{primitive_of, primitive_in}
use Rattle.cal_ast.specs.Rules.{KeepsRules}
use Rattle.cal_ast.specs.Tree.{PortName, port_of, CellDef, Assignment, Component, Design}
use Rattle.cal_ast.specs.Wires.{ByAssignment, ByPrimitive, DependsWithinRow, set_ports}
use Rattle.net_flat.specs.Listing.{Instance, flat_set, sets_at, cells_at, IsListing}
use Rattle.net_flat.proofs.FlatSetLemmas.{set_ports-flat_set}
use Rattle.net_flat.proofs.ListFacts.{Contains-from_filter}

module _ (design : Design) (top : Component) (n : Netlist) (keeps : KeepsRules design) (has_top : Contains design top) (listing : IsListing design top n) where
  instance_at : (i : Instance) → Contains (([], top) ∷ listing.others) i → component_at design top i.0 ≡ Some i.1
  instance_at i has =
      elim (Contains-cases_first ([], top) listing.others i has) [
        | inl same ↦ subst (λ (j : Instance). component_at design top j.0 ≡ Some j.1) same refl
        | inr there ↦ All-contains (λ (j : Instance). component_at design top j.0 ≡ Some j.1) listing.others i listing.listed there
      ]

  module _ (path : Path) (c : Component) (at : component_at design top path ≡ Some c) where
    by_assignment : (a : Assignment) (other : PortName) → Contains c.sets a → Contains (set_ports a) other → FlatReads design top (port_name path a.dst) (port_name path other)
    by_assignment a other has read = record {
      path = path;
      c = c;
      at = at;
      from = a.dst;
      to = other;
      reads = ByAssignment c a.dst other (record { a = a; is = inl has; drives = refl; reads = read });
      is_port = refl;
      is_other = refl;
    }

    by_primitive : (cell : CellDef) (prim : Primitive) (output input : Text) → Contains c.cells cell → prim_of cell.made cell.params ≡ Some prim → DependsWithinRow prim output input
        → FlatReads design top (dotted (full_name path cell.name) output) (dotted (full_name path cell.name) input)
    by_primitive cell prim output input has made depends =
        let found = cell_named-itself Unreserved design keeps c (component_at-design design top path c has_top at) cell has in
        let is_made : primitive_in c cell.name ≡ Some prim = ap (option_and_then primitive_of) found ∙ made in
        record {
          path = path;
          c = c;
          at = at;
          from = port_of cell.name output;
          to = port_of cell.name input;
          reads =
              ByPrimitive c (port_of cell.name output) (port_of cell.name input)
              (record { cell = cell.name; prim = prim; made = is_made; output = output; input = input; depends = depends; is_output = refl; is_input = refl });
          is_port = refl;
          is_other = refl;
        }

  retold : (port other port' other' : Text) → port ≡ port' → other ≡ other' → FlatReads design top port other → FlatReads design top port' other'
  retold port other port' other' is is' r =
      record { path = r.path; c = r.c; at = r.at; from = r.from; to = r.to; reads = r.reads; is_port = r.is_port ∙ is; is_other = r.is_other ∙ is' }

  by_set : (line : SetLine) (other : Text) → Contains n.sets line → Contains (net.set_ports line) other → FlatReads design top line.dst other
  by_set line other has read =
      let lists = Contains-from_flat_map sets_at (([], top) ∷ listing.others) line (subst (λ (sets : List SetLine). Contains sets line) listing.sets has) in
      let i = lists.0 in
      let set = Contains-from_map (flat_set i.0) i.1.sets line lists.2 in
      let a = set.0 in
      let reads = subst (λ (ports : List Text). Contains ports other) (set_ports-flat_set i.0 a) (subst (λ (s : SetLine). Contains (net.set_ports s) other) (sym set.2) read) in
      let from = Contains-from_map (port_name i.0) (set_ports a) other reads in
      retold (port_name i.0 a.dst) (port_name i.0 from.0) line.dst other (ap (λ (s : SetLine). s.dst) set.2) from.2
      (by_assignment i.0 i.1 (instance_at i lists.1) a from.0 set.1 from.1)

  by_cell : (line : CellLine) (prim : Primitive) (output input : Text) → Contains n.cells line → prim_of line.prim line.params ≡ Some prim → DependsWithinRow prim output input
      → FlatReads design top (dotted line.name output) (dotted line.name input)
  by_cell line prim output input has made depends =
      let lists = Contains-from_flat_map cells_at (([], top) ∷ listing.others) line (subst (λ (cells : List CellLine). Contains cells line) listing.cells has) in
      let i = lists.0 in
      let found = Contains-from_map (flat_cell i.0) (filter (λ (c : CellDef). is_primitive c.made) i.1.cells) line lists.2 in
      let cell = found.0 in
      let there = Contains-from_filter (λ (c : CellDef). is_primitive c.made) i.1.cells cell found.1 in
      let is_made : prim_of cell.made cell.params ≡ Some prim = ap (λ (l : CellLine). prim_of l.prim l.params) found.2 ∙ made in
      let named : full_name i.0 cell.name ≡ line.name = ap (λ (l : CellLine). l.name) found.2 in
      retold (dotted (full_name i.0 cell.name) output) (dotted (full_name i.0 cell.name) input) (dotted line.name output) (dotted line.name input)
      (ap (λ name. dotted name output) named) (ap (λ name. dotted name input) named)
      (by_primitive i.0 i.1 (instance_at i lists.1) cell prim output input there is_made depends)

  pub flat_reads : (port other : Text) → net.ReadsPort n port other → FlatReads design top port other
  flat_reads port other (net.ByAssignment k line at is read) =
      retold line.dst other port other is refl (by_set line other (Contains-at n.sets k line at) read)
  flat_reads port other (net.ByCell cell prim input output (k, line, at, named, made) has_input has_output through is is') =
      retold (dotted line.name output) (dotted line.name input) port other (ap (λ name. dotted name output) named ∙ is) (ap (λ name. dotted name input) named ∙ is')
      (by_cell line prim output input (Contains-at n.cells k line at) made (record { is_output = has_output; is_input = has_input; through = through }))
