-- C2 at lines.
use Rattle.std.proofs.Common.{◌≡◌, All}
use Rattle.cal_ast.specs.Naming.{DoneNamesKnown, IsKnownPort, NamesKnown}
use Rattle.cal_ast.specs.Tree.{Assignment, Component, Design, DoneLine, GroupDef}
use Rattle.cal_ast.specs.Wires.{done_ports, set_ports}
use Rattle.net_core.specs.Graph.{option_ports, source_ports}
use Rattle.cal_place.proofs.ReadLemmas.{all_both}

module _ (design : Design) (c : Component) where
  -- C2 at an assignment: its destination, and what it reads
  pub assignment_known : (a : Assignment) → IsKnownPort design c a.dst → All (IsKnownPort design c) (set_ports a) → NamesKnown design c a
  assignment_known a dst reads =
      let both = (all_both (IsKnownPort design c) (option_ports a.guard) (source_ports a.src)).0 reads in
      record { dst = dst; guard = both.0; src = both.1 }

  pub assignment_reads : (a : Assignment) → NamesKnown design c a → All (IsKnownPort design c) (set_ports a)
  assignment_reads a known = (all_both (IsKnownPort design c) (option_ports a.guard) (source_ports a.src)).1 (known.guard, known.src)

  -- C2 at a done line
  pub done_known : (g : GroupDef) (d : DoneLine) → d.group ≡ g.name → All (IsKnownPort design c) (done_ports d) → DoneNamesKnown design c g d
  done_known g d group reads =
      let both = (all_both (IsKnownPort design c) (option_ports d.guard) (source_ports d.src)).0 reads in
      record { group = group; guard = both.0; src = both.1 }

  pub done_reads : (g : GroupDef) (d : DoneLine) → DoneNamesKnown design c g d → All (IsKnownPort design c) (done_ports d)
  done_reads g d known = (all_both (IsKnownPort design c) (option_ports d.guard) (source_ports d.src)).1 (known.guard, known.src)
