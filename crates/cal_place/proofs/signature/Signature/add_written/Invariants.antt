use Rattle.std.proofs.Common.{◌≡◌, ◌++◌, List, map, take}
use Rattle.cal_ast.specs.Ports.{SidedPin, on_side}
use Rattle.cal_ast.specs.Tree.{pin_tree}
use Rattle.cal_place.specs.Signatures.{ShowsPorts, side_of}
use Rattle.cal_place.proofs.signature.Signature.add_written.Given as goal

abbrev pub invariant-loop-pin : goal.invariant-loop-pin
invariant-loop-pin l = record {
  ports : (ports : List SidedPin) → ShowsPorts l.fn.self ports → ShowsPorts l.self (ports ++ on_side (side_of l.side) (take l.pin-index (map (pin_tree l.names) l.pins)));
  bare : l.self.bare ≡ l.fn.self.bare;
  inputs : l.self.inputs ≡ l.fn.self.inputs;
}
