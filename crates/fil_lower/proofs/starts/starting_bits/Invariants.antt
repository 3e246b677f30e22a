use Rattle.std.proofs.Common.{◌≡◌, All, map, filter, take}
use Rattle.hw_names.specs.Name.{Text}
use Rattle.cal_ast.specs.Numbers.{PortHasNumbers}
use Rattle.cal_ast.specs.Tree.{port_tree}
use Rattle.fil_lower.specs.inside.Lowering.{Lowering}
use Rattle.fil_lower.specs.inside.Place.{AreUsesOf, ShowsPlace, is_of}
use Rattle.fil_lower.proofs.UseNumberLemmas.{bits_at}
use Rattle.fil_lower.proofs.starts.starting_bits.Given as goal

abbrev pub invariant-loop-number : goal.invariant-loop-number
invariant-loop-number l = record {
  bits : (low : Lowering) (inst : Text) → ShowsPlace l.place low → AreUsesOf l.place.body.now.names.now l.place.body.now.uses.items inst l.numbers
      → map (port_tree l.place.names.now) l.bits.items ≡ bits_at low l.place.body.now.names.now inst l.event (take l.number-index (filter (is_of l.place.body.now.names.now inst) l.place.body.now.uses.items));
  numbers : All (PortHasNumbers l.place.names.now) l.bits.items;
}
