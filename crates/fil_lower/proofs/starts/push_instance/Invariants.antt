use Rattle.std.proofs.Common.{◌≡◌, ◌++◌, All, map, take}
use Rattle.hw_names.specs.Name.{text_of}
use Rattle.cal_ast.specs.Numbers.{SetHasNumbers}
use Rattle.cal_ast.specs.Tree.{assignment_tree}
use Rattle.fil_sig.specs.Seen.{seen_event}
use Rattle.fil_lower.specs.inside.Lowering.{Lowering, start_sets_from}
use Rattle.fil_lower.specs.inside.Place.{AreUsesOf, ShowsPlace}
use Rattle.fil_lower.proofs.starts.push_instance.Given as goal

abbrev pub invariant-loop-number : goal.invariant-loop-number
invariant-loop-number l = record {
  sets : (low : Lowering) → ShowsPlace l.place low → AreUsesOf l.place.body.now.names.now l.place.body.now.uses.items (text_of l.place.body.now.names.now l.inst) l.numbers
      → map (assignment_tree l.place.names.now) l.sets.items ≡ map (assignment_tree l.place.names.now) l.fn.sets.items
      ++ start_sets_from low (text_of l.place.body.now.names.now l.inst) 0 (take l.number (map seen_event l.events));
  numbers : All (SetHasNumbers l.place.names.now) l.fn.sets.items → All (SetHasNumbers l.place.names.now) l.sets.items;
}
