use Rattle.std.proofs.Common.{◌≡◌, take, None}
use Rattle.std.specs.Prelude.{find, flat_map}
use Rattle.fil_parse.specs.inside.Offsets.{of_component}
use Rattle.fil_parse.specs.Spelling.{is_large}
use Rattle.fil_parse.proofs.offsets.large_component.Given as goal

abbrev pub invariant-loop-comp : goal.invariant-loop-comp
invariant-loop-comp l = find is_large (flat_map of_component (take l.comp-index l.comps)) ≡ None
