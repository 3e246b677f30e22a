use Rattle.std.proofs.Common.{◌≡◌, ◌++◌, take, map}
use Rattle.hw_names.specs.Name.{AreDistinct, text_of}
use Rattle.fil_place.proofs.signature_names.take_names.Given as goal

-- the names so far were new
abbrev pub invariant-loop-id : goal.invariant-loop-id
invariant-loop-id l = (l.taken ≡ l.initial.taken ++ map (text_of l.names) (take l.id-index l.ids)) × AreDistinct l.taken
