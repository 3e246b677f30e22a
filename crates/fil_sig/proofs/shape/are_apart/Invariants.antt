use Rattle.std.proofs.Common.{◌≡◌, take, map}
use Rattle.hw_names.specs.Name.{AreDistinct}
use Rattle.fil_sig.specs.inside.Shape.{event_of}
use Rattle.fil_sig.proofs.shape.are_apart.Given as goal

-- the events so far are distinct
abbrev pub invariant-loop-go : goal.invariant-loop-go
invariant-loop-go l = (l.seen ≡ map (event_of l.names) (take l.go-index l.gos)) × AreDistinct l.seen
