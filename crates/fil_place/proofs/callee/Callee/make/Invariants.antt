use Rattle.std.proofs.Common.{◌≡◌, take, map}
use Rattle.hw_names.specs.Name.{AreDistinct}
use Rattle.fil_sig.specs.declared.time_sig.SigPort.{SigPort}
use Rattle.fil_place.proofs.callee.Callee.make.Given as goal

-- the names so far are put
abbrev pub invariant-loop-port : goal.invariant-loop-port
invariant-loop-port l = (l.outs ≡ map (λ (p : SigPort). p.name) (take l.port-index l.port-items)) × AreDistinct l.outs
