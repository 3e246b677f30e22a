use Rattle.fil_place.proofs.EachLemmas.{EachBelow}
use Rattle.fil_rules.proofs.MarkedLemmas.{IsNoPort}
use Rattle.fil_rules.proofs.sharing.interface.has_interface.Given as goal

-- none of the interface ports so far is the event's
abbrev pub invariant-loop-go : goal.invariant-loop-go
invariant-loop-go l = EachBelow (IsNoPort l.names l.comp l.event) l.comp.gos.items l.go-index
