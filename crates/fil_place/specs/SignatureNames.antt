-- The names that a component's signature declares and uses, by their numbers. This project's.
use Rattle.std.specs.Prelude.{List, ◌++◌, map}
use Rattle.hw_names.specs.declared.names.NameId.{NameId}
use Rattle.fil_ast.specs.declared.tree.EventDef.{EventDef}
use Rattle.fil_ast.specs.declared.tree.FilComp.{FilComp}
use Rattle.fil_ast.specs.declared.tree.FilPort.{FilPort}
use Rattle.fil_ast.specs.declared.tree.GoPort.{GoPort}

abbrev pub event_ids : FilComp → List NameId
event_ids c = map (λ (e : EventDef). e.name) c.events.items

-- interface ports, inputs, outputs
abbrev pub port_ids : FilComp → List NameId
port_ids c = map (λ (g : GoPort). g.name) c.gos.items ++ map (λ (p : FilPort). p.name) c.ins.items ++ map (λ (p : FilPort). p.name) c.outs.items

-- the events that the times of ports name
abbrev pub time_ids : List FilPort → List NameId
time_ids ports = map (λ (p : FilPort). p.from.event) ports ++ map (λ (p : FilPort). p.to.event) ports

-- the events of interface ports
abbrev pub go_event_ids : List GoPort → List NameId
go_event_ids gos = map (λ (g : GoPort). g.event) gos

-- the events that interface ports and times name
abbrev pub used_event_ids : FilComp → List NameId
used_event_ids c = go_event_ids c.gos.items ++ time_ids c.ins.items ++ time_ids c.outs.items
