-- Signatures as callers get them, seen as signatures of texts. This project's.
use Rattle.std.specs.Prelude.{map}
use Rattle.fil_ast.specs.Signature as tree
use Rattle.fil_sig.specs.declared.time_sig.Delay.{Delay}
use Rattle.fil_sig.specs.declared.time_sig.Delay.TheVariants.{Fixed, Gap, End}
use Rattle.fil_sig.specs.declared.time_sig.Off.{Off}
use Rattle.fil_sig.specs.declared.time_sig.SigEvent.{SigEvent}
use Rattle.fil_sig.specs.declared.time_sig.SigPort.{SigPort}
use Rattle.fil_sig.specs.declared.time_sig.TimeSig.{TimeSig}

abbrev pub seen_delay : Delay → tree.Delay
seen_delay (Fixed rows) = tree.Fixed rows
seen_delay Gap = tree.Gap
seen_delay End = tree.End

abbrev pub seen_offset : Off → tree.Offset
seen_offset off = record { event = off.event; plus = off.plus }

abbrev pub seen_event : SigEvent → tree.SigEvent
seen_event e = record { name = e.name; delay = seen_delay e.delay; go = e.go }

abbrev pub seen_port : SigPort → tree.SigPort
seen_port p = record { name = p.name; from = seen_offset p.from; to = seen_offset p.to; width = p.width }

abbrev pub seen : TimeSig → tree.Signature
seen sig =
    record { events = map seen_event sig.events.items; ins = map seen_port sig.ins.items; outs = map seen_port sig.outs.items }
