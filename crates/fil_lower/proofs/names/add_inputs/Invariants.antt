use Rattle.std.proofs.Common.{All, map, take}
use Rattle.hw_names.specs.Name.{KeepsTexts}
use Rattle.fil_sig.specs.Seen.{seen_port}
use Rattle.fil_lower.specs.inside.Parts.{IsNamedPort}
use Rattle.fil_lower.proofs.names.add_inputs.Given as goal

abbrev pub invariant-loop-port : goal.invariant-loop-port
invariant-loop-port l = record {
  kept : KeepsTexts l.fn.names l.names;
  named : All (IsNamedPort l.names) (take l.port-index (map seen_port l.sig.ins.items));
}
