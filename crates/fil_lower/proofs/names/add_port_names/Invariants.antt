use Rattle.std.proofs.Common.{All, map, take}
use Rattle.hw_names.specs.Name.{KeepsTexts}
use Rattle.fil_sig.specs.Seen.{seen}
use Rattle.fil_lower.specs.inside.Parts.{NamesPorts}
use Rattle.fil_lower.proofs.names.add_port_names.Given as goal

abbrev pub invariant-loop-sig : goal.invariant-loop-sig
invariant-loop-sig l = record {
  kept : KeepsTexts l.fn.names l.names;
  named : All (NamesPorts l.names) (take l.sig-index (map seen l.sig-items));
}
