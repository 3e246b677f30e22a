use Rattle.std.proofs.Common.{ap, ap₂, sym, ◌∙◌, option_map}
use Rattle.hw_names.proofs.NameLemmas.{text_of-slice_get}
use Rattle.net_core.specs.inside.Kept.{both_kept}
use Rattle.net_core.specs.Netlist.{set_of}
use Rattle.net_core.specs.PortList.{port_line}
use Rattle.net_core.specs.Rules.{port_named}
use Rattle.net_core.proofs.KeptLemmas.{kept_by_set-parts}
use Rattle.net_core.proofs.sets.set_kept.Goals as goal

pub returns : goal.returns
returns c =
    let ports = c.args.ports.now in
    let found = c.judge_source-src.ensures in
    let named = text_of-slice_get c.args.names.now c.args.set.now.dst c.text.result.now c.text.ensures in
    let dst = ap (port_named ports) named ∙ c.find-dst.ensures ∙ ap (λ name. option_map (port_line name) c.find-dst.result) (sym named) in
    c.and.ensures ∙ ap₂ both_kept c.driven.ensures c.option_kept.ensures
    ∙ kept_by_set-parts ports (set_of c.args.names.now c.args.set.now) c.find-dst.result c.judge_source-src.result dst
    (record { known = found.known; fits = found.fits; readable = found.readable; width = found.width })
