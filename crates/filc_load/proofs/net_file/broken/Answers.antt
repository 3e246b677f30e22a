use Rattle.std.proofs.Common.{List, refl, sym, ap₂, ◌∙◌}
use Rattle.hw_names.proofs.NameLemmas.{text_of-slice_get}
use Rattle.net_core.specs.Netlist.{netlist_of}
use Rattle.hw_names.specs.Name.{Text}
use Rattle.filc_stop.specs.Lines.{loop_text, rule_name, rule_line}
use Rattle.filc_load.specs.NetFile.{BreaksRule}
use Rattle.filc_stop.specs.declared.language.Language.TheVariants.{Netlists}
use Rattle.filc_load.proofs.net_file.broken.Goals as goal

pub returns-in-Ok : goal.returns-in-Ok
returns-in-Ok c text of =
    let net = c.args.net.now in
    let named = text_of-slice_get net.names net.name c.text.result.now c.text.ensures in
    BreaksRule (netlist_of net) c.args.rule c.args.item of c.requires.first refl
    (ap₂ (λ (name : Text) (ports : List Text). rule_line (rule_name Netlists c.args.rule) name c.args.item (loop_text ports)) (c.in-Ok.ensures ∙ sym named) c.new.ensures.items)
