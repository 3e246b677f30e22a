use Rattle.std.proofs.Common.{◌++◌, sym, ap, ◌∙◌}
use Rattle.hw_names.proofs.NameLemmas.{text_of-slice_get}
use Rattle.hw_names.specs.Name.{Text, text_of}
use Rattle.hw_names.specs.declared.names.NameId.{NameId}
use Rattle.net_core.specs.Guard.{source_tree}
use Rattle.net_core.specs.declared.net.Src.{Src}
use Rattle.ver_print.specs.Values.{source_text}
use Rattle.ver_print.specs.Words.{escaped}
use Rattle.ver_print.proofs.PutLemmas.{OnOk-is}
use Rattle.ver_print.proofs.put.put_source.Goals as goal

pub returns-in-Port : goal.returns-in-Port
returns-in-Port c =
    let names = c.args.names.now in
    let out = c.args.out.now.items in
    OnOk-is c.put_escaped.result c.put_escaped.new.out.items _ _ c.put_escaped.ensures
    (ap (λ (t : Text). out ++ escaped t) (sym (text_of-slice_get names c.in-Port.name c.text.result.now c.text.ensures))
    ∙ ap (λ (s : Src NameId). out ++ source_text (source_tree (text_of names) s)) (sym c.in-Port.is))
