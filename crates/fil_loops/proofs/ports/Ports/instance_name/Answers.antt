use Rattle.std.proofs.Common.{[], length, slice_get, sym, ap, ◌∙◌, arith}
use Rattle.std.proofs.lemmas.Option.{slice_get-get_or}
use Rattle.hw_names.proofs.NameLemmas.{length-KeepsTexts}
use Rattle.fil_loops.specs.inside.Ports.{PortList}
use Rattle.fil_loops.proofs.ports.Ports.instance_name.Goals as goal

pub text-requires : goal.text-requires
text-requires c = omega (arith, c.requires, length-KeepsTexts _ _ c.begin_with_names.ensures, ap (λ (v : PortList). length v.instances) c.self.view_is)

pub returns : goal.returns
returns c =
    let names = c.args.self.now.instances in
    let here = slice_get-get_or names c.args.instance [] c.requires in
    let there = c.begin_with_names.ensures _ _ (ap (λ (v : PortList). slice_get v.instances c.args.instance) c.self.view_is ∙ here) in
    here ∙ sym there ∙ c.text.ensures
