use Rattle.std.proofs.Common.{sym, ◌∙◌, arith}
use Rattle.hw_names.proofs.NameLemmas.{length-KeepsTexts}
use Rattle.hw_names.specs.Name.{HasNoDot}
use Rattle.fil_loops.proofs.PortNumberLemmas.{dotless_at, instance_name, no_place}
use Rattle.fil_loops.proofs.ports.instance_key.Goals as goal

pub text-requires : goal.text-requires
text-requires c = omega (arith, c.requires, length-KeepsTexts _ _ c.begin_with_names.ensures)

pub returns-clause-named : goal.returns-clause-named
returns-clause-named c inst at =
    instance_name c.number.new.self.all c.args.instance c.in_ok-port.port inst c.args.port.now (c.in_ok-port.ensures.kept _ _ (c.begin_with_names.ensures _ _ at)) c.in_ok-port.ensures.number

pub returns-clause-fit : goal.returns-clause-fit
returns-clause-fit c =
    let texts = c.args.texts.now in
    let plain : HasNoDot c.args.port.now = no_place c.last_dot.result _ c.last_dot.ensures.none (sym c.is_some.ensures ∙ c.if-is_some.false) in (
      omega (arith, c.requires, length-KeepsTexts texts.names texts.all c.begin_with_names.ensures, length-KeepsTexts texts.all c.number.new.self.all c.in_ok-port.ensures.kept),
      dotless_at c.number.new.self.all _ _ c.in_ok-port.ensures.number plain,
    )
