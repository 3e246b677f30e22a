use Rattle.std.proofs.Common.{◌≡◌, ◌+◌, Some, drop, slice_get, ap, ◌∙◌}
use Rattle.std.proofs.lemmas.Option.{slice_get_within}
use Rattle.fil_loops.proofs.PortNumberLemmas.{cut_text, dotless_at, instance_name, rest_of}
use Rattle.fil_loops.proofs.ports.named_key.Goals as goal

pub returns-clause-named : goal.returns-clause-named
returns-clause-named c =
    let texts = c.number-3.new.self.all in
    let name = c.args.name.now in
    let rest = drop (c.in-Some.place + 1) name in
    let at_port : slice_get texts c.in_ok-port.port ≡ Some rest = c.in_ok-port.ensures.number ∙ ap Some (rest_of name (c.in-Some.place + 1)) in
    instance_name texts c.in_ok-instance.instance c.in_ok-port.port _ rest (c.in_ok-port.ensures.kept _ _ c.in_ok-instance.ensures.number) at_port
    ∙ cut_text name c.in-Some.place c.in-Some.ensures.some

pub returns-clause-fit : goal.returns-clause-fit
returns-clause-fit c =
    let texts = c.number-3.new.self.all in
    let name = c.args.name.now in
    let rest = drop (c.in-Some.place + 1) name in
    let at_port : slice_get texts c.in_ok-port.port ≡ Some rest = c.in_ok-port.ensures.number ∙ ap Some (rest_of name (c.in-Some.place + 1)) in (
      slice_get_within texts c.in_ok-instance.instance _ (c.in_ok-port.ensures.kept _ _ c.in_ok-instance.ensures.number),
      dotless_at texts c.in_ok-port.port rest at_port c.in-Some.ensures.last,
    )
