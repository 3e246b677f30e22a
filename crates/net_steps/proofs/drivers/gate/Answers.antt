use Rattle.std.proofs.Common.{ap, if◌then◌else◌}
use Rattle.std.specs.Prelude.{slice_index}
use Rattle.net_steps.specs.Truths.{is_true}
use Rattle.net_steps.specs.declared.operation.Operation.TheVariants.{Constant}
use Rattle.net_steps.proofs.StepLemmas.{ok_slot_after, defined_made}
use Rattle.net_steps.proofs.drivers.gate.Goals as goal

pub returns : goal.returns
returns c =
    let d = c.args.driver in
    ok_slot_after c.select.result c.args.steps.now c.define.new.self c.select.new.steps
    (λ others slots. if is_true slots d.truth then slice_index slots d.source else slice_index slots c.in_ok-zero.zero)
    (λ others slots. if is_true slots d.truth then slice_index slots d.source else 0)
    c.in_ok-zero.ensures.extends
    (λ others slots row. ap (λ v. if is_true slots d.truth then slice_index slots d.source else v) (defined_made c.args.steps.now c.define.new.self (Constant 0) c.in_ok-zero.zero c.in_ok-zero.ensures others slots row))
    c.select.ensures
