use Rattle.std.proofs.Common.{◌≡◌, ℕ, ap₂, subst, sym, ◌∙◌}
use Rattle.std.specs.Prelude.{OnErr, OnOk}
use Rattle.std.specs.Io.KnownBytes.{Appends}
use Rattle.hw_io.specs.Writing.{AppendsPrefix}
use Rattle.hw_names.specs.Name.{Text}
use Rattle.net_core.specs.Netlist.{netlist_of}
use Rattle.filc_report.specs.Sums.{summary_text}
use Rattle.filc_run.proofs.SoakLemmas.{SoakLeaves, soak_memory, soak_told, soak_unbuilt, soak_unsummed, soak_unwritten}
use Rattle.filc_run.specs.Soaked.{soak_rows}
use Rattle.filc_run.proofs.soak.write_soak.Goals as goal

pub returns-in_err-soak-clause-leaves : goal.returns-in_err-soak-clause-leaves
returns-in_err-soak-clause-leaves g c =
    soak_unbuilt c.args.count c.from_residual.result c.in_err-soak.field-0.0 (g.O.Sink.written c.args.out.now) c.from_residual.ensures.1 c.in_err-soak.ensures.stops

pub with_empty_line-requires : goal.with_empty_line-requires
with_empty_line-requires g c = c.in_ok-soak.ensures.made.ready.numbers

pub returns-in_err-head-clause-leaves : goal.returns-in_err-head-clause-leaves
returns-in_err-head-clause-leaves g c = soak_memory c.args.count c.from_residual-in_err-head.result (g.O.Sink.written c.args.out.now) c.from_residual-in_err-head.ensures.1

pub returns-in_err-write_text-clause-leaves : goal.returns-in_err-write_text-clause-leaves
returns-in_err-write_text-clause-leaves g c =
    let before = g.O.Sink.written c.args.out.now in
    let after = g.O.Sink.written c.write_text.new.out in
    let soak = c.in_ok-soak.soak in
    let is = c.in_ok-soak.ensures.made in
    let stopped = c.from_residual-in_err-write_text in
    subst (λ (count : ℕ). SoakLeaves count stopped.result before after) c.in_ok-soak.ensures.count
    (soak_unwritten soak.count is.few soak.list is.list (netlist_of soak.lowered.built.net) is.refines is.folded is.text soak.lowered.built.order.ports is.ready.order.ports stopped.result before after stopped.ensures.1
    (subst (AppendsPrefix before after) (c.deref.ensures.value ∙ c.in_ok-head.ensures) c.in_err-write_text.ensures.prefix))

pub returns-in_err-sums-clause-leaves : goal.returns-in_err-sums-clause-leaves
returns-in_err-sums-clause-leaves g c =
    let before = g.O.Sink.written c.args.out.now in
    let after = g.O.Sink.written c.write_text.new.out in
    let soak = c.in_ok-soak.soak in
    let is = c.in_ok-soak.ensures.made in
    let stopped = c.from_residual-in_err-sums in
    subst (λ (count : ℕ). SoakLeaves count stopped.result before after) c.in_ok-soak.ensures.count
    (soak_unsummed soak.count is.few soak.list is.list (netlist_of soak.lowered.built.net) is.refines is.folded is.text soak.lowered.built.order.ports is.ready.order.ports stopped.result before after stopped.ensures.1
    (subst (Appends before after) (c.deref.ensures.value ∙ c.in_ok-head.ensures) c.in_ok-write_text.ensures.appended))

pub returns-clause-leaves : goal.returns-clause-leaves
returns-clause-leaves g c =
    let before = g.O.Sink.written c.args.out.now in
    let mid = g.O.Sink.written c.write_text.new.out in
    let after = g.O.Sink.written c.write_summary.new.out in
    let soak = c.in_ok-soak.soak in
    let is = c.in_ok-soak.ensures.made in
    let sums = c.in_ok-sums.sums in
    let wrote = c.write_summary.ensures in
    let result = c.write_summary.result in
    let told : summary_text c.args.count soak.lowered.rows sums.outputs sums.ports ≡ summary_text soak.count (soak_rows soak.count) sums.outputs sums.ports =
    ap₂ (λ (count rows : ℕ). summary_text count rows sums.outputs sums.ports) (sym c.in_ok-soak.ensures.count) is.rows in
    subst (λ (count : ℕ). SoakLeaves count result before after) c.in_ok-soak.ensures.count
    (soak_told soak.count is.few soak.list is.list (netlist_of soak.lowered.built.net) is.refines is.folded is.text soak.lowered.built.order.ports is.ready.order.ports sums c.in_ok-sums.ensures result before mid after
    (subst (Appends before mid) (c.deref.ensures.value ∙ c.in_ok-head.ensures) c.in_ok-write_text.ensures.appended) (subst (λ (text : Text). OnOk result (Appends mid after text)) told wrote.written)
    (subst (λ (text : Text). OnErr result (AppendsPrefix mid after text)) told wrote.part) wrote.stops)
