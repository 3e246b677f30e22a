use Rattle.std.proofs.Common.{sym, ◌∙◌}
use Rattle.filc_calyx.proofs.scheduler.walker_of.Goals as goal

pub returns-then-control : goal.returns-then-control
returns-then-control c = λ design top trace bare can. sym bare ∙ c.if-control.true

pub new-requires : goal.new-requires
new-requires c = (c.requires.0, c.requires.1, c.requires.3 (sym c.requires.2 ∙ c.if-control.false))

pub returns : goal.returns
returns c = λ design top trace bare can. record {
  is = c.in_ok-new.ensures.is design top (can (sym bare ∙ c.if-control.false));
  come = c.in_ok-new.ensures.waits top;
}
