use Rattle.std.proofs.Common.{Option, Vec, Global, subst}
use Rattle.hw_names.specs.Name.{Text}
use Rattle.cal_loops.specs.inside.Wiring.{TellsLoop}
use Rattle.cal_loops.proofs.LoopedLemmas.{clear_more, looped_here, looped_kept, stands_later}
use Rattle.cal_loops.proofs.first_loop.earlier.Goals as goal

pub returns-in_default : goal.returns-in_default
returns-in_default c design numbers comp found at tells =
    clear_more design numbers c.args.number comp at c.args.found (subst (λ (o : Option (Vec Text Global)). TellsLoop design comp o) c.in_default.is tells) found

pub returns-then-stands_before : goal.returns-then-stands_before
returns-then-stands_before c design numbers comp found at tells =
    looped_kept design numbers c.args.number comp at c.args.found c.stands_before.result c.stands_before.ensures c.if-stands_before.true found

pub returns : goal.returns
returns c design numbers comp found at tells =
    looped_here design numbers c.args.number comp at c.args.found c.in-Some.ports (subst (λ (o : Option (Vec Text Global)). TellsLoop design comp o) c.in-Some.is tells) found
    (stands_later c.args.found c.args.number c.stands_before.result c.stands_before.ensures c.if-stands_before.false)
