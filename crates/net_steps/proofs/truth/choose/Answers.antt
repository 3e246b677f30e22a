use Rattle.net_steps.proofs.TruthLemmas.{choice_of_fixed, choice_of_second}
use Rattle.net_steps.proofs.truth.choose.Goals as goal

pub returns-in-Fixed : goal.returns-in-Fixed
returns-in-Fixed c =
    choice_of_fixed c.choose_fixed.result c.args.steps.now c.choose_fixed.new.steps c.args.on c.args.yes c.args.no c.in-Fixed.fixed c.in-Fixed.is c.choose_fixed.ensures

pub returns-in-Fixed-no : goal.returns-in-Fixed-no
returns-in-Fixed-no c =
    let chosen = c.choose_fixed-in-Fixed-no in
    choice_of_second chosen.result c.args.steps.now chosen.new.steps c.args.on c.not.result c.args.yes c.args.no c.in-Fixed-no.fixed c.in-Fixed-no.is c.not.ensures chosen.ensures
