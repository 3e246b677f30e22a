use Rattle.std.proofs.Common.{sym, subst}
use Rattle.net_row.proofs.ProgramsLemmas.{programs_alone, programs_same}
use Rattle.net_row.specs.inside.Compiling.{net_of}
use Rattle.net_row.specs.Programs.{AreFit}
use Rattle.net_row.proofs.cases.compile_all.Goals as goal

pub add_cases-requires-clause-are : goal.add_cases-requires-clause-are
add_cases-requires-clause-are c =
    let numbered = c.args.numbered.now in
    programs_alone (net_of numbered) numbered.cells.now c.in_ok-programs.programs c.in_ok-general.general c.in_ok-programs.ensures.general c.in_ok-programs.ensures.cases c.in_ok-general.ensures

pub add_cases-requires-clause-fit : goal.add_cases-requires-clause-fit
add_cases-requires-clause-fit c =
    subst (λ base. AreFit base c.args.others.now c.in_ok-programs.programs) c.in_ok-base.ensures c.in_ok-programs.ensures.fit

pub guess_by-requires-clause-fit : goal.guess_by-requires-clause-fit
guess_by-requires-clause-fit c =
    subst (λ base. AreFit base c.args.others.now c.add_cases.new.programs) (sym c.in_ok-base.ensures) c.in_ok-add_cases.ensures.fit

pub returns-clause-are : goal.returns-clause-are
returns-clause-are c =
    let numbered = c.args.numbered.now in
    programs_same (net_of numbered) numbered.cells.now c.guess_by.new.self c.add_cases.new.programs c.in_ok-guess_by.ensures.general c.in_ok-guess_by.ensures.cases c.in_ok-add_cases.ensures.are

pub returns-clause-fit : goal.returns-clause-fit
returns-clause-fit c =
    subst (λ base. AreFit base c.args.others.now c.guess_by.new.self) c.in_ok-base.ensures c.in_ok-guess_by.ensures.fit
