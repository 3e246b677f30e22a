use Rattle.std.proofs.Common.{sym, subst}
use Rattle.net_row.proofs.ProgramsLemmas.{programs_more}
use Rattle.net_row.specs.inside.Compiling.{net_of}
use Rattle.net_row.specs.Programs.{AreFit}
use Rattle.net_row.proofs.cases.add_cases.Goals as goal

pub add-requires-clause-fit : goal.add-requires-clause-fit
add-requires-clause-fit c = subst (λ base. AreFit base c.args.others.now c.loop-assumed.programs) (sym c.in_ok-base.ensures) c.loop-assumed.invariant.fit

pub loop-assumed-preserved : goal.loop-assumed-preserved
loop-assumed-preserved c =
    let numbered = c.args.numbered.now in
    record {
      are = programs_more (net_of numbered) numbered.cells.now c.add.new.self c.loop-assumed.programs c.in_ok-program.program c.in_ok-add.ensures.general c.in_ok-add.ensures.cases c.loop-assumed.invariant.are c.in_ok-program.ensures;
      fit = subst (λ base. AreFit base c.args.others.now c.add.new.self) c.in_ok-base.ensures c.in_ok-add.ensures.fit;
    }
