use Rattle.std.proofs.Common.{◌+◌, length}
use Rattle.net_row.specs.inside.Compiling.{net_of}
use Rattle.net_row.specs.Kinds.{kept_in}
use Rattle.net_row.specs.Programs.{AreFit, AreProgramsOf}
use Rattle.net_row.proofs.cases.add_cases.Given as goal

abbrev pub invariant-loop-assumed : goal.invariant-loop-assumed
invariant-loop-assumed l = record {
  are : AreProgramsOf (net_of l.numbered) l.numbered.cells.now l.programs;
  fit : AreFit (kept_in l.numbered.cells.now + length (net_of l.numbered).ins) l.others l.programs;
}
