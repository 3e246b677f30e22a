-- The first rows of a run are a run.
use Rattle.std.proofs.Common.{inl, refl, arith}
use Rattle.cal_part.specs.Laws.{FirstRowsAreRuns}

pub first_rows_are_runs : FirstRowsAreRuns
first_rows_are_runs design top activity asked inputs loads height trace run rows within = (
  record {
    rows = λ t less. run.rows t (omega (arith, less, within));
    goes_on = λ t less port conflict. run.goes_on t (omega (arith, less, within)) port conflict;
    ends = inl refl;
  },
  λ more t port less conflict. run.goes_on t (omega (arith, less, more)) port conflict,
)
